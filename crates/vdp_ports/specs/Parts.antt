-- A colour word's three parts, as register 0 lets them show: definition, Calls for a host program; notes s17.
use Rattle.std.specs.Prelude.{ℕ, ◌/◌, ◌%◌, cond, eqb}
use Rattle.vdp_state.specs.declared.colour.Parts.{Parts}
use Rattle.vdp_state.specs.Colour.{blue, green, red}

-- "With register 0 bit 2 set a part is given as it is, 0 to 7. With it clear, only the lowest bit of a part is given"
abbrev pub shown : ℕ → ℕ → ℕ
shown register0 part = cond (eqb (register0 / 4 % 2) 0) (part % 2) part

abbrev pub colour_parts : ℕ → ℕ → Parts
colour_parts w register0 =
    record { blue = shown register0 (blue w); green = shown register0 (green w); red = shown register0 (red w) }
