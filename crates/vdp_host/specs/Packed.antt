-- A colour word's three parts as one number: definition, Calls for a host program.
use Rattle.std.specs.Prelude.{ℕ, ◌+◌, ◌*◌}
use Rattle.vdp_state.specs.declared.colour.Parts.{Parts}

-- a part in each hexadecimal digit, where the colour word has it
abbrev pub packed : Parts → ℕ
packed p = 256 * p.blue + 16 * p.green + p.red
