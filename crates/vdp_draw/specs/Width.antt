-- The width of a line: definition, Drawing ("The width is 320 if register 12 bit 0 is set, else 256.").
use Rattle.std.specs.Prelude.{ℕ, Bool, cond}

abbrev pub width_of : Bool → ℕ
width_of wide = cond wide 320 256
