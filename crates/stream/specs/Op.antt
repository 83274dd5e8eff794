-- The ops that docs/STREAM.md names: 1 to 20, 22, 32 to 39 and 48. Any other does nothing.
use Rattle.std.specs.Prelude.{ℕ, ◌==◌, Bool, ◌&&◌, ◌||◌, nat_le}

abbrev pub named : ℕ → Bool
named op = (nat_le 1 op && nat_le op 20) || (op == 22) || (nat_le 32 op && nat_le op 39) || (op == 48)
