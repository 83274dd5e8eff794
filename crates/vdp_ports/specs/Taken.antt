-- How the control port takes a word: definition, Ports, The control port; notes s7.
use Rattle.std.specs.Prelude.{ℕ, ◌/◌, ◌%◌, Bool, true, false, cond, eqb, ltb}
use Rattle.vdp_ports.specs.declared.taken.Taken.{Taken}
use Rattle.vdp_ports.specs.declared.taken.Taken.TheVariants.{RegisterWrite, FirstHalf, SecondHalf}

-- "With pending set, every word is the second half of a command."; "With pending clear, a word whose bits 15-14 are 10 is
-- a register write."; "With pending clear, every other word is the first half of a command."
abbrev pub taken_as : Bool → ℕ → Taken
taken_as pending w = cond pending SecondHalf (cond (eqb (w / 16384) 0b10) RegisterWrite FirstHalf)

-- a first half "sets pending", a second half "clears pending", and a register write finds it clear and leaves it so
abbrev pub pending_left : Taken → Bool
pending_left RegisterWrite = false
pending_left FirstHalf = true
pending_left SecondHalf = false

-- "Its register is (word / 256) mod 32"
abbrev pub register_of : ℕ → ℕ
register_of w = w / 256 % 32

-- "A write to registers 24 to 31 changes nothing."; in Scripts: "24 to 31 are missing"
abbrev pub has_register : ℕ → Bool
has_register i = ltb i 24
