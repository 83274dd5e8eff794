-- What the tape adds to a call's refusals: definition, Numbers a call may answer, The tape.
use Rattle.std.specs.Prelude.{ℕ, ◌-◌, ◌/◌, List, ◌∷◌, ltb, length}
use Rattle.vdp_state.specs.Answer.{Test, gives, first}

-- "A tape is a buffer of records of 32 bytes. Its capacity is its length / 32"
abbrev pub capacity : List ℕ → ℕ
capacity tape = length tape / 32

-- 2: "the count is above the tape's capacity"
abbrev pub over_capacity : ℕ → ℕ → Test
over_capacity count room = gives 2 (ltb room count)

-- 6: "the tape has fewer free records than the call has steps"
abbrev pub tape_full : ℕ → ℕ → ℕ → Test
tape_full count room steps = gives 6 (ltb (room - count) steps)

-- the tests of a recorded call: those of its plain form, and these two
abbrev pub recorded_number : List Test → ℕ → ℕ → ℕ → ℕ
recorded_number tests count room steps = first (over_capacity count room ∷ tape_full count room steps ∷ tests)
