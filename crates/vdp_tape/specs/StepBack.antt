-- Step back: definition, The tape.
use Rattle.std.specs.Prelude.{ℕ, zero, suc, ◌-◌, Bool, true, not, ◌&&◌, List, [], ◌∷◌, ltb}
use Rattle.vdp_state.specs.Answer.{Test, gives, first}
use Rattle.vdp_state.specs.Cell.{perform}
use Rattle.vdp_state.specs.State.{Chip}
use Rattle.vdp_ports.specs.Refusal.{bad_state, bad_vram}
use Rattle.vdp_tape.specs.Number.{capacity, over_capacity}
use Rattle.vdp_tape.specs.Record.{step_of, good_record, record_at}
use Rattle.vdp_tape.specs.Recorder.{Recorder, TapeOutcome, tape_outcome_at}

-- the top k of n records, from the top down
abbrev pub top_records : List ℕ → ℕ → ℕ → List (List ℕ)
top_records tape n zero = []
top_records tape n (suc k) = record_at tape (n - 1) ∷ top_records tape (n - 1) k

-- the top k of n records are good
abbrev pub top_good : List ℕ → ℕ → ℕ → Bool
top_good tape n zero = true
top_good tape n (suc k) = good_record (record_at tape (n - 1)) && top_good tape (n - 1) k

-- the top k of n records, undone from the top down
abbrev pub undo : List ℕ → ℕ → ℕ → Chip → Chip
undo tape n zero c = c
undo tape n (suc k) c = undo tape (n - 1) k (perform c (step_of (record_at tape (n - 1))))

-- 10: "a step back of more steps than the count"
abbrev pub nothing_there : ℕ → ℕ → Test
nothing_there count k = gives 10 (ltb count k)

-- 8: "one of the top k records is not good"
abbrev pub bad_record : List ℕ → ℕ → ℕ → Test
bad_record tape count k = gives 8 (not (top_good tape count k))

abbrev pub back_tests : Chip → ℕ → ℕ → ℕ → List Test
back_tests c count room k = bad_state c.state ∷ bad_vram c.vram ∷ over_capacity count room ∷ nothing_there count k ∷ []

abbrev pub back_number : Recorder → ℕ → ℕ
back_number r k = first (bad_record r.tape r.count k ∷ back_tests r.chip r.count (capacity r.tape) k)

-- "The count goes down by k. No byte of the tape changes."
abbrev pub step_back : Recorder → ℕ → TapeOutcome
step_back r k =
    tape_outcome_at (back_number r k) 0 r (record { chip = undo r.tape r.count k r.chip; tape = r.tape; count = r.count - k })
