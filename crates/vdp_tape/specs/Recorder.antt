-- What a caller of recorded calls holds from call to call, and a step recorded: definition, The tape.
use Rattle.std.specs.Prelude.{ℕ, ◌+◌, ◌*◌, cond, List, eqb, Result, Ok, Err}
use Rattle.std.proofs.lemmas.List.Edits.{sets}
use Rattle.vdp_state.specs.declared.answer.Refusal.{Refusal}
use Rattle.vdp_state.specs.declared.state.State.{State}
use Rattle.vdp_state.specs.declared.state.Step.{Step}
use Rattle.vdp_state.specs.Answer.{Test, number}
use Rattle.vdp_state.specs.Cell.{perform, undoing, iterate}
use Rattle.vdp_state.specs.State.{Chip, chip}
use Rattle.vdp_tape.specs.declared.recorder.Recorded.{Recorded}
use Rattle.vdp_tape.specs.Number.{capacity, recorded_number}
use Rattle.vdp_tape.specs.Record.{record_of}

-- a chip, a tape, and how many records stand on it
pub record Recorder : Type 0 where
  pub chip : Chip
  pub tape : List ℕ
  pub count : ℕ

abbrev pub recorder : State → List ℕ → List ℕ → ℕ → Recorder
recorder s vram tape count = record { chip = chip s vram; tape = tape; count = count }

-- "A record goes to the tape at byte 32 x count, and the count goes up by one."
unfoldable pub record_step : Recorder → Step → Recorder
record_step r t =
    record {
      chip = perform r.chip t;
      tape = sets r.tape (32 * r.count) (record_of (undoing r.chip t));
      count = r.count + 1;
    }

-- n steps recorded one after the other, each decided by the chip as the last one left it
abbrev pub record_next : (Chip → Step) → Recorder → Recorder
record_next step r = record_step r (step r.chip)

abbrev pub record_steps : (Chip → Step) → ℕ → Recorder → Recorder
record_steps step n r = iterate (record_next step) n r

-- what a recorded call is: the tests of its plain form, its result, and its steps
pub record Plan : Type 0 where
  pub tests : List Test
  pub result : ℕ
  pub steps : ℕ
  pub step : Chip → Step

-- what a recorded call and a step back answer: as the plain call, with the count of records
pub record TapeAnswer : Type 0 where
  pub number : ℕ
  pub result : ℕ
  pub count : ℕ
  pub state : State

-- what such a call answers from a state and a count, by what it gives
abbrev pub tape_answer_of : State → ℕ → Result Recorded Refusal → TapeAnswer
tape_answer_of s count (Ok r) = record { number = 0; result = r.result; count = r.count; state = r.state }
tape_answer_of s count (Err refusal) = record { number = number refusal; result = 0; count = count; state = s }

-- what a recorded call leaves
pub record TapeOutcome : Type 0 where
  pub number : ℕ
  pub result : ℕ
  pub recorder : Recorder

abbrev pub tape_outcome : TapeAnswer → List ℕ → List ℕ → TapeOutcome
tape_outcome r vram tape = record { number = r.number; result = r.result; recorder = recorder r.state vram tape r.count }

-- a call that answers n: at 0 it leaves what its steps left, else "the state and the count as it was given them, and 0
-- as its result", and the rest as it was
abbrev pub tape_outcome_at : ℕ → ℕ → Recorder → Recorder → TapeOutcome
tape_outcome_at n result before after =
    cond (eqb n 0) (record { number = 0; result = result; recorder = after })
    (record { number = n; result = 0; recorder = before })

abbrev pub recorded_by : Plan → Recorder → TapeOutcome
recorded_by p r =
    tape_outcome_at (recorded_number p.tests r.count (capacity r.tape) p.steps) p.result r (record_steps p.step p.steps r)
