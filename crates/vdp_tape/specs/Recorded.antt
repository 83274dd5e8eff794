-- The recorded calls: the plain form's work and one record for each step (definition, The tape).
use Rattle.std.specs.Prelude.{ℕ, ◌≡◌, List}
use Rattle.vdp_state.specs.declared.state.Step.{Step}
use Rattle.vdp_state.specs.Answer.{Test, Outcome, outcome}
use Rattle.vdp_state.specs.State.{Chip}
use Rattle.vdp_ports.specs.Control.{control_tests, control_step, control_write}
use Rattle.vdp_ports.specs.Data.{data_tests, data_write_step, data_read_step, data_word, data_write, data_read}
use Rattle.vdp_ports.specs.Frame.{frame_tests, frame_step, new_frame}
use Rattle.vdp_ports.specs.Status.{status_tests, status_step, status_word, status_read}
use Rattle.vdp_timing.specs.Interrupt.{acknowledge_tests, acknowledge_step, acknowledge}
use Rattle.vdp_timing.specs.LineBegins.{line_begins_tests, line_begins_step, line_begins}
use Rattle.vdp_dma.specs.Run.{run_tests, units_made, run}
use Rattle.vdp_dma.specs.Unit.{unit}
use Rattle.vdp_line.specs.Line.{line_tests, line_step, visits, line}
use Rattle.vdp_tape.specs.Recorder.{Recorder, Plan, TapeOutcome, recorded_by}

-- a recorded call with its arguments; "Each call may be lent another cartridge, work RAM and pixel buffer." A byte
-- write is the write of its `byte_word`.
pub data Call : Type 0 where
  ControlWrite : ℕ → Call
  DataWrite : ℕ → Call
  DataRead : Call
  StatusRead : Call
  NewFrame : Call
  LineBegins : Call
  Acknowledge : ℕ → Call
  Run : List ℕ → List ℕ → ℕ → Call
  Line : ℕ → List ℕ → Call

-- "A port access, a DMA unit, a line, a new frame, a line that begins and an acknowledge are one step each."
abbrev pub once : List Test → ℕ → (Chip → Step) → Plan
once tests result step = record { tests = tests; result = result; steps = 1; step = step }

-- "The recorded form of a call does the same work as the plain form"
abbrev pub plan_of : Call → Chip → Plan
plan_of (ControlWrite w) c = once (control_tests c.state) 0 (λ x. control_step x.state w)
plan_of (DataWrite w) c = once (data_tests c) 0 (λ x. data_write_step x.state w)
plan_of DataRead c = once (data_tests c) (data_word c) (λ x. data_read_step x.state)
plan_of StatusRead c = once (status_tests c.state) (status_word c.state) (λ x. status_step x.state)
plan_of NewFrame c = once (frame_tests c.state) 0 (λ x. frame_step x.state)
plan_of LineBegins c = once (line_begins_tests c.state) 0 (λ x. line_begins_step x.state)
plan_of (Acknowledge level) c = once (acknowledge_tests c.state level) 0 (λ x. acknowledge_step x.state level)
plan_of (Run cartridge ram budget) c =
    record {
      tests = run_tests c cartridge ram budget;
      result = units_made c.state budget;
      steps = units_made c.state budget;
      step = unit cartridge ram;
    }
plan_of (Line n pixels) c = once (line_tests c n pixels) (visits c n) (λ x. line_step x n)

-- what a recorded call leaves
abbrev pub recorded : Call → Recorder → TapeOutcome
recorded call r = recorded_by (plan_of call r.chip) r

-- what the plain form of a call leaves; those that are lent no VRAM leave it as it is
abbrev pub plain_of : Call → Chip → Outcome
plain_of (ControlWrite w) c = outcome (control_write c.state w) c.vram
plain_of (DataWrite w) c = data_write c w
plain_of DataRead c = outcome (data_read c) c.vram
plain_of StatusRead c = outcome (status_read c.state) c.vram
plain_of NewFrame c = outcome (new_frame c.state) c.vram
plain_of LineBegins c = outcome (line_begins c.state) c.vram
plain_of (Acknowledge level) c = outcome (acknowledge c.state level) c.vram
plain_of (Run cartridge ram budget) c = run c cartridge ram budget
plain_of (Line n pixels) c = outcome (line c n pixels).answer c.vram

-- an outcome without its tape
abbrev pub without_tape : TapeOutcome → Outcome
without_tape o = outcome (record { number = o.number; result = o.result; state = o.recorder.chip.state }) o.recorder.chip.vram

-- the claim: a recorded call that is accepted leaves the chip and the result of the plain call
abbrev pub RecordedAsPlain : Type 0
RecordedAsPlain = (call : Call) (r : Recorder) → (recorded call r).number ≡ 0 → without_tape (recorded call r) ≡ plain_of call r.chip
