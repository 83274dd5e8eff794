-- The record is that of the step which undoes this one; then the step is made.
use Rattle.std.proofs.Common.{ℕ, ◌*◌, ◌+◌, List, ap, ◌∙◌, arith}
use Rattle.std.proofs.lemmas.List.Edits.{sets}
use mathlib.Core.Path.{ap₂}
use Rattle.vdp_state.specs.State.{Chip}
use Rattle.vdp_tape.proofs.Tape.{put_sets}
use Rattle.vdp_tape.specs.Record.{record_of}
use Rattle.vdp_tape.specs.Recorder.{Recorder, record_step}
use Rattle.vdp_tape.proofs.recorder.record_step.Goals as goal

pub returns : goal.returns
unfolding record_step
returns c =
    let a = c.args in
    let made : Chip → List ℕ → Recorder = λ x y. record { chip = x; tape = y; count = a.count + 1 } in
    let bytes = c.copy_from_slice.ensures.after in
    let long = c.copy_from_slice.ensures.len in
    ap₂ made c.perform.ensures
    (put_sets a.tape.now _ (32 * a.count) _ (omega (arith, long)) (omega (arith, long))
    ∙ ap (sets a.tape.now (32 * a.count)) (bytes ∙ c.record_of-bytes.ensures ∙ ap record_of c.undoing.ensures))
