-- The bytes are compared as the definition compares them, and the step that they read as is tested.
use Rattle.std.proofs.Common.{ℕ, ◌&&◌, List, ap, ◌∙◌}
use Rattle.vdp_state.specs.Good.{good_control}
use Rattle.vdp_state.specs.Range.{good_store}
use Rattle.vdp_state.specs.Same.{same}
use Rattle.vdp_state.specs.declared.state.Step.{Step}
use Rattle.vdp_tape.specs.Record.{record_of}
use Rattle.vdp_tape.proofs.record.good_record.Goals as goal

pub returns : goal.returns
returns c =
    let bytes = c.args.bytes.now in
    let compared = c.same.ensures ∙ ap (λ (l : List ℕ). same l bytes) c.record_of.ensures in
    simp (c.store_good.ensures, c.control_good.ensures, compared)
    (ap (λ (t : Step). same (record_of t) bytes && good_control t.control && good_store t.store) c.step_of-t.ensures)
