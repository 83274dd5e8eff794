-- The empty array that stands in for VRAM stays empty, and the step leaves any other VRAM alone.
use Prim.Native.Nat.{ℕ}
use mathlib.Core.List.{List}
use mathlib.Core.Path.{refl, sym, ap, subst, ◌∙◌}
use Rattle.vdp_state.specs.declared.state.Step.{Step}
use Rattle.vdp_tape.proofs.Steps.{empty, one_outcome, beside, beside_vram}
use Rattle.vdp_state.specs.Answer.{number_in}
use Rattle.vdp_tape.specs.Number.{capacity, recorded_number}
use Rattle.vdp_tape.specs.OneStep.{OffVram}
use Rattle.vdp_tape.specs.Recorded.{once}
use Rattle.vdp_tape.specs.Recorder.{recorder, tape_answer_of, tape_outcome}
use Rattle.vdp_tape.proofs.calls.without_vram.Goals as goal

pub returns : goal.returns
returns c = λ m p o off.
    let w = c.record_one in
    let a = c.args in
    let t = a.t in
    ap (λ (l : List ℕ). beside m (tape_outcome (tape_answer_of a.s a.count w.result) l w.new.tape)) (sym (empty w.new.vram w.auto.vram))
    ∙ ap (beside m) (w.ensures (once p.tests a.res (λ _. t)) (record { number = o.number; result = refl; one = refl; step = refl }))
    ∙ beside_vram m a.s a.tape.now a.count t (recorded_number p.tests a.count (capacity a.tape.now) 1) a.res (subst (λ (x : Step). OffVram x.store) (sym o.step) off)
    ∙ sym (one_outcome p (recorder a.s m a.tape.now a.count) (number_in a.plain) a.res t o)
