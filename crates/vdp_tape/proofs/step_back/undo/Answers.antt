-- Each record is undone, from the top down.
use Rattle.std.proofs.Common.{◌≡◌, ℕ, ◌-◌, ◌<◌, length, sym, ap, subst, ◌∙◌, arith}
use Rattle.std.specs.Slice.Exact.{rchunks_exact_steps}
use Rattle.std.proofs.lemmas.Iterator.{YieldsList}
use Rattle.std.proofs.lemmas.Iterator.Consumers.{YieldsList-turn, YieldsList-end}
use Rattle.std.proofs.lemmas.List.{length_push}
use mathlib.Core.Path.{ap₂}
use Rattle.vdp_state.specs.Cell.{perform}
use Rattle.vdp_state.specs.State.{chip}
use Rattle.vdp_tape.proofs.Steps.{undo_turn}
use Rattle.vdp_tape.proofs.Top.{top_length, top_at}
use Rattle.vdp_tape.specs.Record.{step_of}
use Rattle.vdp_tape.specs.StepBack.{top_records, undo}
use Rattle.vdp_tape.proofs.step_back.undo.Goals as goal

pub loop-record-preserved : goal.loop-record-preserved
loop-record-preserved c =
    let a = c.args in
    let l = c.loop-record in
    let p = c.perform-next in
    let tape = a.tape.now in
    let i = length l.yielded in
    let all = subst (λ s. YieldsList rchunks_exact_steps (λ x. x.now) s (top_records tape a.n a.k)) (sym c.into_iter-record-iterator.ensures.into_iter_gives) c.top-record-items.ensures.records in
    let turn = YieldsList-turn all l.yielded _ l.yielded_by _ _ c.in-Some.record c.in-Some.is c.next.ensures.steps in
    let more : i < a.k = omega (arith, turn.0, top_length tape a.n a.k) in
    let now = length_push l.yielded c.in-Some.record in
    let step = c.step_of.ensures ∙ ap step_of (turn.1 ∙ top_at tape a.n a.k i _ more) in (
      omega (arith, now),
      ap₂ (λ (n k : ℕ). undo tape n k (chip p.result p.new.vram)) (let e : a.n - length _ ≡ a.n - i - 1 = omega (arith, now) in e) (let e : a.k - length _ ≡ a.k - i - 1 = omega (arith, now) in e)
          ∙ undo_turn tape (a.n - i) (a.k - i) (chip l.next l.vram) _ (omega arith) (p.ensures ∙ ap (perform (chip l.next l.vram)) step)
          ∙ l.invariant.1,
    )

pub returns : goal.returns
returns c =
    let a = c.args in
    let l = c.loop-record in
    let tape = a.tape.now in
    let all = subst (λ s. YieldsList rchunks_exact_steps (λ x. x.now) s (top_records tape a.n a.k)) (sym c.into_iter-record-iterator.ensures.into_iter_gives) c.top-record-items.ensures.records in
    let end = YieldsList-end all l.yielded _ l.yielded_by _ _ c.in-None.is c.next.ensures.steps in
    let none : a.k - length l.yielded ≡ 0 = omega (arith, end.1, top_length tape a.n a.k) in
    sym (ap (λ (k : ℕ). undo tape (a.n - length l.yielded) k (chip l.next l.vram)) none) ∙ l.invariant.1
