-- Refused, or drawn and recorded.
use Rattle.std.proofs.Common.{◌≡◌, ℕ, false, cond, eqb, List, refl, sym, ap, subst, ◌∙◌}
use Rattle.std.proofs.lemmas.Bool.{eq-eqb, false≢true}
use Rattle.std.proofs.lemmas.Result.{err_from_is_err_and}
use Rattle.vdp_line.specs.Line.{LineOutcome, line_outcome, line_made, line_pixels}
use Rattle.vdp_state.specs.Answer.{number as number_of, number_in, first, done, refused as refused_answer}
use Rattle.vdp_state.specs.State.{chip}
use Rattle.vdp_state.specs.declared.state.Store.TheVariants.{Nothing}
use Rattle.vdp_tape.proofs.Numbers.{above_zero, recorded_number_lem, accepted}
use Rattle.vdp_tape.proofs.Steps.{refused}
use Rattle.vdp_tape.specs.Line.{line_tape_outcome}
use Rattle.vdp_tape.specs.Number.{capacity}
use Rattle.vdp_tape.specs.Recorded.{Line, plan_of}
use Rattle.vdp_tape.specs.Recorder.{Recorder, recorder, Plan, TapeOutcome, recorded_by}
use Rattle.vdp_tape.proofs.line.line.Goals as goal

-- a line refused and a line drawn, by the outcome that they have
module _ (made : TapeOutcome) (o : TapeOutcome) (e : made ≡ o) (drawn pixels : List ℕ) where
  line_refused : eqb made.number 0 ≡ false → line_tape_outcome made pixels ≡ line_tape_outcome o (cond (eqb o.number 0) drawn pixels)
  line_refused h =
      subst (λ (x : TapeOutcome). line_tape_outcome made pixels ≡ line_tape_outcome x (cond (eqb x.number 0) drawn pixels)) e
      (sym (simp h))

  line_drawn : made.number ≡ 0 → line_tape_outcome made drawn ≡ line_tape_outcome o (cond (eqb o.number 0) drawn pixels)
  line_drawn z =
      subst (λ (x : TapeOutcome). line_tape_outcome made drawn ≡ line_tape_outcome x (cond (eqb x.number 0) drawn pixels)) e
      (sym (simp (eq-eqb made.number 0 z)))

pub returns-in_err-tape_check : goal.returns-in_err-tape_check
returns-in_err-tape_check c =
    let a = c.args in
    let before : Recorder = recorder a.s a.vram.now a.tape.now a.count in
    let plan : Plan = plan_of (Line a.line a.pixels.now) before.chip in
    let x = c.in_err-tape_check.field-0.0 in
    let number = ap number_in (sym c.in_err-tape_check.was) ∙ c.tape_check.ensures.is plan.tests c.line_check.ensures in
    let p = err_from_is_err_and c.from_residual.result c.from_residual.ensures.1 in
    rw (p.1, p.2) (line_refused _ (recorded_by plan before) (refused plan before x number) (line_pixels before.chip a.line a.pixels.now) a.pixels.now (above_zero x))

-- the plain line is not refused where its check passed
pub returns-in_err-drawn : goal.returns-in_err-drawn
returns-in_err-drawn c =
    let a = c.args in
    let plan : Plan = plan_of (Line a.line a.pixels.now) (chip a.s a.vram.now) in
    let number = ap number_in (sym c.in_ok-tape_check.was) ∙ c.tape_check.ensures.is plan.tests c.line_check.ensures in
    let ok = accepted (first plan.tests) a.count (capacity a.tape.now) 1 (sym (recorded_number_lem plan.tests a.count (capacity a.tape.now) 1) ∙ sym number) in
    let x = c.in_err-drawn.field-0.0 in
    let made : line_outcome (refused_answer (number_of x) a.s) c.line.new.pixels ≡ line_made (chip a.s a.vram.now) a.line a.pixels.now = c.in_err-drawn.ensures ∙ simp ok.plain_done in
    absurd (false≢true (sym (above_zero x) ∙ eq-eqb (number_of x) 0 (ap (λ (d : LineOutcome). d.answer.number) made)))

pub returns : goal.returns
returns c =
    let a = c.args in
    let before : Recorder = recorder a.s a.vram.now a.tape.now a.count in
    let plan : Plan = plan_of (Line a.line a.pixels.now) before.chip in
    let number = ap number_in (sym c.in_ok-tape_check.was) ∙ c.tape_check.ensures.is plan.tests c.line_check.ensures in
    let ok = accepted (first plan.tests) a.count (capacity a.tape.now) 1 (sym (recorded_number_lem plan.tests a.count (capacity a.tape.now) 1) ∙ sym number) in
    let made : line_outcome (done c.in_ok-drawn.drawn.result c.in_ok-drawn.drawn.state) c.line.new.pixels ≡ line_made (chip a.s a.vram.now) a.line a.pixels.now = c.in_ok-drawn.ensures ∙ simp ok.plain_done in
    let outcome = c.without_vram.ensures a.vram.now plan
    (record { number = sym ok.plain_done; result = ap (λ (d : LineOutcome). d.answer.result) made; one = refl; step = ap (λ (d : LineOutcome). record { control = d.answer.state.control; store = Nothing }) made }) tt in
    let zero : (recorded_by plan before).number ≡ 0 = simp (sym number) in
    ap (line_tape_outcome _) (ap (λ (d : LineOutcome). d.pixels) made)
    ∙ line_drawn _ (recorded_by plan before) outcome (line_pixels before.chip a.line a.pixels.now) a.pixels.now (ap (λ (o : TapeOutcome). o.number) outcome ∙ zero)
