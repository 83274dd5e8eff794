-- The claims about recorded calls, proved.
--     demand3                     the claim `Demand3` of specs/Demand.antt
--     step_back_takes_back        the claim `StepBackTakesBack` beside it
--     recorded_as_plain           the claim `RecordedAsPlain` of specs/Recorded.antt, by `plan_as_plain` over plans
use Prim.Native.Nat.{ℕ, suc, ◌≤◌}
use mathlib.Core.Path.{◌≡◌, refl, sym, ap, ap₂, subst, ◌∙◌}
use mathlib.Core.List.{List, [], ◌∷◌}
use native.Mathlib.Omega.{arith}
use borrow.Author.Tests.{eq-eqb, le-ltb, eqb-true}
use lib.Dec.{eqb}
use lib.ListN.{length}
use Rattle.vdp_state.specs.declared.state.State.{State}
use Rattle.vdp_state.specs.declared.state.Step.{Step}
use Rattle.vdp_state.specs.Answer.{first, done, answered, Outcome, outcome, outcome_at}
use Rattle.vdp_state.specs.Cell.{perform, made, steps}
use Rattle.vdp_state.specs.Range.{GoodChip}
use Rattle.vdp_state.specs.State.{Chip, chip}
use Rattle.vdp_state.proofs.Bools.{by_cases}
use Rattle.vdp_state.proofs.Iterate.{iterate_mapped}
use Rattle.vdp_state.proofs.Laws.{StepsGood}
use Rattle.vdp_ports.specs.Control.{control_tests, control_step}
use Rattle.vdp_ports.specs.Data.{data_tests, data_word, data_read_step}
use Rattle.vdp_ports.specs.Frame.{frame_tests, frame_step}
use Rattle.vdp_ports.specs.Status.{status_tests, status_step, status_word}
use Rattle.vdp_ports.proofs.Decided.{control_good, write_good, read_good, status_good, frame_good}
use Rattle.vdp_timing.specs.Interrupt.{acknowledge_tests, acknowledge_step}
use Rattle.vdp_timing.specs.LineBegins.{line_begins_tests, line_begins_step}
use Rattle.vdp_timing.proofs.Decided.{begins_good, acknowledge_good}
use Rattle.vdp_dma.specs.Run.{units_made}
use Rattle.vdp_dma.proofs.Decided.{units_good}
use Rattle.vdp_line.specs.Line.{line_tests, line_step, visits}
use Rattle.vdp_line.proofs.Decided.{line_good}
use Rattle.vdp_tape.specs.Book.{Act, Make, StepBack, Book, new_book, enter_by, enter}
use Rattle.vdp_tape.specs.Demand.{serve, Fits, AllFit, Seen, served_all, entered_all, Demand3, served_to, entered_to, StepBackTakesBack}
use Rattle.vdp_tape.specs.Number.{capacity, recorded_number}
use Rattle.vdp_tape.specs.OneStep.{OffVram}
use Rattle.vdp_tape.specs.Recorded.{Call, ControlWrite, DataWrite, DataRead, StatusRead, NewFrame, LineBegins, Acknowledge, Run, Line, plan_of, recorded, plain_of, without_tape, RecordedAsPlain}
use Rattle.vdp_tape.specs.Recorder.{Recorder, recorder, record_step, record_next, record_steps, Plan, tape_outcome_at, recorded_by}
use Rattle.vdp_tape.specs.StepBack.{back_tests}
use Rattle.vdp_tape.proofs.Demand.{Alike, Together, plan_together, back_together}
use Rattle.vdp_tape.proofs.Numbers.{recorded_number_lem, accepted}
use Rattle.vdp_tape.proofs.Steps.{off_vram, control_off}

-- ---- each call
-- the steps of a call are in range on a good chip
in_range_lem : (call : Call) → Fits (Make call) → (c : Chip) → GoodChip c → StepsGood (plan_of call c).step (plan_of call c).steps c
in_range_lem (ControlWrite w) f c g = (control_good c w f g, tt)
in_range_lem (DataWrite w) f c g = (write_good c g w f, tt)
in_range_lem DataRead f c g = (read_good c g, tt)
in_range_lem StatusRead f c g = (status_good c g, tt)
in_range_lem NewFrame f c g = (frame_good c g, tt)
in_range_lem LineBegins f c g = (begins_good c g, tt)
in_range_lem (Acknowledge level) f c g = (acknowledge_good c g level, tt)
in_range_lem (Run cartridge ram budget) f c g = units_good cartridge ram f.0 f.1 (units_made c.state budget) c g (omega arith)
in_range_lem (Line n pixels) f c g = (line_good c g n, tt)

-- a plan read with the present of the book is the plan read with the recorder's chip
act_together : (a : Act) → Fits a → (r : Recorder) (b : Book) → Alike r b → Together (serve a r) (enter a b)
act_together (Make call) f r b e =
    subst (λ (c : Chip). Together (recorded call r) (enter_by (plan_of call c) b)) e.present
    (plan_together (plan_of call r.chip) r b e (λ z. in_range_lem call f r.chip e.good))
act_together (StepBack k) f r b e = back_together k r b e

-- ---- whole sequences
sequence : (acts : List Act) → AllFit acts → (r : Recorder) (b : Book) → Alike r b → served_all acts r ≡ entered_all acts b
sequence [] f r b e = refl
sequence (a ∷ acts) f r b e =
    let t = act_together a f.0 r b e in
    ap₂ (λ (x : Seen) (xs : List Seen). x ∷ xs) t.shown (sequence acts f.1 (serve a r).recorder (enter a b).book t.after)

-- at the start there are no pages and no records
start : (s : State) (vram tape : List ℕ) → GoodChip (chip s vram) → Alike (recorder s vram tape 0) (new_book (chip s vram) (capacity tape))
start s vram tape g = record { present = refl; count = refl; room = refl; good = g; fits = omega arith; trail = tt }

pub demand3 : Demand3
demand3 acts f s vram tape g = sequence acts f (recorder s vram tape 0) (new_book (chip s vram) (capacity tape)) (start s vram tape g)

-- ---- the corollary
alike_after : (acts : List Act) → AllFit acts → (r : Recorder) (b : Book) → Alike r b → Alike (served_to acts r) (entered_to acts b)
alike_after [] f r b e = e
alike_after (a ∷ acts) f r b e = alike_after acts f.1 (serve a r).recorder (enter a b).book (act_together a f.0 r b e).after

accepted_back : (c : Chip) (n room k : ℕ) → GoodChip c → n ≤ room → k ≤ n → first (back_tests c n room k) ≡ 0
accepted_back c n room k g within few = simp (g.good, eq-eqb (length c.vram) 65536 g.size, le-ltb room n within, le-ltb n k few)

pub step_back_takes_back : StepBackTakesBack
step_back_takes_back acts f s vram tape g k h =
    let r = served_to acts (recorder s vram tape 0) in
    let b = entered_to acts (new_book (chip s vram) (capacity tape)) in
    let a = alike_after acts f (recorder s vram tape 0) (new_book (chip s vram) (capacity tape)) (start s vram tape g) in
    let t = back_together (suc k) r b a in
    let z : first (back_tests b.present (length b.pages) b.capacity (suc k)) ≡ 0 =
    accepted_back b.present (length b.pages) b.capacity (suc k) (subst GoodChip a.present a.good) (omega (arith, a.count, a.room, a.fits)) h in
    (ap (λ (x : Seen). x.number) t.shown ∙ simp z, t.after.present ∙ simp z)

-- ---- recorded and plain
-- what a plan's plain form leaves: its steps, and no records
abbrev plain_by : Plan → Chip → Outcome
plain_by p c = outcome_at (first p.tests) p.result c (steps p.step p.steps c)

recorded_steps : (step : Chip → Step) (n : ℕ) (r : Recorder) → (record_steps step n r).chip ≡ steps step n r.chip
unfolding record_step
recorded_steps step n r = iterate_mapped (record_next step) (made step) (λ (x : Recorder). x.chip) (λ x. refl) n r

outcome_zero : (n result : ℕ) (before after : Recorder) → (tape_outcome_at n result before after).number ≡ 0 → n ≡ 0
outcome_zero n result before after z = by_cases (eqb n 0) (λ e. eqb-true n 0 e) (λ e. simp e at z)

pub plan_as_plain : (p : Plan) (r : Recorder) → (recorded_by p r).number ≡ 0 → without_tape (recorded_by p r) ≡ plain_by p r.chip
plan_as_plain p r e =
    let room = capacity r.tape in
    let after = record_steps p.step p.steps r in
    let z = outcome_zero (recorded_number p.tests r.count room p.steps) p.result r after e in
    let a = accepted (first p.tests) r.count room p.steps (sym (recorded_number_lem p.tests r.count room p.steps) ∙ z) in
    ap (λ (n : ℕ). without_tape (tape_outcome_at n p.result r after)) z
    ∙ ap (λ (c : Chip). outcome (done p.result c.state) c.vram) (recorded_steps p.step p.steps r)
    ∙ sym (ap (λ (n : ℕ). outcome_at n p.result r.chip (steps p.step p.steps r.chip)) a.plain_done)

-- ---- the plain form of each plan
module _ (c : Chip) (n w : ℕ) (t : Step) where
  one_answered : OffVram t.store → outcome_at n w c (perform c t) ≡ outcome (answered n c.state t w) c.vram
  unfolding perform
  one_answered off = by_cases (eqb n 0) (λ e. simp (e, (off_vram c.state c.vram t.store off).1)) (λ e. simp e)

plain_is : (call : Call) (c : Chip) → plain_by (plan_of call c) c ≡ plain_of call c
unfolding data_read_step
plain_is (ControlWrite w) c = one_answered c (first (control_tests c.state)) 0 (control_step c.state w) (control_off c.state w)
plain_is (DataWrite w) c = refl
plain_is DataRead c = one_answered c (first (data_tests c)) (data_word c) (data_read_step c.state) tt
plain_is StatusRead c = one_answered c (first (status_tests c.state)) (status_word c.state) (status_step c.state) tt
plain_is NewFrame c = one_answered c (first (frame_tests c.state)) 0 (frame_step c.state) tt
plain_is LineBegins c = one_answered c (first (line_begins_tests c.state)) 0 (line_begins_step c.state) tt
plain_is (Acknowledge level) c = one_answered c (first (acknowledge_tests c.state level)) 0 (acknowledge_step c.state level) tt
plain_is (Run cartridge ram budget) c = refl
plain_is (Line n pixels) c = one_answered c (first (line_tests c n pixels)) (visits c n) (line_step c n) tt ∙ by_cases (eqb (first (line_tests c n pixels)) 0) (λ e. simp e) (λ e. simp e)

pub recorded_as_plain : RecordedAsPlain
recorded_as_plain call r e = plan_as_plain (plan_of call r.chip) r e ∙ plain_is call r.chip
