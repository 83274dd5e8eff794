-- Outcomes of recorded calls, and loops that go over the records of a tape.
use Prim.Native.Nat.{ℕ, suc, ◌-◌, ◌<◌, ◌≤◌}
use mathlib.Core.Path.{◌≡◌, refl, sym, ap, ap₂, ◌∙◌}
use mathlib.Core.Bool.{false, not, ◌||◌}
use mathlib.Core.List.{List, [], ◌∷◌}
use native.Mathlib.Omega.{arith}
use borrow.Author.Tests.{ltb-false}
use lib.Dec.{eqb, ltb}
use lib.ListN.{length}
use Rattle.std.specs.Prelude.{Err}
use Rattle.vdp_state.specs.declared.answer.Refusal.{Refusal}
use Rattle.vdp_state.specs.declared.state.State.{State}
use Rattle.vdp_state.specs.declared.state.Step.{Step}
use Rattle.vdp_state.specs.declared.state.Store.{Store}
use Rattle.vdp_state.specs.declared.state.Store.TheVariants.{Nothing, Vram, Cram, Vsram, Register}
use Rattle.vdp_state.specs.Answer.{number}
use Rattle.vdp_state.specs.Cell.{perform, undoing, present, stored_in}
use Rattle.vdp_state.specs.Good.{good}
use Rattle.vdp_state.specs.State.{Chip, chip}
use Rattle.vdp_state.proofs.Bools.{by_cases, by_cond, none, cond_zero}
use Rattle.vdp_ports.specs.declared.taken.Taken.{Taken}
use Rattle.vdp_ports.specs.declared.taken.Taken.TheVariants.{RegisterWrite, FirstHalf, SecondHalf}
use Rattle.vdp_ports.specs.Control.{taken_step, control_step}
use Rattle.vdp_ports.specs.Taken.{taken_as, register_of, has_register}
use Rattle.vdp_tape.specs.Number.{capacity, recorded_number}
use Rattle.vdp_tape.specs.OneStep.{OneStep, OffVram}
use Rattle.vdp_tape.specs.Record.{step_of, record_at}
use Rattle.vdp_tape.specs.Recorder.{Recorder, recorder, record_step, record_steps, Plan, TapeOutcome, tape_answer_of, tape_outcome, tape_outcome_at, recorded_by}
use Rattle.vdp_tape.proofs.Numbers.{above_zero}
use Rattle.vdp_tape.specs.StepBack.{undo, back_number}

pub empty : (l : List ℕ) → length l ≡ 0 → l ≡ []
empty [] e = refl
empty (x ∷ l) e = absurd (let bad : ⊥ = omega arith in bad)

-- ---- refused
-- what a call leaves that is refused so
pub refused : (p : Plan) (r : Recorder) (x : Refusal) → number x ≡ recorded_number p.tests r.count (capacity r.tape) p.steps → tape_outcome (tape_answer_of r.chip.state r.count (Err x)) r.chip.vram r.tape ≡ recorded_by p r
refused p r x e =
    sym (simp (above_zero x)) ∙ ap (λ (n : ℕ). tape_outcome_at n p.result r (record_steps p.step p.steps r)) e

-- the outcome of a plan of one step, by its number, its result and the step
pub one_outcome : (p : Plan) (r : Recorder) (plain result : ℕ) (t : Step) → OneStep p r.chip plain result t → recorded_by p r ≡ tape_outcome_at (recorded_number p.tests r.count (capacity r.tape) 1) result r (record_step r t)
one_outcome p r plain result t o =
    ap (λ (n : ℕ). tape_outcome_at (recorded_number p.tests r.count (capacity r.tape) n) p.result r (record_steps p.step n r)) o.one
    ∙ ap₂ (λ (k : ℕ) (x : Step). tape_outcome_at (recorded_number p.tests r.count (capacity r.tape) 1) k r (record_step r x)) (sym o.result) (sym o.step)

-- ---- calls that are lent no VRAM
-- the same outcome beside other VRAM
abbrev pub beside : List ℕ → TapeOutcome → TapeOutcome
beside vram o =
    record {
      number = o.number;
      result = o.result;
      recorder = recorder o.recorder.chip.state vram o.recorder.tape o.recorder.count;
    }

pub off_vram : (s : State) (vram : List ℕ) (x : Store) → OffVram x → (present (chip s []) x ≡ present (chip s vram) x) × (stored_in vram x ≡ vram)
off_vram s vram Nothing h = (refl, refl)
off_vram s vram (Vram place w) h = absurd h
off_vram s vram (Cram i w) h = (refl, refl)
off_vram s vram (Vsram i w) h = (refl, refl)
off_vram s vram (Register i b) h = (refl, refl)

-- a step that leaves VRAM alone is recorded alike beside any VRAM
pub beside_vram : (vram : List ℕ) (s : State) (tape : List ℕ) (count : ℕ) (t : Step) (number result : ℕ) → OffVram t.store → beside vram (tape_outcome_at number result (recorder s [] tape count) (record_step (recorder s [] tape count) t)) ≡ tape_outcome_at number result (recorder s vram tape count) (record_step (recorder s vram tape count) t)
unfolding record_step perform undoing
beside_vram vram s tape count t number result off =
    let o = off_vram s vram t.store off in by_cases (eqb number 0) (λ e. simp (e, o.0, o.1)) (λ e. simp e)

-- a control word stores a register or nothing
taken_off : (t : Taken) (s : State) (w : ℕ) → OffVram (taken_step t s w).store
taken_off RegisterWrite s w = by_cond (λ (t : Step). OffVram t.store) (has_register (register_of w)) _ _ (λ h. tt) (λ h. tt)
taken_off FirstHalf s w = tt
taken_off SecondHalf s w = tt

pub control_off : (s : State) (w : ℕ) → OffVram (control_step s w).store
unfolding control_step
control_off s w = taken_off (taken_as s.control.port.pending w) s w

-- ---- loops over the records of a tape
module _ (tape : List ℕ) (top left : ℕ) where
  one_less : 0 < left → left ≡ suc (left - 1)
  one_less h = omega arith

  pub undo_turn : (c c' : Chip) → 0 < left → c' ≡ perform c (step_of (record_at tape (top - 1))) → undo tape (top - 1) (left - 1) c' ≡ undo tape top left c
  undo_turn c c' h e = ap (undo tape (top - 1) (left - 1)) e ∙ sym (ap (λ (k : ℕ). undo tape top k c) (one_less h))

-- a step back that is not refused has its records on the tape
pub back_accepted : (r : Recorder) (k : ℕ) → back_number r k ≡ 0 → (k ≤ r.count) × (r.count ≤ capacity r.tape)
back_accepted r k e =
    let over = ltb (capacity r.tape) r.count in
    let vram = not (eqb (length r.chip.vram) 65536) in
    let one = cond_zero (not (good r.chip.state) || false) 1 _ (omega arith) e in
    let two = cond_zero (vram || (over || false)) 2 _ (omega arith) one.1 in
    let ten = cond_zero (ltb r.count k || false) 10 _ (omega arith) two.1 in (
      ltb-false r.count k (none (ltb r.count k) false ten.0).0,
      ltb-false (capacity r.tape) r.count (none over false (none vram (over || false) two.0).1).0,
    )
