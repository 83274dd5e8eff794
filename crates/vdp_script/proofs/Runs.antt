-- Laws of a script that is run:
--     passed              a script that is judged as not refused is run, with as many items as its judgement says
--     refused_here        a call that is refused ends the run of its item and those behind it
--     stopped_at, ended_at_last    so the run of the whole ends where a call is refused, or behind the last item
use Prim.Native.Nat.{ℕ, ◌+◌}
use mathlib.Core.Path.{◌≡◌, refl, sym, ap, ap₂, ◌∙◌}
use mathlib.Core.Bool.{Bool, false, cond, true≢false}
use mathlib.Core.List.{List, [], ◌∷◌}
use native.Mathlib.Omega.{arith}
use lib.Dec.{eqb}
use lib.ListN.{length, drop}
use Rattle.std.specs.Prelude.{Result, Ok, Err}
use Rattle.std.specs.Result.{is_err}
use Rattle.vdp_state.specs.declared.answer.Refusal.{Refusal}
use Rattle.vdp_state.specs.declared.answer.Refusal.TheVariants.{BadState, BadBuffer, Busy, NotModelled, NoSuchPlace, TapeFull, SourceNotLent, BadRecord, NothingThere, BadScript, MissingRegister}
use Rattle.vdp_state.specs.declared.state.State.{State}
use Rattle.vdp_state.specs.Answer.{number, refused}
use Rattle.vdp_state.specs.State.{Chip, chip}
use Rattle.vdp_script.specs.declared.form.Fault.{Fault}
use Rattle.vdp_script.specs.declared.item.Item.{Item}
use Rattle.vdp_script.specs.Call.{ItemOutcome, item_outcome, call_item}
use Rattle.vdp_script.specs.Form.{Judged, judged_of, judgement, Form, items_from, form_of}
use Rattle.vdp_script.specs.Judge.{judged}
use Rattle.vdp_script.specs.Run.{ScriptOutcome, script_outcome, run_answer_of, ended_at, run_items, run_script}
use Rattle.vdp_script.proofs.Forms.{items_at, right_form}
use Rattle.vdp_script.proofs.Judges.{sound, none_before}

-- a refusal has a number
refused_number : (refusal : Refusal) → eqb (number refusal) 0 ≡ false
refused_number BadState = refl
refused_number BadBuffer = refl
refused_number Busy = refl
refused_number NotModelled = refl
refused_number NoSuchPlace = refl
refused_number TapeFull = refl
refused_number SourceNotLent = refl
refused_number BadRecord = refl
refused_number NothingThere = refl
refused_number BadScript = refl
refused_number MissingRegister = refl

module _ (script cartridge ram : List ℕ) (c : Chip) (pixels : List ℕ) where
  abbrev pending : Bool
  pending = c.state.control.port.pending

  -- the run of all items
  abbrev pub whole_run : ScriptOutcome
  whole_run = run_items (items_at script 1) 0 cartridge ram c pixels

  pub passed : (n : ℕ) → judgement 0 n ≡ judged pending script → (whole_run ≡ run_script script cartridge ram c pixels) × (n ≡ length (items_at script 1))
  passed n e =
      let zero : (judged pending script).number ≡ 0 = sym (ap (λ (x : Judged). x.number) e) in
      let right : form_of script ≡ items_from 0 (drop 1 script) = right_form script (sound pending (form_of script) zero) in
      let run_judged : Judged → ScriptOutcome = λ x. cond (eqb x.number 0) (run_items (form_of script).items 0 cartridge ram c pixels) (ended_at x.number x.place c.state c.vram pixels) in (
        sym (ap (λ (f : Form). run_items f.items 0 cartridge ram c pixels) right) ∙ ap run_judged e,
        ap (λ (x : Judged). x.place) e ∙ none_before pending (form_of script) zero ∙ ap (λ (f : Form). length f.items) right,
      )

  -- judged as not refused, the run ends where a call is refused
  pub stopped_at : (ended : Result ℕ Fault) → judged_of ended ≡ judged pending script → is_err ended ≡ false
      → (o : ScriptOutcome) → o ≡ whole_run → o ≡ run_script script cartridge ram c pixels
  stopped_at (Ok n) e z o r = r ∙ (passed n e).0
  stopped_at (Err fault) e z o r = absurd (true≢false z)

  -- or behind the last item
  pub ended_at_last : (ended : Result ℕ Fault) → judged_of ended ≡ judged pending script → is_err ended ≡ false
      → (left : List Item) (place : ℕ) (s : State) (vram pixels' : List ℕ) → left ≡ [] → place + length left ≡ length (items_at script 1)
      → run_items left place cartridge ram (chip s vram) pixels' ≡ whole_run
      → script_outcome (run_answer_of (record { ended = ended; state = s })) vram pixels' ≡ run_script script cartridge ram c pixels
  ended_at_last (Ok n) e z left place s vram pixels' none count r =
      let all : n ≡ place = omega (arith, (passed n e).1, count, ap length none) in
      ap (λ (m : ℕ). ended_at 0 m s vram pixels') all
      ∙ sym (ap (λ (l : List Item). run_items l place cartridge ram (chip s vram) pixels') none) ∙ r ∙ (passed n e).0
  ended_at_last (Err fault) e z left place s vram pixels' none count r = absurd (true≢false z)

module _ (cartridge ram : List ℕ) (s : State) (before after pixels pixels' : List ℕ) (i : Item) (refusal : Refusal) where
  pub refused_here : item_outcome (refused (number refusal) s) after pixels' ≡ call_item i cartridge ram (chip s before) pixels
      → {left items : List Item} → left ≡ i ∷ items → {place count : ℕ} → place ≡ count
      → ended_at (number refusal) place s after pixels' ≡ run_items left count cartridge ram (chip s before) pixels
  refused_here e {left} {items} l {place} {count} n =
      let onward : ItemOutcome → ScriptOutcome = λ o. cond (eqb o.answer.number 0) (run_items items (place + 1) cartridge ram (chip o.answer.state o.vram) o.pixels)
      (ended_at o.answer.number place o.answer.state o.vram o.pixels) in
      let number_is : onward (item_outcome (refused (number refusal) s) after pixels') ≡ ended_at (number refusal) place s after pixels' = simp (refused_number refusal) in
      sym number_is ∙ ap onward e ∙ ap₂ (λ (x : List Item) (m : ℕ). run_items x m cartridge ram (chip s before) pixels) (sym l) n
