-- Laws of a script that is judged:
--     sound                           judged with 0, none of its items is faulty
--     registers_after                 what is judged of the registers that items name, with so many items before them
--     by_registers                    where its form is not refused its registers are judged
--     nothing_missing                 without a faulty item and without one that names a missing register it is 0
--     none_before                     and then as many items stand before a missing register as there are
--     missing_judged, all_judged      a script whose form is not refused, by what is judged of its registers
use Prim.Native.Nat.{ℕ, suc, ◌+◌}
use mathlib.Core.Path.{◌≡◌, refl, sym, ap, ap₂, ◌∙◌}
use mathlib.Core.Bool.{Bool, true, false, cond, ◌||◌, true≢false}
use mathlib.Core.List.{List, [], ◌∷◌}
use native.Mathlib.Omega.{arith}
use lib.ListN.{length, drop}
use Rattle.vdp_state.specs.Answer.{gives, first}
use Rattle.vdp_script.specs.declared.item.Item.{Item}
use Rattle.vdp_script.specs.Form.{Judged, judgement, Form, form, items_from, form_of, form_judged}
use Rattle.vdp_script.specs.Judge.{judged_as, judged}
use Rattle.vdp_script.specs.Missing.{names_missing, pending_after, any_missing, items_before, missing_register, registers_judged}
use Rattle.vdp_script.proofs.Forms.{items_at, right_form}

abbrev pub registers_after : ℕ → Bool → List Item → Judged
registers_after place pending items = judgement (first (missing_register pending items ∷ [])) (place + items_before pending items)

module _ (pending : Bool) where
  module _ (items : List Item) where
    sound_form : (faulty : Bool) → (judged_as pending (form items faulty)).number ≡ 0 → faulty ≡ false
    sound_form true e = absurd (let bad : ⊥ = omega arith in bad)
    sound_form false e = refl

    unfaulted : (faulty : Bool) → (form_judged (form items faulty)).number ≡ 0 → faulty ≡ false
    unfaulted true e = absurd (let bad : ⊥ = omega arith in bad)
    unfaulted false e = refl

    passed : (faulty : Bool) → (form_judged (form items faulty)).number ≡ 0 → registers_judged pending items ≡ judged_as pending (form items faulty)
    passed true e = absurd (let bad : ⊥ = omega arith in bad)
    passed false e = refl

    pub nothing_missing : any_missing pending items ≡ false → (judged_as pending (form items false)).number ≡ 0
    nothing_missing e = ap (λ (b : Bool). first (gives 11 false ∷ gives 12 b ∷ [])) e

  module _ (f : Form) where
    pub sound : (judged_as pending f).number ≡ 0 → f.faulty ≡ false
    sound = sound_form f.items f.faulty

    pub whole : (form_judged f).number ≡ 0 → f.faulty ≡ false
    whole = unfaulted f.items f.faulty

    pub by_registers : (form_judged f).number ≡ 0 → registers_judged pending f.items ≡ judged_as pending f
    by_registers = passed f.items f.faulty

-- where no item names a missing register, all stand before the first that does
passed_on : (missing any : Bool) (before count : ℕ) → (any ≡ false → before ≡ count) → (missing || any) ≡ false → cond missing 0 (suc before) ≡ suc count
passed_on true any before count h e = absurd (true≢false e)
passed_on false any before count h e = ap suc (h e)

all_before : (pending : Bool) (items : List Item) → any_missing pending items ≡ false → items_before pending items ≡ length items
all_before pending [] e = refl
all_before pending (i ∷ items) e =
    let flag : Bool = pending_after pending i in
    passed_on (names_missing pending i) (any_missing flag items) (items_before flag items) (length items) (all_before flag items) e

-- so judged with 0 its place is how many items there are
none_before_form : (pending : Bool) (items : List Item) (faulty missing : Bool) → any_missing pending items ≡ missing
    → first (gives 11 faulty ∷ gives 12 missing ∷ []) ≡ 0 → cond faulty (length items) (items_before pending items) ≡ length items
none_before_form pending items true missing m e = refl
none_before_form pending items false true m e = absurd (let bad : ⊥ = omega arith in bad)
none_before_form pending items false false m e = all_before pending items m

pub none_before : (pending : Bool) (f : Form) → (judged_as pending f).number ≡ 0 → (judged_as pending f).place ≡ length f.items
none_before pending f e = none_before_form pending f.items f.faulty (any_missing pending f.items) refl e

module _ (pending : Bool) (script : List ℕ) (zero : (form_judged (form_of script)).number ≡ 0) where
  pub missing_judged : registers_judged pending (items_at script 1) ≡ judged pending script
  missing_judged =
      sym (ap (λ (f : Form). registers_judged pending f.items) (right_form script (whole pending (form_of script) zero)))
      ∙ by_registers pending (form_of script) zero

  pub all_judged : any_missing pending (items_at script 1) ≡ false → judgement 0 (form_judged (form_of script)).place ≡ judged pending script
  all_judged none =
      let right : form_of script ≡ items_from 0 (drop 1 script) = right_form script (whole pending (form_of script) zero) in
      let count : (form_judged (form_of script)).place ≡ length (items_at script 1) = ap (λ (f : Form). length f.items) right in
      ap₂ judgement (sym (ap (λ (b : Bool). first (gives 12 b ∷ [])) none)) (count ∙ sym (all_before pending (items_at script 1) none))
      ∙ missing_judged
