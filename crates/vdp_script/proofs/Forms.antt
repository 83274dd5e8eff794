-- Laws of a script's form, at the bytes from an item on:
--     passed                       the bytes of an item already found are passed over
--     at_whole, at_faulty          an item that is whole stands before the rest, and nothing stands behind a faulty one
--     there                        a form that is not faulty has a whole item where bytes are left
--     no_items, left_over          no item is left where none begins, and bytes that are left then are a faulty one
--     items_few                    there are no more items than bytes
--     wrong_version, right_version, has_version, right_form    the form of a whole script, by its version
use Prim.Native.Nat.{ℕ, zero, suc, ◌+◌, ◌<◌, ◌≤◌}
use mathlib.Core.Path.{◌≡◌, refl, sym, ap, ◌∙◌}
use mathlib.Core.Bool.{true, false, true≢false}
use mathlib.Core.List.{List, [], ◌∷◌}
use native.Mathlib.Omega.{arith}
use borrow.Author.Tests.{eq-eqb, ne_eqb, eqb-true, eqb-false}
use lib.Dec.{eqb}
use lib.ListN.{length, get_or, drop}
use Rattle.std.specs.Prelude.{Option, Some, None}
use Rattle.vdp_state.specs.Answer.{first}
use Rattle.vdp_state.proofs.Bools.{by_cases}
use Rattle.vdp_script.specs.declared.item.Item.{Item}
use Rattle.vdp_script.specs.Form.{Judged, Form, form, before, others, items_from, version, form_of, bad_script}
use Rattle.vdp_script.specs.Item.{length_of, item_bytes, item_of}
use Rattle.vdp_script.proofs.Items.{size, whole_fits}

pub passed : (n : ℕ) (bytes : List ℕ) → items_from n bytes ≡ items_from 0 (drop n bytes)
passed zero bytes = refl
passed (suc n) [] = refl
passed (suc n) (b ∷ bytes) = passed n bytes

-- the rest behind an item
abbrev pub behind : Item → List ℕ → Form
behind i bytes = items_from 0 (drop (length (item_bytes i)) bytes)

pub at_whole : (bytes : List ℕ) (i : Item) → item_of bytes ≡ Some i → items_from 0 bytes ≡ before (Some i) (behind i bytes)
at_whole [] i e = absurd (let h : 3 ≤ 0 = omega (arith, (whole_fits [] i e).there) in let bad : ⊥ = omega arith in bad)
at_whole (b ∷ bytes) i e =
    ap (λ (f : Option Item). before f (items_from (others f) bytes)) e
    ∙ ap (before (Some i)) (passed (others (Some i)) bytes)
    ∙ ap (λ (n : ℕ). before (Some i) (items_from 0 (drop n (b ∷ bytes)))) (let n : suc (1 + length_of i) ≡ length (item_bytes i) = omega (arith, size i) in n)

pub at_faulty : (bytes : List ℕ) → 0 < length bytes → item_of bytes ≡ None → items_from 0 bytes ≡ form [] true
at_faulty [] h e = absurd (let bad : ⊥ = omega arith in bad)
at_faulty (b ∷ bytes) h e = ap (λ (f : Option Item). before f (items_from (others f) bytes)) e

pub no_items : (bytes : List ℕ) → item_of bytes ≡ None → (items_from 0 bytes).items ≡ []
no_items [] e = refl
no_items (b ∷ bytes) e = ap (λ (f : Form). f.items) (at_faulty (b ∷ bytes) (omega arith) e)

-- bytes that are left when no item is are a faulty one
left_found : (bytes : List ℕ) (f : Option Item) → item_of bytes ≡ f → (items_from 0 bytes).items ≡ [] → 0 < length bytes → (items_from 0 bytes).faulty ≡ true
left_found bytes None e none h = ap (λ (x : Form). x.faulty) (at_faulty bytes h e)
left_found bytes (Some i) e none h = let first : i ∷ (behind i bytes).items ≡ [] = sym (ap (λ (x : Form). x.items) (at_whole bytes i e)) ∙ none in absurd (cc)

pub left_over : (bytes : List ℕ) → (items_from 0 bytes).items ≡ [] → 0 < length bytes → (items_from 0 bytes).faulty ≡ true
left_over bytes = left_found bytes (item_of bytes) refl

-- there are no more items than bytes
found_few : (found : Option Item) (rest : Form) (n : ℕ) → length rest.items ≤ n → length (before found rest).items ≤ suc n
found_few None rest n h = omega arith
found_few (Some i) rest n h = omega arith

few_from : (passed : ℕ) (bytes : List ℕ) → length (items_from passed bytes).items ≤ length bytes
few_from passed [] = omega arith
few_from zero (b ∷ bytes) =
    found_few (item_of (b ∷ bytes)) (items_from (others (item_of (b ∷ bytes))) bytes) (length bytes) (few_from (others (item_of (b ∷ bytes))) bytes)
few_from (suc passed) (b ∷ bytes) = omega (arith, few_from passed bytes)

pub items_few : (bytes : List ℕ) → length (items_from 0 bytes).items ≤ length bytes
items_few = few_from 0

there_found : (bytes : List ℕ) (f : Option Item) → item_of bytes ≡ f → 0 < length bytes → (items_from 0 bytes).faulty ≡ false → (i : Item) × (item_of bytes ≡ Some i)
there_found bytes None e h g = absurd (true≢false (sym (ap (λ (x : Form). x.faulty) (at_faulty bytes h e)) ∙ g))
there_found bytes (Some i) e h g = (i, e)

pub there : (bytes : List ℕ) → 0 < length bytes → (items_from 0 bytes).faulty ≡ false → (i : Item) × (item_of bytes ≡ Some i)
there bytes = there_found bytes (item_of bytes) refl

-- ---- at a byte of a script
-- the items from there on
abbrev pub items_at : List ℕ → ℕ → List Item
items_at script at = (items_from 0 (drop at script)).items

-- ---- judging: so many items before the form
abbrev pub judged_after : ℕ → Form → Judged
judged_after place f = record { number = first (bad_script f ∷ []); place = place + length f.items }

-- ---- a whole script
pub wrong_version : (script : List ℕ) → (get_or script 0 0 ≡ version → ⊥) → form_of script ≡ form [] true
unfolding form_of
wrong_version script h = simp (ne_eqb (get_or script 0 0) version h)

pub right_version : (script : List ℕ) → get_or script 0 0 ≡ version → form_of script ≡ items_from 0 (drop 1 script)
unfolding form_of
right_version script h = simp (eq-eqb (get_or script 0 0) version h)

-- a script that is not faulty has its version
pub has_version : (script : List ℕ) → (form_of script).faulty ≡ false → get_or script 0 0 ≡ version
has_version script e =
    by_cases (eqb (get_or script 0 0) version) (eqb-true (get_or script 0 0) version)
    (λ t. absurd (true≢false (sym (ap (λ (f : Form). f.faulty) (wrong_version script (eqb-false (get_or script 0 0) version t))) ∙ e)))

-- so its items are those behind the version
pub right_form : (script : List ℕ) → (form_of script).faulty ≡ false → form_of script ≡ items_from 0 (drop 1 script)
right_form script e = right_version script (has_version script e)
