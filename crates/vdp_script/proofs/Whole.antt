-- Whole scripts written and read:
--     reads_back          reading what was written gives the items
--     writes_back         writing the items of a well formed script gives its bytes
--     written_in_turn     items written into a buffer one after the other leave their script there
--     runs_as_written     a script that was written runs its items
use Prim.Native.Nat.{ℕ, zero, suc, ◌+◌, ◌/◌, ◌%◌, ◌<◌, ◌≤◌}
use mathlib.Core.Path.{◌≡◌, refl, sym, ap, ap₂, ◌∙◌}
use mathlib.Core.Bool.{Bool, false, cond}
use mathlib.Core.List.{List, [], ◌∷◌, ◌++◌}
use native.Mathlib.Omega.{arith}
use borrow.Author.Tests.{eqb-true}
use lib.Dec.{eqb}
use lib.ListN.{length, get_or, take, drop, set, length-append, length-drop, take-append-drop}
use lib.Seq.{drop-append_seam, get_or-drop, sets, length-sets}
use Rattle.std.specs.Prelude.{Option, Some}
use Rattle.vdp_state.specs.Cell.{word_at}
use Rattle.vdp_state.specs.Range.{AllBytes}
use Rattle.vdp_state.proofs.Bools.{by_cond}
use Rattle.vdp_script.specs.declared.item.Item.{Item}
use Rattle.vdp_script.specs.declared.item.Item.TheVariants.{ControlWord, DataWord, DataRead, StatusRead, Run, Line, NewFrame}
use Rattle.vdp_script.specs.Form.{Form, form, before, items_from, version, form_of}
use Rattle.vdp_script.specs.Item.{word, kind_of, content_of, length_of, item_bytes, byte_after, item_from, item_of}
use Rattle.vdp_script.specs.Judge.{judged_as}
use Rattle.vdp_script.specs.Run.{ended_at, run_items, run_form}
use Rattle.vdp_script.specs.Whole.{items_written, script_of, write_items, WrittenInTurn, ReadsBack, WritesBack, RunsAsWritten}
use Rattle.vdp_script.specs.Write.{WriteOutcome, write_outcome, written, write_item}
use Rattle.vdp_script.proofs.Forms.{behind, at_whole, there, right_version, has_version}
use Rattle.vdp_script.proofs.Items.{word_back, size, few, whole, whole_fits, Fits}
use Rattle.vdp_script.proofs.Judges.{nothing_missing}
use Rattle.vdp_script.proofs.Writes.{room}

-- ---- what was written is read
-- the kind and the content of an item are that item's
named_back : (i : Item) (rest : List ℕ) → Some i ≡ item_from (kind_of i) (word_at (content_of i ++ rest) 0)
named_back (ControlWord w) rest = ap (λ (n : ℕ). Some (ControlWord n)) (sym (word_back w))
named_back (DataWord w) rest = ap (λ (n : ℕ). Some (DataWord n)) (sym (word_back w))
named_back DataRead rest = refl
named_back StatusRead rest = refl
named_back (Run n) rest = ap (λ (n : ℕ). Some (Run n)) (sym (word_back n))
named_back (Line n) rest = ap (λ (n : ℕ). Some (Line n)) (sym (word_back n))
named_back NewFrame rest = refl

item_back : (i : Item) (rest : List ℕ) → item_of (item_bytes i ++ rest) ≡ Some i
item_back i rest =
    sym (whole (item_bytes i ++ rest) (Some i) (named_back i rest) i refl (omega (arith, word_back (length_of i), size i)) (omega (arith, length-append (item_bytes i) rest)))

items_back : (items : List Item) → items_from 0 (items_written items) ≡ form items false
items_back [] = refl
items_back (i ∷ items) =
    at_whole (item_bytes i ++ items_written items) i (item_back i (items_written items))
    ∙ ap (λ (l : List ℕ). before (Some i) (items_from 0 l)) (drop-append_seam (item_bytes i) (items_written items))
    ∙ ap (before (Some i)) (items_back items)

pub reads_back : ReadsBack
reads_back items = right_version (script_of items) refl ∙ items_back items

pub runs_as_written : RunsAsWritten
runs_as_written items cartridge ram c pixels e =
    let pending : Bool = c.state.control.port.pending in
    ap (λ (f : Form). run_form f cartridge ram c pixels) (reads_back items)
    ∙ ap (λ (n : ℕ). cond (eqb n 0) (run_items items 0 cartridge ram c pixels) (ended_at n (judged_as pending (form items false)).place c.state c.vram pixels))
    (nothing_missing pending items e)

-- ---- what was read is written
-- an item of a kind and a content has that kind, and its bytes of content are those of the number
record Named (i : Item) (k w : ℕ) : Type 0 where
  kind : k ≡ kind_of i
  content : content_of i ≡ take (length (content_of i)) (word w)

module _ (kind w : ℕ) (i : Item) where
  -- the item that was found is this one
  abbrev Is : Option Item → Type 0
  Is f = f ≡ Some i → Named i kind w

  is : (j : Item) → Named j kind w → Is (Some j)
  is j n e = let same : j ≡ i = cc in rw same at n

  named : Is (item_from kind w)
  named =
      by_cond Is (eqb kind 1) _ _ (λ t. is (ControlWord w) (record { kind = eqb-true kind 1 t; content = refl }))
      (λ _. by_cond Is (eqb kind 2) _ _ (λ t. is (DataWord w) (record { kind = eqb-true kind 2 t; content = refl }))
      (λ _. by_cond Is (eqb kind 3) _ _ (λ t. is DataRead (record { kind = eqb-true kind 3 t; content = refl }))
      (λ _. by_cond Is (eqb kind 4) _ _ (λ t. is StatusRead (record { kind = eqb-true kind 4 t; content = refl }))
      (λ _. by_cond Is (eqb kind 5) _ _ (λ t. is (Run w) (record { kind = eqb-true kind 5 t; content = refl }))
      (λ _. by_cond Is (eqb kind 6) _ _ (λ t. is (Line w) (record { kind = eqb-true kind 6 t; content = refl }))
      (λ _. by_cond Is (eqb kind 7) _ _ (λ t. is NewFrame (record { kind = eqb-true kind 7 t; content = refl }))
      (λ _ e. absurd (let z : ◌≡◌ {A = ℕ} 0 1 = cc in let bad : ⊥ = omega arith in bad))))))))

-- the bytes of a number that bytes begin with are those bytes
first_bytes : (n : ℕ) (bytes : List ℕ) → AllBytes bytes → n ≤ length bytes → n ≤ 2 → take n (word (word_at bytes 0)) ≡ take n bytes
first_bytes zero bytes all h m = refl
first_bytes (suc zero) [] all h m = absurd (let bad : ⊥ = omega arith in bad)
first_bytes (suc zero) (a ∷ bytes) all h m = ap (λ (x : ℕ). x ∷ []) (let low = all 1 in omega arith)
first_bytes (suc (suc zero)) [] all h m = absurd (let bad : ⊥ = omega arith in bad)
first_bytes (suc (suc zero)) (a ∷ []) all h m = absurd (let bad : ⊥ = omega arith in bad)
first_bytes (suc (suc zero)) (a ∷ b ∷ bytes) all h m =
    let low : b < 256 = all 1 in
    ap₂ (λ (x y : ℕ). x ∷ y ∷ []) (omega arith) (omega arith)
first_bytes (suc (suc (suc n))) bytes all h m = absurd (let bad : ⊥ = omega arith in bad)

item_written : (bytes : List ℕ) (i : Item) → AllBytes bytes → Fits bytes i → take (length (item_bytes i)) bytes ≡ item_bytes i
item_written [] i all f = absurd (let bad : ⊥ = omega (arith, f.there, (few i).0) in bad)
item_written (a ∷ []) i all f = absurd (let bad : ⊥ = omega (arith, f.there, (few i).0) in bad)
item_written (a ∷ b ∷ []) i all f = absurd (let bad : ⊥ = omega (arith, f.there, (few i).0) in bad)
item_written (a ∷ b ∷ k ∷ bytes) i all f =
    let low : b < 256 = all 1 in
    let n : Named i k (word_at bytes 0) = named k (word_at bytes 0) i f.kind in
    let content : take (length (content_of i)) bytes ≡ content_of i =
    sym (first_bytes (length (content_of i)) bytes (λ j. all (suc (suc (suc j)))) (omega (arith, f.there)) (omega (arith, (few i).1))) ∙ sym n.content in
    ap₂ (λ (x y : ℕ). x ∷ y ∷ k ∷ take (length (content_of i)) bytes) (omega (arith, f.said)) (omega (arith, f.said))
    ∙ ap₂ (λ (x : ℕ) (l : List ℕ). length_of i / 256 ∷ length_of i % 256 ∷ x ∷ l) n.kind content

-- by the bytes that are left, at most n
items_written_lem : (n : ℕ) (bytes : List ℕ) → length bytes ≤ n → AllBytes bytes → (items_from 0 bytes).faulty ≡ false → items_written (items_from 0 bytes).items ≡ bytes
items_written_lem zero [] h all e = refl
items_written_lem zero (b ∷ bytes) h all e = absurd (let bad : ⊥ = omega arith in bad)
items_written_lem (suc n) [] h all e = refl
items_written_lem (suc n) (b ∷ bytes) h all e =
    let l : List ℕ = b ∷ bytes in
    let f : (i : Item) × (item_of l ≡ Some i) = there l (omega arith) e in
    let i : Item = f.0 in
    let here : items_from 0 l ≡ before (Some i) (behind i l) = at_whole l i f.1 in
    let rest : List ℕ = drop (length (item_bytes i)) l in
    let more : items_written (items_from 0 rest).items ≡ rest =
    items_written_lem n rest (omega (arith, length-drop (length (item_bytes i)) l, (few i).0)) (λ j. rw get_or-drop (all (length (item_bytes i) + j)))
    (sym (ap (λ (x : Form). x.faulty) here) ∙ e) in
    ap (λ (x : Form). items_written x.items) here
    ∙ ap₂ (λ (x y : List ℕ). x ++ y) (sym (item_written l i all (whole_fits l i f.1))) more
    ∙ take-append-drop (length (item_bytes i)) l

script_written : (script : List ℕ) → AllBytes script → get_or script 0 0 ≡ version → (form_of script).faulty ≡ false → script_of (form_of script).items ≡ script
script_written [] all v e = absurd (let bad : ⊥ = omega arith in bad)
script_written (b ∷ bytes) all v e =
    let f : form_of (b ∷ bytes) ≡ items_from 0 bytes = right_version (b ∷ bytes) v in
    ap (λ (x : Form). script_of x.items) f
    ∙ ap₂ (λ (x : ℕ) (l : List ℕ). x ∷ l) (sym v) (items_written_lem (length bytes) bytes (omega arith) (λ j. all (suc j)) (sym (ap (λ (x : Form). x.faulty) f) ∙ e))

pub writes_back : WritesBack
writes_back script all e = script_written script all (has_version script e) e

-- ---- items written into a buffer
-- bytes stored behind others are both, stored one after the other
sets_both : (l : List ℕ) (i : ℕ) (a b : List ℕ) → sets (sets l i a) (i + length a) b ≡ sets l i (a ++ b)
sets_both l i [] b = ap (λ (n : ℕ). sets l n b) (let n : i + 0 ≡ i = omega arith in n)
sets_both l i (x ∷ a) b = ap (λ (n : ℕ). sets (sets (set l i x) (suc i) a) n b) (let n : i + suc (length a) ≡ suc i + length a = omega arith in n) ∙ sets_both (set l i x) (suc i) a b

in_turn_lem : (items : List Item) (at : ℕ) (buffer : List ℕ) → at + length (items_written items) ≤ length buffer
    → write_items items at buffer ≡ write_outcome (written 0 (at + length (items_written items))) (sets buffer at (items_written items))
in_turn_lem [] at buffer h = ap (λ (n : ℕ). write_outcome (written 0 n) buffer) (let n : at ≡ at + 0 = omega arith in n)
in_turn_lem (i ∷ items) at buffer h =
    let both : length (item_bytes i ++ items_written items) ≡ length (item_bytes i) + length (items_written items) = length-append (item_bytes i) (items_written items) in
    let stored : List ℕ = sets buffer at (item_bytes i) in
    let first : write_outcome (written 0 (byte_after at i)) stored ≡ write_item buffer at i = room buffer at i (length (item_bytes i)) stored (omega (arith, both)) refl refl in
    sym (ap (λ (o : WriteOutcome). cond (eqb o.answer.number 0) (write_items items o.answer.next o.script) o) first)
    ∙ in_turn_lem items (byte_after at i) stored (omega (arith, both, length-sets buffer at (item_bytes i)))
    ∙ ap₂ (λ (n : ℕ) (l : List ℕ). write_outcome (written 0 n) l) (omega (arith, both)) (sets_both buffer at (item_bytes i) (items_written items))

pub written_in_turn : WrittenInTurn
written_in_turn items [] v h = absurd (let bad : ⊥ = omega arith in bad)
written_in_turn items (b ∷ buffer) v h =
    in_turn_lem items 1 (b ∷ buffer) (omega arith)
    ∙ ap₂ (λ (n x : ℕ). write_outcome (written 0 n) (sets (x ∷ buffer) 1 (items_written items))) (omega arith) v
