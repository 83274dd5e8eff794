-- Laws of items:
--     word_back                  the two bytes of a number read as that number
--     size                       how many bytes an item has, by its length
--     few                        an item has from 3 to 5 bytes
--     whole                      the bytes begin with the item of their kind and content, if its length is theirs
--     whole_fits                 a whole item has all its bytes
--     nothing_there_lem          no item begins at the end of a script
use Prim.Native.Nat.{ℕ, ◌+◌, ◌≤◌}
use mathlib.Core.Path.{◌≡◌, refl, sym, ap, ◌∙◌}
use mathlib.Core.Bool.{Bool, true, cond, ◌&&◌}
use mathlib.Core.List.{List}
use native.Mathlib.Omega.{arith}
use native.Mathlib.Nat.{div-add-mod'}
use borrow.Author.Tests.{eq-eqb, le-leb, leb-true, eqb-true}
use lib.Dec.{eqb, leb}
use lib.ListN.{length, get_or, drop, drop_of_length-le}
use Rattle.std.specs.Prelude.{Option, Some, None}
use Rattle.vdp_state.specs.Cell.{word_at}
use Rattle.vdp_state.proofs.Bools.{by_cases, both_left, both_right}
use Rattle.vdp_script.specs.declared.item.Item.{Item}
use Rattle.vdp_script.specs.declared.item.Item.TheVariants.{ControlWord, DataWord, DataRead, StatusRead, Run, Line, NewFrame}
use Rattle.vdp_script.specs.Item.{word, content_of, length_of, item_bytes, item_from, as_long, item_of}

pub word_back : (n : ℕ) → word_at (word n) 0 ≡ n
word_back n = div-add-mod' n 256

pub size : (i : Item) → length (item_bytes i) ≡ 2 + length_of i
size i = omega arith

content_few : (i : Item) → length (content_of i) ≤ 2
content_few (ControlWord w) = omega arith
content_few (DataWord w) = omega arith
content_few DataRead = omega arith
content_few StatusRead = omega arith
content_few (Run w) = omega arith
content_few (Line w) = omega arith
content_few NewFrame = omega arith

pub few : (i : Item) → (3 ≤ length (item_bytes i)) × (length (item_bytes i) ≤ 5)
few i = (omega arith, omega (arith, content_few i))

-- ---- what the bytes begin with
module _ (bytes : List ℕ) (found : Option Item) (e : found ≡ item_from (get_or bytes 2 0) (word_at bytes 3)) (i : Item) (f : found ≡ Some i) where
  pub whole : 2 + word_at bytes 0 ≡ length (item_bytes i) → length (item_bytes i) ≤ length bytes → Some i ≡ item_of bytes
  unfolding item_of
  whole h le =
      let t : eqb (word_at bytes 0) (length_of i) ≡ true = eq-eqb (word_at bytes 0) (length_of i) (omega (arith, size i)) in
      sym (sym (ap (as_long bytes) (sym f ∙ e)) ∙ simp (t, le-leb (length (item_bytes i)) (length bytes) le))

-- the test of the length and of the bytes that there are
abbrev fit : List ℕ → Item → Bool
fit bytes i = eqb (word_at bytes 0) (length_of i) && leb (length (item_bytes i)) (length bytes)

-- what is found whole passed the test, and is what the kind and the content are
pub record Fits (bytes : List ℕ) (i : Item) : Type 0 where
  pub said : word_at bytes 0 ≡ length_of i
  pub there : length (item_bytes i) ≤ length bytes
  pub kind : item_from (get_or bytes 2 0) (word_at bytes 3) ≡ Some i

fits_test : (bytes : List ℕ) (i : Item) → fit bytes i ≡ true → item_from (get_or bytes 2 0) (word_at bytes 3) ≡ Some i → Fits bytes i
fits_test bytes i t e =
    let said : Bool = eqb (word_at bytes 0) (length_of i) in
    let there : Bool = leb (length (item_bytes i)) (length bytes) in
    record {
      said = eqb-true (word_at bytes 0) (length_of i) (both_left said there t);
      there = leb-true (length (item_bytes i)) (length bytes) (both_right said there t);
      kind = e;
    }

-- of any item of that kind and content
fits_found : (bytes : List ℕ) (f : Option Item) (i : Item) → item_from (get_or bytes 2 0) (word_at bytes 3) ≡ f → as_long bytes f ≡ Some i → Fits bytes i
fits_found bytes None i e w = absurd (let z : ◌≡◌ {A = ℕ} 0 1 = cc in let bad : ⊥ = omega arith in bad)
fits_found bytes (Some j) i e w =
    by_cases (fit bytes j)
    (λ t.
    let same : Some j ≡ Some i = sym (ap (λ (b : Bool). cond b (Some j) None) t) ∙ w in
    let j≡i : j ≡ i = cc in
    fits_test bytes i (ap (fit bytes) (sym j≡i) ∙ t) (e ∙ same))
    (λ t.
    let none : None ≡ Some i = sym (ap (λ (b : Bool). cond b (Some j) None) t) ∙ w in
    absurd (let z : ◌≡◌ {A = ℕ} 0 1 = cc in let bad : ⊥ = omega arith in bad))

pub whole_fits : (bytes : List ℕ) (i : Item) → item_of bytes ≡ Some i → Fits bytes i
unfolding item_of
whole_fits bytes i w = fits_found bytes (item_from (get_or bytes 2 0) (word_at bytes 3)) i refl w

-- ---- a byte of a script
pub nothing_there_lem : (script : List ℕ) (at : ℕ) → length script ≤ at → None ≡ item_of (drop at script)
unfolding item_of
nothing_there_lem script at h = ap item_of (sym (drop_of_length-le script h))
