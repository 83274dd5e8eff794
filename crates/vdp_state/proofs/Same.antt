-- Lists that are the same: they are equal, and a list is the same as itself.
use Prim.Native.Nat.{ℕ}
use mathlib.Core.Path.{◌≡◌, refl, ap₂}
use mathlib.Core.Bool.{true, false≢true}
use mathlib.Core.List.{List, [], ◌∷◌}
use borrow.Author.Tests.{eq-eqb, eqb-true}
use lib.Dec.{eqb}
use Rattle.vdp_state.specs.Same.{same}
use Rattle.vdp_state.proofs.Bools.{both_left, both_right}

pub same_equal : (a b : List ℕ) → same a b ≡ true → a ≡ b
same_equal [] [] e = refl
same_equal [] (y ∷ b) e = absurd (false≢true e)
same_equal (x ∷ a) [] e = absurd (false≢true e)
same_equal (x ∷ a) (y ∷ b) e = ap₂ (λ (u : ℕ) (v : List ℕ). u ∷ v) (eqb-true x y (both_left (eqb x y) (same a b) e)) (same_equal a b (both_right (eqb x y) (same a b) e))

pub same_self : (a : List ℕ) → same a a ≡ true
same_self [] = refl
same_self (x ∷ a) = simp (eq-eqb x x refl) (same_self a)
