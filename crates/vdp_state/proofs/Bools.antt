-- Laws of tests:
--     by_cases, by_cond               a claim by cases on a test
--     both, both_left, both_right     of `&&`; and_false
--     either, none, or_true           of `||`
--     equal_true, equal_false         of `Bool.beq`
--     cond_zero                       a number that was not picked
use Prim.Native.Nat.{ℕ, ◌<◌}
use mathlib.Core.Path.{◌≡◌, refl, sym}
use mathlib.Core.Bool.{Bool, true, false, cond, ◌&&◌, ◌||◌, beq, false≢true, true≢false}
use native.Mathlib.Omega.{arith}

pub by_cases : {P : Type 0} (b : Bool) → (b ≡ true → P) → (b ≡ false → P) → P
by_cases true f g = f refl
by_cases false f g = g refl

-- what holds of both arms holds of the one that a test picks
pub by_cond : {A : Type 0} (P : A → Type 0) (b : Bool) (x y : A) → (b ≡ true → P x) → (b ≡ false → P y) → P (cond b x y)
by_cond P true x y f g = f refl
by_cond P false x y f g = g refl

pub both_left : (a b : Bool) → a && b ≡ true → a ≡ true
both_left true b e = refl
both_left false b e = e

pub both_right : (a b : Bool) → a && b ≡ true → b ≡ true
both_right true b e = e
both_right false b e = absurd (false≢true e)

pub both : {a b : Bool} → a ≡ true → b ≡ true → a && b ≡ true
both {a} {b} p q = simp (p, q)

pub and_false : (a : Bool) → (a && false) ≡ false
and_false true = refl
and_false false = refl

pub or_true : (a : Bool) → (a || true) ≡ true
or_true true = refl
or_true false = refl

pub either : (a b : Bool) → (a || b) ≡ true → (a ≡ false) → b ≡ true
either true b e h = absurd (true≢false h)
either false b e h = e

pub none : (a b : Bool) → (a || b) ≡ false → (a ≡ false) × (b ≡ false)
none true b e = absurd (true≢false e)
none false b e = (refl, e)

pub equal_true : (a : Bool) → beq a true ≡ true → a ≡ true
equal_true true e = refl
equal_true false e = e

pub equal_false : (a : Bool) → beq a false ≡ true → a ≡ false
equal_false true e = sym e
equal_false false e = refl

pub cond_zero : (b : Bool) (n r : ℕ) → 0 < n → cond b n r ≡ 0 → (b ≡ false) × (r ≡ 0)
cond_zero true n r h e = absurd (let bad : ⊥ = omega arith in bad)
cond_zero false n r h e = (refl, e)
