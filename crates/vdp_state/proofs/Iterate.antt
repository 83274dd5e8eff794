-- The laws of an iteration:
--     iterate_sum        of m + n turns
--     iterate_related    two iterations that keep in step
--     iterate_mapped     of a mapped state
--     iterate_turn       a loop that has made i of n turns
use Prim.Native.Nat.{ℕ, zero, suc, ◌+◌, ◌-◌, ◌<◌}
use mathlib.Core.Path.{◌≡◌, refl, ap, ◌∙◌}
use native.Mathlib.Omega.{arith}
use Rattle.vdp_state.specs.Cell.{iterate}

pub iterate_related : {A B : Type 0} (f : A → A) (g : B → B) (R : ℕ → A → B → Type 0) → ((n : ℕ) (x : A) (y : B) → R (suc n) x y → R n (f x) (g y)) → (n : ℕ) (x : A) (y : B) → R n x y → R 0 (iterate f n x) (iterate g n y)
iterate_related f g R next zero x y r = r
iterate_related f g R next (suc n) x y r = iterate_related f g R next n (f x) (g y) (next n x y r)

pub iterate_mapped : {A B : Type 0} (f : A → A) (g : B → B) (h : A → B) → ((x : A) → h (f x) ≡ g (h x)) → (n : ℕ) (x : A) → h (iterate f n x) ≡ iterate g n (h x)
iterate_mapped {A} {B} f g h e n x = iterate_related f g (λ (k : ℕ) (y : A) (z : B). h y ≡ z) (λ k y z r. e y ∙ ap g r) n x (h x) refl

module _ {A : Type 0} (f : A → A) where
  pub iterate_sum : (m n : ℕ) (x : A) → iterate f (m + n) x ≡ iterate f n (iterate f m x)
  iterate_sum zero n x = ap (λ (k : ℕ). iterate f k x) (let e : 0 + n ≡ n = omega arith in e)
  iterate_sum (suc m) n x = ap (λ (k : ℕ). iterate f k x) (let e : suc m + n ≡ suc (m + n) = omega arith in e) ∙ iterate_sum m n (f x)

  pub iterate_turn : (n i : ℕ) (x : A) → i < n → iterate f (n - i) x ≡ iterate f (n - (i + 1)) (f x)
  iterate_turn n i x h = ap (λ (k : ℕ). iterate f k x) (let e : n - i ≡ suc (n - (i + 1)) = omega arith in e)
