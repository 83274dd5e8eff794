-- The rule of a table: a test that passes at every entry and its place, by computation, passes at each.
use Prim.Native.Nat.{ℕ, zero, suc, ◌+◌, ◌<◌}
use mathlib.Core.Path.{◌≡◌, subst}
use mathlib.Core.Bool.{Bool, true, ◌&&◌}
use mathlib.Core.List.{List, [], ◌∷◌}
use native.Mathlib.Omega.{arith}
use lib.ListN.{length, get_or}
use Rattle.vdp_state.proofs.Bools.{both_left, both_right}

-- n numbers, counted from i
abbrev pub from : ℕ → ℕ → List ℕ
from zero i = []
from (suc n) i = i ∷ from n (i + 1)

-- the test passes at every entry, with the places counted from i
abbrev pub passes : (ℕ → ℕ → Bool) → ℕ → List ℕ → Bool
passes test i [] = true
passes test i (x ∷ xs) = test i x && passes test (i + 1) xs

entry_from : (test : ℕ → ℕ → Bool) (xs : List ℕ) (i : ℕ) → passes test i xs ≡ true → (k : ℕ) → k < length xs → test (i + k) (get_or xs k 0) ≡ true
entry_from test [] i e k h = absurd (let bad : ⊥ = omega arith in bad)
entry_from test (x ∷ xs) i e zero h =
    subst (λ (j : ℕ). test j x ≡ true) (let z : i ≡ i + 0 = omega arith in z) (both_left (test i x) (passes test (i + 1) xs) e)
entry_from test (x ∷ xs) i e (suc k) h =
    subst (λ (j : ℕ). test j (get_or xs k 0) ≡ true) (let z : i + 1 + k ≡ i + suc k = omega arith in z)
    (entry_from test xs (i + 1) (both_right (test i x) (passes test (i + 1) xs) e) k (omega arith))

pub entry : (test : ℕ → ℕ → Bool) (xs : List ℕ) → passes test 0 xs ≡ true → (k : ℕ) → k < length xs → test k (get_or xs k 0) ≡ true
entry test xs e k h = subst (λ (j : ℕ). test j (get_or xs k 0) ≡ true) (let z : 0 + k ≡ k = omega arith in z) (entry_from test xs 0 e k h)
