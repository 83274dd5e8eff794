-- Laws of lists whose columns are stored one after the other (specs/Painted.antt), and of tests over columns.
use Prim.Native.Nat.{ℕ, zero, suc, ◌+◌, ◌-◌, ◌<◌, ◌≤◌}
use mathlib.Core.Path.{◌≡◌, refl, sym, ap, ap₂, subst, ◌∙◌}
use mathlib.Core.Bool.{Bool, true, false, ◌||◌}
use mathlib.Core.List.{List, [], ◌∷◌, ◌++◌, append_assoc}
use native.Mathlib.Nat.{add_assoc, zero-add, add-zero, add-suc}
use native.Mathlib.Omega.{arith}
use borrow.Author.Tests.{eqb-true, eqb-false, leb-true, leb-false, ltb-true, ltb-false}
use Rattle.std.proofs.Math.Bool.{or_assoc, or-false}
use lib.Dec.{eqb, leb, ltb}
use lib.ListN.{length, get_or, set, drop, length-set, length-append}
use lib.Seq.{get_or-set_same, get_or-set_other, drop-cons, set_at, ext_get_or}
use Rattle.vdp_draw.specs.Painted.{painted, any_from}
use Rattle.vdp_draw.specs.Tabulate.{tabulate, any_below}

module _ (f : ℕ → ℕ → ℕ) (from : ℕ) (l : List ℕ) where
  pub painted_length : (n : ℕ) → length (painted f from n l) ≡ length l
  painted_length zero = refl
  painted_length (suc n) = length-set (painted f from n l) (from + n) _ ∙ painted_length n

  -- a column that no store has reached is as it was
  pub painted_before : (n y : ℕ) → y < from → get_or (painted f from n l) y 0 ≡ get_or l y 0
  painted_before zero y h = refl
  painted_before (suc n) y h = get_or-set_other (painted f from n l) (from + n) y _ 0 (λ e. let bad : ⊥ = omega arith in bad) ∙ painted_before n y h

  pub painted_past : (n y : ℕ) → from + n ≤ y → get_or (painted f from n l) y 0 ≡ get_or l y 0
  painted_past zero y h = refl
  painted_past (suc n) y h =
      get_or-set_other (painted f from n l) (from + n) y _ 0 (λ e. let bad : ⊥ = omega arith in bad) ∙ painted_past n y (omega arith)

  pub painted_inside : (n y : ℕ) → from ≤ y → y < from + n → y < length l → get_or (painted f from n l) y 0 ≡ f y (get_or l y 0)
  painted_inside zero y a b h = let bad : ⊥ = omega arith in absurd bad
  painted_inside (suc n) y a b h = by_last (λ below. painted_inside n y a below h) (eqb y (from + n)) refl
    where
      by_last : (y < from + n → get_or (painted f from n l) y 0 ≡ f y (get_or l y 0)) → (t : Bool) → eqb y (from + n) ≡ t
          → get_or (painted f from (suc n) l) y 0 ≡ f y (get_or l y 0)
      by_last earlier true e =
          let same : y ≡ from + n = eqb-true y (from + n) e in
          subst (λ (k : ℕ). get_or (set (painted f from n l) k (f k (get_or l k 0))) y 0 ≡ f y (get_or l y 0)) same
          (get_or-set_same (painted f from n l) y (f y (get_or l y 0)) 0 (omega (arith, painted_length n)))
      by_last earlier false e =
          let other : y ≡ from + n → ⊥ = eqb-false y (from + n) e in
          get_or-set_other (painted f from n l) (from + n) y _ 0 other ∙ earlier (omega arith)

  -- one column more
  pub painted_turn : (x : ℕ) (l' : List ℕ) → from ≤ x → l' ≡ painted f from (x - from) l → set l' x (f x (get_or l x 0)) ≡ painted f from (x + 1 - from) l
  painted_turn x l' h e =
      let at : from + (x - from) ≡ x = omega arith in
      let more : x + 1 - from ≡ suc (x - from) = omega arith in
      ap (λ (m : List ℕ). set m x (f x (get_or l x 0))) e
      ∙ ap (λ (k : ℕ). set (painted f from (x - from) l) k (f k (get_or l k 0))) (sym at)
      ∙ ap (λ (k : ℕ). painted f from k l) (sym more)

  -- the columns that follow, painted on
  pub painted_join : (n m : ℕ) → painted f (from + n) m (painted f from n l) ≡ painted f from (n + m) l
  painted_join n zero = ap (λ (k : ℕ). painted f from k l) (sym (add-zero n))
  painted_join n (suc m) =
      let at : from + n + m ≡ from + (n + m) = add_assoc from n m in
      ap₂ (λ (k v : ℕ). set (painted f (from + n) m (painted f from n l)) k (f k v)) at (painted_past n (from + n + m) (omega arith) ∙ ap (λ (k : ℕ). get_or l k 0) at)
      ∙ ap (λ (r : List ℕ). set r (from + (n + m)) (f (from + (n + m)) (get_or l (from + (n + m)) 0))) (painted_join n m)
      ∙ ap (λ (k : ℕ). painted f from k l) (sym (add-suc n m))

  -- only what is stored in the columns matters
  pub painted_same : (g : ℕ → ℕ → ℕ) (n : ℕ) → ((y : ℕ) → from ≤ y → y < from + n → f y (get_or l y 0) ≡ g y (get_or l y 0)) → painted f from n l ≡ painted g from n l
  painted_same g zero h = refl
  painted_same g (suc n) h =
      ap₂ (λ (r : List ℕ) (v : ℕ). set r (from + n) v) (painted_same g n (λ y a b. h y a (omega arith))) (h (from + n) (omega arith) (omega arith))

-- what paints nowhere else paints all columns where it paints those
module _ (f : ℕ → ℕ → ℕ) (from to n : ℕ) (l : List ℕ) (h : to ≤ n) (fits : n ≤ length l) (outside : (y : ℕ) → y < n → ((y < from → f y (get_or l y 0) ≡ get_or l y 0) × (to ≤ y → f y (get_or l y 0) ≡ get_or l y 0))) where
  within_at : (y : ℕ) → y < length l → (a : Bool) → ltb y n ≡ a → (b : Bool) → ltb y from ≡ b → (c : Bool) → ltb y to ≡ c → get_or (painted f from (to - from) l) y 0 ≡ get_or (painted f 0 n l) y 0
  within_at y k false p true q c r =
      painted_before f from l (to - from) y (ltb-true y from q) ∙ sym (painted_past f 0 l n y (omega (arith, ltb-false y n p)))
  within_at y k false p false q c r =
      painted_past f from l (to - from) y (omega (arith, ltb-false y n p, ltb-false y from q)) ∙ sym (painted_past f 0 l n y (omega (arith, ltb-false y n p)))
  within_at y k true p true q c r =
      let below : y < n = ltb-true y n p in
      painted_before f from l (to - from) y (ltb-true y from q) ∙ sym (painted_inside f 0 l n y (omega arith) (omega arith) k ∙ (outside y below).0 (ltb-true y from q))
  within_at y k true p false q true r =
      let below : y < n = ltb-true y n p in
      painted_inside f from l (to - from) y (ltb-false y from q) (omega (arith, ltb-false y from q, ltb-true y to r)) k ∙ sym (painted_inside f 0 l n y (omega arith) (omega arith) k)
  within_at y k true p false q false r =
      let below : y < n = ltb-true y n p in
      painted_past f from l (to - from) y (omega (arith, ltb-false y from q, ltb-false y to r)) ∙ sym (painted_inside f 0 l n y (omega arith) (omega arith) k ∙ (outside y below).1 (ltb-false y to r))

  pub painted_within : painted f from (to - from) l ≡ painted f 0 n l
  painted_within =
      ext_get_or 0 (painted f from (to - from) l) (painted f 0 n l) (painted_length f from l (to - from) ∙ sym (painted_length f 0 l n))
      (λ y k. within_at y (omega (arith, painted_length f from l (to - from))) (ltb y n) refl (ltb y from) refl (ltb y to) refl)

pub tabulate_length : (f : ℕ → ℕ) (n : ℕ) → length (tabulate f n) ≡ n
tabulate_length f zero = refl
tabulate_length f (suc n) = length-append (tabulate f n) (f n ∷ []) ∙ let e = tabulate_length f n in omega arith

-- all columns below n, painted whatever they held
pub painted_all : (f : ℕ → ℕ) (n : ℕ) (l : List ℕ) → n ≤ length l → painted (λ x _. f x) 0 n l ≡ tabulate f n ++ drop n l
painted_all f zero l h = refl
painted_all f (suc n) l h =
    ap₂ (λ (r : List ℕ) (k : ℕ). set r k (f k)) (painted_all f n l (omega arith)) (zero-add n)
    ∙ ap (λ (r : List ℕ). set (tabulate f n ++ r) n (f n)) (drop-cons l n 0 (omega arith))
    ∙ set_at (tabulate f n) (get_or l n 0) (drop (suc n) l) (f n) n (tabulate_length f n)
    ∙ sym (append_assoc (tabulate f n) (f n ∷ []) (drop (suc n) l))

-- ---- tests over columns
or_swap : (a b c d : Bool) → ((a || b) || (c || d)) ≡ ((a || c) || (b || d))
or_swap true b c d = refl
or_swap false true true d = refl
or_swap false true false d = refl
or_swap false false c d = refl

module _ (p : ℕ → Bool) where
  pub any_turn : (from x : ℕ) → from ≤ x → (any_from p from (x - from) || p x) ≡ any_from p from (x + 1 - from)
  any_turn from x h =
      let at : from + (x - from) ≡ x = omega arith in
      let more : x + 1 - from ≡ suc (x - from) = omega arith in
      ap (λ (k : ℕ). any_from p from (x - from) || p k) (sym at) ∙ ap (any_from p from) (sym more)

  any_add : (a b : ℕ) → any_below p (a + b) ≡ (any_below p a || any_from p a b)
  any_add a zero = ap (any_below p) (add-zero a) ∙ sym (or-false (any_below p a))
  any_add a (suc b) =
      ap (any_below p) (add-suc a b) ∙ ap (λ (t : Bool). t || p (a + b)) (any_add a b) ∙ or_assoc (any_below p a) (any_from p a b) (p (a + b))

  pub none_below : (n : ℕ) → ((y : ℕ) → y < n → p y ≡ false) → any_below p n ≡ false
  none_below zero h = refl
  none_below (suc n) h = ap₂ ◌||◌ (none_below n (λ y a. h y (omega arith))) (h n (omega arith))

  none_from : (from n : ℕ) → ((y : ℕ) → from ≤ y → y < from + n → p y ≡ false) → any_from p from n ≡ false
  none_from from zero h = refl
  none_from from (suc n) h = ap₂ ◌||◌ (none_from from n (λ y a b. h y a (omega arith))) (h (from + n) (omega arith) (omega arith))

  -- a test that passes nowhere else is asked of all columns where it is asked of those
  pub any_within : (from to n : ℕ) → to ≤ n → ((y : ℕ) → y < n → ((y < from → p y ≡ false) × (to ≤ y → p y ≡ false))) → any_from p from (to - from) ≡ any_below p n
  any_within from to n h outside = by_order (leb from to) refl
    where
      first : (y : ℕ) → y < n → y < from → p y ≡ false
      first y a b = (outside y a).0 b

      last : (y : ℕ) → y < n → to ≤ y → p y ≡ false
      last y a b = (outside y a).1 b

      crossed : to < from → (y : ℕ) → y < n → (t : Bool) → ltb y from ≡ t → p y ≡ false
      crossed k y a true e = first y a (ltb-true y from e)
      crossed k y a false e = let b : from ≤ y = ltb-false y from e in last y a (omega arith)

      by_order : (t : Bool) → leb from to ≡ t → any_from p from (to - from) ≡ any_below p n
      by_order true e =
          let k : from ≤ to = leb-true from to e in
          let whole : to + (n - to) ≡ n = omega arith in
          let inner : from + (to - from) ≡ to = omega arith in
          sym
          (ap (any_below p) (sym whole) ∙ any_add to (n - to)
          ∙ ap₂ ◌||◌ (ap (any_below p) (sym inner) ∙ any_add from (to - from) ∙ ap (λ (t : Bool). t || any_from p from (to - from)) (none_below from (λ y a. first y (omega arith) a)))
          (none_from to (n - to) (λ y a b. last y (omega arith) a))
          ∙ or-false (any_from p from (to - from)))
      by_order false e =
          let k : to < from = leb-false from to e in
          let none : to - from ≡ 0 = omega arith in
          ap (any_from p from) none ∙ sym (none_below n (λ y a. crossed k y a (ltb y from) refl))

pub any_same : (p q : ℕ → Bool) (n : ℕ) → ((y : ℕ) → y < n → p y ≡ q y) → any_below p n ≡ any_below q n
any_same p q zero h = refl
any_same p q (suc n) h = ap₂ ◌||◌ (any_same p q n (λ y a. h y (omega arith))) (h n (omega arith))

pub any_either : (p q : ℕ → Bool) (n : ℕ) → any_below (λ x. p x || q x) n ≡ (any_below p n || any_below q n)
any_either p q zero = refl
any_either p q (suc n) = ap (λ (t : Bool). t || (p n || q n)) (any_either p q n) ∙ or_swap (any_below p n) (any_below q n) (p n) (q n)
