-- A number of a line in decimal digits, as the library writes it: `decimal_written`.
use Prim.Native.Nat.{ℕ, ◌+◌, ◌/◌, ◌%◌, ◌<◌, ◌≤◌}
use mathlib.Core.Path.{◌≡◌, ap, ◌∙◌}
use mathlib.Core.List.{List, [], ◌∷◌, ◌++◌, append_assoc}
use native.Mathlib.Omega.{arith}
use borrow.Author.Tests.{leb-true, leb-false, le-leb, lt-leb}
use lib.Dec.{leb}
use Rattle.std.specs.Fmt.{decimal as written}
use Rattle.std.proofs.lemmas.Fmt.{decimal_by_steps}
use Rattle.vdp_state.proofs.Bools.{by_cases}
use Rattle.script.specs.Text.{digit, decimal}

-- a digit is the same digit of a tenth of the number
digit_passed : (n tens unit : ℕ) → (tens ≤ n → unit ≤ n / 10) → (n < tens → n / 10 < unit) → n / tens % 10 ≡ n / 10 / unit % 10 → digit n tens ≡ digit (n / 10) unit
digit_passed n tens unit f g d =
    by_cases (leb tens n)
    (λ t. simp (t, le-leb unit (n / 10) (f (leb-true tens n t))) (ap (λ (x : ℕ). (48 + x) ∷ []) d))
    (λ t. simp (t, lt-leb unit (n / 10) (g (leb-false tens n t))))

Decimal : ℕ → List ℕ → Type 0
Decimal n ds = n < 100000 → ds ≡ decimal n

-- a number less than the unit has no such digit
no_digit : (n unit : ℕ) → n < unit → digit n unit ≡ []
no_digit n unit h = simp (lt-leb unit n h)

one_digit : (n : ℕ) → n < 10 → Decimal n ((48 + n) ∷ [])
unfolding decimal Decimal
one_digit n h small =
    rw (no_digit n 10000 (omega arith), no_digit n 1000 (omega arith), no_digit n 100 (omega arith), no_digit n 10 h) (ap (λ (x : ℕ). (48 + x) ∷ []) (let d : n ≡ n % 10 = omega arith in d))

more_digits : (n : ℕ) (ds : List ℕ) → 10 ≤ n → Decimal (n / 10) ds → Decimal n (ds ++ ((48 + n % 10) ∷ []))
unfolding decimal Decimal
more_digits n ds h e small =
    let tenth : ℕ = n / 10 in
    let one : digit n 10 ≡ (48 + tenth % 10) ∷ [] = simp (le-leb 10 n h) in
    let a : digit n 10000 ≡ digit tenth 1000 = digit_passed n 10000 1000 (λ l. omega arith) (λ l. omega arith) (omega arith) in
    let b : digit n 1000 ≡ digit tenth 100 = digit_passed n 1000 100 (λ l. omega arith) (λ l. omega arith) (omega arith) in
    let d : digit n 100 ≡ digit tenth 10 = digit_passed n 100 10 (λ l. omega arith) (λ l. omega arith) (omega arith) in
    let front : ds ≡ digit tenth 1000 ++ (digit tenth 100 ++ (digit tenth 10 ++ ((48 + tenth % 10) ∷ []))) =
    e (omega arith) ∙ ap (λ (x : List ℕ). x ++ (digit tenth 1000 ++ (digit tenth 100 ++ (digit tenth 10 ++ ((48 + tenth % 10) ∷ []))))) (no_digit tenth 10000 (omega arith)) in
    rw (front, a, b, d, one) (simp append_assoc)

pub decimal_written : (n : ℕ) → n < 65536 → written n ≡ decimal n
unfolding Decimal
decimal_written n h = decimal_by_steps Decimal one_digit more_digits n (omega arith) (omega arith)
