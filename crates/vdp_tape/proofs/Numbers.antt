-- The number of a recorded call, from that of its plain form.
use Prim.Native.Nat.{ℕ, ◌-◌, ◌+◌, ◌<◌, ◌≤◌}
use mathlib.Core.Path.{◌≡◌, refl, sym, ap, ◌∙◌}
use mathlib.Core.Bool.{Bool, true, false, cond, not, ◌&&◌, ◌||◌}
use mathlib.Core.List.{List, [], ◌∷◌, ◌++◌}
use native.Mathlib.Omega.{arith}
use borrow.Author.Tests.{ltb-true, ltb-false, eqb-true, eqb-false, ne_eqb, not-true}
use lib.Dec.{eqb, ltb}
use lib.ListN.{length, take, drop}
use Rattle.vdp_state.specs.declared.answer.Refusal.{Refusal}
use Rattle.vdp_state.specs.declared.answer.Refusal.TheVariants.{BadState, BadBuffer, Busy, NotModelled, NoSuchPlace, TapeFull, SourceNotLent, BadRecord, NothingThere, BadScript, MissingRegister}
use Rattle.vdp_state.specs.Answer.{number, Test, gives, holds_at, first_of, order, first}
use Rattle.vdp_state.specs.Good.{all}
use Rattle.vdp_state.proofs.Bools.{by_cases, both_left, both_right, cond_zero}
use Rattle.vdp_tape.specs.Number.{recorded_number}
use Rattle.vdp_tape.specs.OneStep.{Numbered}

-- a refusal has a number above 0
pub above_zero : (x : Refusal) → eqb (number x) 0 ≡ false
above_zero BadState = refl
above_zero BadBuffer = refl
above_zero Busy = refl
above_zero NotModelled = refl
above_zero NoSuchPlace = refl
above_zero TapeFull = refl
above_zero SourceNotLent = refl
above_zero BadRecord = refl
above_zero NothingThere = refl
above_zero BadScript = refl
above_zero MissingRegister = refl

-- the same number, from that of the plain form: 2 comes right after 1 in the order, and 6 last
abbrev pub tape_check : ℕ → Bool → Bool → ℕ
tape_check plain over full = cond (eqb plain 1) 1 (cond over 2 (cond (eqb plain 0) (cond full 6 0) plain))

-- the numbers of the order after 1 and 2 and before 6
abbrev between : ℕ → Bool
between n = ltb 2 n && not (eqb n 6)

abbrev middle : List ℕ
middle = take (length order - 3) (drop 2 order)

module _ (ts : List Test) (over full : Bool) where
  record Later (q r : ℕ) : Type 0 where
    with_full : r ≡ cond (eqb q 0) (cond full 6 0) q
    not_one : eqb q 1 ≡ false

  last : (h f : Bool) → full ≡ f → Later (cond h 6 0) (cond (f || h) 6 0)
  last true true e = record { with_full = refl; not_one = refl }
  last true false e = record { with_full = refl; not_one = refl }
  last false true e = record { with_full = simp e; not_one = refl }
  last false false e = record { with_full = simp e; not_one = refl }

  later : (ns : List ℕ) → all between ns ≡ true → Later (first_of (ns ++ (6 ∷ [])) ts) (first_of (ns ++ (6 ∷ [])) (gives 2 over ∷ gives 6 full ∷ ts))
  later [] e = last (holds_at 6 ts) full refl
  later (n ∷ ns) e =
      let here : between n ≡ true = both_left (between n) (all between ns) e in
      let high : 2 < n = ltb-true 2 n (both_left (ltb 2 n) (not (eqb n 6)) here) in
      let is-not : (k : ℕ) → k ≤ 2 → eqb n k ≡ false = λ k h. ne_eqb n k (λ q. let bad : ⊥ = omega arith in bad) in
      let six : eqb n 6 ≡ false = not-true (eqb n 6) (both_right (ltb 2 n) (not (eqb n 6)) here) in
      let rest = later ns (both_right (between n) (all between ns) e) in
      by_cases (holds_at n ts)
      (λ h. simp (is-not 2 (omega arith), six, h) (record { with_full = simp (is-not 0 (omega arith)); not_one = is-not 1 (omega arith) }))
      (λ h. simp (is-not 2 (omega arith), six, h) rest)

  by_first : (h1 h2 o : Bool) (q r : ℕ) → Later q r → cond h1 1 (cond (o || h2) 2 r) ≡ tape_check (cond h1 1 (cond h2 2 q)) o full
  by_first true h2 o q r l = refl
  by_first false true true q r l = refl
  by_first false true false q r l = refl
  by_first false false true q r l = simp l.not_one
  by_first false false false q r l = l.with_full ∙ simp l.not_one

pub recorded_number_lem : (ts : List Test) (count room steps : ℕ) → recorded_number ts count room steps ≡ tape_check (first ts) (ltb room count) (ltb (room - count) steps)
recorded_number_lem ts count room steps =
    let over = ltb room count in
    let full = ltb (room - count) steps in
    by_first ts over full (holds_at 1 ts) (holds_at 2 ts) over _ _ (later ts over full middle refl)

-- an accepted call has room for its steps, and its plain form would be accepted
pub record Accepted (plain count room steps : ℕ) : Type 0 where
  pub plain_done : plain ≡ 0
  pub fits : count + steps ≤ room

pub accepted : (plain count room steps : ℕ) → tape_check plain (ltb room count) (ltb (room - count) steps) ≡ 0 → Accepted plain count room steps
accepted plain count room steps e =
    let one = cond_zero (eqb plain 1) 1 _ (omega arith) e in
    let two = cond_zero (ltb room count) 2 _ (omega arith) one.1 in
    by_cases (eqb plain 0)
    (λ z.
    let full = cond_zero (ltb (room - count) steps) 6 0 (omega arith) (simp z at two.1) in
    record { plain_done = eqb-true plain 0 z; fits = omega (arith, ltb-false room count two.0, ltb-false (room - count) steps full.0) })
    (λ z. absurd (eqb-false plain 0 z (simp z at two.1)))

pub numbered : {plain count room steps r : ℕ} → r ≡ tape_check plain (ltb room count) (ltb (room - count) steps) → Numbered plain count room steps r
numbered {plain} {count} {room} {steps} e =
    record {
      is = λ ts q. e ∙ ap (λ (n : ℕ). tape_check n (ltb room count) (ltb (room - count) steps)) q ∙ sym (recorded_number_lem ts count room steps);
      fits = λ z. (accepted plain count room steps (sym e ∙ z)).fits;
    }
