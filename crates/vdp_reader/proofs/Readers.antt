-- Laws of readers:
--     kept_goes_on         a byte that is kept leaves a reader that takes bytes
--     stopped_stays        a stopped reader takes no byte
--     stopped_answers      and answers its number
--     call_answers         after a call a reader answers the call's number
--     refusal_may          a call may answer the number of a refusal
--     answers_zero         a reader in its ranges answers 0 if no refusal has its number
use Prim.Native.Nat.{ℕ}
use mathlib.Core.Path.{◌≡◌, refl, sym, ap, ◌∙◌}
use mathlib.Core.Bool.{Bool, true, false, cond, not, ◌&&◌, ◌||◌}
use native.Mathlib.Omega.{arith}
use borrow.Author.Tests.{eqb-true}
use lib.Dec.{eqb, leb}
use Rattle.std.specs.Prelude.{Option, Some, None}
use Rattle.vdp_state.specs.declared.answer.Refusal.{Refusal}
use Rattle.vdp_state.specs.declared.answer.Refusal.TheVariants.{BadState, BadBuffer, Busy, NotModelled, NoSuchPlace, TapeFull, SourceNotLent, BadRecord, NothingThere, BadScript, MissingRegister}
use Rattle.vdp_state.specs.Answer.{number, refusal_of}
use Rattle.std.proofs.lemmas.Bool.Decides.{nat_tests}
use Rattle.vdp_state.proofs.Bools.{by_cases, by_cond, both_left, both_right, and_false}
use Rattle.vdp_script.specs.declared.item.Item.{Item}
use Rattle.vdp_script.specs.Form.{version}
use Rattle.vdp_script.specs.Item.{item_from}
use Rattle.vdp_reader.specs.declared.reader.Reader.{Reader}
use Rattle.vdp_reader.specs.declared.take.Taking.{Taking}
use Rattle.vdp_reader.specs.declared.take.Taking.TheVariants.{Kept, Whole, Faulty}
use Rattle.vdp_reader.specs.Deliver.{after_call}
use Rattle.vdp_reader.specs.Reader.{has_content, may_answer, between_items, stopped, in_range, goes_on, answers}
use Rattle.vdp_reader.specs.Take.{whole_if, takes}

-- what is kept, if anything is, takes bytes
abbrev Onward : Taking → Type 0
Onward (Kept r) = goes_on r ≡ true
Onward (Whole i) = Unit {0}
Onward Faulty = Unit {0}

onward_found : (f : Option Item) → Onward (whole_if f)
onward_found None = tt
onward_found (Some i) = tt

-- a kind is kept in stage 5 and handed on to stage 6
with_kind : (stage kind upper number : ℕ) → stage ≡ 5 → in_range (record { stage = stage; kind = kind; upper = upper; number = number }) ≡ true → has_content kind ≡ true
unfolding in_range
with_kind stage kind upper number s e =
    let five : in_range (record { stage = 5; kind = kind; upper = upper; number = number }) ≡ true =
    sym (ap (λ (n : ℕ). in_range (record { stage = n; kind = kind; upper = upper; number = number })) s) ∙ e in
    content (has_content kind) (eqb upper 0) (eqb number 0) five
  where
    content : (k u n : Bool) → (((k && u) && n) || false || false) ≡ true → k ≡ true
    content true u n e = refl
    content false u n e = e

onward : (r : Reader) (b : ℕ) → goes_on r ≡ true → Onward (takes r b)
unfolding takes in_range
onward r b g =
    by_cond Onward (eqb r.stage 0) _ _ (λ s. by_cond Onward (eqb b version) _ _ (λ e. refl) (λ e. tt))
    (λ s0. by_cond Onward (eqb r.stage 1) _ _ (λ s. by_cond Onward (eqb b 0) _ _ (λ e. refl) (λ e. tt))
    (λ s1. by_cond Onward (eqb r.stage 2) _ _ (λ s. by_cond Onward (eqb b 1) _ _ (λ e. refl) (λ d. by_cond Onward (eqb b 3) _ _ (λ e. refl) (λ e. tt)))
    (λ s2. by_cond Onward (eqb r.stage 3) _ _
    (λ s. by_cond Onward (eqb b 3) _ _ (λ e. tt) (λ d. by_cond Onward (eqb b 4) _ _ (λ e. tt) (λ f. by_cond Onward (eqb b 7) _ _ (λ e. tt) (λ e. tt))))
    (λ s3. by_cond Onward (eqb r.stage 4) _ _ (λ s. by_cond Onward (has_content b) _ _ (λ e. simp e) (λ e. tt))
    (λ s4. by_cond Onward (eqb r.stage 5) _ _
    (λ s. simp (with_kind r.stage r.kind r.upper r.number (eqb-true r.stage 5 s) (both_left (in_range r) (not (eqb r.stage 7)) g)))
    (λ s5. onward_found (item_from r.kind _)))))))

pub kept_goes_on : (r : Reader) (b : ℕ) (kept : Reader) → goes_on r ≡ true → takes r b ≡ Kept kept → goes_on kept ≡ true
kept_goes_on r b kept g e = rw e at (onward r b g)

pub stopped_stays : (n : ℕ) → goes_on (stopped n) ≡ false
stopped_stays n = and_false (in_range (stopped n))

pub stopped_answers : (n : ℕ) → may_answer n ≡ true → answers (stopped n) ≡ n
unfolding in_range
stopped_answers n m = ap (λ (x : Bool). cond x n 1) m

pub call_answers : (n : ℕ) → may_answer n ≡ true → answers (after_call n) ≡ n
unfolding in_range
call_answers n m =
    by_cond (λ (r : Reader). answers r ≡ n) (eqb n 0) between_items (stopped n) (λ e. sym (eqb-true n 0 e)) (λ e. stopped_answers n m)

-- ---- the numbers of refusals
pub refusal_may : (refusal : Refusal) → may_answer (number refusal) ≡ true
refusal_may BadState = refl
refusal_may BadBuffer = refl
refusal_may Busy = refl
refusal_may NotModelled = refl
refusal_may NoSuchPlace = refl
refusal_may TapeFull = refl
refusal_may SourceNotLent = refl
refusal_may BadRecord = refl
refusal_may NothingThere = refl
refusal_may BadScript = refl
refusal_may MissingRegister = refl

going_on : (a b c d may : Bool) → (((a && false) || (b && false)) || (c && false) || (d && may)) ≡ true → may ≡ true
going_on a b c d may e = both_right d may (simp and_false at e)

in_range_may : (r : Reader) → in_range r ≡ true → may_answer r.number ≡ true
unfolding in_range
in_range_may r e =
    let bare : Bool = eqb r.kind 0 && eqb r.upper 0 in
    by_cases (eqb r.number 0) (λ t. rw (eqb-true r.number 0 t) refl)
    (λ f. going_on (leb r.stage 4 && bare) (eqb r.stage 5 && has_content r.kind && eqb r.upper 0) (eqb r.stage 6 && has_content r.kind) (eqb r.stage 7 && bare) (may_answer r.number)
    (simp f at e))

-- a number that a call may answer and that no refusal has is 0
unrefused : (n : ℕ) → may_answer n ≡ true → refusal_of n ≡ None → 0 ≡ n
unrefused n m none = grind (arith, nat_tests)

pub answers_zero : (r : Reader) → in_range r ≡ true → refusal_of r.number ≡ None → 0 ≡ answers r
answers_zero r e none = unrefused r.number (in_range_may r e) none ∙ sym (ap (λ (x : Bool). cond x r.number 1) e)
