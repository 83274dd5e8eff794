-- The numbers a call may answer, their order, and what a refused call answers: definition, Numbers a call may answer.
use Rattle.std.specs.Prelude.{ℕ, ◌≡◌, Bool, false, cond, ◌&&◌, ◌||◌, List, [], ◌∷◌, eqb, Option, Some, None, Result, Ok, Err}
use Rattle.vdp_state.specs.declared.state.State.{State}
use Rattle.vdp_state.specs.declared.state.Step.{Step}
use Rattle.vdp_state.specs.declared.answer.Done.{Done}
use Rattle.vdp_state.specs.declared.answer.Refusal.{Refusal}
use Rattle.vdp_state.specs.declared.answer.Refusal.TheVariants.{BadState, BadBuffer, Busy, NotModelled, NoSuchPlace, TapeFull, SourceNotLent, BadRecord, NothingThere, BadScript, MissingRegister}
use Rattle.vdp_state.specs.Cell.{after, perform}
use Rattle.vdp_state.specs.State.{Chip}

-- "the first of 1, 2, 11, 12, 3, 10, 8, 5, 4, 7, 6 whose condition holds"
abbrev pub order : List ℕ
order = 1 ∷ 2 ∷ 11 ∷ 12 ∷ 3 ∷ 10 ∷ 8 ∷ 5 ∷ 4 ∷ 7 ∷ 6 ∷ []

-- a number of the table and whether its condition holds; a call lists those that have its arguments
pub record Test : Type 0 where
  pub number : ℕ
  pub holds : Bool

abbrev pub gives : ℕ → Bool → Test
gives n b = record { number = n; holds = b }

-- whether a condition of n is among the tests and holds
abbrev pub holds_at : ℕ → List Test → Bool
holds_at n [] = false
holds_at n (t ∷ ts) = (eqb n t.number && t.holds) || holds_at n ts

abbrev pub first_of : List ℕ → List Test → ℕ
first_of [] ts = 0
first_of (n ∷ ns) ts = cond (holds_at n ts) n (first_of ns ts)

-- the number that a call answers: the first in the order whose condition holds, and 0 where none does
abbrev pub first : List Test → ℕ
first ts = first_of order ts

-- the claim: "No call answers 9.", whatever its conditions
abbrev pub NineUnused : Type 0
NineUnused = (ts : List Test) → first ts ≡ 9 → ⊥

-- what a call answers: the number, the word read, units made or visits (else 0), and the state after the call
pub record Answer : Type 0 where
  pub number : ℕ
  pub result : ℕ
  pub state : State

-- "A refused call gives its number, the state [..] as it was given them, and 0 as its result."
abbrev pub refused : ℕ → State → Answer
refused n s = record { number = n; result = 0; state = s }

abbrev pub done : ℕ → State → Answer
done r s = record { number = 0; result = r; state = s }

-- the table of numbers
abbrev pub number : Refusal → ℕ
number BadState = 1
number BadBuffer = 2
number Busy = 3
number NotModelled = 4
number NoSuchPlace = 5
number TapeFull = 6
number SourceNotLent = 7
number BadRecord = 8
number NothingThere = 10
number BadScript = 11
number MissingRegister = 12

-- the refusal that has a number
abbrev pub refusal_of : ℕ → Option Refusal
refusal_of n =
    cond (eqb n 1) (Some BadState)
    (cond (eqb n 2) (Some BadBuffer)
    (cond (eqb n 3) (Some Busy)
    (cond (eqb n 4) (Some NotModelled)
    (cond (eqb n 5) (Some NoSuchPlace)
    (cond (eqb n 6) (Some TapeFull)
    (cond (eqb n 7) (Some SourceNotLent)
    (cond (eqb n 8) (Some BadRecord)
    (cond (eqb n 10) (Some NothingThere)
    (cond (eqb n 11) (Some BadScript)
    (cond (eqb n 12) (Some MissingRegister) None))))))))))

-- the number of a call that is done, or is refused with its reason
abbrev pub number_in : {A : Type 0} → Result A Refusal → ℕ
number_in (Ok a) = 0
number_in (Err refusal) = number refusal

-- what a call answers from a state, by what it gives
abbrev pub answer_of : State → Result Done Refusal → Answer
answer_of s (Ok d) = done d.result d.state
answer_of s (Err refusal) = refused (number refusal) s

-- a call that answers n: at 0 its one step is made and its result given, else it is refused and nothing changes
abbrev pub answered : ℕ → State → Step → ℕ → Answer
answered n s t r = cond (eqb n 0) (done r (after s t)) (refused n s)

-- what a call leaves that is lent VRAM: its answer and VRAM
pub record Outcome : Type 0 where
  pub answer : Answer
  pub vram : List ℕ

abbrev pub outcome : Answer → List ℕ → Outcome
outcome a m = record { answer = a; vram = m }

-- a call that answers n: at 0 it leaves its result and the chip as it made it, else it is refused and nothing changes
abbrev pub outcome_at : ℕ → ℕ → Chip → Chip → Outcome
outcome_at n result before made =
    cond (eqb n 0) (outcome (done result made.state) made.vram) (outcome (refused n before.state) before.vram)

abbrev pub served : ℕ → Chip → Step → ℕ → Outcome
served n c t result = outcome_at n result c (perform c t)
