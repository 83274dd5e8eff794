-- What a call leaves, by the number that it answers.
use Prim.Native.Nat.{ℕ}
use mathlib.Core.Path.{◌≡◌, refl, sym, ap}
use borrow.Author.Tests.{eqb-true}
use lib.Dec.{eqb}
use Rattle.vdp_state.specs.Answer.{outcome_at}
use Rattle.vdp_state.specs.State.{Chip}
use Rattle.vdp_state.proofs.Bools.{by_cases}
use Rattle.vdp_dma.specs.InTurn.{left}

module _ (n result : ℕ) (before made : Chip) where
  pub number_of : (outcome_at n result before made).answer.number ≡ n
  number_of = by_cases (eqb n 0) (λ e. simp e (sym (eqb-true n 0 e))) (λ e. simp e)

  -- done, it leaves what it made and gives its result
  pub done_left : n ≡ 0 → left (outcome_at n result before made) ≡ made
  done_left e = ap (λ (r : ℕ). left (outcome_at r result before made)) e

  pub done_result : n ≡ 0 → (outcome_at n result before made).answer.result ≡ result
  done_result e = ap (λ (r : ℕ). (outcome_at r result before made).answer.result) e

-- where it makes nothing, it leaves what it found, refused or not
pub nothing_made : (n : ℕ) (c : Chip) → (left (outcome_at n 0 c c) ≡ c) × ((outcome_at n 0 c c).answer.result ≡ 0)
nothing_made n c = by_cases (eqb n 0) (λ e. rw e (refl, refl)) (λ e. rw e (refl, refl))
