-- A run may be cut into budgets, proved: a run and then one with another budget are a run with the sum of the two.
use Prim.Native.Nat.{ℕ, ◌+◌, ◌-◌, ◌<◌, ◌≤◌, min}
use mathlib.Core.Path.{◌≡◌, sym, ap, ap₂, subst, ◌∙◌}
use mathlib.Core.Bool.{Bool, true, false, not}
use mathlib.Core.List.{List, [], ◌∷◌}
use native.Mathlib.Omega.{arith}
use borrow.Author.Tests.{eqb-true, eq-eqb, le-leb, lt-leb, leb-true, leb-false, not-false}
use lib.Dec.{eqb, leb}
use Rattle.vdp_state.specs.declared.state.Dma.{Dma}
use Rattle.vdp_state.specs.Answer.{first, gives, Outcome, outcome_at}
use Rattle.vdp_state.specs.Cell.{iterate, made}
use Rattle.vdp_state.specs.Good.{good}
use Rattle.vdp_state.specs.State.{Chip}
use Rattle.vdp_state.proofs.Bools.{by_cases}
use Rattle.vdp_state.proofs.Facts.{state_dma, some_remaining}
use Rattle.vdp_state.proofs.Iterate.{iterate_sum}
use Rattle.vdp_ports.specs.Refusal.{bad_state}
use Rattle.vdp_dma.specs.Budgets.{run_of, sum, CutIntoBudgets}
use Rattle.vdp_dma.specs.InTurn.{left, in_turn, NoneRefused, results_of}
use Rattle.vdp_dma.specs.Run.{run, ran, units_made, bad_memory, not_lent, run_tests}
use Rattle.vdp_dma.specs.Source.{all_lent}
use Rattle.vdp_dma.specs.Unit.{unit}
use Rattle.vdp_dma.proofs.Accepted.{number_is, Done, done}
use Rattle.vdp_dma.proofs.InTurn.{nothing_made}
use Rattle.vdp_dma.proofs.Remaining.{dma, dma_next, ran_dma, remaining_after, kind_after, idle_exactly, lent_sum}

-- ---- two runs
module _ (c : Chip) (cartridge ram : List ℕ) (a b : ℕ) (one : Done c cartridge ram a) (two : Done (ran cartridge ram (units_made c.state a) c) cartridge ram b) where
  abbrev m : ℕ
  m = units_made c.state a

  abbrev between : Chip
  between = ran cartridge ram m c

  abbrev n : ℕ
  n = units_made between.state b

  left_over : (dma between).remaining ≡ (dma c).remaining - m
  left_over = ap (λ (d : Dma). d.remaining) (ran_dma cartridge ram m c) ∙ remaining_after m (dma c)

  units_sum : units_made c.state (a + b) ≡ m + n
  units_sum = omega (arith, left_over)

  -- the words of the second run are lent, if it moves any
  second_lent : (dma c).kind ≡ 2 → 0 < n → all_lent cartridge (iterate dma_next m (dma c)).source n ≡ true
  second_lent k some =
      let d = ran_dma cartridge ram m c in
      let kind : (dma between).kind ≡ 2 = ap (λ (x : Dma). x.kind) d ∙ kind_after m (dma c) (omega (arith, left_over)) ∙ k in
      subst (λ (x : Dma). all_lent cartridge x.source n ≡ true) d (not-false _ (simp (eq-eqb (dma between).kind 2 kind) at two.accepted.lent))

  both_lent : (not_lent c.state cartridge (a + b)).holds ≡ false
  both_lent =
      by_cases (eqb (dma c).kind 2)
      (λ e.
      let k : (dma c).kind ≡ 2 = eqb-true (dma c).kind 2 e in
      let here : all_lent cartridge (dma c).source m ≡ true = not-false _ (simp e at one.accepted.lent) in
      simp e (ap not (lent_sum cartridge m n (units_made c.state (a + b)) (dma c) units_sum (omega arith) k here (second_lent k))))
      (λ e. simp e)

  sum_number : first (run_tests c cartridge ram (a + b)) ≡ 0
  sum_number =
      ap (λ (lacks : Bool). first (bad_state c.state ∷ bad_memory c.vram cartridge ram ∷ gives 7 lacks ∷ [])) (both_lent ∙ sym one.accepted.lent)
      ∙ one.number

  pub sum_done : Done c cartridge ram (a + b)
  sum_done = done c cartridge ram (a + b) sum_number

  pub sum_chip : left (run_of cartridge ram between b) ≡ left (run c cartridge ram (a + b))
  sum_chip =
      two.chip ∙ sym (iterate_sum (made (unit cartridge ram)) m n c)
      ∙ ap (λ (j : ℕ). ran cartridge ram j c) (sym units_sum) ∙ sym sum_done.chip

  pub sum_units : (run c cartridge ram a).answer.result + (run between cartridge ram b).answer.result ≡ (run c cartridge ram (a + b)).answer.result
  sum_units = ap₂ (λ (x y : ℕ). x + y) one.units two.units ∙ sym units_sum ∙ sym sum_done.units

-- ---- a first run and a list of others
module _ (c : Chip) (cartridge ram : List ℕ) where
  abbrev call : Chip → ℕ → Outcome
  call = run_of cartridge ram

  -- runs after one with the budget a, taken together with it
  record Joined (a : ℕ) (budgets : List ℕ) : Type 0 where
    pub chip : in_turn call budgets (left (call c a)) ≡ left (call c (a + sum budgets))
    pub units : (call c a).answer.result + results_of call budgets (left (call c a)) ≡ (call c (a + sum budgets)).answer.result
    pub number : first (run_tests c cartridge ram (a + sum budgets)) ≡ 0

  joined : (budgets : List ℕ) (a : ℕ) → first (run_tests c cartridge ram a) ≡ 0 → NoneRefused call budgets (left (call c a)) → Joined a budgets
  joined [] a z none =
      let e : a ≡ a + 0 = omega arith in
      record {
        chip = ap (λ (j : ℕ). left (call c j)) e;
        units = (let u : (call c a).answer.result + 0 ≡ (call c a).answer.result = omega arith in u) ∙ ap (λ (j : ℕ). (call c j).answer.result) e;
        number = subst (λ (j : ℕ). first (run_tests c cartridge ram j) ≡ 0) e z;
      }
  joined (b ∷ budgets) a z none =
      let one : Done c cartridge ram a = done c cartridge ram a z in
      let x : Chip = ran cartridge ram (units_made c.state a) c in
      let none' : NoneRefused call (b ∷ budgets) x = subst (NoneRefused call (b ∷ budgets)) one.chip none in
      let two : Done x cartridge ram b = done x cartridge ram b (sym (number_is x cartridge ram b) ∙ none'.0) in
      let chip : left (call x b) ≡ left (call c (a + b)) = sum_chip c cartridge ram a b one two in
      let ih : Joined (a + b) budgets = joined budgets (a + b) (sum_done c cartridge ram a b one two).number (subst (NoneRefused call budgets) chip none'.1) in
      let e : a + b + sum budgets ≡ a + sum (b ∷ budgets) = omega arith in
      record {
        chip = ap (in_turn call (b ∷ budgets)) one.chip ∙ ap (in_turn call budgets) chip ∙ ih.chip ∙ ap (λ (j : ℕ). left (call c j)) e;
        units =
            ap (λ (y : Chip). (call c a).answer.result + results_of call (b ∷ budgets) y) one.chip
            ∙ ap (λ (y : Chip). (call c a).answer.result + ((call x b).answer.result + results_of call budgets y)) chip
            ∙ regroup (call c a).answer.result (call x b).answer.result (results_of call budgets (left (call c (a + b))))
            ∙ ap (λ (j : ℕ). j + results_of call budgets (left (call c (a + b)))) (sum_units c cartridge ram a b one two)
            ∙ ih.units ∙ ap (λ (j : ℕ). (call c j).answer.result) e;
        number = subst (λ (j : ℕ). first (run_tests c cartridge ram j) ≡ 0) e ih.number;
      }
    where
      regroup : (i j k : ℕ) → i + (j + k) ≡ i + j + k
      regroup i j k = omega arith

  -- a run with the budget 0 leaves what it found, refused or not
  no_units : units_made c.state 0 ≡ 0
  no_units = omega arith

  run_of_none : (left (call c 0) ≡ c) × ((call c 0).answer.result ≡ 0)
  run_of_none =
      let n : ℕ = first (run_tests c cartridge ram 0) in
      let e : call c 0 ≡ outcome_at n 0 c c = ap (λ (j : ℕ). outcome_at n j c (ran cartridge ram j c)) no_units in
      (ap left e ∙ (nothing_made n c).0, ap (λ (o : Outcome). o.answer.result) e ∙ (nothing_made n c).1)

  -- a chip after the units of one run is idle exactly if they are all that remained
  idle_at : (budget : ℕ) (end : Chip) → good c.state ≡ true → 1 < (dma c).kind → end ≡ ran cartridge ram (units_made c.state budget) c → eqb (dma end).kind 0 ≡ leb (dma c).remaining budget
  idle_at budget end g high e =
      let n : ℕ = units_made c.state budget in
      let some : 0 < (dma c).remaining = some_remaining (dma c) (state_dma c.state g) high in
      ap (λ (x : Chip). eqb (dma x).kind 0) e ∙ ap (λ (d : Dma). eqb d.kind 0) (ran_dma cartridge ram n c)
      ∙ idle_exactly n (dma c) high some (omega arith) ∙ all_made (dma c).remaining
    where
      all_made : (remaining : ℕ) → leb remaining (min budget remaining) ≡ leb remaining budget
      all_made remaining =
          by_cases (leb remaining budget)
          (λ t. let h : remaining ≤ budget = leb-true remaining budget t in le-leb remaining (min budget remaining) (omega arith) ∙ sym t)
          (λ t. let h : budget < remaining = leb-false remaining budget t in lt-leb remaining (min budget remaining) (omega arith) ∙ sym t)

pub cut_into_budgets : CutIntoBudgets
cut_into_budgets c cartridge ram [] p =
    let none = run_of_none c cartridge ram in
    record {
      chip = sym none.0;
      units = sym none.1;
      idle = idle_at c cartridge ram 0 c p.state p.kind (ap (λ (j : ℕ). ran cartridge ram j c) (sym (no_units c cartridge ram)));
      accepted = λ some. absurd (let bad : ⊥ = omega arith in bad);
    }
cut_into_budgets c cartridge ram (b ∷ budgets) p =
    let total : ℕ = b + sum budgets in
    let j : Joined c cartridge ram b budgets = joined c cartridge ram budgets b (sym (number_is c cartridge ram b) ∙ p.accepted.0) p.accepted.1 in
    record {
      chip = j.chip;
      units = j.units;
      idle = idle_at c cartridge ram total _ p.state p.kind (j.chip ∙ (done c cartridge ram total j.number).chip);
      accepted = λ some. number_is c cartridge ram total ∙ j.number;
    }
