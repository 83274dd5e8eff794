-- A run may be cut into budgets: definition, DMA, What a run equals.
use Rattle.std.specs.Prelude.{ℕ, ◌+◌, ◌<◌, ◌≡◌, true, List, [], ◌∷◌, eqb, leb, length}
use Rattle.vdp_state.specs.Answer.{Outcome}
use Rattle.vdp_state.specs.Good.{good}
use Rattle.vdp_state.specs.State.{Chip}
use Rattle.vdp_dma.specs.InTurn.{left, in_turn, NoneRefused, results_of}
use Rattle.vdp_dma.specs.Run.{run}

-- a run with "the same memories", by its budget
abbrev pub run_of : List ℕ → List ℕ → Chip → ℕ → Outcome
run_of cartridge ram c budget = run c cartridge ram budget

-- "the sum of the budgets", of any size
abbrev pub sum : List ℕ → ℕ
sum [] = 0
sum (n ∷ ns) = n + sum ns

-- "a chip in kind 2, 3 or 4 with a GOOD state", which has no kind above 4, "memories, and any list of budgets", such that
-- the runs "are none of them refused"
pub record CutRuns (c : Chip) (cartridge ram budgets : List ℕ) : Type 0 where
  pub state : good c.state ≡ true
  pub kind : 1 < c.state.control.dma.kind
  pub accepted : NoneRefused (run_of cartridge ram) budgets c

-- "they end in the state and VRAM of one run with the sum of the budgets, and the units that they report add up to its
-- units. The DMA is then idle, its kind 0, exactly if the sum is at least the units remaining at the start. If the list
-- is not empty, the one run is not refused either."
pub record AsOneRun (c : Chip) (cartridge ram budgets : List ℕ) : Type 0 where
  pub chip : in_turn (run_of cartridge ram) budgets c ≡ left (run c cartridge ram (sum budgets))
  pub units : results_of (run_of cartridge ram) budgets c ≡ (run c cartridge ram (sum budgets)).answer.result
  pub idle : eqb (in_turn (run_of cartridge ram) budgets c).state.control.dma.kind 0 ≡ leb c.state.control.dma.remaining (sum budgets)
  pub accepted : 0 < length budgets → (run c cartridge ram (sum budgets)).answer.number ≡ 0

-- the claim: "A run may be cut."
abbrev pub CutIntoBudgets : Type 0
CutIntoBudgets = (c : Chip) (cartridge ram budgets : List ℕ) → CutRuns c cartridge ram budgets → AsOneRun c cartridge ram budgets
