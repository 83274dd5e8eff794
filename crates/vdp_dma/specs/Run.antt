-- A run: definition, DMA ("A run makes as many units as the smaller of its budget and the units remaining").
use Rattle.std.specs.Prelude.{ℕ, ◌%◌, min, not, ◌||◌, ◌&&◌, List, [], ◌∷◌, eqb, leb, length}
use Rattle.vdp_state.specs.declared.state.State.{State}
use Rattle.vdp_state.specs.Answer.{Test, gives, first, Outcome, outcome_at}
use Rattle.vdp_state.specs.Cell.{steps}
use Rattle.vdp_state.specs.State.{Chip}
use Rattle.vdp_ports.specs.Refusal.{bad_state}
use Rattle.vdp_dma.specs.Source.{all_lent}
use Rattle.vdp_dma.specs.Unit.{unit}

-- "the smaller of its budget and the units remaining"
abbrev pub units_made : State → ℕ → ℕ
units_made s budget = min budget s.control.dma.remaining

-- 2: "VRAM is not 65,536 bytes long"; "work RAM is not 65,536 bytes long; the cartridge is longer than 4,194,304 bytes
-- or has an odd length"
abbrev pub bad_memory : List ℕ → List ℕ → List ℕ → Test
bad_memory vram cartridge ram =
    gives 2
    (not (eqb (length vram) 65536) || not (eqb (length ram) 65536) || not (leb (length cartridge) 4194304)
    || not (eqb (length cartridge % 2) 0))

-- 7: "a word that the run is to move lies in no lent memory"; "It is asked in kind 2 only"
abbrev pub not_lent : State → List ℕ → ℕ → Test
not_lent s cartridge budget =
    gives 7 (eqb s.control.dma.kind 2 && not (all_lent cartridge s.control.dma.source (units_made s budget)))

abbrev pub run_tests : Chip → List ℕ → List ℕ → ℕ → List Test
run_tests c cartridge ram budget =
    bad_state c.state ∷ bad_memory c.vram cartridge ram ∷ not_lent c.state cartridge budget ∷ []

-- the chip after the run's units
abbrev pub ran : List ℕ → List ℕ → ℕ → Chip → Chip
ran cartridge ram n c = steps (unit cartridge ram) n c

-- a run reports its units
abbrev pub run : Chip → List ℕ → List ℕ → ℕ → Outcome
run c cartridge ram budget =
    outcome_at (first (run_tests c cartridge ram budget)) (units_made c.state budget) c
    (ran cartridge ram (units_made c.state budget) c)
