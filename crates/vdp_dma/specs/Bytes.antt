-- Serves proofs only: what a call does that makes a unit of a fill or a copy.
use Rattle.std.specs.Prelude.{ℕ, ◌≡◌, List}
use Rattle.std.specs.Borrow.{MutBor}
use Rattle.vdp_state.specs.declared.state.Control.{Control}
use Rattle.vdp_state.specs.declared.state.State.{State}
use Rattle.vdp_state.specs.declared.state.Step.{Step}
use Rattle.vdp_state.specs.Cell.{perform}
use Rattle.vdp_state.specs.State.{Chip, chip, with_control}
use Rattle.vdp_ports.specs.Length.{register}
use Rattle.vdp_dma.specs.Unit.{unit_control}

-- a call at VRAM, an address and a source, which gives the next source, does what the step does to a chip with the code
-- and the fill byte of s
abbrev pub MakesUnits : (MutBor (List ℕ) → ℕ → ℕ → ℕ → MutBor (List ℕ) → Type 0) → State → (Chip → Step) → Type 0
MakesUnits post s step =
    (k : Control) (v v' : MutBor (List ℕ)) (source : ℕ) → k.port.code ≡ s.control.port.code → k.dma.fill ≡ s.control.dma.fill
    → post v k.port.address k.dma.source source v'
    → perform (chip (with_control s k) v.now) (step (chip (with_control s k) v.now))
    ≡ chip (with_control s (unit_control k (register s 15) source)) v'.now
