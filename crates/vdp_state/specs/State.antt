-- The chip: its state beside the 65,536 bytes of VRAM (definition, The state), and a state with one part replaced.
use Rattle.std.specs.Prelude.{ℕ, List}
use Rattle.vdp_state.specs.declared.state.Control.{Control}
use Rattle.vdp_state.specs.declared.state.Dma.{Dma}
use Rattle.vdp_state.specs.declared.state.Flags.{Flags}
use Rattle.vdp_state.specs.declared.state.Port.{Port}
use Rattle.vdp_state.specs.declared.state.State.{State}
use Rattle.vdp_state.specs.declared.state.Timing.{Timing}

-- a state and the VRAM that is lent beside it
pub record Chip : Type 0 where
  pub state : State
  pub vram : List ℕ

abbrev pub chip : State → List ℕ → Chip
chip s m = record { state = s; vram = m }

abbrev pub with_registers : State → List ℕ → State
with_registers s rs = record { registers = rs; cram = s.cram; vsram = s.vsram; control = s.control; pal = s.pal }

abbrev pub with_cram : State → List ℕ → State
with_cram s ws = record { registers = s.registers; cram = ws; vsram = s.vsram; control = s.control; pal = s.pal }

abbrev pub with_vsram : State → List ℕ → State
with_vsram s ws = record { registers = s.registers; cram = s.cram; vsram = ws; control = s.control; pal = s.pal }

abbrev pub with_control : State → Control → State
with_control s c = record { registers = s.registers; cram = s.cram; vsram = s.vsram; control = c; pal = s.pal }

abbrev pub with_port : Control → Port → Control
with_port c p = record { port = p; dma = c.dma; flags = c.flags; timing = c.timing }

abbrev pub with_dma : Control → Dma → Control
with_dma c d = record { port = c.port; dma = d; flags = c.flags; timing = c.timing }

abbrev pub with_flags : Control → Flags → Control
with_flags c f = record { port = c.port; dma = c.dma; flags = f; timing = c.timing }

abbrev pub with_timing : Control → Timing → Control
with_timing c t = record { port = c.port; dma = c.dma; flags = c.flags; timing = t }
