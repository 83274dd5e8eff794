-- The invariant: the units left lead where all of them lead from the start.
use Rattle.std.proofs.Common.{◌≡◌}
use Rattle.vdp_dma.proofs.Units.{Leads}
use Rattle.vdp_dma.specs.Bytes.{MakesUnits}
use Rattle.vdp_state.specs.State.{Chip}
use Rattle.vdp_state.specs.declared.state.Step.{Step}
use Rattle.vdp_dma.proofs.bytes.for_each_unit.Given as goal

abbrev pub invariant-loop : goal.invariant-loop
invariant-loop g l = record {
  callable : goal.F-IsAlwaysCallable g l.unit;
  code : l.port.code ≡ l.s.control.port.code;
  leads : (step : Chip → Step) → MakesUnits (goal.F-post g l.unit) l.s step → Leads step l.s l.n.0 l.initial.vram l.port l.source l.counter l.vram;
}
