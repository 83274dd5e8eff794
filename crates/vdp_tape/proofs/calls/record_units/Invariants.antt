-- The units left, recorded from here, lead where all of them lead from the start.
use Rattle.std.proofs.Common.{◌≡◌, ◌-◌, ◌+◌}
use Rattle.vdp_dma.specs.Unit.{unit}
use Rattle.vdp_tape.specs.Recorder.{recorder, record_steps}
use Rattle.vdp_tape.proofs.calls.record_units.Given as goal

abbrev pub invariant-loop-i : goal.invariant-loop-i
invariant-loop-i l = record_steps (unit l.memories.cartridge.now l.memories.ram.now) (l.steps - l.i) (recorder l.next l.vram l.tape (l.count + l.i)) ≡ record_steps (unit l.memories.cartridge.now l.memories.ram.now) l.steps (recorder l.initial.next l.initial.vram l.initial.tape l.count)
