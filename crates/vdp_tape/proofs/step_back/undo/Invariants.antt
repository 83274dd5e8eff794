-- The records left, undone from here, lead where all of them lead from the start.
use Rattle.std.proofs.Common.{◌≡◌, ◌-◌, ◌≤◌, length}
use Rattle.vdp_state.specs.State.{chip}
use Rattle.vdp_tape.specs.StepBack.{undo}
use Rattle.vdp_tape.proofs.step_back.undo.Given as goal

abbrev pub invariant-loop-record : goal.invariant-loop-record
invariant-loop-record l = (length l.yielded ≤ l.k) × (undo l.tape (l.n - length l.yielded) (l.k - length l.yielded) (chip l.next l.vram) ≡ undo l.tape l.n l.k (chip l.initial.next l.initial.vram))
