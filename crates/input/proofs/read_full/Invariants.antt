-- What was read lies inside the buffer, and what is left of it becomes less.
use Rattle.std.proofs.Common.{length, ◌-◌, ◌≤◌, ◌≡◌}
use Rattle.input.proofs.read_full.Given as goal

abbrev pub invariant-loop-n : goal.invariant-loop-n
invariant-loop-n g l = (l.n ≤ length l.held) × (length l.held ≡ length l.initial.held)

abbrev pub decreases-loop-n : goal.decreases-loop-n
decreases-loop-n g l = length l.held - l.n
