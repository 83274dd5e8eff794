-- The invariant: the lines can still be handed on.
use Rattle.stream.proofs.reader.deliver_bytes.Given as goal

abbrev pub invariant-loop-calls : goal.invariant-loop-calls
invariant-loop-calls g l = goal.F-IsAlwaysCallable g l.print
