-- The invariant: what the bytes that are left lead to, after those that were taken, is what all lead to.
use Rattle.std.proofs.Common.{◌≡◌, ◌+◌, drop}
use Rattle.vdp_reader.specs.Deliver.{last_taken, reach}
use Rattle.vdp_reader.proofs.deliver.take_bytes.Given as goal

abbrev pub invariant-loop-i : goal.invariant-loop-i
invariant-loop-i l =
    let left = reach l.kept (drop l.i l.bytes) in
    last_taken (l.i + left.taken) left.taking ≡ reach l.initial.kept l.bytes
