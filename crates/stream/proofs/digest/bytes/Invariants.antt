-- The invariant: the digest from the sum over the bytes that are left is the one over all of them.
use Rattle.std.proofs.Common.{◌≡◌, drop}
use Rattle.stream.specs.Digest.{digest}
use Rattle.stream.proofs.digest.bytes.Given as goal

abbrev pub invariant-loop-b : goal.invariant-loop-b
invariant-loop-b l = digest l.sum (drop l.b-index l.held) ≡ digest l.h l.held
