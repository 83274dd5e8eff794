-- What has passed so far and the words that are left decide.
use Rattle.std.proofs.Common.{◌≡◌, ◌&&◌, ℕ, Bool, drop}
use Rattle.vdp_state.specs.Good.{all, Tests}
use Rattle.vdp_state.proofs.good.all.Given as goal

abbrev pub invariant-loop-w : goal.invariant-loop-w
invariant-loop-w g l =
    goal.F-IsAlwaysCallable g l.test
    × ((p : ℕ → Bool) → Tests (goal.F-post g l.test) p → (l.passed && all p (drop l.w-index l.words)) ≡ all p l.words)
