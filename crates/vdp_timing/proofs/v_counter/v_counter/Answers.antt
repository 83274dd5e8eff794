-- By the table where the state is GOOD; a bad one has no entry and is refused.
use Rattle.std.proofs.Common.{◌∙◌}
use Rattle.vdp_state.specs.Good.{good}
use Rattle.vdp_state.proofs.Bools.{by_cases}
use Rattle.vdp_state.proofs.Facts.{state_line}
use Rattle.vdp_timing.proofs.v_counter.v_counter.Goals as goal

pub returns : goal.returns
returns c =
    let s = c.args.s in
    c.timing_read.ensures
    ∙ by_cases (good s) (λ e. simp (e, c.from.ensures, c.v_counter_at.ensures (state_line s e))) (λ e. simp e)
