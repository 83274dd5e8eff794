-- The V counter: definition, Frame timing, The V counter; notes s5.
use Rattle.std.specs.Prelude.{ℕ, ◌-◌, cond, leb}
use Rattle.vdp_state.specs.Answer.{Answer}
use Rattle.vdp_state.specs.declared.state.State.{State}
use Rattle.vdp_timing.specs.Timing.{timing_read}

-- "the line up to line 234, and the line less 6 after that"
abbrev pub v_counter_at : ℕ → ℕ
v_counter_at line = cond (leb line 234) line (line - 6)

abbrev pub v_counter : State → Answer
v_counter s = timing_read s (v_counter_at s.control.timing.line)
