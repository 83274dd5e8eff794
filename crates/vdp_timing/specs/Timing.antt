-- What the calls of frame timing share: definition, Frame timing.
use Rattle.std.specs.Prelude.{ℕ, cond, [], ◌∷◌, eqb}
use Rattle.vdp_state.specs.Answer.{Answer}
use Rattle.vdp_state.specs.declared.state.State.{State}
use Rattle.vdp_state.specs.declared.state.Step.{Step}
use Rattle.vdp_state.specs.declared.state.Store.TheVariants.{Nothing}
use Rattle.vdp_state.specs.declared.state.Timing.{Timing}
use Rattle.vdp_state.specs.Answer.{first, refused, done}
use Rattle.vdp_state.specs.State.{with_timing}
use Rattle.vdp_ports.specs.Refusal.{bad_state}

-- a step that replaces the timing and changes nothing else
abbrev pub timing_step : State → Timing → Step
timing_step s t = record { control = with_timing s.control t; store = Nothing }

-- "Reading the V counter or the level offered [..] changes nothing. It takes every GOOD state"
abbrev pub timing_read : State → ℕ → Answer
timing_read s result =
    let number : ℕ = first (bad_state s ∷ []) in
    cond (eqb number 0) (done result s) (refused number s)
