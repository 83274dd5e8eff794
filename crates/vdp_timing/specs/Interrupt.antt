-- The interrupt level that is offered, and its acknowledge: definition, Frame timing, Levels; notes s4.
use Rattle.std.specs.Prelude.{Option, Some, None, ℕ, ◌/◌, ◌%◌, cond, not, ◌&&◌, ◌||◌, List, [], ◌∷◌, eqb}
use Rattle.vdp_state.specs.Answer.{Answer}
use Rattle.vdp_state.specs.declared.state.State.{State}
use Rattle.vdp_state.specs.declared.state.Step.{Step}
use Rattle.vdp_state.specs.declared.state.Timing.{Timing}
use Rattle.vdp_state.specs.Answer.{Test, gives, first, answered}
use Rattle.vdp_timing.specs.declared.interrupt.Level.{Level}
use Rattle.vdp_timing.specs.declared.interrupt.Level.TheVariants.{Horizontal, Vertical}
use Rattle.vdp_ports.specs.Length.{register}
use Rattle.vdp_ports.specs.Refusal.{bad_state}
use Rattle.vdp_timing.specs.Timing.{timing_step, timing_read}

-- the number of a level, 0 if there is none
abbrev pub level_number : Option Level → ℕ
level_number (Some Horizontal) = 4
level_number (Some Vertical) = 6
level_number None = 0

-- "Level 4 is offered while horizontal is set"; "Level 6 is offered while vertical and register 1 bit 5 are set and
-- horizontal is clear. Else no level is offered.", and that "is read as 0"
abbrev pub offered : State → ℕ
offered s =
    cond s.control.timing.horizontal 4
    (cond (s.control.timing.vertical && eqb (register s 1 / 32 % 2) 1) 6 0)

abbrev pub level_offered : State → Answer
level_offered s = timing_read s (offered s)

-- "it clears what the level is for, horizontal for 4 or vertical for 6, and changes nothing else"
abbrev pub acknowledged : Timing → ℕ → Timing
acknowledged t level =
    record {
      line = t.line;
      counter = t.counter;
      vertical = t.vertical && not (eqb level 6);
      horizontal = t.horizontal && not (eqb level 4);
    }

abbrev pub acknowledge_step : State → ℕ → Step
acknowledge_step s level = timing_step s (acknowledged s.control.timing level)

-- 10: "an acknowledge of a level that is not offered"; "Level 0 is never offered"
abbrev pub not_offered : State → ℕ → Test
not_offered s level = gives 10 (eqb level 0 || not (eqb level (offered s)))

abbrev pub acknowledge_tests : State → ℕ → List Test
acknowledge_tests s level = bad_state s ∷ not_offered s level ∷ []

abbrev pub acknowledge : State → ℕ → Answer
acknowledge s level = answered (first (acknowledge_tests s level)) s (acknowledge_step s level) 0
