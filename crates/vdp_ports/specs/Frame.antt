-- A new frame: definition, Ports ("A new frame clears overflow, collision and used up and changes nothing else.").
use Rattle.std.specs.Prelude.{false, List, [], ◌∷◌}
use Rattle.vdp_state.specs.Answer.{Answer}
use Rattle.vdp_state.specs.declared.state.State.{State}
use Rattle.vdp_state.specs.declared.state.Step.{Step}
use Rattle.vdp_state.specs.declared.state.Store.TheVariants.{Nothing}
use Rattle.vdp_state.specs.Answer.{Test, first, answered}
use Rattle.vdp_ports.specs.Refusal.{bad_state}
use Rattle.vdp_ports.specs.Status.{flags_cleared}

abbrev pub frame_step : State → Step
frame_step s = record { control = flags_cleared s.control false; store = Nothing }

abbrev pub frame_tests : State → List Test
frame_tests s = bad_state s ∷ []

abbrev pub new_frame : State → Answer
new_frame s = answered (first (frame_tests s)) s (frame_step s) 0
