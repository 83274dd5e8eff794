-- The proved cases of frame timing of definition, Worked cases: one claim over the table, closed by computation.
use mathlib.Core.Path.{◌≡◌, refl}
use mathlib.Core.Bool.{true}
use Rattle.vdp_state.specs.Colour.{colour_word}
use Rattle.vdp_state.specs.Fresh.{fresh}
use Rattle.vdp_state.specs.Good.{good}
use Rattle.vdp_state.specs.Worked.{all_given}
use Rattle.vdp_ports.specs.Status.{status_word}
use Rattle.vdp_timing.specs.Bench.{table}

pub frames_on_the_bench : all_given table ≡ true
unfolding table colour_word fresh good status_word
frames_on_the_bench = refl
