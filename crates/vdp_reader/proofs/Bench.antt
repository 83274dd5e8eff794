-- The proved cases of readers of definition, Worked cases: one claim over the table, closed by computation.
use mathlib.Core.Path.{◌≡◌, refl}
use mathlib.Core.Bool.{true}
use Rattle.vdp_state.specs.Cell.{perform}
use Rattle.vdp_state.specs.Colour.{colour_word}
use Rattle.vdp_state.specs.Fresh.{fresh}
use Rattle.vdp_state.specs.Good.{good}
use Rattle.vdp_state.specs.Worked.{all_given}
use Rattle.vdp_ports.specs.Control.{control_step}
use Rattle.vdp_ports.specs.Data.{data_read_step}
use Rattle.vdp_ports.specs.Status.{status_word}
use Rattle.vdp_reader.specs.Bench.{table}
use Rattle.vdp_reader.specs.Reader.{in_range}
use Rattle.vdp_reader.specs.Take.{takes}

pub readers_on_the_bench : all_given table ≡ true
unfolding table colour_word fresh good perform control_step data_read_step status_word in_range takes
readers_on_the_bench = refl
