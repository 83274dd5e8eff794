-- The proved cases of definition, Worked cases: one claim over the whole table, closed by computation.
use mathlib.Core.Path.{◌≡◌, refl}
use mathlib.Core.Bool.{true}
use Rattle.vdp_state.specs.Cell.{perform}
use Rattle.vdp_state.specs.Colour.{colour_word}
use Rattle.vdp_state.specs.Fresh.{fresh}
use Rattle.vdp_state.specs.Good.{good}
use Rattle.vdp_state.specs.Worked.{all_given}
use Rattle.vdp_ports.specs.Control.{control_step}
use Rattle.vdp_ports.specs.Data.{data_write_step}
use Rattle.vdp_ports.specs.Status.{status_word}
use Rattle.vdp_dma.specs.Bench.{table}

pub worked_on_the_bench : all_given table ≡ true
unfolding table perform colour_word fresh good control_step data_write_step status_word
worked_on_the_bench = refl
