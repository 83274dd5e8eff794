-- The proved cases of masking and used up of definition, Worked cases: one claim over the table, closed by computation.
use mathlib.Core.Path.{◌≡◌, refl}
use mathlib.Core.Bool.{true}
use Rattle.vdp_state.specs.Colour.{colour_word}
use Rattle.vdp_state.specs.Fresh.{fresh}
use Rattle.vdp_state.specs.Good.{good}
use Rattle.vdp_state.specs.Worked.{all_given}
use Rattle.vdp_line.specs.Bench.{table}

pub masking_on_the_bench : all_given table ≡ true
unfolding table colour_word fresh good
masking_on_the_bench = refl
