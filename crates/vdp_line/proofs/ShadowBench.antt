-- The proved cases of shadow and highlight of definition, Worked cases: one claim over the table, closed by computation.
use mathlib.Core.Path.{◌≡◌, refl}
use mathlib.Core.Bool.{true}
use Rattle.vdp_state.specs.Fresh.{fresh}
use Rattle.vdp_state.specs.Worked.{all_given}
use Rattle.vdp_draw.specs.Dot.{block_dot}
use Rattle.vdp_line.specs.Intensity.{intensity, pixel}
use Rattle.vdp_line.specs.Mix.{mix}
use Rattle.vdp_line.specs.ShadowBench.{table}

pub shadow_on_the_bench : all_given table ≡ true
unfolding table fresh block_dot mix intensity pixel
shadow_on_the_bench = refl
