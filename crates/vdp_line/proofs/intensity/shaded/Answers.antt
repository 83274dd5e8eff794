-- The sum is a byte: a colour index and a step of 64.
use Rattle.std.proofs.Common.{arith}
use Rattle.vdp_line.proofs.Intensities.{index_small, shade_step}
use Rattle.vdp_line.proofs.intensity.shaded.Goals as goal

pub overflow_add-result : goal.overflow_add-result
overflow_add-result c =
    let dots = c.args.dots in
    let small = index_small c.args.backdrop dots.b dots.a c.sprite_drawn.result c.requires in
    let step = shade_step dots.b dots.a dots.sprite in
    omega (arith, c.mix.ensures, c.shade.ensures, c.number.ensures, small, step.1)
