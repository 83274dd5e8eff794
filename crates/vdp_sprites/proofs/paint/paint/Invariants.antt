-- The invariant: the columns from the first to x are painted, and `met` tells whether a solid dot met another there.
use Rattle.std.proofs.Common.{◌≡◌, ◌-◌, ◌≤◌, get_or, ◌&&◌}
use Rattle.vdp_draw.specs.Dot.{solid}
use Rattle.vdp_draw.specs.Painted.{painted, any_from}
use Rattle.vdp_sprites.specs.Behind.{under}
use Rattle.vdp_sprites.specs.Column.{shown_dot}
use Rattle.vdp_sprites.specs.Shown.{shown}
use Rattle.vdp_sprites.proofs.paint.paint.Given as goal

abbrev pub invariant-loop-x : goal.invariant-loop-x
invariant-loop-x l = record {
  within : l.x - l.from ≤ l.end - l.from;
  painted_so_far : l.dots ≡ painted (λ y old. under old (shown_dot l.vram l.line (shown l.s l.columns) y)) l.from (l.x - l.from) l.initial.dots;
  met_so_far : l.met ≡ any_from (λ y. solid (get_or l.initial.dots y 0) && solid (shown_dot l.vram l.line (shown l.s l.columns) y)) l.from (l.x - l.from);
}
