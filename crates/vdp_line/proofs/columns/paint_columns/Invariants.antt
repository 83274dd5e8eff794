-- The invariant: the columns of the groups below c hold their pixel bytes.
use Rattle.std.proofs.Common.{◌≡◌, ℕ, ◌*◌, ◌/◌}
use Rattle.vdp_draw.specs.Painted.{painted}
use Rattle.vdp_line.proofs.Groups.{group_pixel}
use Rattle.vdp_line.specs.Columns.{Shows}
use Rattle.vdp_line.specs.View.{view_in}
use Rattle.vdp_line.proofs.columns.paint_columns.Given as goal

abbrev pub invariant-loop-c : goal.invariant-loop-c
invariant-loop-c g l =
    goal.F-IsAlwaysCallable g l.shown
    × ((p : ℕ → ℕ → ℕ → ℕ) → Shows (goal.F-post g l.shown) p
    → l.pixels ≡ painted (λ y _. group_pixel p (view_in l.view) l.s.vsram l.vram l.line l.dots (y / 16) y) 0 (16 * l.c) l.initial.pixels)
