-- The invariant: the columns from the first to x hold their pixel bytes.
use Rattle.std.proofs.Common.{◌≡◌, ℕ, ◌-◌, get_or}
use Rattle.vdp_draw.specs.Painted.{painted}
use Rattle.vdp_line.specs.Columns.{Shows}
use Rattle.vdp_line.specs.Plane.{row_dot, row_in}
use Rattle.vdp_line.proofs.columns.paint_group.Given as goal

abbrev pub invariant-loop-x : goal.invariant-loop-x
invariant-loop-x g l =
    goal.F-IsAlwaysCallable g l.shown
    × ((p : ℕ → ℕ → ℕ → ℕ) → Shows (goal.F-post g l.shown) p
    → l.pixels ≡ painted (λ y _. p (row_dot l.vram (row_in l.rows.b) y) (row_dot l.vram (row_in l.rows.a) y) (get_or l.dots y 0)) l.from (l.x - l.from) l.initial.pixels)
