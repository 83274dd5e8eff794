-- Planes and the window: definition, Drawing; notes s12 to s14.
use Rattle.std.specs.Prelude.{ℕ, ◌+◌, ◌-◌, ◌*◌, ◌/◌, ◌%◌, Bool, cond, not, ◌||◌, List, ltb}
use Rattle.vdp_state.specs.Cell.{word_at}
use Rattle.vdp_state.specs.declared.state.State.{State}
use Rattle.vdp_line.specs.declared.extent.PlaneName.{PlaneName}
use Rattle.vdp_line.specs.declared.extent.PlaneName.TheVariants.{A, B}
use Rattle.vdp_line.specs.declared.plane.Plane.{Plane as PlaneHeld}
use Rattle.vdp_line.specs.declared.plane.Row.{Row as RowHeld}
use Rattle.vdp_ports.specs.Length.{register}
use Rattle.vdp_draw.specs.Dot.{block_dot}
use Rattle.vdp_line.specs.Extent.{cells_in}
use Rattle.vdp_line.specs.Layout.{bit, wide, base_a, base_b, base_window, code_across, code_down, cells}

-- a table of cells: where it lies, and how many it has across and down
pub record Plane : Type 0 where
  pub base : ℕ
  pub columns : ℕ
  pub rows : ℕ

-- the row of a plane's cells that a line crosses, what its columns are moved by, and the line within the row
pub record Row : Type 0 where
  pub base : ℕ
  pub row : ℕ
  pub columns : ℕ
  pub shift : ℕ
  pub line : ℕ

abbrev pub plane : ℕ → ℕ → ℕ → Plane
plane base columns rows = record { base = base; columns = columns; rows = rows }

abbrev pub plane_a : State → Plane
plane_a s = plane (base_a s) (cells (code_across s)) (cells (code_down s))

abbrev pub plane_b : State → Plane
plane_b s = plane (base_b s) (cells (code_across s)) (cells (code_down s))

abbrev pub plane_of : State → PlaneName → Plane
plane_of s A = plane_a s
plane_of s B = plane_b s

-- the window is a table of its own, "64 cells wide at 320 and 32 at 256", unscrolled; its 32 rows hold every line
abbrev pub window_columns : State → ℕ
window_columns s = cond (wide s) 64 32

abbrev pub window : State → Plane
window s = plane (base_window s) (window_columns s) 32

-- the row of cells that a line crosses, and the line within it: "row (line + v) mod its height", 8 pixels a cell; and
-- what its columns are moved by: -h, as 1024 is a multiple of every plane's width
abbrev pub row_of : Plane → ℕ → ℕ → ℕ → Row
row_of p h v line =
    record {
      base = p.base;
      row = (line + v) % (8 * p.rows) / 8;
      columns = p.columns;
      shift = 1024 - h;
      line = (line + v) % (8 * p.rows) % 8;
    }

-- the pixel of a row that column x shows: "column (x - h) mod its width"
abbrev pub across : Row → ℕ → ℕ
across r x = (x + r.shift) % (8 * r.columns)

-- where the cell lies that column x shows: "The cells of a table lie row by row, a word each"
abbrev pub cell_place : Row → ℕ → ℕ
cell_place r x = r.base + 2 * (r.row * r.columns + across r x / 8)

abbrev pub row_dot : List ℕ → Row → ℕ → ℕ
row_dot vram r x = block_dot vram (word_at vram (cell_place r x)) 1 1 r.line (across r x % 8)

-- below a limit, or with the other bit not below it
abbrev pub side : Bool → Bool → Bool
side other below = cond other (not below) below

-- "The first: line / 8 is below register 18 mod 32, or with register 18 bit 7 set, is not below it. The second: x is
-- below 16 x (register 17 mod 32), or with register 17 bit 7 set, is not below it."
abbrev pub in_window : State → ℕ → ℕ → Bool
in_window s line x =
    side (bit s 18 7) (ltb (line / 8) (register s 18 % 32)) || side (bit s 17 7) (ltb x (16 * (register s 17 % 32)))

-- what the code's structs hold
abbrev pub plane_in : PlaneHeld → Plane
plane_in p = plane p.base (cells_in p.columns) (cells_in p.rows)

abbrev pub row_in : RowHeld → Row
row_in r = record { base = r.base; row = r.row; columns = cells_in r.columns; shift = r.shift; line = r.line }
