-- The dots of plane B, and of plane A or the window, on a column: definition, Drawing.
use Rattle.std.specs.Prelude.{ℕ, ◌+◌, ◌*◌, ◌%◌, cond}
use Rattle.vdp_state.specs.Cell.{word_at}
use Rattle.vdp_state.specs.State.{Chip}
use Rattle.vdp_line.specs.Layout.{scroll_place, vertical}
use Rattle.vdp_line.specs.Plane.{Row, plane_a, plane_b, window, row_of, row_dot, in_window}

-- h of plane 0 (A) or 1 (B): "an entry of 4 bytes for each line: the word of plane A, then the word of plane B. The low
-- 10 bits of the word are the scroll h."
abbrev pub horizontal : Chip → ℕ → ℕ → ℕ
horizontal c line plane = word_at c.vram (scroll_place c.state line + 2 * plane) % 1024

-- the row that plane B shows on column x, and the one that A or the window shows
abbrev pub row_b : Chip → ℕ → ℕ → Row
row_b c line x = row_of (plane_b c.state) (horizontal c line 1) (vertical c.state 1 x) line

abbrev pub row_a : Chip → ℕ → ℕ → Row
row_a c line x =
    cond (in_window c.state line x) (row_of (window c.state) 0 0 line)
    (row_of (plane_a c.state) (horizontal c line 0) (vertical c.state 0 x) line)

abbrev pub dot_a : Chip → ℕ → ℕ → ℕ
dot_a c line x = row_dot c.vram (row_a c line x) x

abbrev pub dot_b : Chip → ℕ → ℕ → ℕ
dot_b c line x = row_dot c.vram (row_b c line x) x
