-- Patterns: definition, Drawing ("Row r of the pattern with name n is the 4 bytes at 32 x n + 4 x r").
use Rattle.std.specs.Prelude.{ℕ, ◌+◌, ◌*◌, ◌/◌, ◌%◌, cond, List, eqb, get_or}
use Rattle.vdp_draw.specs.Tabulate.{tabulate}

-- the first byte of a pattern's row
abbrev pub row_place : ℕ → ℕ → ℕ
row_place name row = 32 * name + 4 * row

-- the pixel that a byte holds for a column: two pixels a byte, the left one in the high half
abbrev pub half : ℕ → ℕ → ℕ
half b column = cond (eqb (column % 2) 0) (b / 16) (b % 16)

-- a pixel of the pattern as it lies in VRAM, unflipped
abbrev pub pattern_pixel : List ℕ → ℕ → ℕ → ℕ → ℕ
pattern_pixel vram name row column = half (get_or vram (row_place name row + column / 2) 0) column

-- a row's eight pixels
abbrev pub row_pixels : List ℕ → ℕ → ℕ → List ℕ
row_pixels vram name row = tabulate (pattern_pixel vram name row) 8
