-- Dots: what a layer shows on a column, as one number, 64 x priority + colour index (definition, Drawing).
use Rattle.std.specs.Prelude.{ℕ, ◌+◌, ◌-◌, ◌*◌, ◌/◌, ◌%◌, Bool, cond, not, List, eqb, leb}
use Rattle.vdp_draw.specs.Pattern.{pattern_pixel}

-- "A pixel of 0 is clear, every other one is solid."
abbrev pub solid : ℕ → Bool
solid dot = not (eqb (dot % 16) 0)

abbrev pub high : ℕ → Bool
high dot = leb 64 dot

-- "A cell word is pccvhnnnnnnnnnnn, bit 15 first": its name and its two flips
abbrev pub name : ℕ → ℕ
name cell = cell % 2048

abbrev pub flips_across : ℕ → Bool
flips_across cell = eqb (cell / 2048 % 2) 1

abbrev pub flips_down : ℕ → Bool
flips_down cell = eqb (cell / 4096 % 2) 1

-- "The colour index of a pixel is 16 x cc + pixel.", and p in front of it
abbrev pub dot_of : ℕ → ℕ → ℕ
dot_of cell pixel = 64 * (cell / 32768) + 16 * (cell / 8192 % 4) + pixel

-- one of n places, counted from the other end where it is flipped
abbrev pub flipped : Bool → ℕ → ℕ → ℕ
flipped flip n i = cond flip (n - 1 - i) i

-- the name of a block's cell that is so many cells across and down: "The names of a sprite run down its columns"
abbrev pub block_name : ℕ → ℕ → ℕ → ℕ → ℕ
block_name cell across rows down = (name cell + across * rows + down) % 2048

-- the dot at a row and a column of a block of cells, counted in pixels: "A flip turns the sprite as a whole". A plane's
-- cell is a block of one.
unfoldable pub block_dot : List ℕ → ℕ → ℕ → ℕ → ℕ → ℕ → ℕ
block_dot vram cell columns rows row column =
    let across = flipped (flips_across cell) (8 * columns) column in
    let down = flipped (flips_down cell) (8 * rows) row in
    dot_of cell (pattern_pixel vram (block_name cell (across / 8) rows (down / 8)) (down % 8) (across % 8))
