-- Patterns lie inside VRAM, and a dot depends on nothing past FFFFh (specs/Inside.antt).
use Prim.Native.Nat.{ℕ, ◌+◌, ◌*◌, ◌/◌, ◌%◌, ◌<◌}
use mathlib.Core.Path.{◌≡◌, ap, ap₂}
use mathlib.Core.List.{List}
use native.Mathlib.Omega.{arith}
use Rattle.vdp_state.specs.Cell.{word_at}
use Rattle.vdp_draw.specs.Dot.{flips_across, flips_down, dot_of, flipped, block_name, block_dot}
use Rattle.vdp_draw.specs.Inside.{Inside, SameInside}
use Rattle.vdp_draw.specs.Pattern.{row_place, half, pattern_pixel}

-- the last row of the last name ends at FFFFh
pub pattern_inside : (cell across rows down row : ℕ) → row < 8 → Inside (row_place (block_name cell across rows down) row) 4
pattern_inside cell across rows down row h = omega arith

module _ (m m' : List ℕ) (same : SameInside m m') where
  pub word_same : (place : ℕ) → Inside place 2 → word_at m place ≡ word_at m' place
  word_same place h = ap₂ (λ (high low : ℕ). high * 256 + low) (same place (omega arith)) (same (place + 1) (omega arith))

  pixel_same : (name row column : ℕ) → Inside (row_place name row) 4 → column < 8 → pattern_pixel m name row column ≡ pattern_pixel m' name row column
  pixel_same name row column h k = ap (λ (b : ℕ). half b column) (same (row_place name row + column / 2) (omega arith))

  pub block_same : (cell columns rows row column : ℕ) → block_dot m cell columns rows row column ≡ block_dot m' cell columns rows row column
  unfolding block_dot
  block_same cell columns rows row column =
      let across = flipped (flips_across cell) (8 * columns) column in
      let down = flipped (flips_down cell) (8 * rows) row in
      let inside = pattern_inside cell (across / 8) rows (down / 8) (down % 8) (omega arith) in
      ap (dot_of cell) (pixel_same (block_name cell (across / 8) rows (down / 8)) (down % 8) (across % 8) inside (omega arith))
