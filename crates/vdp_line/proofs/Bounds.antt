-- Bounds of what the layout gives, for sums that must fit.
use Prim.Native.Nat.{ℕ, ◌*◌, ◌%◌, ◌<◌, ◌≤◌}
use mathlib.Core.Bool.{Bool, true, false}
use mathlib.Core.Path.{◌≡◌, refl}
use native.Mathlib.Nat.{mod-lt}
use native.Mathlib.Omega.{arith}
use lib.Dec.{eqb}
use Rattle.vdp_state.specs.declared.state.State.{State}
use Rattle.vdp_draw.specs.Width.{width_of}
use Rattle.vdp_line.specs.Layout.{scroll_line, cells, bit, wide, height}
use Rattle.vdp_line.specs.Plane.{window_columns}

pub scroll_line_small : (mode line : ℕ) → scroll_line mode line ≤ line
scroll_line_small mode line = by_mode (eqb mode 0) refl (eqb mode 1) refl (eqb mode 2) refl
  where
    by_mode : (a : Bool) → eqb mode 0 ≡ a → (b : Bool) → eqb mode 1 ≡ b → (c : Bool) → eqb mode 2 ≡ c → scroll_line mode line ≤ line
    by_mode true p b q c r = simp p (omega arith)
    by_mode false p true q c r = simp (p, q) (omega arith)
    by_mode false p false q true r = simp (p, q, r) (omega arith)
    by_mode false p false q false r = simp (p, q, r) (omega arith)

-- a plane or the window has some cells across and down
pub some_cells : (code : ℕ) → 0 < cells code
some_cells code = by_code (eqb code 0) refl (eqb code 1) refl
  where
    by_code : (a : Bool) → eqb code 0 ≡ a → (b : Bool) → eqb code 1 ≡ b → 0 < cells code
    by_code true p b q = simp p (omega arith)
    by_code false p true q = simp (p, q) (omega arith)
    by_code false p false q = simp (p, q) (omega arith)

pub some_window : (s : State) → 0 < window_columns s
some_window s = by_width (wide s) refl
  where
    by_width : (t : Bool) → wide s ≡ t → 0 < window_columns s
    by_width true e = simp e (omega arith)
    by_width false e = simp e (omega arith)

-- a remainder by eight times a number of cells
pub pixel_small : (n cells : ℕ) → 0 < cells → n % (8 * cells) < 8 * cells
pixel_small n cells h = mod-lt n {m = 8 * cells} (omega arith)

pub height_small : (s : State) → height s ≤ 240
height_small s = by_bit (bit s 1 3) refl
  where
    by_bit : (t : Bool) → bit s 1 3 ≡ t → height s ≤ 240
    by_bit true p = simp p (omega arith)
    by_bit false p = simp p (omega arith)

pub width_small : (wide : Bool) → width_of wide ≤ 320
width_small true = omega arith
width_small false = omega arith
