-- On 16 columns of the screen the planes show one row each: the vertical scroll and the window's edge go by 16 columns.
use Prim.Native.Nat.{ℕ, ◌+◌, ◌*◌, ◌/◌, ◌%◌, ◌<◌, ◌≤◌}
use mathlib.Core.Path.{◌≡◌, refl, sym, ap, ap₂, ◌∙◌}
use mathlib.Core.Bool.{Bool, true, false, cond, ◌||◌}
use mathlib.Core.List.{List}
use native.Mathlib.Omega.{arith}
use borrow.Author.Tests.{lt-ltb, le-ltb, ltb-true, ltb-false}
use lib.Dec.{ltb}
use lib.ListN.{get_or}
use Rattle.vdp_state.specs.State.{Chip}
use Rattle.vdp_ports.specs.Length.{register}
use Rattle.vdp_draw.specs.Width.{width_of}
use Rattle.vdp_line.specs.Layer.{horizontal, row_a, row_b, dot_a, dot_b}
use Rattle.vdp_line.specs.Layout.{bit}
use Rattle.vdp_line.specs.Plane.{Row, plane_a, plane_b, window, row_of, row_dot, side}
use Rattle.vdp_line.specs.View.{View, view_of, scroll_word, row_a_at, row_b_at}

module _ (c : Chip) (line g x : ℕ) (first : 16 * g ≤ x) (last : x < 16 * g + 16) where
  group : g ≡ x / 16
  group = omega arith

  -- the window's edge is 16 columns wide
  edge_here : (edge : ℕ) → ltb g edge ≡ ltb x (16 * edge)
  edge_here edge = by_edge (ltb g edge) refl
    where
      by_edge : (t : Bool) → ltb g edge ≡ t → ltb g edge ≡ ltb x (16 * edge)
      by_edge true e = e ∙ sym (lt-ltb x (16 * edge) (omega (arith, ltb-true g edge e)))
      by_edge false e = e ∙ sym (le-ltb x (16 * edge) (omega (arith, ltb-false g edge e)))

  pub row_b_here : row_b_at (view_of c line) c.state.vsram g line ≡ row_b c line x
  row_b_here =
      ap (λ (k : ℕ). row_of (plane_b c.state) (horizontal c line 1) (get_or c.state.vsram (scroll_word (bit c.state 11 2) 1 k) 0) line) group

  pub row_a_here : row_a_at (view_of c line) c.state.vsram g line ≡ row_a c line x
  row_a_here =
      let s = c.state in
      ap₂ (λ (t : Bool) (k : ℕ). cond (side (bit s 18 7) (ltb (line / 8) (register s 18 % 32)) || side (bit s 17 7) t) (row_of (window s) 0 0 line) (row_of (plane_a s) (horizontal c line 0) (get_or s.vsram (scroll_word (bit s 11 2) 0 k) 0) line))
      (edge_here (register s 17 % 32)) group

-- a line is a number of whole groups
pub whole_groups : (wide : Bool) → (16 * (width_of wide / 16) ≡ width_of wide) × (width_of wide / 16 ≤ 20)
whole_groups true = (refl, omega arith)
whole_groups false = (refl, omega arith)

-- the pixel byte of a column, by its group
abbrev pub group_pixel : (ℕ → ℕ → ℕ → ℕ) → View → List ℕ → List ℕ → ℕ → List ℕ → ℕ → ℕ → ℕ
group_pixel p v vsram vram line dots g y = p (row_dot vram (row_b_at v vsram g line) y) (row_dot vram (row_a_at v vsram g line) y) (get_or dots y 0)

pub group_pixel_is : (p : ℕ → ℕ → ℕ → ℕ) (c : Chip) (line : ℕ) (dots : List ℕ) (y : ℕ) → group_pixel p (view_of c line) c.state.vsram c.vram line dots (y / 16) y ≡ p (dot_b c line y) (dot_a c line y) (get_or dots y 0)
group_pixel_is p c line dots y =
    ap₂ (λ (b a : Row). p (row_dot c.vram b y) (row_dot c.vram a y) (get_or dots y 0))
    (row_b_here c line (y / 16) y (omega arith) (omega arith)) (row_a_here c line (y / 16) y (omega arith) (omega arith))
