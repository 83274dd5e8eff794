-- The columns of one group more hold their pixel bytes, and the groups are the whole line.
use Rattle.std.proofs.Common.{◌≡◌, ℕ, ◌+◌, ◌*◌, ◌/◌, List, get_or, sym, ap, ap₂, ◌∙◌, zero-add, arith, rules}
use Rattle.vdp_draw.proofs.Painted.{painted_join, painted_same}
use Rattle.vdp_draw.specs.Painted.{painted}
use Rattle.vdp_draw.specs.Width.{width_of}
use Rattle.vdp_line.proofs.Groups.{whole_groups, group_pixel, group_pixel_is}
use Rattle.vdp_line.specs.Layer.{dot_a, dot_b}
use Rattle.vdp_line.specs.Layout.{wide}
use Rattle.vdp_line.specs.Plane.{Row, row_dot}
use Rattle.vdp_line.specs.View.{View, view_of, row_a_at, row_b_at, view_in}
use Rattle.vdp_state.specs.State.{chip}
use Rattle.vdp_line.proofs.columns.paint_columns.Goals as goal

-- a group's columns are painted as its columns have it
module _ (p : ℕ → ℕ → ℕ → ℕ) (v : View) (vsram vram : List ℕ) (line : ℕ) (dots : List ℕ) (c : ℕ) (b a : Row) (of_b : b ≡ row_b_at v vsram c line) (of_a : a ≡ row_a_at v vsram c line) where
  group_painted : (l : List ℕ) → painted (λ y _. p (row_dot vram b y) (row_dot vram a y) (get_or dots y 0)) (16 * c) 16 l ≡ painted (λ y _. group_pixel p v vsram vram line dots (y / 16) y) (16 * c) 16 l
  group_painted l =
      painted_same (λ y _. p (row_dot vram b y) (row_dot vram a y) (get_or dots y 0)) (16 * c) l (λ y _. group_pixel p v vsram vram line dots (y / 16) y) 16
      (λ y h k. ap₂ (λ (s t : Row). p (row_dot vram s y) (row_dot vram t y) (get_or dots y 0)) of_b of_a ∙ ap (λ (n : ℕ). group_pixel p v vsram vram line dots n y) (let e : c ≡ y / 16 = omega arith in e))

pub loop-c-preserved : goal.loop-c-preserved
loop-c-preserved g c =
    let l = c.loop-c in
    let a = c.args in
    let view = view_in c.view_of-view.result in (
      l.invariant.0,
      λ p h.
          let paints : ℕ → ℕ → ℕ = λ y old. group_pixel p view a.s.vsram a.vram.now a.line a.dots.now (y / 16) y in
          c.paint_group.ensures p (λ d r e. h d r (search rules))
          ∙ group_painted p view a.s.vsram a.vram.now a.line a.dots.now l.c _ _ c.row_b.ensures c.row_a.ensures l.pixels
          ∙ ap₂ (λ (n : ℕ) (d : List ℕ). painted paints n 16 d) (sym (zero-add (16 * l.c))) (l.invariant.1 p h)
          ∙ painted_join paints 0 a.pixels.now (16 * l.c) 16
          ∙ ap (λ (n : ℕ). painted paints 0 n a.pixels.now) (let e : 16 * l.c + 16 ≡ 16 * (l.c + 1) = omega arith in e),
    )

pub returns : goal.returns
returns g c = λ p h.
    let l = c.loop-c in
    let a = c.args in
    let k = chip a.s a.vram.now in
    let all : 16 * l.c ≡ width_of (wide a.s) = omega (arith, (whole_groups c.wide.result).0, c.width_of.ensures) ∙ ap width_of c.wide.ensures in
    l.invariant.1 p h
    ∙ ap₂ (λ (w : View) (n : ℕ). painted (λ y _. group_pixel p w a.s.vsram a.vram.now a.line a.dots.now (y / 16) y) 0 n a.pixels.now) c.view_of-view.ensures all
    ∙ painted_same (λ y _. group_pixel p (view_of k a.line) a.s.vsram a.vram.now a.line a.dots.now (y / 16) y) 0 a.pixels.now (λ y _. p (dot_b k a.line y) (dot_a k a.line y) (get_or a.dots.now y 0)) (width_of (wide a.s)) (λ y i j. group_pixel_is p k a.line a.dots.now y)
