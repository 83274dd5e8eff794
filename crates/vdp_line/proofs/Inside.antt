-- No read of an accepted line passes FFFFh, and nothing past FFFFh matters to it (specs/Inside.antt).
use Prim.Native.Nat.{ℕ, suc, ◌+◌, ◌-◌, ◌*◌, ◌/◌, ◌%◌, ◌<◌, ◌≤◌}
use mathlib.Core.Path.{◌≡◌, ap}
use mathlib.Core.List.{List}
use native.Mathlib.Nat.{mul_comm, suc-mul, mul-le-mul_right}
use native.Mathlib.Omega.{arith}
use Rattle.vdp_state.specs.declared.state.State.{State}
use Rattle.vdp_state.specs.State.{Chip, chip}
use Rattle.vdp_state.proofs.Bools.{by_cases, by_cond}
use Rattle.vdp_ports.specs.Length.{register}
use Rattle.vdp_draw.specs.Inside.{Inside, SameInside}
use Rattle.vdp_draw.proofs.Inside.{pattern_inside, word_same, block_same}
use Rattle.vdp_sprites.specs.Sprite.{sprite_place}
use Rattle.vdp_sprites.specs.Walk.{most_visits}
use Rattle.vdp_sprites.proofs.Inside.{sprites_same}
use Rattle.vdp_line.specs.Inside.{ReadsInside, TablesInside, NothingPastEnd}
use Rattle.vdp_line.specs.Layer.{horizontal, row_a, row_b, dot_a, dot_b}
use Rattle.vdp_line.specs.Layout.{wide, height, base_sprites, code_across, code_down, scroll_place, vertical}
use Rattle.vdp_line.specs.Line.{plane_cells, most_cells, line_made}
use Rattle.vdp_line.specs.Plane.{Plane, Row, plane_a, plane_b, window, row_of, across, cell_place, row_dot, in_window}
use Rattle.vdp_line.proofs.Accepted.{accepted}
use Rattle.vdp_line.proofs.Bounds.{some_cells, some_window, pixel_small, scroll_line_small, height_small}

-- ---- tables of cells
-- a cell that is so many across and down comes before the end of its table
cell_below : (row rows column columns : ℕ) → row < rows → column < columns → row * columns + column < columns * rows
cell_below row rows column columns h k =
    let whole : suc row * columns ≤ rows * columns = mul-le-mul_right columns h in
    omega (arith, suc-mul row columns, mul_comm rows columns)

-- a table that ends inside VRAM
abbrev Ends : Plane → Type 0
Ends p = Inside p.base (2 * (p.columns * p.rows))

row_inside : (p : Plane) → 0 < p.columns → 0 < p.rows → Ends p → (h v line x : ℕ) → Inside (cell_place (row_of p h v line) x) 2
row_inside p some-columns some-rows ends h v line x =
    let down : ℕ = (line + v) % (8 * p.rows) in
    let column : ℕ = across (row_of p h v line) x in
    let d : down < 8 * p.rows = pixel_small (line + v) p.rows some-rows in
    let a : column < 8 * p.columns = pixel_small (x + (1024 - h)) p.columns some-columns in
    omega (arith, cell_below (down / 8) p.rows (column / 8) p.columns (omega arith) (omega arith))

window_ends : (s : State) → Ends (window s)
window_ends s = by_cases (wide s) (λ e. simp e (omega arith)) (λ e. simp e (omega arith))

sprite_inside : (s : State) (i : ℕ) → i < most_visits (wide s) → Inside (sprite_place (base_sprites s) i) 8
sprite_inside s i = by_cases (wide s) (λ e. simp e (λ h. omega arith)) (λ e. simp e (λ h. omega arith))

reads_inside : (c : Chip) (line : ℕ) → line < height c.state → plane_cells c.state ≤ most_cells → ReadsInside c line
reads_inside c line tall few =
    let s = c.state in
    let columns = some_cells (code_across s) in
    let rows = some_cells (code_down s) in
    record {
      cell_a =
          λ x. by_cond (λ r. Inside (cell_place r x) 2) (in_window s line x) _ _
          (λ e. row_inside (window s) (some_window s) (omega arith) (window_ends s) 0 0 line x)
          (λ e. row_inside (plane_a s) columns rows (omega arith) (horizontal c line 0) (vertical s 0 x) line x);
      cell_b = λ x. row_inside (plane_b s) columns rows (omega arith) (horizontal c line 1) (vertical s 1 x) line x;
      scroll = omega (arith, scroll_line_small (register s 11 % 4) line, height_small s);
      sprite = sprite_inside s;
      pattern = pattern_inside;
    }

pub tables_inside : TablesInside
tables_inside c line pixels z = let passed = accepted c line pixels z in reads_inside c line passed.tall passed.few

-- ---- what lies past FFFFh
module _ (s : State) (m m' : List ℕ) (line : ℕ) (same : SameInside m m') (reads : ReadsInside (chip s m) line) where
  horizontal_same : (plane : ℕ) → plane ≤ 1 → horizontal (chip s m) line plane ≡ horizontal (chip s m') line plane
  horizontal_same plane h = ap (λ (w : ℕ). w % 1024) (word_same m m' same (scroll_place s line + 2 * plane) (omega (arith, reads.scroll)))

  row_same : (r r' : Row) (x : ℕ) → r ≡ r' → Inside (cell_place r x) 2 → row_dot m r x ≡ row_dot m' r' x
  row_same r r' x e h = simp (word_same m m' same (cell_place r x) h, block_same m m' same) (ap (λ (t : Row). row_dot m' t x) e)

  a_same : (x : ℕ) → dot_a (chip s m) line x ≡ dot_a (chip s m') line x
  a_same x = row_same (row_a (chip s m) line x) (row_a (chip s m') line x) x (simp (horizontal_same 0 (omega arith))) (reads.cell_a x)

  b_same : (x : ℕ) → dot_b (chip s m) line x ≡ dot_b (chip s m') line x
  b_same x = row_same (row_b (chip s m) line x) (row_b (chip s m') line x) x (simp (horizontal_same 1 (omega arith))) (reads.cell_b x)

  made_same : (pixels : List ℕ) → line_made (chip s m) line pixels ≡ line_made (chip s m') line pixels
  made_same pixels = simp (sprites_same m m' same (base_sprites s) (wide s) reads.sprite s.control.flags.used_up line, a_same, b_same)

pub nothing_past_end : NothingPastEnd
nothing_past_end s m m' line pixels z same = made_same s m m' line same (tables_inside (chip s m) line pixels z) pixels
