-- No read of a line passes FFFFh: where a line reads VRAM, and that it reads nowhere else (definition, Drawing, Tables in
-- VRAM).
use Rattle.std.specs.Prelude.{ℕ, ◌<◌, ◌≡◌, List}
use Rattle.vdp_state.specs.declared.state.State.{State}
use Rattle.vdp_state.specs.State.{Chip, chip}
use Rattle.vdp_draw.specs.Dot.{block_name}
use Rattle.vdp_draw.specs.Inside.{Inside, SameInside}
use Rattle.vdp_draw.specs.Pattern.{row_place}
use Rattle.vdp_sprites.specs.Sprite.{sprite_place}
use Rattle.vdp_sprites.specs.Walk.{most_visits}
use Rattle.vdp_line.specs.Layer.{row_a, row_b}
use Rattle.vdp_line.specs.Layout.{wide, base_sprites, scroll_place}
use Rattle.vdp_line.specs.Line.{line_number, line_made}
use Rattle.vdp_line.specs.Plane.{cell_place}

-- what a line reads lies inside VRAM: on each column the cell word of plane A or the window and that of plane B; the
-- line's scroll entry; each sprite that a walk can come to; each row of a pattern that a cell word or a sprite can name
pub record ReadsInside (c : Chip) (line : ℕ) : Type 0 where
  pub cell_a : (x : ℕ) → Inside (cell_place (row_a c line x) x) 2
  pub cell_b : (x : ℕ) → Inside (cell_place (row_b c line x) x) 2
  pub scroll : Inside (scroll_place c.state line) 4
  pub sprite : (i : ℕ) → i < most_visits (wide c.state) → Inside (sprite_place (base_sprites c.state) i) 8
  pub pattern : (cell across rows down row : ℕ) → row < 8 → Inside (row_place (block_name cell across rows down) row) 4

-- the claim: "No table that a line reads passes FFFFh", for every line that is not refused
abbrev pub TablesInside : Type 0
TablesInside = (c : Chip) (line : ℕ) (pixels : List ℕ) → line_number c line pixels ≡ 0 → ReadsInside c line

-- and that there is no other read: "whatever a memory held past FFFFh, the line would be the same"
abbrev pub NothingPastEnd : Type 0
NothingPastEnd =
    (s : State) (m m' : List ℕ) (line : ℕ) (pixels : List ℕ) → line_number (chip s m) line pixels ≡ 0 → SameInside m m'
    → line_made (chip s m) line pixels ≡ line_made (chip s m') line pixels
