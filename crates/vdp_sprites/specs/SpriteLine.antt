-- All that the sprites give to a line: definition, Drawing.
use Rattle.std.specs.Prelude.{ℕ, ◌-◌, Bool, false, List, map, ◌++◌, replicate}
use Rattle.vdp_draw.specs.Tabulate.{tabulate}
use Rattle.vdp_draw.specs.Width.{width_of}
use Rattle.vdp_sprites.specs.declared.sprite.Sprite.{Sprite}
use Rattle.vdp_sprites.specs.declared.sprite_line.SpriteLine.{SpriteLine}
use Rattle.vdp_sprites.specs.Column.{sprite_dot, collides}
use Rattle.vdp_sprites.specs.Shown.{Shown, shown_from}
use Rattle.vdp_sprites.specs.Sprite.{sprite_at}
use Rattle.vdp_sprites.specs.Used.{uses_up}
use Rattle.vdp_sprites.specs.Walk.{Walk, walk}

-- the sprites that a walk keeps
abbrev pub kept_sprites : List ℕ → ℕ → Walk → List Sprite
kept_sprites vram base w = map (sprite_at vram base) w.kept

-- and what each shows, from a whole line's pixels on; `began` is used up as the line began
abbrev pub shown_of : List ℕ → ℕ → Bool → Bool → Walk → List Shown
shown_of vram base wide began w = shown_from (width_of wide) began false (kept_sprites vram base w)

-- the dots of the 320 columns, clear past the width; the visits, the overflow, the collision, and used up as the line
-- leaves it
unfoldable pub sprite_line : List ℕ → ℕ → Bool → Bool → ℕ → SpriteLine
sprite_line vram base wide began line =
    let w = walk vram base wide line in
    let shown = shown_of vram base wide began w in
    record {
      dots = tabulate (sprite_dot vram line shown) (width_of wide) ++ replicate (320 - width_of wide) 0;
      visits = w.visits;
      overflow = w.overflow;
      collision = collides vram line (width_of wide) shown;
      used_up = uses_up (width_of wide) (kept_sprites vram base w);
    }
