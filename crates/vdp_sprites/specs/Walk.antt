-- The walk over the sprites of a line: definition, Drawing; notes s15.
use Rattle.std.specs.Prelude.{ℕ, zero, suc, ◌+◌, ◌-◌, Bool, true, false, cond, ◌||◌, List, [], ◌∷◌, eqb, leb}
use Rattle.vdp_sprites.specs.declared.sprite.Sprite.{Sprite}
use Rattle.vdp_sprites.specs.Sprite.{sprite_at, on_line}

-- "The walk ends after 80 (64) visits.", and a further sprite on the line is too many if "20 (16) have been kept"
abbrev pub most_visits : Bool → ℕ
most_visits wide = cond wide 80 64

abbrev pub most_on_line : Bool → ℕ
most_on_line wide = cond wide 20 16

-- the numbers of the sprites kept, in order, how many were visited, and whether there was one too many
pub record Walk : Type 0 where
  pub kept : List ℕ
  pub visits : ℕ
  pub overflow : Bool

abbrev pub walk_of : List ℕ → ℕ → Bool → Walk
walk_of kept visits overflow = record { kept = kept; visits = visits; overflow = overflow }

-- one visit more, before those of a walk
abbrev pub visit : Walk → Walk
visit w = walk_of w.kept (w.visits + 1) w.overflow

abbrev pub keep : ℕ → Walk → Walk
keep i w = walk_of (i ∷ w.kept) w.visits w.overflow

-- "It ends at a link of 0, and at a link that is not below 80 (64)."
abbrev pub ends_at : Bool → ℕ → Bool
ends_at wide link = eqb link 0 || leb (most_visits wide) link

abbrev pub onward : Bool → Sprite → Walk → Walk
onward wide s w = cond (ends_at wide s.link) (walk_of [] 0 false) w

-- from sprite i on, with so many visits left and room on the line for so many more: "If the sprite is on the line and
-- 20 (16) have been kept, the walk ends here with overflow.", and that visit is counted
abbrev pub walk_from : List ℕ → ℕ → Bool → ℕ → ℕ → ℕ → ℕ → Walk
walk_from vram base wide line zero room i = walk_of [] 0 false
walk_from vram base wide line (suc left) room i =
    let s = sprite_at vram base i in
    visit
    (cond (on_line s line)
    (cond (eqb room 0) (walk_of [] 0 true) (keep i (onward wide s (walk_from vram base wide line left (room - 1) s.link))))
    (onward wide s (walk_from vram base wide line left room s.link)))

-- "The walk begins at sprite 0."
abbrev pub walk : List ℕ → ℕ → Bool → ℕ → Walk
walk vram base wide line = walk_from vram base wide line (most_visits wide) (most_on_line wide) 0
