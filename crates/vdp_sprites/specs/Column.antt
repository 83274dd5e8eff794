-- The sprites on a column of the screen: definition, Drawing.
use Rattle.std.specs.Prelude.{ℕ, ◌+◌, ◌-◌, Bool, cond, ◌&&◌, List, [], ◌∷◌, leb, ltb}
use Rattle.vdp_draw.specs.Dot.{solid, block_dot}
use Rattle.vdp_draw.specs.Tabulate.{any_below}
use Rattle.vdp_sprites.specs.declared.sprite.Sprite.{Sprite}
use Rattle.vdp_sprites.specs.Shown.{Shown}

-- a sprite's dot on a line, on one of its columns
abbrev pub dot_inside : List ℕ → ℕ → Sprite → ℕ → ℕ
dot_inside vram line s column = block_dot vram s.cell s.columns s.rows (line + 128 - s.y) column

-- the dot that a sprite shows on column x of the screen, clear past the columns that show; its left is "column X - 128"
abbrev pub shown_dot : List ℕ → ℕ → Shown → ℕ → ℕ
shown_dot vram line s x =
    cond (leb s.sprite.x (x + 128) && ltb (x + 128) (s.sprite.x + s.columns))
    (dot_inside vram line s.sprite (x + 128 - s.sprite.x)) 0

-- "the solid dot of the first sprite, in the order of the walk, that shows one there; its priority is not asked"
abbrev pub sprite_dot : List ℕ → ℕ → List Shown → ℕ → ℕ
sprite_dot vram line [] x = 0
sprite_dot vram line (s ∷ ss) x = cond (solid (shown_dot vram line s x)) (shown_dot vram line s x) (sprite_dot vram line ss x)

-- how many solid pixels are shown on a column
abbrev pub solid_count : List ℕ → ℕ → List Shown → ℕ → ℕ
solid_count vram line [] x = 0
solid_count vram line (s ∷ ss) x = cond (solid (shown_dot vram line s x)) 1 0 + solid_count vram line ss x

-- "There is a collision if two sprites show a solid pixel on the same column of the line's width."
abbrev pub collides : List ℕ → ℕ → ℕ → List Shown → Bool
collides vram line width ss = any_below (λ x. leb 2 (solid_count vram line ss x)) width
