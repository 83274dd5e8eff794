-- What each kept sprite may show: definition, Drawing.
use Rattle.std.specs.Prelude.{ℕ, ◌-◌, ◌*◌, min, Bool, cond, not, ◌&&◌, ◌||◌, List, [], ◌∷◌, eqb}
use Rattle.vdp_sprites.specs.declared.sprite.Sprite.{Sprite}

-- a sprite and how many of its columns show, counted from its left edge on the screen
pub record Shown : Type 0 where
  pub sprite : Sprite
  pub columns : ℕ

abbrev pub shown : Sprite → ℕ → Shown
shown s columns = record { sprite = s; columns = columns }

-- "A sprite shows as many of its columns as there are pixels left for it"; a masked sprite shows none
abbrev pub columns_shown : ℕ → Bool → Sprite → ℕ
columns_shown left masked s = cond masked 0 (min left (8 * s.columns))

-- "X is the stored number of 9 bits.": it is 0
abbrev pub zero_x : Sprite → Bool
zero_x s = eqb s.x 0

-- with so many pixels left: "The kept sprites use them up in their order, each as many as its width, also where it is
-- off the screen or masked."; "A kept sprite whose X is 0 masks those kept after it", where it can: "if one kept before
-- it has another X or if used up was set as the line began"
abbrev pub shown_from : ℕ → Bool → Bool → List Sprite → List Shown
shown_from left canMask masked [] = []
shown_from left canMask masked (s ∷ ss) =
    shown s (columns_shown left masked s)
    ∷ shown_from (left - 8 * s.columns) (canMask || not (zero_x s)) (masked || canMask && zero_x s) ss
