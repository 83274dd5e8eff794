-- The pixels that the kept sprites of a line use: definition, Drawing.
use Rattle.std.specs.Prelude.{ℕ, ◌+◌, ◌*◌, Bool, List, [], ◌∷◌, leb}
use Rattle.vdp_sprites.specs.declared.sprite.Sprite.{Sprite}

-- "each as many as its width"
abbrev pub pixels_used : List Sprite → ℕ
pixels_used [] = 0
pixels_used (s ∷ ss) = 8 * s.columns + pixels_used ss

-- "the widths of its kept sprites, also of those that are off the screen or masked, add up to 320 (256) pixels or more"
abbrev pub uses_up : ℕ → List Sprite → Bool
uses_up width ss = leb width (pixels_used ss)
