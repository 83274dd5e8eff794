-- Serves proofs only: the walk that the code's struct holds, and what each sprite kept shows.
use Rattle.std.specs.Prelude.{ℕ, Bool, false, List}
use Rattle.vdp_sprites.specs.declared.walk.KeptSprites.{KeptSprites}
use Rattle.vdp_sprites.specs.Shown.{Shown, shown_from}
use Rattle.vdp_sprites.specs.SpriteLine.{kept_sprites}
use Rattle.vdp_sprites.specs.Walk.{Walk, walk_of}

abbrev pub walked : KeptSprites → Walk
walked w = walk_of w.kept.items w.visits w.overflow

-- from so many pixels on; `began` is used up as the line began
abbrev pub shown_kept : List ℕ → ℕ → ℕ → Bool → KeptSprites → List Shown
shown_kept vram base pixels began w = shown_from pixels began false (kept_sprites vram base (walked w))
