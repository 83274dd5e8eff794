-- Serves proofs only: sprites put one after the other behind those that stand on the columns already.
use Rattle.std.specs.Prelude.{ℕ, Bool, false, cond, ◌&&◌, ◌||◌, List, [], ◌∷◌, get_or}
use Rattle.vdp_draw.specs.Dot.{solid}
use Rattle.vdp_draw.specs.Painted.{painted}
use Rattle.vdp_draw.specs.Tabulate.{any_below}
use Rattle.vdp_sprites.specs.Column.{shown_dot}
use Rattle.vdp_sprites.specs.Shown.{Shown}

-- a dot behind one that stands there
abbrev pub under : ℕ → ℕ → ℕ
under old dot = cond (solid old) old (cond (solid dot) dot old)

-- the columns once a layer is put behind them, and whether a solid dot met another
abbrev pub behind : (ℕ → ℕ) → ℕ → List ℕ → List ℕ
behind dot width l = painted (λ x old. under old (dot x)) 0 width l

abbrev pub meets : (ℕ → ℕ) → ℕ → List ℕ → Bool
meets dot width l = any_below (λ x. solid (get_or l x 0) && solid (dot x)) width

-- the same of sprites in order
abbrev pub behind_all : List ℕ → ℕ → ℕ → List Shown → List ℕ → List ℕ
behind_all vram line width [] l = l
behind_all vram line width (s ∷ ss) l = behind_all vram line width ss (behind (shown_dot vram line s) width l)

abbrev pub meets_all : List ℕ → ℕ → ℕ → List Shown → List ℕ → Bool
meets_all vram line width [] l = false
meets_all vram line width (s ∷ ss) l =
    meets (shown_dot vram line s) width l || meets_all vram line width ss (behind (shown_dot vram line s) width l)
