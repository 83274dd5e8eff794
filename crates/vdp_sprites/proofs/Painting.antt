-- A sprite's columns painted from the first on the screen to the last are all columns of the screen painted, since a sprite
-- is clear elsewhere.
use Prim.Native.Nat.{ℕ, ◌+◌, ◌-◌, ◌<◌, ◌≤◌, min}
use mathlib.Core.Path.{◌≡◌, refl, sym, ap, ◌∙◌}
use mathlib.Core.Bool.{Bool, true, false, ◌&&◌}
use mathlib.Core.List.{List}
use native.Mathlib.Omega.{arith}
use borrow.Author.Tests.{le-leb, lt-leb, lt-ltb, le-ltb}
use Rattle.std.proofs.Math.Bool.{and-false}
use lib.Dec.{leb}
use lib.ListN.{length, get_or}
use Rattle.vdp_draw.specs.Dot.{solid}
use Rattle.vdp_draw.specs.Painted.{painted, any_from}
use Rattle.vdp_draw.proofs.Painted.{painted_within, any_within}
use Rattle.vdp_sprites.specs.declared.sprite.Sprite.{Sprite}
use Rattle.vdp_sprites.specs.Behind.{under, behind, meets}
use Rattle.vdp_sprites.specs.Column.{dot_inside, shown_dot}
use Rattle.vdp_sprites.specs.Shown.{shown}

-- a clear dot leaves what stands there
pub under_clear : (old dot : ℕ) → solid dot ≡ false → under old dot ≡ old
under_clear old dot e = by_old (solid old) refl
  where
    by_old : (t : Bool) → solid old ≡ t → under old dot ≡ old
    by_old true p = simp p
    by_old false p = simp (p, e)

module _ (vram : List ℕ) (line : ℕ) (s : Sprite) (columns width : ℕ) where
  abbrev from : ℕ
  from = s.x - 128

  abbrev to : ℕ
  to = min width (s.x + columns - 128)

  abbrev dot : ℕ → ℕ
  dot x = shown_dot vram line (shown s columns) x

  -- on its columns
  pub dot_inside_lem : (x : ℕ) → from ≤ x → x < to → dot_inside vram line s (x + 128 - s.x) ≡ dot x
  dot_inside_lem x a b = sym (simp (le-leb s.x (x + 128) (omega arith), lt-ltb (x + 128) (s.x + columns) (omega arith)))

  clear_before : (x : ℕ) → x < from → dot x ≡ 0
  clear_before x h = simp (lt-leb s.x (x + 128) (omega arith))

  clear_past : (x : ℕ) → x < width → to ≤ x → dot x ≡ 0
  clear_past x h k = simp (le-ltb (x + 128) (s.x + columns) (omega arith), and-false (leb s.x (x + 128)))

  module _ (l : List ℕ) (fits : width ≤ length l) where
    -- all columns of the screen at once
    pub whole : painted (λ x old. under old (dot x)) from (to - from) l ≡ behind dot width l
    whole =
        painted_within (λ x old. under old (dot x)) from to width l (omega arith) fits
        (λ y h. ((λ k. under_clear (get_or l y 0) (dot y) (ap solid (clear_before y k))), (λ k. under_clear (get_or l y 0) (dot y) (ap solid (clear_past y h k)))))

    pub whole_meets : any_from (λ x. solid (get_or l x 0) && solid (dot x)) from (to - from) ≡ meets dot width l
    whole_meets =
        any_within (λ x. solid (get_or l x 0) && solid (dot x)) from to width (omega arith)
        (λ y h. ((λ k. ap (λ (d : ℕ). solid (get_or l y 0) && solid d) (clear_before y k) ∙ and-false (solid (get_or l y 0))), (λ k. ap (λ (d : ℕ). solid (get_or l y 0) && solid d) (clear_past y h k) ∙ and-false (solid (get_or l y 0)))))
