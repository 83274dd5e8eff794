-- Sprites put one behind the other on clear columns give each column its earliest solid dot, and meet where two are
-- solid.
use Prim.Native.Nat.{ℕ, ◌+◌, ◌<◌, ◌≤◌}
use mathlib.Core.Path.{◌≡◌, refl, sym, ap, ◌∙◌}
use mathlib.Core.Bool.{Bool, true, false, cond, ◌&&◌, ◌||◌}
use mathlib.Core.List.{List, [], ◌∷◌, ◌++◌, append-nil}
use native.Mathlib.Nat.{add-zero}
use native.Mathlib.Omega.{arith}
use borrow.Author.Tests.{le-leb}
use lib.Dec.{leb}
use lib.ListN.{length, get_or, replicate, length-replicate, get_or-replicate, drop_of_length-le}
use lib.Seq.{ext_get_or}
use Rattle.vdp_draw.specs.Dot.{solid}
use Rattle.vdp_draw.specs.Painted.{painted}
use Rattle.vdp_draw.specs.Tabulate.{tabulate, any_below}
use Rattle.vdp_draw.proofs.Painted.{painted_length, painted_inside, painted_all, any_same, any_either, none_below}
use Rattle.vdp_sprites.proofs.Painting.{under_clear}
use Rattle.vdp_sprites.specs.Behind.{under, behind, behind_all, meets_all}
use Rattle.vdp_sprites.specs.Column.{shown_dot, sprite_dot, solid_count, collides}
use Rattle.vdp_sprites.specs.Shown.{Shown}

-- one behind another behind what stands there
under_front : (old dot rest : ℕ) → under (under old dot) rest ≡ under old (cond (solid dot) dot rest)
under_front old dot rest = by_both (solid old) refl (solid dot) refl
  where
    by_both : (a : Bool) → solid old ≡ a → (b : Bool) → solid dot ≡ b → under (under old dot) rest ≡ under old (cond (solid dot) dot rest)
    by_both true p b q = simp p
    by_both false p true q = simp (p, q)
    by_both false p false q = simp (p, q)

-- a column with a solid dot on it counts one more
abbrev pub bit : Bool → ℕ
bit b = cond b 1 0

-- a solid dot on a solid column makes two
two_there : (old dot count : ℕ) → (solid old && solid dot || leb 2 (count + bit (solid (under old dot)))) ≡ leb 2 (bit (solid dot) + count + bit (solid old))
two_there old dot count = by_both (solid old) refl (solid dot) refl
  where
    by_both : (a : Bool) → solid old ≡ a → (b : Bool) → solid dot ≡ b → (solid old && solid dot || leb 2 (count + bit (solid (under old dot)))) ≡ leb 2 (bit (solid dot) + count + bit (solid old))
    by_both true p true q = simp (p, q) (sym (le-leb 2 (1 + count + 1) (omega arith)))
    by_both true p false q = simp (p, q) (ap (leb 2) (let e : count + 1 ≡ 0 + count + 1 = omega arith in e))
    by_both false p true q = simp (p, q) (ap (leb 2) (let e : count + 1 ≡ 1 + count + 0 = omega arith in e))
    by_both false p false q = simp (p, q) (ap (leb 2) (let e : count + 0 ≡ 0 + count + 0 = omega arith in e))

module _ (vram : List ℕ) (line width : ℕ) where
  pub behind_length : (ss : List Shown) (l : List ℕ) → length (behind_all vram line width ss l) ≡ length l
  behind_length [] l = refl
  behind_length (s ∷ ss) l = behind_length ss (behind (shown_dot vram line s) width l) ∙ painted_length (λ y old. under old (shown_dot vram line s y)) 0 l width

  one_at : (s : Shown) (l : List ℕ) → width ≤ length l → (x : ℕ) → x < width → get_or (behind (shown_dot vram line s) width l) x 0 ≡ under (get_or l x 0) (shown_dot vram line s x)
  one_at s l fits x h = painted_inside (λ y old. under old (shown_dot vram line s y)) 0 l width x (omega arith) (omega arith) (omega arith)

  behind_at : (ss : List Shown) (l : List ℕ) → width ≤ length l → (x : ℕ) → x < width → get_or (behind_all vram line width ss l) x 0 ≡ under (get_or l x 0) (sprite_dot vram line ss x)
  behind_at [] l fits x h = sym (under_clear (get_or l x 0) 0 refl)
  behind_at (s ∷ ss) l fits x h =
      let l' = behind (shown_dot vram line s) width l in
      behind_at ss l' (omega (arith, painted_length (λ y old. under old (shown_dot vram line s y)) 0 l width)) x h
      ∙ ap (λ (d : ℕ). under d (sprite_dot vram line ss x)) (one_at s l fits x h)
      ∙ under_front (get_or l x 0) (shown_dot vram line s x) (sprite_dot vram line ss x)

  -- a column's dot is solid or 0
  under_zero : (ss : List Shown) (x : ℕ) → under 0 (sprite_dot vram line ss x) ≡ sprite_dot vram line ss x
  under_zero [] x = refl
  under_zero (s ∷ ss) x = by_first (under_zero ss x) (solid (shown_dot vram line s x)) refl
    where
      by_first : under 0 (sprite_dot vram line ss x) ≡ sprite_dot vram line ss x → (t : Bool) → solid (shown_dot vram line s x) ≡ t → under 0 (sprite_dot vram line (s ∷ ss) x) ≡ sprite_dot vram line (s ∷ ss) x
      by_first ih true e = simp e
      by_first ih false e = simp e ih

  -- the columns that were clear
  module _ (ss : List Shown) where
    abbrev clear : List ℕ
    clear = replicate width 0

    size : length clear ≡ width
    size = length-replicate width 0

    dots_at : (x : ℕ) → x < width → get_or (behind_all vram line width ss clear) x 0 ≡ get_or (painted (λ y _. sprite_dot vram line ss y) 0 width clear) x 0
    dots_at x h =
        behind_at ss clear (omega (arith, size)) x h ∙ ap (λ (d : ℕ). under d (sprite_dot vram line ss x)) (get_or-replicate width x 0 0 h) ∙ under_zero ss x
        ∙ sym (painted_inside (λ y _. sprite_dot vram line ss y) 0 clear width x (omega arith) (omega arith) (omega (arith, size)))

    pub all_dots : behind_all vram line width ss clear ≡ tabulate (sprite_dot vram line ss) width
    all_dots =
        ext_get_or 0 (behind_all vram line width ss clear) (painted (λ y _. sprite_dot vram line ss y) 0 width clear)
        (behind_length ss clear ∙ sym (painted_length (λ y _. sprite_dot vram line ss y) 0 clear width))
        (λ x h. dots_at x (omega (arith, behind_length ss clear, size)))
        ∙ painted_all (sprite_dot vram line ss) width clear (omega (arith, size))
        ∙ ap (λ (r : List ℕ). tabulate (sprite_dot vram line ss) width ++ r) (drop_of_length-le clear {i = width} (omega (arith, size)))
        ∙ append-nil (tabulate (sprite_dot vram line ss) width)

  all_meet : (ss : List Shown) (l : List ℕ) → width ≤ length l → meets_all vram line width ss l ≡ any_below (λ x. leb 2 (solid_count vram line ss x + bit (solid (get_or l x 0)))) width
  all_meet [] l fits = sym (none_below (λ x. leb 2 (0 + bit (solid (get_or l x 0)))) width (λ x h. lone (solid (get_or l x 0))))
    where
      lone : (b : Bool) → leb 2 (0 + bit b) ≡ false
      lone true = refl
      lone false = refl
  all_meet (s ∷ ss) l fits =
      let l' = behind (shown_dot vram line s) width l in
      let there : ℕ → Bool = λ x. solid (get_or l x 0) && solid (shown_dot vram line s x) in
      let later : ℕ → Bool = λ x. leb 2 (solid_count vram line ss x + bit (solid (get_or l' x 0))) in
      ap (λ (t : Bool). any_below there width || t) (all_meet ss l' (omega (arith, painted_length (λ y old. under old (shown_dot vram line s y)) 0 l width)))
      ∙ sym (any_either there later width)
      ∙ any_same (λ x. there x || later x) (λ x. leb 2 (solid_count vram line (s ∷ ss) x + bit (solid (get_or l x 0)))) width
      (λ x h. ap (λ (d : ℕ). there x || leb 2 (solid_count vram line ss x + bit (solid d))) (one_at s l fits x h) ∙ two_there (get_or l x 0) (shown_dot vram line s x) (solid_count vram line ss x))

  -- two solid dots on a column that was clear are a collision
  pub all_collide : (ss : List Shown) → meets_all vram line width ss (replicate width 0) ≡ collides vram line width ss
  all_collide ss =
      all_meet ss (replicate width 0) (omega (arith, length-replicate {A = ℕ} width 0))
      ∙ any_same (λ x. leb 2 (solid_count vram line ss x + bit (solid (get_or (replicate width 0) x 0)))) (λ x. leb 2 (solid_count vram line ss x)) width
      (λ x h. ap (λ (d : ℕ). leb 2 (solid_count vram line ss x + bit (solid d))) (get_or-replicate width x 0 0 h) ∙ ap (leb 2) (add-zero (solid_count vram line ss x)))
