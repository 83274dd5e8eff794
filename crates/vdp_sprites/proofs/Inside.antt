-- Where the sprite table lies inside VRAM, nothing past FFFFh matters to what the sprites give to a line.
use Prim.Native.Nat.{ℕ, zero, suc, ◌+◌, ◌-◌, ◌<◌}
use mathlib.Core.Path.{◌≡◌, refl, ap₂, fun_ext}
use mathlib.Core.Bool.{Bool, true, false}
use mathlib.Core.List.{List, [], ◌∷◌, map}
use native.Mathlib.Omega.{arith}
use borrow.Author.Tests.{leb-false}
use lib.Dec.{eqb, leb}
use lib.ListN.{get_or}
use Rattle.vdp_state.specs.Cell.{word_at}
use Rattle.vdp_state.proofs.Bools.{by_cases, by_cond, none}
use Rattle.vdp_draw.specs.Inside.{Inside, SameInside}
use Rattle.vdp_draw.proofs.Inside.{word_same, block_same}
use Rattle.vdp_sprites.specs.declared.sprite.Sprite.{Sprite}
use Rattle.vdp_sprites.specs.Column.{sprite_dot, solid_count}
use Rattle.vdp_sprites.specs.Shown.{Shown}
use Rattle.vdp_sprites.specs.Sprite.{sprite_place, sprite_at, on_line}
use Rattle.vdp_sprites.specs.SpriteLine.{sprite_line}
use Rattle.vdp_sprites.specs.Walk.{most_visits, most_on_line, Walk, ends_at, onward, walk_from, walk}

-- ---- the dots of sprites that are known
module _ (m m' : List ℕ) (same : SameInside m m') (line : ℕ) where
  dot_same : (ss : List Shown) (x : ℕ) → sprite_dot m line ss x ≡ sprite_dot m' line ss x
  dot_same [] x = refl
  dot_same (s ∷ ss) x = simp (block_same m m' same, dot_same ss x)

  dots_same : (ss : List Shown) → sprite_dot m line ss ≡ sprite_dot m' line ss
  dots_same ss = fun_ext (dot_same ss)

  count_same : (ss : List Shown) (x : ℕ) → solid_count m line ss x ≡ solid_count m' line ss x
  count_same [] x = refl
  count_same (s ∷ ss) x = simp (block_same m m' same, count_same ss x)

-- ---- the walk, which comes to no sprite past the table
first_visited : (wide : Bool) → 0 < most_visits wide
first_visited true = omega arith
first_visited false = omega arith

module _ (m m' : List ℕ) (same : SameInside m m') (base : ℕ) (wide : Bool) (inside : (i : ℕ) → i < most_visits wide → Inside (sprite_place base i) 8) where
  -- the bytes of a sprite of the table
  module _ (i : ℕ) (h : i < most_visits wide) where
    fits : Inside (sprite_place base i) 8
    fits = inside i h

    y_same : word_at m (sprite_place base i) ≡ word_at m' (sprite_place base i)
    y_same = word_same m m' same (sprite_place base i) (omega (arith, fits))

    size_same : get_or m (sprite_place base i + 2) 0 ≡ get_or m' (sprite_place base i + 2) 0
    size_same = same (sprite_place base i + 2) (omega (arith, fits))

    link_same : get_or m (sprite_place base i + 3) 0 ≡ get_or m' (sprite_place base i + 3) 0
    link_same = same (sprite_place base i + 3) (omega (arith, fits))

    sprite_same : sprite_at m base i ≡ sprite_at m' base i
    sprite_same =
        simp (y_same, size_same, link_same, word_same m m' same (sprite_place base i + 4) (omega (arith, fits)), word_same m m' same (sprite_place base i + 6) (omega (arith, fits)))

  goes_on_lem : (link : ℕ) → ends_at wide link ≡ false → link < most_visits wide
  goes_on_lem link e = leb-false (most_visits wide) link (none (eqb link 0) (leb (most_visits wide) link) e).1

  walk_same : (line left room i : ℕ) → i < most_visits wide → walk_from m base wide line left room i ≡ walk_from m' base wide line left room i
  walk_same line zero room i h = refl
  walk_same line (suc left) room i h =
      let link : ℕ = (sprite_at m' base i).link in
      simp (y_same i h, size_same i h, link_same i h)
      (by_cases (ends_at wide link) (λ ends. simp ends)
      (λ on. simp (walk_same line left (room - 1) link (goes_on_lem link on), walk_same line left room link (goes_on_lem link on))))

  -- the sprites kept are the same
  abbrev Kept : Walk → Type 0
  Kept w = map (sprite_at m base) w.kept ≡ map (sprite_at m' base) w.kept

  kept_same : (line left room i : ℕ) → i < most_visits wide → Kept (walk_from m' base wide line left room i)
  kept_same line zero room i h = refl
  kept_same line (suc left) room i h =
      let s : Sprite = sprite_at m' base i in
      let rest : (r : ℕ) → Kept (onward wide s (walk_from m' base wide line left r s.link)) =
      λ r. by_cond Kept (ends_at wide s.link) _ _ (λ ends. refl) (λ on. kept_same line left r s.link (goes_on_lem s.link on)) in
      by_cond Kept (on_line s line) _ _
      (λ e. by_cond Kept (eqb room 0) _ _ (λ full. refl) (λ free. ap₂ ◌∷◌ (sprite_same i h) (rest (room - 1)))) (λ e. rest room)

  pub sprites_same : (began : Bool) (line : ℕ) → sprite_line m base wide began line ≡ sprite_line m' base wide began line
  unfolding sprite_line
  sprites_same began line =
      let walks : walk m base wide line ≡ walk m' base wide line = walk_same line (most_visits wide) (most_on_line wide) 0 (first_visited wide) in
      let kept : Kept (walk m' base wide line) = kept_same line (most_visits wide) (most_on_line wide) 0 (first_visited wide) in
      simp (walks, kept, dots_same m m' same line, count_same m m' same line)
