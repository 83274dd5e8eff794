-- Laws of shadow and highlight: that a pixel byte is a byte, and the claims of specs/Intensity.antt and Line.antt.
use Prim.Native.Nat.{ℕ, ◌%◌, ◌<◌, ◌≤◌}
use mathlib.Core.Path.{◌≡◌, refl}
use mathlib.Core.Bool.{Bool, true, false, cond, ◌||◌}
use native.Mathlib.Nat.{add-zero}
use native.Mathlib.Omega.{arith}
use lib.Dec.{eqb}
use Rattle.vdp_state.proofs.Bools.{by_cond}
use Rattle.vdp_draw.specs.Dot.{solid, high}
use Rattle.vdp_line.specs.Intensity.{normal, half, darkens, lightens, sprite_drawn, behind_sprites, sprite_in_front, raised, shade, intensity, pixel, InFrontAsMixed, PixelParts}
use Rattle.vdp_line.specs.Line.{WithoutShadow}
use Rattle.vdp_line.specs.Mix.{index, in_front, mix}

-- ---- a pixel byte is a byte
-- what holds of two numbers holds of the one that a test picks
either : (P : ℕ → Type 0) (t : Bool) (x y : ℕ) → P x → P y → P (cond t x y)
either P t x y h k = by_cond P t x y (λ e. h) (λ e. k)

abbrev Small : ℕ → Type 0
Small n = n < 64

pub index_small : (backdrop b a sprite : ℕ) → backdrop < 64 → mix backdrop b a sprite < 64
unfolding mix
index_small backdrop b a sprite h =
    let of : (dot : ℕ) → Small (index dot) = λ dot. omega arith in
    let low = either Small (solid sprite) _ _ (of sprite) (either Small (solid a) _ _ (of a) (either Small (solid b) _ _ (of b) h)) in
    either Small (in_front sprite) _ _ (of sprite) (either Small (in_front a) _ _ (of a) (either Small (in_front b) _ _ (of b) low))

-- normal, half or double
abbrev pub Step : ℕ → Type 0
Step n = (n % 64 ≡ 0) × (n ≤ 128)

pub shade_step : (b a sprite : ℕ) → Step (shade b a sprite)
shade_step b a sprite =
    let normally : Step 0 = (refl, omega arith) in
    let halved : Step 64 = (refl, omega arith) in
    let doubled : Step 128 = (refl, omega arith) in
    let there : Step (behind_sprites b a) = either Step (high a || high b) _ _ normally halved in
    let lit : Step (raised (behind_sprites b a)) = either Step (eqb (behind_sprites b a) half) _ _ normally doubled in
    let drawn = either Step (high sprite || eqb (sprite % 16) 14) _ _ normally there in
    let front = either Step (darkens sprite) _ _ halved (either Step (lightens sprite) _ _ lit drawn) in
    either Step (sprite_in_front b a sprite) _ _ front there

-- ---- the claims
pub as_mixed : (backdrop b a sprite : ℕ) → pixel false backdrop b a sprite ≡ mix backdrop b a sprite
unfolding pixel intensity
as_mixed backdrop b a sprite = add-zero (mix backdrop b a sprite)

pub without_shadow : WithoutShadow
without_shadow c n pixels e = simp (e, as_mixed)

pub in_front_as_mixed : InFrontAsMixed
unfolding mix
in_front_as_mixed backdrop b a sprite = by_dots (solid sprite) refl (high sprite) refl (in_front a) refl (in_front b) refl
  where
    by_dots : (s : Bool) → solid sprite ≡ s → (h : Bool) → high sprite ≡ h → (p : Bool) → in_front a ≡ p → (q : Bool) → in_front b ≡ q
        → mix backdrop b a sprite ≡ cond (sprite_in_front b a sprite) (index sprite) (mix backdrop b a 0)
    by_dots false e h f p g q i = simp e
    by_dots true e true f p g q i = simp (e, f)
    by_dots true e false f true g q i = simp (e, f, g)
    by_dots true e false f false g true i = simp (e, f, g, i)
    by_dots true e false f false g false i = simp (e, f, g, i)

pub pixel_parts : PixelParts
unfolding pixel intensity
pixel_parts shadow backdrop b a sprite h =
    let small = index_small backdrop b a (sprite_drawn shadow sprite) h in
    let step = either Step shadow (shade b a sprite) normal (shade_step b a sprite) (refl, omega arith) in
    (omega (arith, small, step.0, step.1), omega (arith, small, step.0, step.1))
