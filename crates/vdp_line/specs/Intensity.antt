-- Shadow and highlight: definition, Drawing; notes s16. It comes after mixing and makes the pixel byte, "a colour
-- index, 0 to 63, plus an intensity".
use Rattle.std.specs.Prelude.{ℕ, ◌+◌, ◌*◌, ◌/◌, ◌%◌, ◌<◌, ◌≡◌, Bool, cond, not, ◌&&◌, ◌||◌, eqb}
use Rattle.vdp_draw.specs.Dot.{solid, high}
use Rattle.vdp_line.specs.declared.intensity.Intensity.{Intensity}
use Rattle.vdp_line.specs.declared.intensity.Intensity.TheVariants.{Normal, Half, Double}
use Rattle.vdp_line.specs.Mix.{index, in_front, mix}

-- "0 for normal, 64 for half, 128 for double"
abbrev pub normal : ℕ
normal = 0

abbrev pub half : ℕ
half = 64

abbrev pub double : ℕ
double = 128

abbrev pub intensity_in : Intensity → ℕ
intensity_in Normal = normal
intensity_in Half = half
intensity_in Double = double

-- "A sprites' dot with the colour index 3Eh or 3Fh is an operator."
abbrev pub darkens : ℕ → Bool
darkens sprite = eqb (index sprite) 62

abbrev pub lightens : ℕ → Bool
lightens sprite = eqb (index sprite) 63

abbrev pub operator : ℕ → Bool
operator sprite = darkens sprite || lightens sprite

-- "It is not drawn: the column shows what mixing gives without it."
abbrev pub sprite_drawn : Bool → ℕ → ℕ
sprite_drawn shadow sprite = cond (shadow && operator sprite) 0 sprite

-- "Backdrop and planes are at half intensity, or at normal intensity if the cell there of plane A or of plane B has
-- priority."; a clear dot has its cell's priority, and a is the window's dot "on the columns that the window has"
abbrev pub behind_sprites : ℕ → ℕ → ℕ
behind_sprites b a = cond (high a || high b) normal half

-- "The sprites' dot lies in front if it is solid, and is high or neither plane has a solid high dot there."
abbrev pub sprite_in_front : ℕ → ℕ → ℕ → Bool
sprite_in_front b a sprite = solid sprite && (high sprite || not (in_front a || in_front b))

-- "the operator 3Fh makes half normal and normal double"
abbrev pub raised : ℕ → ℕ
raised there = cond (eqb there half) normal double

-- what a sprites' dot in front makes of the intensity there
abbrev pub under_sprite : ℕ → ℕ → ℕ
under_sprite sprite there =
    cond (darkens sprite) half
    (cond (lightens sprite) (raised there) (cond (high sprite || eqb (sprite % 16) 14) normal there))

-- "Else the intensity stays that of backdrop and planes."
abbrev pub shade : ℕ → ℕ → ℕ → ℕ
shade b a sprite = cond (sprite_in_front b a sprite) (under_sprite sprite (behind_sprites b a)) (behind_sprites b a)

-- "With register 12 bit 3 clear every intensity is normal"
unfoldable pub intensity : Bool → ℕ → ℕ → ℕ → ℕ
intensity shadow b a sprite = cond shadow (shade b a sprite) normal

-- "A pixel byte is a colour index, 0 to 63, plus an intensity"
unfoldable pub pixel : Bool → ℕ → ℕ → ℕ → ℕ → ℕ
pixel shadow backdrop b a sprite = mix backdrop b a (sprite_drawn shadow sprite) + intensity shadow b a sprite

-- ---- claims
-- the sprites' dot lies in front where mixing has it there
abbrev pub InFrontAsMixed : Type 0
InFrontAsMixed =
    (backdrop b a sprite : ℕ) → mix backdrop b a sprite ≡ cond (sprite_in_front b a sprite) (index sprite) (mix backdrop b a 0)

-- a pixel byte holds its two parts apart
abbrev pub PixelParts : Type 0
PixelParts =
    (shadow : Bool) (backdrop b a sprite : ℕ) → backdrop < 64
    → let byte = pixel shadow backdrop b a sprite in
    (byte % 64 ≡ mix backdrop b a (sprite_drawn shadow sprite)) × (64 * (byte / 64) ≡ intensity shadow b a sprite)
