-- A line: definition, Drawing and Numbers a call may answer.
use Rattle.std.specs.Prelude.{ℕ, ◌*◌, ◌≡◌, false, cond, not, ◌||◌, List, [], ◌∷◌, ◌++◌, eqb, leb, ltb, length, get_or, drop}
use Rattle.std.specs.Bool.{beq}
use Rattle.vdp_state.specs.Answer.{Answer}
use Rattle.vdp_state.specs.declared.state.Control.{Control}
use Rattle.vdp_state.specs.declared.state.State.{State}
use Rattle.vdp_state.specs.declared.state.Step.{Step}
use Rattle.vdp_state.specs.declared.state.Store.TheVariants.{Nothing}
use Rattle.vdp_state.specs.Answer.{Test, gives, first, refused, done}
use Rattle.vdp_state.specs.Cell.{after}
use Rattle.vdp_state.specs.State.{Chip, with_flags}
use Rattle.vdp_ports.specs.Refusal.{bad_state, bad_vram}
use Rattle.vdp_draw.specs.Tabulate.{tabulate}
use Rattle.vdp_draw.specs.Width.{width_of}
use Rattle.vdp_sprites.specs.declared.sprite_line.SpriteLine.{SpriteLine}
use Rattle.vdp_sprites.specs.SpriteLine.{sprite_line}
use Rattle.vdp_line.specs.Intensity.{pixel}
use Rattle.vdp_line.specs.Layer.{dot_a, dot_b}
use Rattle.vdp_line.specs.Layout.{bit, wide, shadow, height, displayed, backdrop, base_sprites, code_across, code_down, cells}
use Rattle.vdp_line.specs.Mix.{mix}

-- 2: "the pixel buffer is not 320 bytes long"
abbrev pub bad_pixels : List ℕ → Test
bad_pixels pixels = gives 2 (not (eqb (length pixels) 320))

-- 5: "the line number is not below the height"
abbrev pub no_line : State → ℕ → Test
no_line s line = gives 5 (leb (height s) line)

-- the cells of a plane, and the most that are modelled
abbrev pub plane_cells : State → ℕ
plane_cells s = cells (code_across s) * cells (code_down s)

abbrev pub most_cells : ℕ
most_cells = 4096

-- 4: "register 0 bit 0 or bit 3 is set", "register 1 bit 7 or bit 0 is set, or its bit 2 is clear", "register 12 bits 7
-- and 0 differ, or its bit 2 or bit 1 is set", "register 16 has the code 2 for the width or the height of the planes" or
-- "a plane has more than 4,096 cells"
abbrev pub not_modelled : State → Test
not_modelled s =
    gives 4
    (bit s 0 0 || bit s 0 3 || bit s 1 7 || bit s 1 0 || not (bit s 1 2) || not (beq (bit s 12 7) (bit s 12 0))
    || bit s 12 2 || bit s 12 1 || eqb (code_across s) 2 || eqb (code_down s) 2
    || ltb most_cells (plane_cells s))

abbrev pub line_tests : Chip → ℕ → List ℕ → List Test
line_tests c line pixels =
    bad_state c.state ∷ bad_vram c.vram ∷ bad_pixels pixels ∷ no_line c.state line ∷ not_modelled c.state ∷ []

abbrev pub line_number : Chip → ℕ → List ℕ → ℕ
line_number c line pixels = first (line_tests c line pixels)

-- what the sprites give to the line: "Used up as the line began is what the state holds before the call"
abbrev pub sprites_of : Chip → ℕ → SpriteLine
sprites_of c line =
    sprite_line c.vram (base_sprites c.state) (wide c.state) c.state.control.flags.used_up line

-- the pixel byte on column x of a displayed line, with the sprites' dots
abbrev pub mixed : Chip → ℕ → List ℕ → ℕ → ℕ
mixed c line dots x =
    pixel (shadow c.state) (backdrop c.state) (dot_b c line x) (dot_a c line x) (get_or dots x 0)

-- the columns of the width drawn: "The bytes of the pixel buffer past the width stay as they are."
abbrev pub drawn : State → (ℕ → ℕ) → List ℕ → List ℕ
drawn s pixel pixels = tabulate pixel (width_of (wide s)) ++ drop (width_of (wide s)) pixels

-- "A line sets overflow or collision where it meets them and never clears them. It sets used up if [..], and clears it
-- if not."
abbrev pub flagged : Control → SpriteLine → Control
flagged k found =
    with_flags k
    (record {
      overflow = k.flags.overflow || found.overflow;
      collision = k.flags.collision || found.collision;
      used_up = found.used_up;
    })

-- "A blanked line clears used up and leaves overflow and collision."
abbrev pub blanked : Control → Control
blanked k = with_flags k (record { overflow = k.flags.overflow; collision = k.flags.collision; used_up = false })

-- a line changes the flags and stores nothing
abbrev pub line_step : Chip → ℕ → Step
line_step c n =
    let k = c.state.control in
    record { control = cond (displayed c.state) (flagged k (sprites_of c n)) (blanked k); store = Nothing }

-- "The result is the number of visits"; where the line is blanked "no sprite is visited"
abbrev pub visits : Chip → ℕ → ℕ
visits c n = cond (displayed c.state) (sprites_of c n).visits 0

-- a blanked line shows "the backdrop at normal intensity", its bare index
abbrev pub line_pixels : Chip → ℕ → List ℕ → List ℕ
line_pixels c n pixels =
    drawn c.state (λ x. cond (displayed c.state) (mixed c n (sprites_of c n).dots x) (backdrop c.state)) pixels

-- what a line leaves: its answer and the pixel buffer, which a refused line leaves untouched
pub record LineOutcome : Type 0 where
  pub answer : Answer
  pub pixels : List ℕ

abbrev pub line_outcome : Answer → List ℕ → LineOutcome
line_outcome a pixels = record { answer = a; pixels = pixels }

abbrev pub line_made : Chip → ℕ → List ℕ → LineOutcome
line_made c n pixels = line_outcome (done (visits c n) (after c.state (line_step c n))) (line_pixels c n pixels)

abbrev pub line : Chip → ℕ → List ℕ → LineOutcome
line c n pixels =
    cond (eqb (line_number c n pixels) 0) (line_made c n pixels) (line_outcome (refused (line_number c n pixels) c.state) pixels)

-- the claim: "With register 12 bit 3 clear every intensity is normal, so a pixel byte is the colour index that mixing
-- gives."
abbrev pub WithoutShadow : Type 0
WithoutShadow =
    (c : Chip) (n : ℕ) (pixels : List ℕ) → shadow c.state ≡ false
    → let front : ℕ → ℕ = λ x. mix (backdrop c.state) (dot_b c n x) (dot_a c n x) (get_or (sprites_of c n).dots x 0) in
    line_pixels c n pixels ≡ drawn c.state (λ x. cond (displayed c.state) (front x) (backdrop c.state)) pixels
