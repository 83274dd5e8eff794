-- GOOD: definition, The state.
use Rattle.std.specs.Prelude.{ℕ, ◌≡◌, ◌%◌, ◌^◌, Bool, true, ◌&&◌, ◌||◌, List, [], ◌∷◌, leb, ltb, eqb}
use Rattle.std.specs.Bool.{beq}
use Rattle.vdp_state.specs.declared.state.Dma.{Dma}
use Rattle.vdp_state.specs.declared.state.Control.{Control}
use Rattle.vdp_state.specs.declared.state.State.{State}
use Rattle.vdp_state.specs.declared.state.Timing.{Timing}
use Rattle.vdp_state.specs.Colour.{colour_word}

-- the test passes at every element
abbrev pub all : (ℕ → Bool) → List ℕ → Bool
all p [] = true
all p (x ∷ xs) = p x && all p xs

-- whatever a call of a test may give for a number is what p says of it
abbrev pub Tests : (ℕ → Bool → Type 0) → (ℕ → Bool) → Type 0
Tests post p = (x : ℕ) → (b : Bool) → post x b → b ≡ p x

-- "No colour word has a bit outside 0EEEh."
abbrev pub is_colour : ℕ → Bool
is_colour w = eqb (colour_word w) w

-- "No scroll word is above 3FFh."
abbrev pub is_scroll : ℕ → Bool
is_scroll w = leb w 0x3ff

-- "The units remaining are not above 65,536."
abbrev pub most_units : ℕ
most_units = 65536

-- "The source is 0, or it is even and below 2^24 in kind 2, or it is below 2^16 in kind 4."
abbrev pub good_source : ℕ → ℕ → Bool
good_source kind source =
    eqb source 0
    || (eqb kind 2 && eqb (source % 2) 0 && ltb source (2 ^ 24))
    || (eqb kind 4 && ltb source (2 ^ 16))

-- "The DMA kind is not above 4."; the most units remaining, and "They are 0 in kinds 0 and 1, and at least 1 in kinds
-- 2, 3 and 4."; the source; "The fill byte is 0, or the kind is 3."
abbrev pub good_dma : Dma → Bool
good_dma d =
    leb d.kind 4
    && leb d.remaining most_units
    && beq (eqb d.remaining 0) (leb d.kind 1)
    && good_source d.kind d.source
    && (eqb d.fill 0 || eqb d.kind 3)

-- "The line is not above 261."
abbrev pub last_line : ℕ
last_line = 261

abbrev pub good_timing : Timing → Bool
good_timing t = leb t.line last_line

-- "The code is not above 63."; the DMA state; the timing
abbrev pub good_control : Control → Bool
good_control c = leb c.port.code 63 && good_dma c.dma && good_timing c.timing

unfoldable pub good : State → Bool
good s = all is_colour s.cram && all is_scroll s.vsram && good_control s.control
