-- The pixels of a pattern's row: definition, Calls for a host program and Numbers a call may answer.
use Rattle.std.specs.Prelude.{ℕ, cond, not, ◌||◌, List, [], ◌∷◌, eqb, ltb, length}
use Rattle.vdp_state.specs.Answer.{Test, gives, first}
use Rattle.vdp_ports.specs.Refusal.{bad_vram}
use Rattle.vdp_draw.specs.Pattern.{row_pixels}

-- 2: "the row buffer is not 8 bytes long"
abbrev pub bad_row : List ℕ → Test
bad_row pixels = gives 2 (not (eqb (length pixels) 8))

-- 5: "the name is above 2,047 or the row above 7"
abbrev pub no_pattern : ℕ → ℕ → Test
no_pattern name row = gives 5 (ltb 2047 name || ltb 7 row)

abbrev pub row_tests : List ℕ → ℕ → ℕ → List ℕ → List Test
row_tests vram name row pixels = bad_vram vram ∷ bad_row pixels ∷ no_pattern name row ∷ []

abbrev pub row_number : List ℕ → ℕ → ℕ → List ℕ → ℕ
row_number vram name row pixels = first (row_tests vram name row pixels)

-- what the call leaves: its number and the row buffer, which a refused call leaves untouched
pub record RowOutcome : Type 0 where
  pub number : ℕ
  pub pixels : List ℕ

abbrev pub row_outcome : ℕ → List ℕ → RowOutcome
row_outcome n pixels = record { number = n; pixels = pixels }

abbrev pub row_outcome_at : ℕ → List ℕ → List ℕ → RowOutcome
row_outcome_at n drawn before = row_outcome n (cond (eqb n 0) drawn before)

abbrev pub pattern_row : List ℕ → ℕ → ℕ → List ℕ → RowOutcome
pattern_row vram name row pixels = row_outcome_at (row_number vram name row pixels) (row_pixels vram name row) pixels
