-- The cases of shadow and highlight of definition, Worked cases, that are proved, as one table.
use Rattle.std.specs.Prelude.{ℕ, ◌+◌, true, false, List, [], ◌∷◌, ◌++◌, get_or, replicate, set}
use Rattle.vdp_state.specs.declared.state.State.{State}
use Rattle.vdp_state.specs.Answer.{first}
use Rattle.vdp_state.specs.Fresh.{fresh}
use Rattle.vdp_state.specs.State.{chip, with_registers, with_vsram}
use Rattle.vdp_state.specs.Worked.{Case, gives}
use Rattle.vdp_line.specs.Intensity.{pixel}
use Rattle.vdp_line.specs.Line.{not_modelled, mixed, line_pixels}

-- a column with the backdrop 5, of the dots of plane B, plane A and the sprites; a dot of high priority is 64 more
abbrev pub shaded : ℕ → ℕ → ℕ → ℕ
shaded b a sprite = pixel true 5 b a sprite

-- the same under each of the operators
abbrev pub low_3e : ℕ
low_3e = 62

abbrev pub low_3f : ℕ
low_3f = 63

abbrev pub under_low : ℕ → ℕ → List ℕ
under_low b a = shaded b a low_3e ∷ shaded b a low_3f ∷ []

abbrev pub under_high : ℕ → ℕ → List ℕ
under_high b a = shaded b a (64 + low_3e) ∷ shaded b a (64 + low_3f) ∷ []

-- a clear dot, and that of a cell with priority
abbrev pub high_clear : ℕ
high_clear = 64

-- a blanked line in mode 5 with this register 12, backdrop 5 and the window on columns 0 to 15; the scroll table is past
-- the cells, plane A is moved by a row of cells and plane B by two and a line
abbrev pub windowed : ℕ → State
windowed register12 =
    let s = fresh false in
    let registers = set (set (set (set (set s.registers 1 4) 7 5) 12 register12) 13 1) 17 1 in
    with_vsram (with_registers s registers) (8 ∷ 17 ∷ replicate 38 0)

-- 4 if register 12 asks for what is not modelled
abbrev pub answer_of : ℕ → ℕ
answer_of register12 = first (not_modelled (windowed register12) ∷ [])

-- VRAM with the upper byte of the window's first cell, and of plane A's on columns 0 and 16; all their pixels are clear
abbrev pub cells_of : ℕ → ℕ → List ℕ
cells_of window a = window ∷ 0 ∷ replicate 62 0 ++ (a ∷ 0 ∷ 0 ∷ 0 ∷ a ∷ 0 ∷ [])

-- columns 0 and 16, of which the window has the first
abbrev pub columns_of : ℕ → ℕ → ℕ → List ℕ
columns_of register12 window a =
    let c = chip (windowed register12) (cells_of window a) in mixed c 0 [] 0 ∷ mixed c 0 [] 16 ∷ []

-- the first and the last column of a blanked line
abbrev pub blanked_of : ℕ → ℕ → List ℕ
blanked_of register12 last =
    let l = line_pixels (chip (windowed register12) []) 0 [] in get_or l 0 0 ∷ get_or l last 0 ∷ []

unfoldable pub table : List Case
table =
    -- backdrop: all cells low; a clear pixel of a high cell of plane A, of plane B
    gives (shaded 0 0 0 ∷ shaded 0 high_clear 0 ∷ shaded high_clear 0 0 ∷ []) (69 ∷ 5 ∷ 5 ∷ [])
    -- plane A with the index 11h: low, low over a high cell of plane B, high; plane B under a high cell of plane A
    ∷ gives (shaded 0 17 0 ∷ shaded high_clear 17 0 ∷ shaded 0 81 0 ∷ shaded 17 high_clear 0 ∷ []) (81 ∷ 17 ∷ 17 ∷ 17 ∷ [])
    -- low operators on the backdrop, at half and at normal intensity
    ∷ gives (under_low 0 0) (69 ∷ 5 ∷ [])
    ∷ gives (under_low 0 high_clear) (69 ∷ 133 ∷ [])
    -- operators on a low plane, and on a solid high one
    ∷ gives (under_low 17 0) (81 ∷ 17 ∷ [])
    ∷ gives (under_low 0 81 ++ under_low 81 0) (17 ∷ 17 ∷ 17 ∷ 17 ∷ [])
    ∷ gives (under_high 0 81 ++ under_high 81 0) (81 ∷ 145 ∷ 81 ∷ 145 ∷ [])
    -- sprites with the indexes 12h and 1Eh: low over half and normal intensity, high
    ∷ gives (shaded 0 0 18 ∷ shaded 0 high_clear 18 ∷ shaded 0 0 82 ∷ []) (82 ∷ 18 ∷ 18 ∷ [])
    ∷ gives (shaded 0 0 30 ∷ shaded 0 high_clear 30 ∷ shaded 0 0 94 ∷ []) (30 ∷ 30 ∷ 30 ∷ [])
    -- low sprites behind a solid high plane
    ∷ gives (shaded 0 81 18 ∷ shaded 81 0 30 ∷ []) (17 ∷ 17 ∷ [])
    -- backdrop and planes with the indexes 3Eh and 3Fh
    ∷ gives (pixel true 62 0 0 0 ∷ pixel true 63 0 high_clear 0 ∷ shaded 62 0 0 ∷ shaded 0 63 0 ∷ []) (126 ∷ 63 ∷ 126 ∷ 127 ∷ [])
    -- bit 3 clear: backdrop, a low plane, an operator's index, a low sprite
    ∷ gives (pixel false 5 0 0 0 ∷ pixel false 5 0 17 0 ∷ pixel false 5 0 17 low_3e ∷ pixel false 5 0 0 18 ∷ []) (5 ∷ 17 ∷ 62 ∷ 18 ∷ [])
    -- the window's cell has priority and plane A's has not, and the other way round; at 320, at 256
    ∷ gives (columns_of 0x89 129 1 ++ columns_of 0x89 1 129) (5 ∷ 69 ∷ 69 ∷ 5 ∷ [])
    ∷ gives (columns_of 0x08 129 1 ++ columns_of 0x08 1 129) (5 ∷ 69 ∷ 69 ∷ 5 ∷ [])
    -- answers at 320 and 256; with bit 2 too, with bit 1 too, with bit 7 alone
    ∷ gives (answer_of 0x89 ∷ answer_of 0x08 ∷ answer_of 0x8D ∷ answer_of 0x8B ∷ answer_of 0x88 ∷ []) (0 ∷ 0 ∷ 4 ∷ 4 ∷ 4 ∷ [])
    -- a blanked line
    ∷ gives (blanked_of 0x89 319 ++ blanked_of 0x08 255) (5 ∷ 5 ∷ 5 ∷ 5 ∷ [])
    ∷ []
