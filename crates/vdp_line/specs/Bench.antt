-- The cases of masking and used up of definition, Worked cases, that are proved, as one table.
use Rattle.std.specs.Prelude.{ℕ, ◌+◌, ◌-◌, ◌*◌, ◌/◌, ◌%◌, Bool, true, false, List, [], ◌∷◌, map, length, replicate}
use Rattle.vdp_state.specs.declared.state.State.{State}
use Rattle.vdp_state.specs.Cell.{after}
use Rattle.vdp_state.specs.Fresh.{fresh}
use Rattle.vdp_state.specs.State.{chip, with_control, with_flags}
use Rattle.vdp_state.specs.Worked.{Case, gives}
use Rattle.vdp_ports.specs.Frame.{new_frame}
use Rattle.vdp_ports.specs.Status.{flag, status_read}
use Rattle.vdp_draw.specs.Tabulate.{tabulate}
use Rattle.vdp_draw.specs.Width.{width_of}
use Rattle.vdp_sprites.specs.Shown.{Shown}
use Rattle.vdp_sprites.specs.SpriteLine.{kept_sprites, shown_of}
use Rattle.vdp_sprites.specs.Used.{uses_up}
use Rattle.vdp_sprites.specs.Walk.{Walk, walk_of}
use Rattle.vdp_line.specs.Line.{flagged, line_step}

-- VRAM with sprites one after the other from 0 on: the X of each and its width in cells
abbrev pub vram_of : List (ℕ × ℕ) → List ℕ
vram_of [] = []
vram_of (s ∷ ss) = 0 ∷ 128 ∷ (4 * (s.1 - 1)) ∷ 0 ∷ 0 ∷ 0 ∷ (s.0 / 256) ∷ (s.0 % 256) ∷ vram_of ss

-- a walk that kept them all
abbrev pub all_kept : List (ℕ × ℕ) → Walk
all_kept ss = walk_of (tabulate (λ i. i) (length ss)) (length ss) false

-- the columns that each shows at 320 if it has 8 of them, with used up as the line began
abbrev pub columns : Bool → List ℕ → List ℕ
columns usedUp xs =
    let ss = map {B = ℕ × ℕ} (λ x. (x, 1)) xs in
    map (λ (s : Shown). s.columns) (shown_of (vram_of ss) 0 true usedUp (all_kept ss))

-- so many sprites of 32 pixels off the screen, and whether kept sprites use up a line: 4 if they do
abbrev pub large : ℕ → List (ℕ × ℕ)
large n = replicate n (1, 4)

abbrev pub used : Bool → List (ℕ × ℕ) → ℕ
used wide ss = flag (uses_up (width_of wide) (kept_sprites (vram_of ss) 0 (all_kept ss))) 4

-- the flags of a state: overflow 1, collision 2, used up 4
abbrev pub flags : State → ℕ
flags s = let f = s.control.flags in flag f.overflow 1 + flag f.collision 2 + flag f.used_up 4

-- a fresh state with all three flags set; a line of it is blanked
abbrev pub all_set : State
all_set =
    let start = fresh false in
    with_control start (with_flags start.control (record { overflow = true; collision = true; used_up = true }))

-- after a displayed line whose sprites meet nothing and use up its pixels or not
abbrev pub shown_line : Bool → State
shown_line usedUp =
    with_control all_set
    (flagged all_set.control (record { dots = []; visits = 1; overflow = false; collision = false; used_up = usedUp }))

unfoldable pub table : List Case
table =
    -- X 0 first, used up clear and set
    gives (columns false (0 ∷ 200 ∷ [])) (8 ∷ 8 ∷ [])
    ∷ gives (columns true (0 ∷ 200 ∷ [])) (8 ∷ 0 ∷ [])
    -- X 0 after another X, on the screen and off it, there stored as 512
    ∷ gives (columns false (200 ∷ 0 ∷ 300 ∷ [])) (8 ∷ 8 ∷ 0 ∷ [])
    ∷ gives (columns false (1 ∷ 512 ∷ 300 ∷ [])) (8 ∷ 8 ∷ 0 ∷ [])
    -- two X of 0, then another, used up clear and set
    ∷ gives (columns false (0 ∷ 0 ∷ 300 ∷ [])) (8 ∷ 8 ∷ 8 ∷ [])
    ∷ gives (columns true (0 ∷ 0 ∷ 300 ∷ [])) (8 ∷ 0 ∷ 0 ∷ [])
    -- X 0, another X, X 0, another
    ∷ gives (columns false (0 ∷ 200 ∷ 0 ∷ 300 ∷ [])) (8 ∷ 8 ∷ 8 ∷ 0 ∷ [])
    -- 312, 320 and 328 pixels at 320; 248 and 256 at 256
    ∷ gives (used true ((1, 3) ∷ large 9) ∷ used true (large 10) ∷ used true ((200, 1) ∷ large 10) ∷ []) (0 ∷ 4 ∷ 4 ∷ [])
    ∷ gives (used false ((1, 3) ∷ large 7) ∷ used false (large 8) ∷ []) (0 ∷ 4 ∷ [])
    -- all three set: a displayed line that uses up its pixels or not, and a blanked line
    ∷ gives (flags (shown_line true) ∷ flags (shown_line false) ∷ flags (after all_set (line_step (chip all_set []) 0)) ∷ []) (7 ∷ 3 ∷ 3 ∷ [])
    -- a status read and a new frame
    ∷ gives (flags (status_read all_set).state ∷ flags (new_frame all_set).state ∷ []) (4 ∷ 0 ∷ [])
    ∷ []
