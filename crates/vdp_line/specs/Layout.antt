-- The layout of a line from the registers: definition, Drawing; notes s12 to s14, s17.
use Rattle.std.specs.Prelude.{ℕ, ◌+◌, ◌-◌, ◌*◌, ◌/◌, ◌%◌, ◌^◌, Bool, cond, eqb, get_or}
use Rattle.vdp_state.specs.declared.state.State.{State}
use Rattle.vdp_ports.specs.Length.{register}
use Rattle.vdp_line.specs.declared.extent.PlaneName.{PlaneName}
use Rattle.vdp_line.specs.declared.extent.PlaneName.TheVariants.{A, B}

-- bit n of a register
abbrev pub bit : State → ℕ → ℕ → Bool
bit s i n = eqb (register s i / 2 ^ n % 2) 1

-- "The width is 320 if register 12 bit 0 is set, else 256."
abbrev pub wide : State → Bool
wide s = bit s 12 0

-- "register 12 bit 3": shadow and highlight
abbrev pub shadow : State → Bool
shadow s = bit s 12 3

-- "The height is 240 if register 1 bit 3 is set, else 224."
abbrev pub height : State → ℕ
height s = cond (bit s 1 3) 240 224

-- "If register 1 bit 6 is clear, the line is blanked"; "The backdrop is register 7 mod 64."
abbrev pub displayed : State → Bool
displayed s = bit s 1 6

abbrev pub backdrop : State → ℕ
backdrop s = register s 7 % 64

-- plane A: "register 2 bits 5-3 are A15-A13"
abbrev pub base_a : State → ℕ
base_a s = register s 2 / 8 % 8 * 8192

-- plane B: "register 4 bits 2-0 are A15-A13"
abbrev pub base_b : State → ℕ
base_b s = register s 4 % 8 * 8192

abbrev pub base_of : State → PlaneName → ℕ
base_of s A = base_a s
base_of s B = base_b s

-- window: "register 3 bits 5-1 are A15-A11, with A11 taken as 0 at 320"
abbrev pub base_window : State → ℕ
base_window s = cond (wide s) (register s 3 / 4 % 16 * 4096) (register s 3 / 2 % 32 * 2048)

-- sprites: "register 5 bits 6-0 are A15-A9, with A9 taken as 0 at 320"
abbrev pub base_sprites : State → ℕ
base_sprites s = cond (wide s) (register s 5 / 2 % 64 * 1024) (register s 5 % 128 * 512)

-- horizontal scroll: "register 13 bits 5-0 are A15-A10"
abbrev pub base_scroll : State → ℕ
base_scroll s = register s 13 % 64 * 1024

-- "register 16 bits 1-0 are the code of the width and bits 5-4 that of the height. The codes 0, 1 and 3 stand for 32,
-- 64 and 128 cells."
abbrev pub code_across : State → ℕ
code_across s = register s 16 % 4

abbrev pub code_down : State → ℕ
code_down s = register s 16 / 16 % 4

abbrev pub cells : ℕ → ℕ
cells code = cond (eqb code 0) 32 (cond (eqb code 1) 64 128)

-- the line whose entry of the horizontal scroll table holds: "that of line 0, of line mod 8, of line - line mod 8, or
-- of the line itself, for register 11 bits 1-0 = 0, 1, 2, 3"
abbrev pub scroll_line : ℕ → ℕ → ℕ
scroll_line mode line =
    cond (eqb mode 0) 0 (cond (eqb mode 1) (line % 8) (cond (eqb mode 2) (line - line % 8) line))

-- "The entry of line n is at base + 4 x n."
abbrev pub scroll_place : State → ℕ → ℕ
scroll_place s line = base_scroll s + 4 * scroll_line (register s 11 % 4) line

-- v of plane 0 (A) or 1 (B) on column x: "scroll word 0 for plane A and scroll word 1 for plane B. With register 11 bit
-- 2 set it is scroll word 2c for plane A and 2c + 1 for plane B, where c = x / 16"
abbrev pub vertical : State → ℕ → ℕ → ℕ
vertical s plane x = get_or s.vsram (cond (bit s 11 2) (2 * (x / 16) + plane) plane) 0
