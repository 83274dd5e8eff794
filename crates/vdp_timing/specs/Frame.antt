-- What is claimed of a frame: definition, Frame timing, A line begins ("the counter expires on each line from 0 to 224
-- whose number plus one is a multiple of n + 1").
use Rattle.std.specs.Prelude.{ℕ, ◌+◌, ◌%◌, ◌≤◌, ◌≡◌, Bool, true, false, eqb}
use Rattle.vdp_state.specs.declared.state.State.{State}
use Rattle.vdp_state.specs.Cell.{iterate}
use Rattle.vdp_state.specs.Good.{last_line, good}
use Rattle.vdp_ports.specs.Length.{register}
use Rattle.vdp_timing.specs.LineBegins.{next_line, loaded, expires, line_begins}

-- the state once n lines have begun, with nothing called between
abbrev pub lines_begun : ℕ → State → State
lines_begun n s = iterate (λ x. (line_begins x).state) n s

-- the line that begins next, and whether the counter expires on it
abbrev pub line_after : State → ℕ
line_after s = next_line s.control.timing.line

abbrev pub expires_next : State → Bool
expires_next s = expires (line_after s) (loaded (line_after s) (register s 10) s.control.timing.counter)

-- a GOOD state on the last line of a frame, without PAL
pub record FrameEnds (s : State) : Type 0 where
  pub good : good s ≡ true
  pub ntsc : s.pal ≡ false
  pub line : s.control.timing.line ≡ last_line

-- the claim: once as many lines have begun as the number of a line says, that line is next, and whether the counter
-- expires on it is told by a remainder
abbrev pub ExpiresByRemainder : Type 0
ExpiresByRemainder =
    (s : State) → FrameEnds s → (line : ℕ) → line ≤ 224
    → (line_after (lines_begun line s) ≡ line)
    × (expires_next (lines_begun line s) ≡ eqb ((line + 1) % (register s 10 + 1)) 0)
