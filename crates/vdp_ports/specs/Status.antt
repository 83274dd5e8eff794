-- The status word and what reading it clears: definition, Ports.
use Rattle.std.specs.Prelude.{ℕ, ◌+◌, Bool, false, cond, ◌&&◌, List, [], ◌∷◌, leb}
use Rattle.vdp_state.specs.Answer.{Answer}
use Rattle.vdp_state.specs.declared.state.Control.{Control}
use Rattle.vdp_state.specs.declared.state.State.{State}
use Rattle.vdp_state.specs.declared.state.Step.{Step}
use Rattle.vdp_state.specs.declared.state.Store.TheVariants.{Nothing}
use Rattle.vdp_state.specs.Answer.{Test, first, answered}
use Rattle.vdp_state.specs.State.{with_port, with_flags}
use Rattle.vdp_ports.specs.Data.{settled}
use Rattle.vdp_ports.specs.Refusal.{bad_state, busy_at_status, filling}

-- a number where a flag is set
abbrev pub flag : Bool → ℕ → ℕ
flag b n = cond b n 0

-- status bit 3, vertical blanking, is set "on lines 224 to 260"
abbrev pub blanking : ℕ → Bool
blanking line = leb 224 line && leb line 260

-- "3600h, plus 80h if vertical is set, 40h if overflow is set, 20h if collision is set, 8 on lines 224 to 260, 2 in
-- kinds 3 and 4, and 1 if PAL is set"
unfoldable pub status_word : State → ℕ
status_word s =
    0x3600 + flag s.control.timing.vertical 0x80 + flag s.control.flags.overflow 0x40
    + flag s.control.flags.collision 0x20 + flag (blanking s.control.timing.line) 8 + flag (filling s) 2
    + flag s.pal 1

-- a status read and a new frame both clear overflow and collision; used up is then as given
abbrev pub flags_cleared : Control → Bool → Control
flags_cleared c usedUp = with_flags c (record { overflow = false; collision = false; used_up = usedUp })

-- "Then it clears pending, overflow and collision, and changes nothing else; used up and vertical stay."
abbrev pub status_step : State → Step
status_step s =
    record {
      control = flags_cleared (with_port s.control (settled s.control.port)) s.control.flags.used_up;
      store = Nothing;
    }

abbrev pub status_tests : State → List Test
status_tests s = bad_state s ∷ busy_at_status s ∷ []

-- "A status read gives the status word as it was before the read."
abbrev pub status_read : State → Answer
status_read s = answered (first (status_tests s)) s (status_step s) (status_word s)
