-- The conditions under which a port access is refused: definition, Numbers a call may answer.
use Rattle.std.specs.Prelude.{ℕ, Bool, ◌||◌, not, List, eqb, length}
use Rattle.vdp_state.specs.declared.state.State.{State}
use Rattle.vdp_state.specs.Answer.{Test, gives}
use Rattle.vdp_state.specs.Good.{good}

-- 1: "the state is not GOOD"
abbrev pub bad_state : State → Test
bad_state s = gives 1 (not (good s))

-- 2: "VRAM is not 65,536 bytes long"
abbrev pub bad_vram : List ℕ → Test
bad_vram m = gives 2 (not (eqb (length m) 65536))

-- kinds 3 and 4, in which a status read shows DMA at work
abbrev pub filling : State → Bool
filling s = eqb s.control.dma.kind 3 || eqb s.control.dma.kind 4

-- 3: "a port access in kind 2, or one other than a status read in kind 3 or 4"
abbrev pub busy_at_status : State → Test
busy_at_status s = gives 3 (eqb s.control.dma.kind 2)

abbrev pub busy : State → Test
busy s = gives 3 (eqb s.control.dma.kind 2 || filling s)
