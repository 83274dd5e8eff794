-- Serves proofs only: what functions of the crate promise each other about a recorded call.
use Rattle.std.specs.Prelude.{ℕ, ◌+◌, ◌≤◌, ◌≡◌, List}
use Rattle.vdp_state.specs.declared.state.Step.{Step}
use Rattle.vdp_state.specs.declared.state.Store.{Store}
use Rattle.vdp_state.specs.declared.state.Store.TheVariants.{Nothing, Vram, Cram, Vsram, Register}
use Rattle.vdp_state.specs.Answer.{Test, first}
use Rattle.vdp_state.specs.State.{Chip}
use Rattle.vdp_tape.specs.Number.{recorded_number}
use Rattle.vdp_tape.specs.Recorder.{Plan}

-- r is the number of a recorded call whose plain form answers `plain`; at 0 there is room for its steps
pub record Numbered (plain count room steps r : ℕ) : Type 0 where
  pub is : (tests : List Test) → plain ≡ first tests → r ≡ recorded_number tests count room steps
  pub fits : r ≡ 0 → count + steps ≤ room

-- a plan is one step, t, and has this number and result
pub record OneStep (p : Plan) (c : Chip) (plain w : ℕ) (t : Step) : Type 0 where
  pub number : plain ≡ first p.tests
  pub result : w ≡ p.result
  pub one : p.steps ≡ 1
  pub step : t ≡ p.step c

-- a store that leaves VRAM alone
abbrev pub OffVram : Store → Type 0
OffVram Nothing = Unit {0}
OffVram (Vram place w) = ⊥
OffVram (Cram i w) = Unit {0}
OffVram (Vsram i w) = Unit {0}
OffVram (Register i b) = Unit {0}
