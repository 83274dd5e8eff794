-- What the beginning of a line and an acknowledge decide on a good chip is a step in range.
use Prim.Native.Nat.{ℕ, ◌+◌, ◌-◌, ◌<◌, ◌≤◌}
use mathlib.Core.Path.{refl}
use native.Mathlib.Omega.{arith}
use borrow.Author.Tests.{le-leb, ltb-true}
use lib.Dec.{eqb, ltb}
use Rattle.vdp_state.specs.declared.state.State.{State}
use Rattle.vdp_state.specs.declared.state.Timing.{Timing}
use Rattle.vdp_state.specs.Good.{last_line}
use Rattle.vdp_state.specs.Range.{GoodChip, GoodStep}
use Rattle.vdp_state.specs.State.{Chip}
use Rattle.vdp_state.proofs.Bools.{by_cond}
use Rattle.vdp_state.proofs.Facts.{TimingGood, parts, control_of}
use Rattle.vdp_timing.specs.Interrupt.{acknowledge_step}
use Rattle.vdp_timing.specs.LineBegins.{next_line, loads, loaded, counts, counted, timing_begun, line_begins_step}
use Rattle.vdp_timing.specs.Timing.{timing_step}

-- a line that begins is one of a frame's, whatever the one before it
pub next_inside : (line : ℕ) → next_line line ≤ last_line
next_inside line = by_cond (λ (n : ℕ). n ≤ last_line) (ltb line last_line) (line + 1) 0 (λ e. omega (arith, ltb-true line last_line e)) (λ e. omega arith)

loaded_byte : (line reload counter : ℕ) → reload < 256 → counter < 256 → loaded line reload counter < 256
loaded_byte line reload counter h k = by_cond (λ (n : ℕ). n < 256) (loads line) reload counter (λ e. h) (λ e. k)

counted_byte : (line reload counter : ℕ) → reload < 256 → counter < 256 → counted line reload counter < 256
counted_byte line reload counter h k =
    by_cond (λ (n : ℕ). n < 256) (counts line) _ counter
    (λ e. by_cond (λ (n : ℕ). n < 256) (eqb counter 0) reload (counter - 1) (λ z. h) (λ z. omega arith)) (λ e. k)

module _ (c : Chip) (g : GoodChip c) where
  abbrev s : State
  s = c.state

  abbrev t : Timing
  t = s.control.timing

  begun_good : TimingGood (timing_begun s)
  begun_good =
      let before = g.control.counter in
      let line = next_line t.line in (
        le-leb line last_line (next_inside t.line),
        counted_byte line _ _ (g.registers 10) (loaded_byte line _ t.counter (g.registers 10) before),
      )

  timing_good : (t : Timing) → TimingGood t → GoodStep (timing_step s t)
  timing_good t h = let p = parts s.control g.control in record { control = control_of _ p.code p.address p.dma h; store = refl }

  pub begins_good : GoodStep (line_begins_step s)
  begins_good = timing_good _ begun_good

  pub acknowledge_good : (level : ℕ) → GoodStep (acknowledge_step s level)
  acknowledge_good level = timing_good _ (parts s.control g.control).timing
