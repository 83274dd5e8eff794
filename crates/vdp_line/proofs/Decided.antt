-- What a line decides on a good chip is a step in range.
use Prim.Native.Nat.{ℕ}
use mathlib.Core.Path.{refl}
use Rattle.vdp_state.specs.declared.state.Flags.{Flags}
use Rattle.vdp_state.specs.Range.{GoodControl, GoodChip, GoodStep}
use Rattle.vdp_state.specs.State.{Chip, with_flags}
use Rattle.vdp_state.proofs.Bools.{by_cond}
use Rattle.vdp_state.proofs.Facts.{parts, control_of}
use Rattle.vdp_line.specs.Layout.{displayed}
use Rattle.vdp_line.specs.Line.{line_step}

pub line_good : (c : Chip) → GoodChip c → (n : ℕ) → GoodStep (line_step c n)
line_good c g n =
    let p = parts c.state.control g.control in
    let any : (f : Flags) → GoodControl (with_flags c.state.control f) = λ f. control_of _ p.code p.address p.dma p.timing in
    record { control = by_cond GoodControl (displayed c.state) _ _ (λ e. any _) (λ e. any _); store = refl }
