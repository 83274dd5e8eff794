-- By what the parts ensure.
use mathlib.Core.Path.{refl}
use Rattle.vdp_tape.proofs.Steps.{control_off}
use Rattle.vdp_state.specs.State.{chip}
use Rattle.vdp_tape.specs.Recorded.{ControlWrite, plan_of}
use Rattle.vdp_tape.proofs.calls.control_write.Goals as goal

pub returns : goal.returns
returns c = λ m.
    let a = c.args in
    c.without_vram.ensures m (plan_of (ControlWrite a.w) (chip a.s m))
    (record { number = c.control_check.ensures; result = refl; one = refl; step = c.control_step.ensures })
    (control_off a.s a.w)
