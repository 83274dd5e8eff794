-- By what the parts ensure.
use mathlib.Core.Path.{refl}
use Rattle.vdp_state.specs.State.{chip}
use Rattle.vdp_tape.specs.Recorded.{NewFrame, plan_of}
use Rattle.vdp_tape.proofs.calls.new_frame.Goals as goal

pub returns : goal.returns
returns c = λ m.
    let a = c.args in
    c.without_vram.ensures m (plan_of NewFrame (chip a.s m))
    (record { number = c.frame_check.ensures; result = refl; one = refl; step = c.frame_step.ensures })
    tt
