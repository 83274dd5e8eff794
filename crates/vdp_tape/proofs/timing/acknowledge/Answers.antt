-- By what the parts ensure.
use mathlib.Core.Path.{refl}
use Rattle.vdp_state.specs.State.{chip}
use Rattle.vdp_tape.specs.Recorded.{Acknowledge, plan_of}
use Rattle.vdp_tape.proofs.timing.acknowledge.Goals as goal

pub returns : goal.returns
returns c = λ m.
    let a = c.args in
    c.without_vram.ensures m (plan_of (Acknowledge a.level) (chip a.s m))
    (record { number = c.acknowledge_check-check.ensures; result = refl; one = refl; step = c.acknowledge_step.ensures })
    tt
