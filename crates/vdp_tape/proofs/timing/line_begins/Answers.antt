-- By what the parts ensure.
use mathlib.Core.Path.{refl}
use Rattle.vdp_state.specs.State.{chip}
use Rattle.vdp_tape.specs.Recorded.{LineBegins, plan_of}
use Rattle.vdp_tape.proofs.timing.line_begins.Goals as goal

pub returns : goal.returns
returns c = λ m.
    let a = c.args in
    c.without_vram.ensures m (plan_of LineBegins (chip a.s m))
    (record { number = c.line_begins_check-check.ensures; result = refl; one = refl; step = c.line_begins_step.ensures })
    tt
