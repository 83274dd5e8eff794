-- By what the parts ensure.
use mathlib.Core.Path.{refl, ◌∙◌}
use Rattle.vdp_state.specs.State.{chip}
use Rattle.vdp_tape.specs.Recorded.{StatusRead, plan_of}
use Rattle.vdp_tape.proofs.calls.status_read.Goals as goal

pub returns : goal.returns
returns c = λ m.
    let a = c.args in
    c.without_vram.ensures m (plan_of StatusRead (chip a.s m))
    (record { number = c.status_check.ensures; result = c.from-word.ensures ∙ c.status_word.ensures; one = refl; step = c.status_step.ensures })
    tt
