-- By what the parts ensure; a read stores nothing, so that VRAM stays as it is.
use mathlib.Core.Path.{refl, ◌∙◌}
use Rattle.vdp_ports.specs.Data.{data_read_step}
use Rattle.vdp_state.specs.State.{chip}
use Rattle.vdp_tape.specs.Recorded.{DataRead, plan_of}
use Rattle.vdp_tape.proofs.calls.data_read.Goals as goal

pub returns : goal.returns
unfolding data_read_step
returns c =
    let a = c.args in
    c.without_vram.ensures a.vram.now (plan_of DataRead (chip a.s a.vram.now))
    (record { number = c.data_check-check.ensures; result = c.from-word.ensures ∙ c.data_word.ensures; one = refl; step = c.data_read_step.ensures })
    tt
