-- By what the parts ensure.
use mathlib.Core.Path.{refl}
use Rattle.vdp_state.specs.State.{chip}
use Rattle.vdp_tape.specs.Recorded.{DataWrite, plan_of}
use Rattle.vdp_tape.proofs.calls.data_write.Goals as goal

pub returns : goal.returns
returns c =
    let a = c.args in
    c.record_one.ensures (plan_of (DataWrite a.w) (chip a.s a.vram.now))
    (record { number = c.data_check-check.ensures; result = refl; one = refl; step = c.data_write_step.ensures })
