-- Refused, or the units recorded.
use Rattle.std.proofs.Common.{arith}
use Rattle.std.proofs.lemmas.Grind.{common_steps}
use Rattle.vdp_dma.specs.Run.{run_tests}
use Rattle.vdp_state.specs.State.{chip}
use Rattle.vdp_tape.proofs.calls.run.Goals as goal

pub returns-in_err-tape_check : goal.returns-in_err-tape_check
returns-in_err-tape_check c =
    let a = c.args in
    let number = c.tape_check.ensures.is (run_tests (chip a.s a.vram.now) a.memories.cartridge.now a.memories.ram.now a.budget) c.run_check-check.ensures in
    grind (arith, common_steps)

pub returns : goal.returns
returns c =
    let a = c.args in
    let number = c.tape_check.ensures.is (run_tests (chip a.s a.vram.now) a.memories.cartridge.now a.memories.ram.now a.budget) c.run_check-check.ensures in
    grind (arith, common_steps)
