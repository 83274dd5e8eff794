-- The units left, recorded from here, lead where all of them lead from the start.
use Rattle.std.proofs.Common.{◌≡◌, ℕ, ◌-◌, ◌+◌, sym, ap, ◌∙◌, arith}
use Rattle.vdp_dma.specs.Unit.{unit}
use Rattle.vdp_state.proofs.Iterate.{iterate_turn}
use Rattle.vdp_tape.specs.Recorder.{recorder, record_step, record_next, record_steps}
use Rattle.vdp_tape.proofs.calls.record_units.Goals as goal

pub loop-i-preserved : goal.loop-i-preserved
loop-i-preserved c =
    let l = c.loop-i in
    let a = c.args in
    let p = c.record_step-next in
    let step = unit a.memories.cartridge.now a.memories.ram.now in
    let here = recorder l.next l.vram l.tape (a.count + l.i) in
    let next : a.count + (l.i + 1) ≡ a.count + l.i + 1 = omega arith in
    ap (λ (n : ℕ). record_steps step (a.steps - (l.i + 1)) (recorder p.result p.new.vram p.new.tape n)) next
    ∙ ap (record_steps step (a.steps - (l.i + 1))) (p.ensures ∙ ap (record_step here) c.unit_step-t.ensures)
    ∙ sym (iterate_turn (record_next step) a.steps l.i here c.loop-i-test.true) ∙ l.invariant
