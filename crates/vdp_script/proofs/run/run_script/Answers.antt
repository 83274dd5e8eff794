-- A script that was judged as not refused runs its items, up to the first whose call is refused.
use Rattle.std.proofs.Common.{◌∙◌, rules}
use Rattle.vdp_state.specs.State.{chip}
use Rattle.vdp_script.proofs.Runs.{stopped_at, ended_at_last, refused_here}
use Rattle.vdp_script.proofs.run.run_script.Goals as goal

pub returns-in-Err : goal.returns-in-Err
returns-in-Err c =
    let a = c.args in
    let l = c.loop-place in
    let turn = c.in-Some.ensures.steps in
    stopped_at a.script.now a.memories.cartridge.now a.memories.ram.now (chip a.s a.vram.now) a.pixels.now _ c.judge_script-ended.ensures (search rules) _
    (refused_here a.memories.cartridge.now a.memories.ram.now l.state l.vram c.call_item.new.vram l.pixels c.call_item.new.pixels c.in-Some.item c.in-Err.refusal c.in-Err.ensures turn.0.0 turn.1
    ∙ l.invariant.3)

pub returns : goal.returns
returns c =
    let a = c.args in
    let l = c.loop-place in
    ended_at_last a.script.now a.memories.cartridge.now a.memories.ram.now (chip a.s a.vram.now) a.pixels.now _ c.judge_script-ended.ensures (search rules) _ _ l.state l.vram l.pixels (c.in-None.ensures.steps).0.0.0 l.invariant.2 l.invariant.3
