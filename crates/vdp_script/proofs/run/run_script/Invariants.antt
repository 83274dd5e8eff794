-- The invariant: running the items that are left, from what the calls so far left, leads where running all of them leads.
use Rattle.std.proofs.Common.{◌≡◌, ◌+◌, length, drop}
use Rattle.std.specs.Iterator.Adapters.{enumerate_source, enumerate_count}
use Rattle.vdp_state.specs.State.{chip}
use Rattle.vdp_script.specs.Form.{items_from}
use Rattle.vdp_script.specs.Run.{run_items}
use Rattle.vdp_script.proofs.run.run_script.Given as goal

abbrev pub invariant-loop-place : goal.invariant-loop-place
invariant-loop-place l =
    let left = (items_from 0 (enumerate_source l.place-iterator).rest.now).items in
    let all = (items_from 0 (drop 1 l.script)).items in
    let place = enumerate_count l.place-iterator in
    (goal.iterator-loop-place).can_next l.place-iterator × (goal.iterator-loop-place).is_finite l.place-iterator
    × (place + length left ≡ length all)
    × (run_items left place l.memories.cartridge.now l.memories.ram.now (chip l.state l.vram) l.pixels ≡ run_items all 0 l.memories.cartridge.now l.memories.ram.now (chip l.initial.state l.initial.vram) l.initial.pixels)
