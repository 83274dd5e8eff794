-- The invariant: what is judged of the items that are left, with the flag so far, is what is judged of all.
use Rattle.std.proofs.Common.{◌≡◌, drop}
use Rattle.std.specs.Iterator.Adapters.{enumerate_source, enumerate_count}
use Rattle.vdp_script.specs.Form.{items_from}
use Rattle.vdp_script.specs.Missing.{any_missing, registers_judged}
use Rattle.vdp_script.proofs.Judges.{registers_after}
use Rattle.vdp_script.proofs.missing.judge_registers.Given as goal

abbrev pub invariant-loop-place : goal.invariant-loop-place
invariant-loop-place l =
    let left = (items_from 0 (enumerate_source l.place-iterator).rest.now).items in
    let all = (items_from 0 (drop 1 l.script)).items in
    (goal.iterator-loop-place).can_next l.place-iterator × (goal.iterator-loop-place).is_finite l.place-iterator
    × (any_missing l.flag left ≡ any_missing l.pending all)
    × (registers_after (enumerate_count l.place-iterator) l.flag left ≡ registers_judged l.pending all)
