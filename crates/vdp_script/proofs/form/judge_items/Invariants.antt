-- The invariant: what is judged of the items from here on, after those that were passed, is what is judged of all.
use Rattle.std.proofs.Common.{◌≡◌, ◌+◌, ◌≤◌, length, drop}
use Rattle.vdp_script.specs.Form.{items_from, form_judged}
use Rattle.vdp_script.proofs.Forms.{judged_after}
use Rattle.vdp_script.proofs.form.judge_items.Given as goal

abbrev pub invariant-loop-place : goal.invariant-loop-place
invariant-loop-place l =
    let left = items_from 0 l.items.rest.now in
    (l.place + length left.items ≤ length l.script) × (judged_after l.place left ≡ form_judged (items_from 0 (drop 1 l.script)))

abbrev pub decreases-loop-place : goal.decreases-loop-place
decreases-loop-place l = length (items_from 0 l.items.rest.now).items
