-- Each of the records is tested, from the top down.
use Rattle.std.proofs.Common.{◌≡◌, true, false, sym, ◌∙◌, arith, rules, tests}
use Rattle.std.proofs.lemmas.Grind.{common_steps}
use Rattle.std.proofs.lemmas.Iterator.Search.{all_from_yields_List}
use Rattle.vdp_tape.proofs.Top.{top_good_all}
use Rattle.vdp_tape.specs.Record.{good_record}
use Rattle.vdp_tape.specs.StepBack.{top_good}
use Rattle.vdp_tape.proofs.step_back.back_check.Goals as goal

pub returns-then-not-all : goal.returns-then-not-all
returns-then-not-all c =
    let a = c.args in
    let all = all_from_yields_List good_record _ _ c.all.result c.all.ensures.ran c.top.ensures.records (λ x b q k. search (rules, tests)) in
    let tested : top_good a.tape.now a.count a.k ≡ false = top_good_all a.tape.now a.count a.k ∙ sym all ∙ c.if-not-all.true in
    grind (arith, common_steps)

pub returns : goal.returns
returns c =
    let a = c.args in
    let all = all_from_yields_List good_record _ _ c.all.result c.all.ensures.ran c.top.ensures.records (λ x b q k. search (rules, tests)) in
    let tested : top_good a.tape.now a.count a.k ≡ true = top_good_all a.tape.now a.count a.k ∙ sym all ∙ c.if-not-all.false in
    grind (arith, common_steps)
