-- The rule of the table: a test at each of its entries, which the checker computes, and the law that turns it into the rule.
use Rattle.std.proofs.Common.{ℕ, refl, ap, ◌∙◌, Bool, List, ◌++◌, get_or, arith, eqb-true}
use lib.Dec.{eqb}
use Rattle.vdp_timing.specs.VCounter.{v_counter_at}
use Rattle.vdp_timing.proofs.Table.{entry, from}
use Rattle.vdp_timing.proofs.v_counter.v_counter_at.Goals as goal

-- what the table holds: 235 numbers from 0 on, then 27 from 229 on
counters : List ℕ
counters = from 235 0 ++ from 27 229

-- an entry is the V counter of its line
right : ℕ → ℕ → Bool
right line counter = eqb counter (v_counter_at line)

pub returns : goal.returns
unfolding counters right
returns c = λ h.
    let line = c.args.line in
    c.get_or.ensures
    ∙ ap (λ (place : ℕ). get_or counters place 0) c.from.ensures
    ∙ eqb-true (get_or counters line 0) (v_counter_at line) (entry right counters refl line (omega (arith, h)))
