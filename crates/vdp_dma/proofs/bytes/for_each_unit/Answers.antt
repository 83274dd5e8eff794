-- A turn leaves the units that are left leading where all of them lead from the start.
use Rattle.std.proofs.Common.{rules}
use Rattle.vdp_dma.proofs.Units.{leads_turn}
use Rattle.vdp_dma.proofs.bytes.for_each_unit.Goals as goal

pub loop-preserved : goal.loop-preserved
loop-preserved g c =
    let a = c.args in
    let l = c.loop in record {
      callable = c.requires.callable;
      code = search rules;
      leads = λ step makes.
          leads_turn step a.s a.n.0 a.vram.now (goal.F-post g a.unit) makes l.port _ l.source _ l.counter _ _ c.loop-test.true c.requires.left.1 l.invariant.code c.advanced-port.ensures
          c.unit-source.ensures (l.invariant.leads step makes);
    }
