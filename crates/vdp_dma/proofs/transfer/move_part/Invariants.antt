-- The invariant: the words from here on, moved, lead where all of them lead from the start.
use Prim.Native.Nat.{◌*◌}
use lib.ListN.{drop}
use mathlib.Core.Path.{◌≡◌}
use Rattle.vdp_dma.specs.Transfer.{moved, holding}
use Rattle.vdp_dma.specs.Unit.{units_control}
use Rattle.vdp_ports.specs.Access.{access as access_by}
use Rattle.vdp_state.specs.State.{chip}
use Rattle.vdp_dma.proofs.transfer.move_part.Given as goal

abbrev pub invariant-loop-word : goal.invariant-loop-word
invariant-loop-word l = record {
  access : l.access ≡ access_by l.port.code;
  moved : moved (drop (2 * l.word-index) l.part) (chip (holding l.s (units_control l.s.control l.port l.word-index l.source) l.colours l.scrolls) l.vram) ≡ moved l.part (chip l.s l.initial.vram);
}
