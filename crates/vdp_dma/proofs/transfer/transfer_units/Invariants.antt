-- The invariant: the words left, moved from here, lead where all of them lead from the start, and they are at hand.
use Prim.Native.Nat.{◌≤◌, ◌<◌, ◌^◌}
use lib.ListN.{length}
use mathlib.Core.Path.{◌≡◌}
use Rattle.vdp_dma.specs.Run.{ran}
use Rattle.vdp_dma.specs.Transfer.{Ready}
use Rattle.vdp_state.specs.State.{chip}
use Rattle.vdp_dma.proofs.transfer.transfer_units.Given as goal

abbrev pub invariant-loop-part : goal.invariant-loop-part
invariant-loop-part l = record {
  cartridge : length l.memories.cartridge.now ≤ 4194304;
  ram : length l.memories.ram.now ≡ 65536;
  bits : l.left < 2 ^ 32;
  ready : 0 < l.left → Ready l.memories.cartridge.now l.next.control.dma l.left;
  made : ran l.memories.cartridge.now l.memories.ram.now l.left (chip l.next l.vram)
      ≡ ran l.memories.cartridge.now l.memories.ram.now l.initial.left (chip l.initial.next l.initial.vram);
}

abbrev pub decreases-loop-part : goal.decreases-loop-part
decreases-loop-part l = l.left
