-- The words left, moved from here, lead where all of them lead from the start, and they are at hand.
use Rattle.std.proofs.Common.{ℕ, ◌≡◌, ◌<◌, ◌-◌, ◌/◌, List, length, sym, ap, subst, ◌∙◌, arith}
use Rattle.vdp_dma.proofs.Words.{PartMoved, part_moved, none_left, some_left}
use Rattle.vdp_dma.specs.Run.{ran}
use Rattle.vdp_dma.specs.Transfer.{Ready}
use Rattle.vdp_state.specs.State.{Chip, chip}
use Rattle.vdp_dma.proofs.transfer.transfer_units.Goals as goal

pub returns-then-moved-eq0 : goal.returns-then-moved-eq0
returns-then-moved-eq0 c =
    let m = c.args.memories in
    let l = c.loop-part in
    let here : Chip = chip l.next l.vram in
    let none : l.left ≡ 0 = none_left m.cartridge.now m.ram.now l.invariant.cartridge l.invariant.ram l.left here l.invariant.ready (ap (λ (x : List ℕ). length x / 2) (sym c.words_next-part.ensures) ∙ c.if-moved-eq0.true) in
    ap (λ (n : ℕ). ran m.cartridge.now m.ram.now n here) (sym none) ∙ l.invariant.made

pub loop-part-preserved : goal.loop-part-preserved
loop-part-preserved c =
    let cartridge = c.args.memories.cartridge.now in
    let ram = c.args.memories.ram.now in
    let l = c.loop-part in
    let here : Chip = chip l.next l.vram in
    let part = c.words_next-part.result.now in
    let made = c.move_part-next.ensures in
    let more : 0 < l.left = some_left cartridge ram l.invariant.cartridge l.invariant.ram l.left l.next.control.dma.source (λ e. c.if-moved-eq0.false (ap (λ (x : List ℕ). length x / 2) c.words_next-part.ensures ∙ e)) in
    let p : PartMoved cartridge ram l.invariant.cartridge l.invariant.ram l.left here part =
    subst (λ (x : List ℕ). PartMoved cartridge ram l.invariant.cartridge l.invariant.ram l.left here x) (sym c.words_next-part.ensures)
    (part_moved cartridge ram l.invariant.cartridge l.invariant.ram l.left here more (l.invariant.ready more)) in
    let left : ℕ = l.left - length part / 2 in record {
      cartridge = l.invariant.cartridge;
      ram = l.invariant.ram;
      bits = omega (arith, l.invariant.bits);
      ready = λ more. subst (λ (x : Chip). Ready cartridge x.state.control.dma left) (sym made) (p.ready more);
      made = ap (ran cartridge ram left) made ∙ sym p.made ∙ l.invariant.made;
    }
