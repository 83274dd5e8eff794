-- The words from here on, moved, lead where all of them lead from the start.
use Rattle.std.proofs.Common.{ℕ, ◌≡◌, ◌<◌, ◌+◌, ◌*◌, ◌/◌, List, [], get_or, length, sym, ap, ◌∙◌, arith}
use mathlib.Core.Path.{ap₂}
use Rattle.vdp_dma.proofs.Units.{units_control_next}
use Rattle.vdp_dma.proofs.Words.{chunk_of_two, moved_turn, word_moved}
use Rattle.vdp_dma.specs.Source.{next_source}
use Rattle.vdp_dma.specs.Transfer.{holding, colours_in, scrolls_in}
use Rattle.vdp_dma.specs.Unit.{unit_control, units_control}
use Rattle.vdp_ports.specs.Access.{access as access_by, written}
use Rattle.vdp_ports.specs.declared.access.Access.{Access}
use Rattle.vdp_ports.specs.Length.{register}
use Rattle.vdp_state.specs.Cell.{stored_in}
use Rattle.vdp_state.specs.State.{Chip, chip}
use Rattle.vdp_state.specs.declared.state.Control.{Control}
use Rattle.vdp_state.specs.declared.state.Port.{Port}
use Rattle.vdp_state.specs.declared.state.Store.{Store}
use Rattle.vdp_dma.proofs.transfer.move_part.Goals as goal

pub loop-word-preserved : goal.loop-word-preserved
loop-word-preserved c =
    let l = c.loop-word in
    let a = c.args in
    let i = l.word-index in
    let part = a.part.now in
    let k = a.s.control in
    let st = c.store_word in
    let live : i < length part / 2 = omega (arith, c.loop-word-test.true, c.as_chunks.ensures.front_len) in
    let now : Control = units_control k l.port i l.source in
    let next : Control = unit_control now (register a.s 15) (next_source now.dma.source) in
    let w : ℕ = get_or part (2 * i) 0 * 256 + get_or part (2 * i + 1) 0 in
    let x : Store = written (access_by l.port.code) l.port.address w in
    let word : c.from_be_bytes.result ≡ w =
    c.from_be_bytes.ensures ∙ ap (λ (two : List ℕ). get_or two 0 0 * 256 + get_or two 1 0)
    (ap (λ (words : List (List ℕ)). get_or words i []) c.as_chunks.ensures.front ∙ chunk_of_two part i (length part / 2) live (omega arith)) in
    let same : c.written-store.result ≡ x = c.written-store.ensures ∙ ap₂ (λ (q : Access) (v : ℕ). written q l.port.address v) l.invariant.access word in
    let control : units_control k c.advanced-port.result (i + 1) c.next_source-source.result ≡ next =
    units_control_next k l.port _ l.source _ i (register a.s 15) next_source (omega (arith, live)) c.advanced-port.ensures c.next_source-source.ensures in
    let made : Control → List ℕ → List ℕ → List ℕ → Chip = λ q cs vs m. chip (holding a.s q cs vs) m in record {
      access = l.invariant.access ∙ ap (λ (p : Port). access_by p.code) (sym c.advanced-port.ensures);
      moved =
          moved_turn part i (chip (holding a.s now l.colours l.scrolls) l.vram) _ live
          (ap (λ (q : Control). made q st.new.colours st.new.scrolls st.new.vram) control
          ∙ ap₂ (λ (cs vs : List ℕ). made next cs vs st.new.vram) (st.ensures.1 ∙ ap (colours_in l.colours) same) (st.ensures.2 ∙ ap (scrolls_in l.scrolls) same)
          ∙ ap (made next (colours_in l.colours x) (scrolls_in l.scrolls x)) (st.ensures.0 ∙ ap (stored_in l.vram) same)
          ∙ sym (word_moved a.s now l.colours l.scrolls l.vram w))
          ∙ l.invariant.moved;
    }
