-- What a DMA unit decides on a good chip is a step in range, and so are all the units of a run.
use Prim.Native.Nat.{ℕ, zero, suc, ◌+◌, ◌-◌, ◌*◌, ◌%◌, ◌<◌, ◌≤◌}
use mathlib.Core.Path.{◌≡◌, refl, sym, ap, subst}
use mathlib.Core.Bool.{true, false}
use mathlib.Core.List.{List, []}
use native.Mathlib.Omega.{arith}
use borrow.Author.Tests.{eqb-true, eqb-false, eq-eqb, ne_eqb, le-leb, lt-leb, leb-false, lt-ltb}
use lib.Dec.{eqb, leb, ltb, lit<, lit≤}
use lib.ListN.{get_or}
use Rattle.vdp_state.specs.declared.state.Dma.{Dma}
use Rattle.vdp_state.specs.declared.state.Store.{Store}
use Rattle.vdp_state.specs.Cell.{perform}
use Rattle.vdp_state.specs.Good.{good_source, most_units}
use Rattle.vdp_state.specs.Range.{AllBytes, GoodControl, GoodChip, good_store, GoodStep}
use Rattle.vdp_state.specs.State.{Chip}
use Rattle.vdp_state.proofs.Bools.{by_cond, both}
use Rattle.vdp_state.proofs.Facts.{DmaFacts, dma_facts, DmaGood, parts, control_of, source_even, transfer_source, copy_source, working}
use Rattle.vdp_state.proofs.Laws.{StepsGood, performed_good, word_fits}
use Rattle.vdp_ports.specs.Access.{access, even_place}
use Rattle.vdp_ports.proofs.Decided.{written_good}
use Rattle.vdp_dma.specs.Source.{work_ram, word_from, next_source}
use Rattle.vdp_dma.specs.Unit.{byte_stored, unit_dma, unit_control, writes_vram, inverted, unit}
use Rattle.vdp_dma.proofs.Remaining.{unit_dma_lem, next_remaining}
use Rattle.vdp_dma.proofs.Words.{next_even}

byte_good : (m : List ℕ) (place b : ℕ) → AllBytes m → place < 65536 → b < 256 → good_store (byte_stored m place b) ≡ true
byte_good m place b bytes h k =
    both (both (eq-eqb (even_place place % 2) 0 (omega arith)) (lt-ltb (even_place place) 65536 (omega arith)))
    (by_cond (λ (x : ℕ). ltb x 65536 ≡ true) (eqb (place % 2) 0) (b * 256 + get_or m (place + 1) 0) (get_or m (place - 1) 0 * 256 + b)
    (λ e. lt-ltb (b * 256 + get_or m (place + 1) 0) 65536 (omega (arith, bytes (place + 1))))
    (λ e. lt-ltb (get_or m (place - 1) 0 * 256 + b) 65536 (omega (arith, bytes (place - 1)))))

inverted_small : (a : ℕ) → a < 65536 → inverted a < 65536
inverted_small a h = by_cond (λ (x : ℕ). x < 65536) (eqb (a % 2) 0) (a + 1) (a - 1) (λ e. let z = eqb-true (a % 2) 0 e in omega arith) (λ e. omega arith)

-- a unit keeps a DMA state good, where the source that it goes on with is good
unit_dma_good : (d : Dma) (source : ℕ) → DmaFacts d → d.fill < 256 → 1 < d.kind → good_source d.kind source ≡ true → DmaGood (unit_dma d source)
unit_dma_good d source f small high h =
    by_cond DmaGood (leb d.remaining 1) _ _ (λ e. (refl, lit< tt))
    (λ e.
    let more : 1 < d.remaining = leb-false d.remaining 1 e in
    let some : eqb (d.remaining - 1) 0 ≡ false = ne_eqb (d.remaining - 1) 0 (λ z. let bad : ⊥ = omega arith in bad) in
    let few : leb (d.remaining - 1) most_units ≡ true = le-leb (d.remaining - 1) most_units (omega (arith, f.most)) in
    (simp (le-leb d.kind 4 f.kind, few, some, lt-leb d.kind 1 high, h, f.fill), small))

-- the source that follows a good one in kind 2
source_next_lem : (source : ℕ) → good_source 2 source ≡ true → good_source 2 (next_source source) ≡ true
source_next_lem source h =
    let e = source_even source h in
    let n = next_even [] (lit≤ tt) source e.1 e.0 in
    transfer_source (next_source source) n.0 n.1

module _ (cartridge ram : List ℕ) (cartridge-bytes : AllBytes cartridge) (ram-bytes : AllBytes ram) where
  word_small : (source : ℕ) → word_from cartridge ram source < 65536
  word_small source =
      by_cond (λ (w : ℕ). w < 65536) (work_ram source) _ _ (λ e. word_fits ram (source % 65536) ram-bytes) (λ e. word_fits cartridge source cartridge-bytes)

  unit_good : (c : Chip) → GoodChip c → 0 < c.state.control.dma.remaining → GoodStep (unit cartridge ram c)
  unit_good c g more =
      let k = c.state.control in
      let d = k.dma in
      let p = parts k g.control in
      let f = dma_facts d p.dma.0 in
      let high = working d f more in
      let made : (increment source : ℕ) → good_source d.kind source ≡ true → GoodControl (unit_control k increment source) =
      λ increment source h. control_of _ p.code (let a : (k.port.address + increment) % 65536 < 65536 = omega arith in a) (unit_dma_good d source f p.dma.1 high h) p.timing in
      by_cond GoodStep (eqb d.kind 2) _ _
      (λ e.
      let two = eqb-true d.kind 2 e in
      record {
        control = made _ (next_source d.source) (subst (λ (j : ℕ). good_source j (next_source d.source) ≡ true) (sym two) (source_next_lem d.source (subst (λ (j : ℕ). good_source j d.source ≡ true) two f.source)));
        store = written_good (access k.port.code) k.port.address (word_from cartridge ram d.source) p.address (word_small d.source);
      })
      (λ e. by_cond GoodStep (eqb d.kind 3) _ _
      (λ t. record {
        control = made _ d.source f.source;
        store = by_cond (λ (x : Store). good_store x ≡ true) (writes_vram (access k.port.code)) _ _
            (λ v. byte_good c.vram (inverted k.port.address) d.fill g.vram (inverted_small k.port.address p.address) p.dma.1) (λ v. refl);
      })
      (λ t.
      let four : d.kind ≡ 4 = let not2 = eqb-false d.kind 2 e in let not3 = eqb-false d.kind 3 t in omega (arith, f.kind) in
      record {
        control = made _ ((d.source + 1) % 65536) (subst (λ (j : ℕ). good_source j ((d.source + 1) % 65536) ≡ true) (sym four) (copy_source ((d.source + 1) % 65536) (omega arith)));
        store = byte_good c.vram k.port.address (get_or c.vram d.source 0) g.vram p.address (g.vram d.source);
      }))

  pub units_good : (n : ℕ) (c : Chip) → GoodChip c → n ≤ c.state.control.dma.remaining → StepsGood (unit cartridge ram) n c
  unfolding perform
  units_good zero c g h = tt
  units_good (suc n) c g h =
      let u = unit_good c g (omega arith) in
      (u, units_good n (perform c (unit cartridge ram c)) (performed_good c (unit cartridge ram c) g u) (omega (arith, ap (λ (d : Dma). d.remaining) (unit_dma_lem cartridge ram c), next_remaining c.state.control.dma)))
