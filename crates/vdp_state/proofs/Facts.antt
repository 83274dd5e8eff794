-- What GOOD says of a DMA state and of a control part, one fact at a time:
--     dma_facts, state_dma                       the facts of a good DMA state
--     tested, state_line                         the tests of GOOD on a control part; the line of a good state
--     source_even, source_bits                   what its source is; transfer_source, copy_source make one
--     none_remaining, some_remaining, working    when units remain
--     parts, control_of                          the facts of a good control part, taken apart and put together
use Prim.Native.Nat.{ℕ, ◌%◌, ◌^◌, ◌<◌, ◌≤◌}
use mathlib.Core.Path.{◌≡◌}
use mathlib.Core.Bool.{Bool, true, false, ◌&&◌, ◌||◌, beq, false≢true}
use native.Mathlib.Omega.{arith}
use borrow.Author.Tests.{eqb-true, eqb-false, eq-eqb, le-leb, lt-leb, leb-true, leb-false, ltb-true, lt-ltb}
use lib.Dec.{eqb, leb, ltb}
use Rattle.vdp_state.specs.declared.state.Control.{Control}
use Rattle.vdp_state.specs.declared.state.Dma.{Dma}
use Rattle.vdp_state.specs.declared.state.State.{State}
use Rattle.vdp_state.specs.declared.state.Timing.{Timing}
use Rattle.vdp_state.specs.Good.{good_source, good_dma, good_timing, good_control, good, most_units, last_line}
use Rattle.vdp_state.specs.Range.{GoodControl}
use Rattle.vdp_state.proofs.Bools.{by_cases, both, both_left, both_right, or_true, either, equal_true, equal_false}
use Rattle.vdp_state.proofs.Laws.{good_control_lem}

-- the tests of GOOD on a control part
pub record Tested (k : Control) : Type 0 where
  pub code : k.port.code ≤ 63
  pub dma : good_dma k.dma ≡ true
  pub timing : good_timing k.timing ≡ true

pub tested : (k : Control) → good_control k ≡ true → Tested k
tested k e =
    let code : Bool = leb k.port.code 63 in
    let dma : Bool = good_dma k.dma in
    let two = both_left (code && dma) (good_timing k.timing) e in
    record {
      code = leb-true k.port.code 63 (both_left code dma two);
      dma = both_right code dma two;
      timing = both_right (code && dma) (good_timing k.timing) e;
    }

pub record DmaFacts (d : Dma) : Type 0 where
  pub kind : d.kind ≤ 4
  pub most : d.remaining ≤ most_units
  pub zero_exactly : beq (eqb d.remaining 0) (leb d.kind 1) ≡ true
  pub source : good_source d.kind d.source ≡ true
  pub fill : (eqb d.fill 0 || eqb d.kind 3) ≡ true

pub dma_facts : (d : Dma) → good_dma d ≡ true → DmaFacts d
dma_facts d e =
    let limits : Bool = leb d.kind 4 && leb d.remaining most_units in
    let exactly : Bool = beq (eqb d.remaining 0) (leb d.kind 1) in
    let source : Bool = good_source d.kind d.source in
    let fill : Bool = eqb d.fill 0 || eqb d.kind 3 in
    let a = both_left (limits && exactly && source) fill e in
    let b = both_left (limits && exactly) source a in
    let c = both_left limits exactly b in
    record {
      kind = leb-true d.kind 4 (both_left (leb d.kind 4) (leb d.remaining most_units) c);
      most = leb-true d.remaining most_units (both_right (leb d.kind 4) (leb d.remaining most_units) c);
      zero_exactly = both_right limits exactly b;
      source = both_right (limits && exactly) source a;
      fill = both_right (limits && exactly && source) fill e;
    }

pub state_line : (s : State) → good s ≡ true → s.control.timing.line ≤ last_line
state_line s g = leb-true s.control.timing.line last_line (tested s.control (good_control_lem s g)).timing

pub state_dma : (s : State) → good s ≡ true → DmaFacts s.control.dma
state_dma s g = dma_facts s.control.dma (tested s.control (good_control_lem s g)).dma

-- ---- sources
pub source_even : (source : ℕ) → good_source 2 source ≡ true → (source % 2 ≡ 0) × (source < 2 ^ 24)
source_even source e =
    by_cases (eqb source 0) (λ z. let p : source ≡ 0 = eqb-true source 0 z in omega arith)
    (λ z.
    let even : Bool = eqb (source % 2) 0 in
    let bits : Bool = ltb source (2 ^ 24) in
    let two : (even && bits) ≡ true = by_cases (even && bits) (λ t. t) (λ f. absurd (false≢true (either (even && bits) false (simp z at e) f))) in
    (eqb-true (source % 2) 0 (both_left even bits two), ltb-true source (2 ^ 24) (both_right even bits two)))

pub source_bits : (kind source : ℕ) → good_source kind source ≡ true → source < 2 ^ 24
source_bits kind source e =
    let two : Bool = eqb kind 2 && eqb (source % 2) 0 && ltb source (2 ^ 24) in
    let four : Bool = eqb kind 4 && ltb source (2 ^ 16) in
    by_cases (eqb source 0) (λ z. let p : source ≡ 0 = eqb-true source 0 z in omega arith)
    (λ z. by_cases two (λ p. ltb-true source (2 ^ 24) (both_right (eqb kind 2 && eqb (source % 2) 0) (ltb source (2 ^ 24)) p))
    (λ p.
    let f : source < 2 ^ 16 = ltb-true source (2 ^ 16) (both_right (eqb kind 4) (ltb source (2 ^ 16)) (either two four (simp z at e) p)) in
    omega arith))

pub transfer_source : (source : ℕ) → source % 2 ≡ 0 → source < 2 ^ 24 → good_source 2 source ≡ true
transfer_source source even bits = simp (eq-eqb (source % 2) 0 even, lt-ltb source (2 ^ 24) bits, or_true (eqb source 0))

pub copy_source : (source : ℕ) → source < 2 ^ 16 → good_source 4 source ≡ true
copy_source source bits = simp (lt-ltb source (2 ^ 16) bits) (or_true (eqb source 0 || false))

-- ---- units: "0 in kinds 0 and 1, and at least 1 in kinds 2, 3 and 4"
module _ (d : Dma) (f : DmaFacts d) where
  pub none_remaining : d.kind ≤ 1 → d.remaining ≡ 0
  none_remaining low = eqb-true d.remaining 0 (equal_true _ (simp (le-leb d.kind 1 low) at f.zero_exactly))

  pub some_remaining : 1 < d.kind → 0 < d.remaining
  some_remaining high =
      let z = eqb-false d.remaining 0 (equal_false _ (simp (lt-leb d.kind 1 high) at f.zero_exactly)) in
      omega arith

  pub working : 0 < d.remaining → 1 < d.kind
  working more =
      by_cases (leb d.kind 1) (λ e. absurd (let z = none_remaining (leb-true d.kind 1 e) in let bad : ⊥ = omega arith in bad))
      (λ e. leb-false d.kind 1 e)

-- ---- control parts
-- a DMA state that GOOD admits, with a fill byte of 8 bits
abbrev pub DmaGood : Dma → Type 0
DmaGood d = (good_dma d ≡ true) × (d.fill < 256)

-- a timing that GOOD admits, with a line counter of 8 bits
abbrev pub TimingGood : Timing → Type 0
TimingGood t = (good_timing t ≡ true) × (t.counter < 256)

pub record GoodParts (k : Control) : Type 0 where
  pub code : k.port.code ≤ 63
  pub address : k.port.address < 65536
  pub dma : DmaGood k.dma
  pub timing : TimingGood k.timing

pub parts : (k : Control) → GoodControl k → GoodParts k
parts k g =
    let t = tested k g.good in
    record { code = t.code; address = g.address; dma = (t.dma, g.fill); timing = (t.timing, g.counter) }

pub control_of : (k : Control) → k.port.code ≤ 63 → k.port.address < 65536 → DmaGood k.dma → TimingGood k.timing → GoodControl k
control_of k c a d t = record { good = both (both (le-leb k.port.code 63 c) d.0) t.0; address = a; fill = d.1; counter = t.1 }
