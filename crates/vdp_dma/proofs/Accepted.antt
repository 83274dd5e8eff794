-- What is known of a run that is not refused, and that its units are all of one kind.
use Prim.Native.Nat.{ℕ, zero, suc, ◌+◌, ◌-◌, ◌*◌, ◌%◌, ◌^◌, ◌<◌, ◌≤◌}
use mathlib.Core.Path.{◌≡◌, refl, sym, ap, subst, ◌∙◌}
use mathlib.Core.Bool.{Bool, true, false, not, ◌&&◌, ◌||◌}
use mathlib.Core.List.{List}
use native.Mathlib.Omega.{arith}
use borrow.Author.Tests.{eqb-true, eqb-false, eq-eqb, ne_eqb, le-leb, lt-leb, leb-true, leb-false, ltb-true, ltb-false, not-false}
use lib.Dec.{eqb, leb, ltb, eqb-suc-zero}
use lib.ListN.{length}
use Rattle.vdp_state.specs.declared.state.Dma.{Dma}
use Rattle.vdp_state.specs.declared.state.State.{State}
use Rattle.vdp_state.specs.declared.state.Step.{Step}
use Rattle.vdp_state.specs.Answer.{first}
use Rattle.vdp_state.specs.Cell.{perform, made, steps}
use Rattle.vdp_state.specs.Good.{good, good_source}
use Rattle.vdp_state.specs.State.{Chip}
use Rattle.vdp_state.proofs.Iterate.{iterate_related}
use Rattle.vdp_state.proofs.Bools.{by_cases, or_true, either, none, cond_zero}
use Rattle.vdp_state.proofs.Facts.{state_dma, source_even}
use Rattle.vdp_dma.specs.InTurn.{left}
use Rattle.vdp_dma.specs.Run.{ran, units_made, bad_memory, not_lent, run_tests, run}
use Rattle.vdp_dma.specs.Source.{work_ram, next_source, is_lent, all_lent}
use Rattle.vdp_dma.specs.Transfer.{at_hand, Ready}
use Rattle.vdp_dma.specs.Unit.{unit_dma, fill_step, copy_step, unit}
use Rattle.vdp_dma.proofs.InTurn.{number_of, done_left, done_result}
use Rattle.vdp_dma.proofs.Remaining.{dma}
use Rattle.vdp_dma.proofs.Words.{next_plain, next_even}

-- ---- all words of a run are lent where one test holds
module _ (cartridge : List ℕ) (size : length cartridge ≤ 4194304) (pairs : length cartridge % 2 ≡ 0) where
  ram_next : (source : ℕ) → source < 0x1000000 → source % 2 ≡ 0 → work_ram source ≡ true → work_ram (next_source source) ≡ true
  ram_next source bits even w = by_turn (eqb source 0xfffffe) refl
    where
      by_turn : (t : Bool) → eqb source 0xfffffe ≡ t → work_ram (next_source source) ≡ true
      by_turn true e = simp e
      by_turn false e =
          let low : 0xe00000 ≤ source = leb-true 0xe00000 source w in
          rw (next_plain cartridge size source (eqb-false source 0xfffffe e) bits even) (le-leb 0xe00000 (source + 2) (omega arith))

  -- the test for one word more, by the side that the source lies on
  lent_here : (n source : ℕ) (next : Bool) → source < 0x1000000 → source % 2 ≡ 0 → next ≡ (eqb n 0 || at_hand cartridge (next_source source) n) → (t : Bool) → work_ram source ≡ t → (is_lent cartridge source && next) ≡ (eqb (suc n) 0 || at_hand cartridge source (suc n))
  lent_here n source next bits even ih true w = simp (w, ih, ram_next source bits even w, eqb-suc-zero n) (or_true (eqb n 0))
  lent_here n source next bits even ih false w = by_length (ltb source (length cartridge)) refl
    where
      low : source < 0xe00000
      low = leb-false 0xe00000 source w

      by_more : source + 2 ≤ length cartridge → (t : Bool) → eqb n 0 ≡ t → next ≡ leb (source + 2 * suc n) (length cartridge)
      by_more h true e =
          let z : n ≡ 0 = eqb-true n 0 e in
          ih ∙ simp e (sym (le-leb (source + 2 * suc n) (length cartridge) (omega arith)))
      by_more h false e =
          let plain : next_source source ≡ source + 2 = next_plain cartridge size source (λ q. let bad : ⊥ = omega arith in bad) bits even in
          let same : source + 2 + 2 * n ≡ source + 2 * suc n = omega arith in
          ih ∙ rw (e, plain, lt-leb 0xe00000 (source + 2) (omega arith), same) refl

      by_length : (t : Bool) → ltb source (length cartridge) ≡ t → (is_lent cartridge source && next) ≡ (eqb (suc n) 0 || at_hand cartridge source (suc n))
      by_length true l =
          let h : source < length cartridge = ltb-true source (length cartridge) l in
          simp (w, l, eqb-suc-zero n) (by_more (omega arith) (eqb n 0) refl)
      by_length false l =
          let h : length cartridge ≤ source = ltb-false source (length cartridge) l in
          simp (w, l, eqb-suc-zero n) (sym (lt-leb (source + 2 * suc n) (length cartridge) (omega arith)))

  pub lent_by_one_test : (n source : ℕ) → source < 0x1000000 → source % 2 ≡ 0 → all_lent cartridge source n ≡ (eqb n 0 || at_hand cartridge source n)
  lent_by_one_test zero source bits even = refl
  lent_by_one_test (suc n) source bits even =
      let e = next_even cartridge size source bits even in
      lent_here n source (all_lent cartridge (next_source source) n) bits even (lent_by_one_test n (next_source source) e.1 e.0) (work_ram source) refl

-- ---- a run that is not refused
pub record Sizes (vram cartridge ram : List ℕ) : Type 0 where
  pub vram_size : length vram ≡ 65536
  pub ram_size : length ram ≡ 65536
  pub most : length cartridge ≤ 4194304
  pub pairs : length cartridge % 2 ≡ 0

pub sizes : (vram cartridge ram : List ℕ) → (bad_memory vram cartridge ram).holds ≡ false → Sizes vram cartridge ram
sizes vram cartridge ram e =
    let odd = none _ (not (eqb (length cartridge % 2) 0)) e in
    let large = none _ (not (leb (length cartridge) 4194304)) odd.0 in
    let other = none (not (eqb (length vram) 65536)) (not (eqb (length ram) 65536)) large.0 in
    record {
      vram_size = eqb-true (length vram) 65536 (not-false _ other.0);
      ram_size = eqb-true (length ram) 65536 (not-false _ other.1);
      most = leb-true (length cartridge) 4194304 (not-false _ large.1);
      pairs = eqb-true (length cartridge % 2) 0 (not-false _ odd.1);
    }

-- the source of a good transfer
even_source : (s : State) → good s ≡ true → s.control.dma.kind ≡ 2 → (s.control.dma.source % 2 ≡ 0) × (s.control.dma.source < 2 ^ 24)
even_source s g k =
    let d = s.control.dma in
    source_even d.source (subst (λ (j : ℕ). good_source j d.source ≡ true) k (state_dma s g).source)

-- the one test tells whether a word is not lent
pub lacks : (s : State) (vram cartridge ram : List ℕ) (budget : ℕ) → good s ≡ true → (bad_memory vram cartridge ram).holds ≡ false → (not_lent s cartridge budget).holds ≡ (eqb s.control.dma.kind 2 && not (eqb (units_made s budget) 0 || at_hand cartridge s.control.dma.source (units_made s budget)))
lacks s vram cartridge ram budget g m =
    by_cases (eqb s.control.dma.kind 2)
    (λ k.
    let e = even_source s g (eqb-true s.control.dma.kind 2 k) in
    let z = sizes vram cartridge ram m in
    simp k (ap not (lent_by_one_test cartridge z.most z.pairs (units_made s budget) s.control.dma.source e.1 e.0)))
    (λ k. simp k)

pub record Accepted (c : Chip) (cartridge ram : List ℕ) (budget : ℕ) : Type 0 where
  pub state : good c.state ≡ true
  pub memory : (bad_memory c.vram cartridge ram).holds ≡ false
  pub lent : (not_lent c.state cartridge budget).holds ≡ false

pub accepted : (c : Chip) (cartridge ram : List ℕ) (budget : ℕ) → first (run_tests c cartridge ram budget) ≡ 0 → Accepted c cartridge ram budget
accepted c cartridge ram budget e =
    let is_two : 0 < 2 = omega arith in
    let is_seven : 0 < 7 = omega arith in
    let one = cond_zero _ 1 _ (omega arith) e in
    let two = cond_zero _ 2 _ is_two one.1 in
    let seven = cond_zero _ 7 0 is_seven two.1 in
    record { state = not-false _ (none _ false one.0).0; memory = (none _ false two.0).0; lent = (none _ false seven.0).0 }

module _ (c : Chip) (cartridge ram : List ℕ) (budget : ℕ) where
  abbrev refusal : ℕ
  refusal = first (run_tests c cartridge ram budget)

  abbrev n : ℕ
  n = units_made c.state budget

  pub number_is : (run c cartridge ram budget).answer.number ≡ refusal
  number_is = number_of refusal n c (ran cartridge ram n c)

  -- what it leaves and reports
  pub record Done : Type 0 where
    pub number : refusal ≡ 0
    pub accepted : Accepted c cartridge ram budget
    pub chip : left (run c cartridge ram budget) ≡ ran cartridge ram n c
    pub units : (run c cartridge ram budget).answer.result ≡ n

  pub done : refusal ≡ 0 → Done
  done e =
      record {
        number = e;
        accepted = accepted c cartridge ram budget e;
        chip = done_left refusal n c (ran cartridge ram n c) e;
        units = done_result refusal n c (ran cartridge ram n c) e;
      }

-- the transfer of such a run has all its words at hand
pub accepted_ready : (c : Chip) (cartridge ram : List ℕ) (budget : ℕ) → Accepted c cartridge ram budget → c.state.control.dma.kind ≡ 2 → 0 < units_made c.state budget → Ready cartridge c.state.control.dma (units_made c.state budget)
accepted_ready c cartridge ram budget a k more =
    let d = c.state.control.dma in
    let n : ℕ = units_made c.state budget in
    let e = even_source c.state a.state k in
    let k2 : eqb d.kind 2 ≡ true = eq-eqb d.kind 2 k in
    let test : (eqb n 0 || at_hand cartridge d.source n) ≡ true = not-false _ (simp k2 at (sym (lacks c.state c.vram cartridge ram budget a.state a.memory) ∙ a.lent)) in
    record { kind = k; enough = omega arith; even = e.0; bits = e.1; lent = either (eqb n 0) (at_hand cartridge d.source n) test (ne_eqb n 0 (λ z. let bad : ⊥ = omega arith in bad)) }

-- ---- units of one kind
pub kind_steps : (cartridge ram : List ℕ) (kind : ℕ) (step : Chip → Step) (source : Chip → ℕ) → ((c : Chip) → (dma c).kind ≡ kind → unit cartridge ram c ≡ step c) → ((c : Chip) → (step c).control.dma ≡ unit_dma (dma c) (source c)) → (n : ℕ) (c : Chip) → (dma c).kind ≡ kind → n ≤ (dma c).remaining → ran cartridge ram n c ≡ steps step n c
unfolding perform
kind_steps cartridge ram kind step source same shape n c k h =
    let Left : ℕ → Chip → Chip → Type 0 = λ j x y. (x ≡ y) × (0 < j → ((dma y).kind ≡ kind) × (j ≤ (dma y).remaining)) in
    let next : (j : ℕ) (x y : Chip) → Left (suc j) x y → Left j (made (unit cartridge ram) x) (made step y) = λ j x y r.
    let q = r.1 (omega arith) in (
      ap (made (unit cartridge ram)) r.0 ∙ ap (perform y) (same y q.0),
      λ more.
          let many : leb (dma y).remaining 1 ≡ false = lt-leb (dma y).remaining 1 (omega (arith, q.1)) in
          let d : (step y).control.dma ≡ record { kind = (dma y).kind; remaining = (dma y).remaining - 1; source = source y; fill = (dma y).fill } = shape y ∙ simp many in
          (ap (λ (x : Dma). x.kind) d ∙ q.0, omega (arith, q.1, ap (λ (x : Dma). x.remaining) d)),
    ) in
    (iterate_related (made (unit cartridge ram)) (made step) Left next n c c (refl, λ more. (k, h))).0

-- a run's units in kind 3, and in kind 4
module _ (cartridge ram : List ℕ) (n : ℕ) (c : Chip) (h : n ≤ (dma c).remaining) where
  pub fill_ran : (dma c).kind ≡ 3 → ran cartridge ram n c ≡ steps fill_step n c
  fill_ran k = kind_steps cartridge ram 3 fill_step (λ x. (dma x).source) (λ x e. simp e) (λ x. refl) n c k h

  pub copy_ran : (dma c).kind ≡ 4 → ran cartridge ram n c ≡ steps copy_step n c
  copy_ran k = kind_steps cartridge ram 4 copy_step (λ x. ((dma x).source + 1) % 65536) (λ x e. simp e) (λ x. refl) n c k h
