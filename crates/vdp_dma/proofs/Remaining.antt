-- The DMA state after n units: a unit makes the next one of it from it alone.
use Prim.Native.Nat.{ℕ, zero, suc, ◌+◌, ◌-◌, ◌%◌, ◌<◌, ◌≤◌}
use mathlib.Core.Path.{◌≡◌, refl, sym, ap, subst, ◌∙◌}
use mathlib.Core.Bool.{Bool, true, cond}
use mathlib.Core.List.{List}
use native.Mathlib.Omega.{arith}
use borrow.Author.Tests.{eq-eqb, ne_eqb, lt-leb, leb-true, leb-false}
use lib.Dec.{eqb, leb}
use Rattle.vdp_state.specs.declared.state.Dma.{Dma}
use Rattle.vdp_state.specs.Cell.{iterate, perform, made}
use Rattle.vdp_state.specs.State.{Chip}
use Rattle.vdp_state.proofs.Bools.{by_cases, by_cond, both, both_left, both_right}
use Rattle.vdp_state.proofs.Iterate.{iterate_mapped}
use Rattle.vdp_ports.specs.Length.{idle}
use Rattle.vdp_dma.specs.Run.{ran}
use Rattle.vdp_dma.specs.Source.{next_source, is_lent, all_lent}
use Rattle.vdp_dma.specs.Unit.{unit_dma, unit}

abbrev pub dma : Chip → Dma
dma c = c.state.control.dma

-- where the source goes on to, as the kind has it
abbrev source_next : Dma → ℕ
source_next d = cond (eqb d.kind 2) (next_source d.source) (cond (eqb d.kind 3) d.source ((d.source + 1) % 65536))

abbrev pub dma_next : Dma → Dma
dma_next d = unit_dma d (source_next d)

module _ (cartridge ram : List ℕ) where
  pub unit_dma_lem : (c : Chip) → (unit cartridge ram c).control.dma ≡ dma_next (dma c)
  unit_dma_lem c =
      by_cases (eqb (dma c).kind 2) (λ e. simp e)
      (λ e. by_cases (eqb (dma c).kind 3) (λ f. simp (e, f)) (λ f. simp (e, f)))

  pub ran_dma : (n : ℕ) (c : Chip) → dma (ran cartridge ram n c) ≡ iterate dma_next n (dma c)
  unfolding perform
  ran_dma n c = iterate_mapped (made (unit cartridge ram)) dma_next dma unit_dma_lem n c

-- ---- one unit, before the last
abbrev going : Dma → Dma
going d = record { kind = d.kind; remaining = d.remaining - 1; source = source_next d; fill = d.fill }

pub next_going : (d : Dma) → 1 < d.remaining → dma_next d ≡ going d
next_going d more = simp (lt-leb d.remaining 1 more)

pub next_remaining : (d : Dma) → (dma_next d).remaining ≡ d.remaining - 1
next_remaining d =
    by_cond (λ (x : Dma). x.remaining ≡ d.remaining - 1) (leb d.remaining 1) _ _
    (λ e. let h : d.remaining ≤ 1 = leb-true d.remaining 1 e in omega arith) (λ e. refl)

-- ---- n units
pub remaining_after : (n : ℕ) (d : Dma) → (iterate dma_next n d).remaining ≡ d.remaining - n
remaining_after zero d = omega arith
remaining_after (suc n) d = omega (arith, remaining_after n (dma_next d), next_remaining d)

pub kind_after : (n : ℕ) (d : Dma) → n < d.remaining → (iterate dma_next n d).kind ≡ d.kind
kind_after zero d h = refl
kind_after (suc n) d h =
    ap (λ (x : Dma). (iterate dma_next n x).kind) (next_going d (omega arith)) ∙ kind_after n (going d) (omega arith)

-- "After the last unit the kind, the source and the fill byte are 0."
pub idle_after : (n : ℕ) (d : Dma) → 0 < n → n ≡ d.remaining → iterate dma_next n d ≡ idle
idle_after zero d some e = absurd (let bad : ⊥ = omega arith in bad)
idle_after (suc n) d some e =
    by_cases (leb d.remaining 1)
    (λ last.
    let h : d.remaining ≤ 1 = leb-true d.remaining 1 last in
    ap (λ (j : ℕ). iterate dma_next j (dma_next d)) (let z : n ≡ 0 = omega arith in z) ∙ simp last)
    (λ more.
    let h : 1 < d.remaining = leb-false d.remaining 1 more in
    ap (iterate dma_next n) (next_going d h) ∙ idle_after n (going d) (omega arith) (omega arith))

-- the kind is 0 once all units are made and not before
pub idle_exactly : (n : ℕ) (d : Dma) → 1 < d.kind → 0 < d.remaining → n ≤ d.remaining → eqb (iterate dma_next n d).kind 0 ≡ leb d.remaining n
idle_exactly n d high some h =
    by_cases (leb d.remaining n)
    (λ e.
    let all : d.remaining ≤ n = leb-true d.remaining n e in
    ap (λ (x : Dma). eqb x.kind 0) (idle_after n d (omega arith) (omega arith)) ∙ sym e)
    (λ e.
    let k = kind_after n d (leb-false d.remaining n e) in
    ne_eqb (iterate dma_next n d).kind 0 (λ z. let bad : ⊥ = omega arith in bad) ∙ sym e)

-- ---- the words of k units of a transfer: those of m units, and then of n more
pub lent_sum : (cartridge : List ℕ) (m n k : ℕ) (d : Dma) → k ≡ m + n → k ≤ d.remaining → d.kind ≡ 2 → all_lent cartridge d.source m ≡ true → (0 < n → all_lent cartridge (iterate dma_next m d).source n ≡ true) → all_lent cartridge d.source k ≡ true
lent_sum cartridge m n zero d e h two here there = refl
lent_sum cartridge zero n (suc k) d e h two here there =
    subst (λ (j : ℕ). all_lent cartridge d.source j ≡ true) (let same : n ≡ suc k = omega arith in same) (there (omega arith))
lent_sum cartridge (suc m) n (suc k) d e h two here there =
    let one : Bool = is_lent cartridge d.source in
    let rest : Bool = all_lent cartridge (next_source d.source) m in
    let here' : rest ≡ true = both_right one rest here in
    both (both_left one rest here)
    (by_cases (leb d.remaining 1)
    (λ last.
    let few : d.remaining ≤ 1 = leb-true d.remaining 1 last in
    subst (λ (j : ℕ). all_lent cartridge (next_source d.source) j ≡ true) (let same : m ≡ k = omega arith in same) here')
    (λ more.
    let next : (going d).source ≡ next_source d.source = simp (eq-eqb d.kind 2 two) in
    subst (λ (x : ℕ). all_lent cartridge x k ≡ true) next
    (lent_sum cartridge m n k (going d) (omega arith) (omega arith) two
    (subst (λ (x : ℕ). all_lent cartridge x m ≡ true) (sym next) here')
    (λ some.
    subst (λ (x : Dma). all_lent cartridge (iterate dma_next m x).source n ≡ true) (next_going d (leb-false d.remaining 1 more)) (there some)))))
