-- What one unit of a fill or a copy does to the control part and VRAM, and the loops that make such units.
use Prim.Native.Nat.{ℕ, ◌+◌, ◌-◌, ◌*◌, ◌/◌, ◌%◌, ◌<◌, ◌≤◌}
use mathlib.Core.Path.{◌≡◌, refl, sym, ap, ap₂, subst, ◌∙◌}
use mathlib.Core.Bool.{false, cond}
use mathlib.Core.List.{List}
use native.Mathlib.Omega.{arith}
use borrow.Author.Tests.{eqb-true, eqb-false, leb-true, leb-false, le-leb, lt-leb}
use lib.Dec.{eqb, leb}
use lib.ListN.{get_or, set}
use lib.Seq.{set_comm, set-get_or}
use Rattle.vdp_state.specs.declared.state.Control.{Control}
use Rattle.vdp_state.specs.declared.state.Dma.{Dma}
use Rattle.vdp_state.specs.declared.state.Port.{Port}
use Rattle.vdp_state.specs.declared.state.State.{State}
use Rattle.vdp_state.specs.declared.state.Step.{Step}
use Rattle.vdp_state.specs.declared.state.Store.TheVariants.{Nothing}
use Rattle.vdp_state.specs.Cell.{put_word, stored_in, perform, made, steps}
use Rattle.vdp_state.specs.Range.{AllBytes}
use Rattle.vdp_state.specs.State.{Chip, chip, with_control, with_port, with_dma}
use Rattle.vdp_state.proofs.Bools.{by_cases}
use Rattle.vdp_state.proofs.Iterate.{iterate_turn}
use Rattle.vdp_ports.specs.Access.{access, even_place}
use Rattle.vdp_ports.specs.Data.{advanced}
use Rattle.vdp_ports.specs.Length.{register}
use Rattle.std.specs.Borrow.{MutBor}
use Rattle.vdp_dma.specs.Bytes.{MakesUnits}
use Rattle.vdp_dma.specs.Unit.{unit_dma, units_dma, unit_control, units_control, byte_stored, writes_vram, inverted, fill_step, copy_step}

-- a store of the even word with one byte replaced is a store of that byte
module _ (m : List ℕ) (place b : ℕ) (bytes : AllBytes m) (small : b < 256) where
  stored_even : place % 2 ≡ 0 → put_word m (even_place place) (b * 256 + get_or m (place + 1) 0) ≡ set m place b
  stored_even e =
      let p : even_place place ≡ place = omega arith in
      let high : (b * 256 + get_or m (place + 1) 0) / 256 ≡ b = omega (arith, bytes (place + 1)) in
      let low : (b * 256 + get_or m (place + 1) 0) % 256 ≡ get_or m (place + 1) 0 = omega (arith, bytes (place + 1)) in
      rw (p, high, low) (rw (set_comm m place (place + 1) b (get_or m (place + 1) 0) (omega arith), set-get_or) refl)

  stored_odd : (place % 2 ≡ 0 → ⊥) → put_word m (even_place place) (get_or m (place - 1) 0 * 256 + b) ≡ set m place b
  stored_odd e =
      let p : even_place place ≡ place - 1 = omega arith in
      let q : place - 1 + 1 ≡ place = omega arith in
      let high : (get_or m (place - 1) 0 * 256 + b) / 256 ≡ get_or m (place - 1) 0 = omega arith in
      let low : (get_or m (place - 1) 0 * 256 + b) % 256 ≡ b = omega arith in
      rw (p, high, low, q, set-get_or) refl

  pub byte_stored_lem : stored_in m (byte_stored m place b) ≡ set m place b
  byte_stored_lem =
      by_cases (eqb (place % 2) 0) (λ e. simp e (stored_even (eqb-true (place % 2) 0 e))) (λ e. simp e (stored_odd (eqb-false (place % 2) 0 e)))

-- ---- n units at once
module _ (d : Dma) (i : ℕ) (live : i < d.remaining) where
  more : leb d.remaining i ≡ false
  more = lt-leb d.remaining i live

  pub units_source : (source : ℕ) → (units_dma d i source).source ≡ source
  units_source source = simp more

  pub units_fill : (source : ℕ) → (units_dma d i source).fill ≡ d.fill
  units_fill source = simp more

  -- one unit after i of them
  pub units_next : (source source' : ℕ) → units_dma d (i + 1) source' ≡ unit_dma (units_dma d i source) source'
  units_next source source' =
      by_cases (leb d.remaining (i + 1))
      (λ e.
      let h : d.remaining ≤ i + 1 = leb-true d.remaining (i + 1) e in
      simp (more, e, le-leb (d.remaining - i) 1 (omega arith)))
      (λ e.
      let h : i + 1 < d.remaining = leb-false d.remaining (i + 1) e in
      let same : d.remaining - (i + 1) ≡ d.remaining - i - 1 = omega arith in
      simp (more, e, lt-leb (d.remaining - i) 1 (omega arith), same))

-- the control part after one unit more
pub units_control_next : (k : Control) (p p' : Port) (source source' i increment : ℕ) (next : ℕ → ℕ) → i < k.dma.remaining → p' ≡ advanced p increment → source' ≡ next source → units_control k p' (i + 1) source' ≡ unit_control (units_control k p i source) increment (next (units_dma k.dma i source).source)
units_control_next k p p' source source' i increment next live pe se =
    ap₂ (λ (x : Port) (y : Dma). with_dma (with_port k x) y) pe
    (units_next k.dma i live source source' ∙ ap (unit_dma (units_dma k.dma i source)) (se ∙ ap next (sym (units_source k.dma i live source))))

-- ---- the loop that makes units of one kind
-- the units left, made from here, lead where all n of them lead from the start
abbrev pub Leads : (Chip → Step) → State → ℕ → List ℕ → Port → ℕ → ℕ → List ℕ → Type 0
Leads step s n vram₀ p source i vram =
    steps step (n - i) (chip (with_control s (units_control s.control p i source)) vram) ≡ steps step n (chip s vram₀)

module _ (step : Chip → Step) (s : State) (n : ℕ) (vram₀ : List ℕ) where
  pub leads_turn : (post : MutBor (List ℕ) → ℕ → ℕ → ℕ → MutBor (List ℕ) → Type 0) → MakesUnits post s step → (p p' : Port) (source source' i : ℕ) (v v' : MutBor (List ℕ)) → i < n → n ≤ s.control.dma.remaining → p.code ≡ s.control.port.code → p' ≡ advanced p (register s 15) → post v p.address source source' v' → Leads step s n vram₀ p source i v.now → Leads step s n vram₀ p' source' (i + 1) v'.now
  leads_turn post makes p p' source source' i v v' h most code pe called leads =
      let d = s.control.dma in
      let live : i < d.remaining = omega arith in
      let k : Control = units_control s.control p i source in
      let here : source ≡ k.dma.source = sym (units_source d i live source) in
      let made_now = makes k v v' source' code (units_fill d i live source) (subst (λ (x : ℕ). post v p.address x source' v') here called) in
      let control = units_control_next s.control p p' source source' i (register s 15) (λ x. source') live pe refl in
      ap (steps step (n - (i + 1))) (ap (λ (x : Control). chip (with_control s x) v'.now) control ∙ sym made_now)
      ∙ sym (iterate_turn (made step) n i (chip (with_control s k) v.now) h) ∙ leads

-- ---- one unit, by what a call that makes it leaves: the next source, and VRAM
module _ (s : State) (k : Control) (m m' : List ℕ) (source : ℕ) where
  abbrev Made : (Chip → Step) → Type 0
  Made step =
      let c = chip (with_control s k) m in
      perform c (step c) ≡ chip (with_control s (unit_control k (register s 15) source)) m'

  abbrev leaves : ℕ → List ℕ → Chip
  leaves j l = chip (with_control s (unit_control k (register s 15) j)) l

  pub fill_made : source ≡ k.dma.source → m' ≡ stored_in m (cond (writes_vram (access k.port.code)) (byte_stored m (inverted k.port.address) k.dma.fill) Nothing) → Made fill_step
  unfolding perform
  fill_made from to = by_cases (writes_vram (access k.port.code)) (λ e. simp e) (λ e. simp e) ∙ ap₂ leaves (sym from) (sym to)

  pub copy_made : source ≡ (k.dma.source + 1) % 65536 → m' ≡ stored_in m (byte_stored m k.port.address (get_or m k.dma.source 0)) → Made copy_step
  unfolding perform
  copy_made from to = ap₂ leaves (sym from) (sym to)
