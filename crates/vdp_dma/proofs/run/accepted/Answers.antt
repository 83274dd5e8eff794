-- By the DMA kind; a run that is not refused has what each kind's function asks.
use Rattle.std.proofs.Common.{ℕ, List, Bool, cond, rules, ◌<◌, ◌≡◌, sym, ap, subst, ◌∙◌, arith}
use mathlib.Core.Path.{ap₂}
use borrow.Author.Tests.{eqb-true, eqb-false}
use Rattle.vdp_dma.proofs.Accepted.{accepted, accepted_ready, fill_ran, copy_ran}
use Rattle.vdp_dma.proofs.Units.{fill_made, copy_made}
use Rattle.vdp_dma.specs.Run.{ran, run_tests, units_made}
use Rattle.vdp_dma.specs.Transfer.{Ready}
use Rattle.vdp_dma.specs.Unit.{byte_stored, writes_vram, inverted, fill_step, copy_step}
use Rattle.vdp_ports.specs.Access.{access}
use Rattle.vdp_state.proofs.Facts.{state_dma, none_remaining, some_remaining}
use Rattle.vdp_state.specs.Cell.{stored_in, steps}
use Rattle.vdp_state.specs.Answer.{first}
use Rattle.vdp_state.specs.State.{chip}
use Rattle.vdp_state.specs.declared.state.State.{State}
use Rattle.vdp_state.specs.declared.state.Store.TheVariants.{Nothing}
use Rattle.vdp_dma.proofs.run.accepted.Goals as goal

-- a run of bytes that is not refused has units that remain
some_left : (s : State) (vram cartridge ram : List ℕ) (budget : ℕ) → first (run_tests (chip s vram) cartridge ram budget) ≡ 0 → 1 < s.control.dma.kind → 0 < s.control.dma.remaining
some_left s vram cartridge ram budget done kind =
    some_remaining _ (state_dma s (accepted (chip s vram) cartridge ram budget done).state) kind

pub transfer_units-requires-clause-ready : goal.transfer_units-requires-clause-ready
transfer_units-requires-clause-ready c =
    let a = c.args in
    let e = c.units_made-n.ensures in
    let known = accepted (chip a.s a.vram.now) a.memories.cartridge.now a.memories.ram.now a.budget c.requires in
    let k : a.s.control.dma.kind ≡ 2 = eqb-true a.s.control.dma.kind 2 (sym c.is.ensures ∙ c.if-is.true) in
    λ more. subst (λ (n : ℕ). Ready a.memories.cartridge.now a.s.control.dma n) (sym e)
    (accepted_ready (chip a.s a.vram.now) a.memories.cartridge.now a.memories.ram.now a.budget known k (subst (λ (n : ℕ). 0 < n) e more))

pub for_each_unit-requires-clause-left : goal.for_each_unit-requires-clause-left
for_each_unit-requires-clause-left c =
    let a = c.args in
    let k : a.s.control.dma.kind ≡ 3 = eqb-true a.s.control.dma.kind 3 (sym c.is-2.ensures ∙ c.if-is-2.true) in
    let some = some_left a.s a.vram.now a.memories.cartridge.now a.memories.ram.now a.budget c.requires (omega (arith, k)) in
    (some, omega (arith, some, c.units_made-n.ensures))

pub for_each_unit-requires-then-is-3-clause-left : goal.for_each_unit-requires-then-is-3-clause-left
for_each_unit-requires-then-is-3-clause-left c =
    let a = c.args in
    let k : a.s.control.dma.kind ≡ 4 = eqb-true a.s.control.dma.kind 4 (sym c.is-3.ensures ∙ c.if-is-3.true) in
    let some = some_left a.s a.vram.now a.memories.cartridge.now a.memories.ram.now a.budget c.requires (omega (arith, k)) in
    (some, omega (arith, some, c.units_made-n.ensures))

pub returns-then-is-2 : goal.returns-then-is-2
returns-then-is-2 c =
    let a = c.args in
    let s = a.s in
    let made : ℕ = units_made s a.budget in
    let k : s.control.dma.kind ≡ 3 = eqb-true s.control.dma.kind 3 (sym c.is-2.ensures ∙ c.if-is-2.true) in
    let writes : c.writes_vram-writes.result ≡ writes_vram (access s.control.port.code) = search rules in
    c.for_each_unit.ensures fill_step (λ k v v' source code fill called.
    let stored : Bool → ℕ → List ℕ = λ w b. stored_in v.now (cond w (byte_stored v.now (inverted k.port.address) b) Nothing) in
    let to : v'.now ≡ stored c.writes_vram-writes.result s.control.dma.fill = search rules in
    fill_made s k v.now v'.now source (search rules)
    (to ∙ ap₂ stored (writes ∙ ap (λ (x : ℕ). writes_vram (access x)) (sym code)) (sym fill)))
    ∙ ap (λ (n : ℕ). steps fill_step n (chip s a.vram.now)) c.units_made-n.ensures
    ∙ sym (fill_ran a.memories.cartridge.now a.memories.ram.now made (chip s a.vram.now) (omega arith) k)

pub returns-then-is-3 : goal.returns-then-is-3
returns-then-is-3 c =
    let a = c.args in
    let made : ℕ = units_made a.s a.budget in
    let k : a.s.control.dma.kind ≡ 4 = eqb-true a.s.control.dma.kind 4 (sym c.is-3.ensures ∙ c.if-is-3.true) in
    c.for_each_unit-then-is-3.ensures copy_step (λ k v v' source code fill called. copy_made a.s k v.now v'.now source (search rules) (search rules))
    ∙ ap (λ (n : ℕ). steps copy_step n (chip a.s a.vram.now)) c.units_made-n.ensures
    ∙ sym (copy_ran a.memories.cartridge.now a.memories.ram.now made (chip a.s a.vram.now) (omega arith) k)

pub returns : goal.returns
returns c =
    let a = c.args in
    let known = accepted (chip a.s a.vram.now) a.memories.cartridge.now a.memories.ram.now a.budget c.requires in
    let f = state_dma a.s known.state in
    let kind = a.s.control.dma.kind in
    let not2 = eqb-false kind 2 (sym c.is.ensures ∙ c.if-is.false) in
    let not3 = eqb-false kind 3 (sym c.is-2.ensures ∙ c.if-is-2.false) in
    let not4 = eqb-false kind 4 (sym c.is-3.ensures ∙ c.if-is-3.false) in
    let z : a.s.control.dma.remaining ≡ 0 = none_remaining _ f (omega (arith, f.kind, not2, not3, not4)) in
    ap (λ (n : ℕ). ran a.memories.cartridge.now a.memories.ram.now n (chip a.s a.vram.now)) (let e : 0 ≡ units_made a.s a.budget = omega arith in e)
