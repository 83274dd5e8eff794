-- What each port access and the new frame decide on a good chip is a step in range.
use Prim.Native.Nat.{ℕ, ◌+◌, ◌*◌, ◌/◌, ◌%◌, ◌<◌, ◌≤◌}
use mathlib.Core.Path.{◌≡◌, refl, ap, ap₂, ◌∙◌}
use mathlib.Core.Bool.{true, false, ◌&&◌, ◌||◌}
use native.Mathlib.Omega.{arith}
use borrow.Author.Tests.{eqb-false, eq-eqb, ne_eqb, le-leb, ltb-true, lt-ltb}
use lib.Dec.{eqb, leb, ltb, lit<, lit≤}
use Rattle.vdp_state.specs.declared.state.Control.{Control}
use Rattle.vdp_state.specs.declared.state.Dma.{Dma}
use Rattle.vdp_state.specs.declared.state.State.{State}
use Rattle.vdp_state.specs.declared.state.Store.{Store}
use Rattle.vdp_state.specs.Colour.{blue, green, red, colour_word}
use Rattle.vdp_state.specs.Good.{is_colour, good_source, good_dma, most_units}
use Rattle.vdp_state.specs.Range.{AllBytes, GoodControl, GoodChip, good_store, GoodStep}
use Rattle.vdp_state.specs.State.{Chip}
use Rattle.vdp_state.proofs.Bools.{by_cases, by_cond, both, or_true}
use Rattle.vdp_state.proofs.Facts.{DmaGood, parts, control_of, transfer_source, copy_source}
use Rattle.vdp_ports.specs.declared.access.Access.{Access}
use Rattle.vdp_ports.specs.declared.access.Access.TheVariants.{Write, Read, Nothing}
use Rattle.vdp_ports.specs.declared.access.Memory.TheVariants.{Vram, Cram, Vsram}
use Rattle.vdp_ports.specs.declared.taken.Taken.{Taken}
use Rattle.vdp_ports.specs.declared.taken.Taken.TheVariants.{RegisterWrite, FirstHalf, SecondHalf}
use Rattle.vdp_ports.specs.Access.{access, even_place, word_number, swapped, written}
use Rattle.vdp_ports.specs.Control.{fill_dropped, register_write, first_half, second_half, dma_started, dma_after, taken_step, control_step}
use Rattle.vdp_ports.specs.Data.{fill_begun, port_after, data_write_step, data_read_step}
use Rattle.vdp_ports.specs.Frame.{frame_step}
use Rattle.vdp_ports.specs.Length.{register, units, units_of}
use Rattle.vdp_ports.specs.Status.{status_step}
use Rattle.vdp_ports.specs.Taken.{taken_as, register_of, has_register}

-- ---- the DMA states that begin
units_range : (n : ℕ) → n ≤ most_units → (0 < units n) × (units n ≤ most_units)
units_range n h =
    by_cases (eqb n 0) (λ e. simp e (omega arith)) (λ e. let z : n ≡ 0 → ⊥ = eqb-false n 0 e in simp e (omega arith))

module _ (s : State) (bytes : AllBytes s.registers) where
  length_range : (0 < units_of s) × (units_of s ≤ most_units)
  length_range = units_range (register s 20 * 256 + register s 19) (omega (arith, bytes 20, bytes 19))

  -- a source that a kind admits makes a good DMA state of a length from the registers
  begun : (kind source fill : ℕ) → leb kind 4 ≡ true → leb kind 1 ≡ false → good_source kind source ≡ true → (eqb fill 0 || eqb kind 3) ≡ true → good_dma (record { kind = kind; remaining = units_of s; source = source; fill = fill }) ≡ true
  begun kind source fill a b c d =
      let r = length_range in
      let some : eqb (units_of s) 0 ≡ false = ne_eqb (units_of s) 0 (λ z. let bad : ⊥ = omega arith in bad) in
      simp (a, le-leb (units_of s) most_units r.1, some, b, c, d)

  started_good : DmaGood (dma_started s)
  started_good =
      let low : ℕ = register s 22 * 256 + register s 21 in
      by_cond DmaGood (ltb (register s 23) 128) _ _
      (λ e.
      let h = ltb-true (register s 23) 128 e in
      let source : ℕ = 2 * (register s 23 * 65536 + register s 22 * 256 + register s 21) in
      (begun 2 source 0 refl refl (transfer_source source (omega arith) (omega (arith, bytes 22, bytes 21))) refl, lit< tt))
      (λ e. by_cond DmaGood (ltb (register s 23) 192) _ _ (λ f. (refl, lit< tt))
      (λ f. (begun 4 low 0 refl refl (copy_source low (omega (arith, bytes 22, bytes 21))) refl, lit< tt)))

-- ---- the control port
dropped_good : (d : Dma) → DmaGood d → DmaGood (fill_dropped d)
dropped_good d g = by_cond DmaGood (eqb d.kind 1) _ _ (λ e. (refl, lit< tt)) (λ e. g)

register_good : (k : Control) (w : ℕ) → GoodControl k → GoodStep (register_write k w)
register_good k w g =
    let p = parts k g in
    by_cond GoodStep (has_register (register_of w)) _ _
    (λ e. record { control = control_of _ (lit≤ tt) p.address (dropped_good k.dma p.dma) p.timing; store = both e (lt-ltb (w % 256) 256 (omega arith)) })
    (λ e. record { control = g; store = refl })

first_good : (k : Control) (w : ℕ) → w < 65536 → GoodControl k → GoodStep (first_half k w)
first_good k w h g =
    let p = parts k g in
    record { control = control_of _ (omega (arith, p.code)) (omega (arith, p.address)) (dropped_good k.dma p.dma) p.timing; store = refl }

second_good : (s : State) (w : ℕ) → AllBytes s.registers → GoodControl s.control → GoodStep (second_half s w)
second_good s w b g =
    let p = parts s.control g in
    let d : DmaGood (dma_after s w) = by_cond DmaGood (eqb (w / 128 % 2) 1 && eqb (register s 1 / 16 % 2) 1) _ _ (λ e. started_good s b) (λ e. p.dma) in
    record { control = control_of _ (omega arith) (omega arith) d p.timing; store = refl }

taken_good : (t : Taken) (c : Chip) (w : ℕ) → w < 65536 → GoodChip c → GoodStep (taken_step t c.state w)
taken_good RegisterWrite c w h g = register_good c.state.control w g.control
taken_good FirstHalf c w h g = first_good c.state.control w h g.control
taken_good SecondHalf c w h g = second_good c.state w g.registers g.control

pub control_good : (c : Chip) (w : ℕ) → w < 65536 → GoodChip c → GoodStep (control_step c.state w)
unfolding control_step
control_good c w = taken_good (taken_as c.state.control.port.pending w) c w

-- ---- stores
pub colour_kept : (w : ℕ) → is_colour (colour_word w) ≡ true
unfolding colour_word
colour_kept w =
    let hb : blue w < 8 = omega arith in
    let hg : green w < 8 = omega arith in
    let hr : red w < 8 = omega arith in
    kept (blue w) (green w) (red w) hb hg hr
  where
    kept : (b g r : ℕ) → b < 8 → g < 8 → r < 8 → is_colour (b * 512 + g * 32 + r * 2) ≡ true
    kept b g r hb hg hr =
        let w : ℕ = b * 512 + g * 32 + r * 2 in
        let p : blue w ≡ b = omega arith in
        let q : green w ≡ g = omega arith in
        let e : red w ≡ r = omega arith in
        eq-eqb (colour_word w) w (ap₂ (λ (x y : ℕ). x * 512 + y * 32 + red w * 2) p q ∙ ap (λ (z : ℕ). b * 512 + g * 32 + z * 2) e)

pub written_good : (a : Access) (address w : ℕ) → address < 65536 → w < 65536 → good_store (written a address w) ≡ true
written_good (Write Vram) address w h k =
    both (both (eq-eqb (even_place address % 2) 0 (omega arith)) (lt-ltb (even_place address) 65536 (omega arith)))
    (by_cond (λ (x : ℕ). ltb x 65536 ≡ true) (eqb (address % 2) 0) w (swapped w) (λ e. lt-ltb w 65536 k) (λ e. lt-ltb (swapped w) 65536 (omega arith)))
written_good (Write Cram) address w h k = both (lt-ltb (word_number address) 64 (omega arith)) (colour_kept w)
written_good (Write Vsram) address w h k =
    by_cond (λ (x : Store). good_store x ≡ true) (ltb (word_number address) 40) _ _ (λ e. both e (le-leb (w % 1024) 1023 (omega arith))) (λ e. refl)
written_good (Read m) address w h k = refl
written_good Nothing address w h k = refl

-- ---- the data port, the status read and the new frame
module _ (c : Chip) (g : GoodChip c) where
  abbrev s : State
  s = c.state

  address_after : (port_after s).address < 65536
  address_after = omega arith

  pub write_good : (w : ℕ) → w < 65536 → GoodStep (data_write_step s w)
  unfolding data_write_step
  write_good w h =
      let p = parts s.control g.control in
      let d : DmaGood (fill_begun s w) =
      by_cond DmaGood (eqb s.control.dma.kind 1) _ _
      (λ e. (begun s g.registers 3 0 (w / 256) refl refl refl (or_true (eqb (w / 256) 0)), let f : w / 256 < 256 = omega arith in f))
      (λ e. p.dma) in
      record { control = control_of _ p.code address_after d p.timing; store = written_good (access s.control.port.code) s.control.port.address w p.address h }

  pub read_good : GoodStep (data_read_step s)
  unfolding data_read_step
  read_good = let p = parts s.control g.control in record { control = control_of _ p.code address_after p.dma p.timing; store = refl }

  pub status_good : GoodStep (status_step s)
  status_good = let p = parts s.control g.control in record { control = control_of _ p.code p.address p.dma p.timing; store = refl }

  pub frame_good : GoodStep (frame_step s)
  frame_good = let p = parts s.control g.control in record { control = control_of _ p.code p.address p.dma p.timing; store = refl }
