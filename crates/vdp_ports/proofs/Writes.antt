-- A data write to an idle chip is done and leaves an idle chip, whatever the code, the address and the word.
use Prim.Native.Nat.{ℕ, ◌%◌}
use mathlib.Core.Path.{◌≡◌, refl, ap, ◌∙◌}
use mathlib.Core.Bool.{true, false}
use mathlib.Core.List.{List}
use borrow.Author.Tests.{eq-eqb, le-leb}
use native.Mathlib.Omega.{arith}
use lib.Dec.{eqb, ltb}
use lib.ListN.{length}
use Rattle.vdp_state.specs.declared.state.Control.{Control}
use Rattle.vdp_state.specs.declared.state.State.{State}
use Rattle.vdp_state.specs.declared.state.Store.{Store}
use Rattle.vdp_state.specs.Answer.{first}
use Rattle.vdp_state.specs.Cell.{stored, stored_in, perform}
use Rattle.vdp_state.specs.Good.{is_colour, is_scroll, good_control, good}
use Rattle.vdp_state.specs.State.{Chip, with_control}
use Rattle.vdp_state.proofs.Bools.{by_cond}
use Rattle.vdp_state.proofs.Laws.{all_set, put_word_length, good_colours, good_scrolls, good_control_lem, good_of}
use Rattle.vdp_ports.specs.declared.access.Access.{Access}
use Rattle.vdp_ports.specs.declared.access.Access.TheVariants.{Write, Read, Nothing}
use Rattle.vdp_ports.specs.declared.access.Memory.TheVariants.{Vram, Cram, Vsram}
use Rattle.vdp_ports.specs.Access.{access, even_place, word_number, written}
use Rattle.vdp_ports.specs.Data.{data_tests, data_write_step}
use Rattle.vdp_ports.proofs.Decided.{colour_kept}

-- a GOOD state with the DMA idle, beside 65,536 bytes of VRAM
pub record Idle (c : Chip) : Type 0 where
  pub good : good c.state ≡ true
  pub size : length c.vram ≡ 65536
  pub kind : c.state.control.dma.kind ≡ 0

pub idle_accepts : (c : Chip) → Idle c → first (data_tests c) ≡ 0
idle_accepts c i = simp (i.good, eq-eqb (length c.vram) 65536 i.size, i.kind)

-- ---- what a word written keeps
module _ (s : State) (k : Control) (g : good s ≡ true) (h : good_control k ≡ true) where
  written_good_state : (a : Access) (address w : ℕ) → good (with_control (stored s (written a address w)) k) ≡ true
  written_good_state (Write Vram) address w = good_of _ (good_colours s g) (good_scrolls s g) h
  written_good_state (Write Cram) address w = good_of _ (all_set is_colour s.cram (word_number address) _ (good_colours s g) (colour_kept w)) (good_scrolls s g) h
  written_good_state (Write Vsram) address w =
      by_cond (λ (x : Store). good (with_control (stored s x) k) ≡ true) (ltb (word_number address) 40) _ _
      (λ e. good_of _ (good_colours s g) (all_set is_scroll s.vsram (word_number address) _ (good_scrolls s g) (le-leb (w % 1024) 1023 (omega arith))) h)
      (λ e. good_of _ (good_colours s g) (good_scrolls s g) h)
  written_good_state (Read m) address w = good_of _ (good_colours s g) (good_scrolls s g) h
  written_good_state Nothing address w = good_of _ (good_colours s g) (good_scrolls s g) h

written_length : (m : List ℕ) (a : Access) (address w : ℕ) → length (stored_in m (written a address w)) ≡ length m
written_length m (Write Vram) address w = put_word_length m (even_place address) _
written_length m (Write Cram) address w = refl
written_length m (Write Vsram) address w = by_cond (λ (x : Store). length (stored_in m x) ≡ length m) (ltb (word_number address) 40) _ _ (λ e. refl) (λ e. refl)
written_length m (Read memory) address w = refl
written_length m Nothing address w = refl

pub idle_after_write : (c : Chip) (w : ℕ) → Idle c → Idle (perform c (data_write_step c.state w))
unfolding perform data_write_step
idle_after_write c w i =
    let k = c.state.control in
    let a = access k.port.code in
    let zero : eqb k.dma.kind 1 ≡ false = ap (λ (j : ℕ). eqb j 1) i.kind in
    let control : good_control (data_write_step c.state w).control ≡ true = simp zero (good_control_lem c.state i.good) in
    record {
      good = written_good_state c.state _ i.good control a k.port.address w;
      size = written_length c.vram a k.port.address w ∙ i.size;
      kind = simp zero i.kind;
    }
