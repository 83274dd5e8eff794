-- Laws of a delivery that makes a call:
--     item_called       an item that is whole, by what its call answers
--     done_called       the same of a call that is done
--     refused_called    and of one that is refused
use Prim.Native.Nat.{ℕ}
use mathlib.Core.Path.{◌≡◌, refl, sym, ap, ap₂, ◌∙◌}
use mathlib.Core.Bool.{true, false}
use mathlib.Core.List.{List}
use Rattle.vdp_state.specs.declared.answer.Refusal.{Refusal}
use Rattle.vdp_state.specs.declared.state.State.{State}
use Rattle.vdp_state.specs.Answer.{Answer, number, done, refused}
use Rattle.vdp_state.specs.State.{Chip}
use Rattle.vdp_script.specs.declared.item.Item.{Item}
use Rattle.vdp_script.specs.Call.{ItemOutcome, item_outcome, call_item}
use Rattle.vdp_script.specs.Missing.{names_missing}
use Rattle.vdp_reader.specs.declared.reader.Reader.{Reader}
use Rattle.vdp_reader.specs.Deliver.{DeliveryAnswer, deliver_outcome, after_call, called, item_reached}
use Rattle.vdp_reader.specs.Reader.{may_answer}
use Rattle.vdp_reader.proofs.Readers.{call_answers, refusal_may}

-- the answer of a delivery that made a call
abbrev pub called_with : ℕ → ℕ → ℕ → Reader → State → DeliveryAnswer
called_with number result taken r s =
    record { number = number; called = true; result = result; taken = taken; reader = r; state = s }

module _ (cartridge ram : List ℕ) (c : Chip) (pixels : List ℕ) (i : Item) (taken : ℕ) (m : names_missing c.state.control.port.pending i ≡ false) where
  item_called : (a : Answer) → may_answer a.number ≡ true → (vram' pixels' : List ℕ) → item_outcome a vram' pixels' ≡ call_item i cartridge ram c pixels
      → (r : Reader) → r ≡ after_call a.number
      → deliver_outcome (called_with a.number a.result taken r a.state) vram' pixels' ≡ item_reached i taken cartridge ram c pixels
  item_called a may vram' pixels' e r after =
      ap₂ (λ (k : ℕ) (x : Reader). deliver_outcome (called_with k a.result taken x a.state) vram' pixels') (sym (call_answers a.number may)) after
      ∙ ap (λ (o : ItemOutcome). called o taken) e
      ∙ sym (simp m)

  module _ {vram' pixels' : List ℕ} {r : Reader} where
    pub done_called : {result : ℕ} {s : State} → item_outcome (done result s) vram' pixels' ≡ call_item i cartridge ram c pixels → r ≡ after_call 0
        → deliver_outcome (called_with 0 result taken r s) vram' pixels' ≡ item_reached i taken cartridge ram c pixels
    done_called {result} {s} e after = item_called (done result s) refl vram' pixels' e r after

    pub refused_called : (refusal : Refusal) → item_outcome (refused (number refusal) c.state) vram' pixels' ≡ call_item i cartridge ram c pixels → r ≡ after_call (number refusal)
        → deliver_outcome (called_with (number refusal) 0 taken r c.state) vram' pixels' ≡ item_reached i taken cartridge ram c pixels
    refused_called refusal e after =
        item_called (refused (number refusal) c.state) (refusal_may refusal) vram' pixels' e r after
