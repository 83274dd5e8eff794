-- Bytes that are delivered to a reader, up to the first call: definition, Scripts, The reader.
use Rattle.std.specs.Prelude.{ℕ, suc, Bool, cond, true, false, List, [], ◌∷◌, eqb, is_some, unwrap_or}
use Rattle.vdp_state.specs.declared.state.State.{State}
use Rattle.vdp_state.specs.Answer.{number_in}
use Rattle.vdp_state.specs.State.{Chip}
use Rattle.vdp_script.specs.declared.item.Item.{Item}
use Rattle.vdp_script.specs.Call.{ItemOutcome, call_item}
use Rattle.vdp_script.specs.Missing.{names_missing}
use Rattle.vdp_reader.specs.declared.deliver.Delivery.{Delivery}
use Rattle.vdp_reader.specs.declared.deliver.Reached.{Reached}
use Rattle.vdp_reader.specs.declared.reader.Reader.{Reader}
use Rattle.vdp_reader.specs.declared.take.Taking.{Taking}
use Rattle.vdp_reader.specs.declared.take.Taking.TheVariants.{Kept, Whole, Faulty}
use Rattle.vdp_reader.specs.Reader.{between_items, stopped, goes_on, answers}
use Rattle.vdp_reader.specs.Take.{takes}

-- what a delivery answers: the number, whether a call was made and its result, how many bytes were taken, and what is
-- handed on
pub record DeliveryAnswer : Type 0 where
  pub number : ℕ
  pub called : Bool
  pub result : ℕ
  pub taken : ℕ
  pub reader : Reader
  pub state : State

-- by what it gives; "the call's result, or 0"
abbrev pub delivery_answer_of : Delivery → DeliveryAnswer
delivery_answer_of d =
    record {
      number = number_in d.answer;
      called = is_some d.call;
      result = unwrap_or d.call 0;
      taken = d.taken;
      reader = d.reader;
      state = d.state;
    }

-- what a delivery leaves: its answer, VRAM and the pixel buffer
pub record DeliverOutcome : Type 0 where
  pub answer : DeliveryAnswer
  pub vram : List ℕ
  pub pixels : List ℕ

abbrev pub deliver_outcome : DeliveryAnswer → List ℕ → List ℕ → DeliverOutcome
deliver_outcome d vram pixels = record { answer = d; vram = vram; pixels = pixels }

-- so many bytes were taken, and no call was made
abbrev pub uncalled_with : Reader → ℕ → State → DeliveryAnswer
uncalled_with r taken s =
    record { number = answers r; called = false; result = 0; taken = taken; reader = r; state = s }

-- what no call is made for leaves state, VRAM and pixels
abbrev pub uncalled : Reader → ℕ → Chip → List ℕ → DeliverOutcome
uncalled r taken c pixels = deliver_outcome (uncalled_with r taken c.state) c.vram pixels

-- "If it is done, the reader is in stage 1; if it is refused, it stops the reader with its number."
abbrev pub after_call : ℕ → Reader
after_call number = cond (eqb number 0) between_items (stopped number)

-- a call that was made
abbrev pub called : ItemOutcome → ℕ → DeliverOutcome
called o taken =
    let r : Reader = after_call o.answer.number in
    deliver_outcome
    (record { number = answers r; called = true; result = o.answer.result; taken = taken; reader = r; state = o.answer.state })
    o.vram
    o.pixels

-- "An item that is whole and names a missing register, with the pending flag of the state as it is then, stops it with
-- 12, and no call is made. The call of any other item that is whole is made as in Running."
abbrev pub item_reached : Item → ℕ → List ℕ → List ℕ → Chip → List ℕ → DeliverOutcome
item_reached i taken cartridge ram c pixels =
    cond (names_missing c.state.control.port.pending i) (uncalled (stopped 12) taken c pixels)
    (called (call_item i cartridge ram c pixels) taken)

-- what the last of so many bytes led to; "A faulty byte stops the reader with 11."
abbrev pub reached : Taking → ℕ → List ℕ → List ℕ → Chip → List ℕ → DeliverOutcome
reached (Kept r) taken cartridge ram c pixels = uncalled r taken c pixels
reached (Whole i) taken cartridge ram c pixels = item_reached i taken cartridge ram c pixels
reached Faulty taken cartridge ram c pixels = uncalled (stopped 11) taken c pixels

abbrev pub last_taken : ℕ → Taking → Reached
last_taken taken taking = record { taken = taken; taking = taking }

abbrev pub one_more : Reached → Reached
one_more x = last_taken (suc x.taken) x.taking

-- a byte, and what goes on behind one that is kept; "it ends behind the byte that makes an item whole or is faulty"
abbrev pub reach_from : Taking → (Reader → Reached) → Reached
reach_from (Kept r) onward = one_more (onward r)
reach_from (Whole i) onward = last_taken 1 (Whole i)
reach_from Faulty onward = last_taken 1 Faulty

-- "and, where there is none, behind the last byte"
abbrev pub reach : Reader → List ℕ → Reached
reach r [] = last_taken 0 (Kept r)
reach r (b ∷ bytes) = reach_from (takes r b) (λ next. reach next bytes)

-- `deliver`: "The call `deliver` makes one call at most"
abbrev pub deliver : Reader → List ℕ → List ℕ → List ℕ → Chip → List ℕ → DeliverOutcome
deliver r bytes cartridge ram c pixels =
    let x : Reached = reach r bytes in
    cond (goes_on r) (reached x.taking x.taken cartridge ram c pixels) (uncalled r 0 c pixels)
