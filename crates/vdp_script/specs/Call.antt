-- The call of an item: definition, Scripts, Running.
use Rattle.std.specs.Prelude.{ℕ, cond, List, eqb, drop, Option, Some, None, Result, Ok, Err}
use Rattle.vdp_state.specs.declared.answer.Refusal.{Refusal}
use Rattle.vdp_state.specs.declared.state.State.{State}
use Rattle.vdp_state.specs.Answer.{Answer, number}
use Rattle.vdp_state.specs.State.{Chip}
use Rattle.vdp_ports.specs.Control.{control_write}
use Rattle.vdp_ports.specs.Data.{data_write, data_read}
use Rattle.vdp_ports.specs.Frame.{new_frame}
use Rattle.vdp_ports.specs.Status.{status_read}
use Rattle.vdp_dma.specs.Run.{run}
use Rattle.vdp_line.specs.Line.{line}
use Rattle.vdp_script.specs.declared.call.ItemDone.{ItemDone}
use Rattle.vdp_script.specs.declared.item.Item.{Item}
use Rattle.vdp_script.specs.declared.item.Item.TheVariants.{ControlWord, DataWord, DataRead, StatusRead, Run, Line, NewFrame}
use Rattle.vdp_script.specs.Item.{byte_after, item_of}

-- what an item's call leaves: its answer, VRAM and the pixel buffer
pub record ItemOutcome : Type 0 where
  pub answer : Answer
  pub vram : List ℕ
  pub pixels : List ℕ

abbrev pub item_outcome : Answer → List ℕ → List ℕ → ItemOutcome
item_outcome a vram pixels = record { answer = a; vram = vram; pixels = pixels }

-- "each the plain call of the table with the item's word, budget or line number"; what a call is not lent stays
abbrev pub call_item : Item → List ℕ → List ℕ → Chip → List ℕ → ItemOutcome
call_item (ControlWord w) cartridge ram c pixels = item_outcome (control_write c.state w) c.vram pixels
call_item (DataWord w) cartridge ram c pixels = item_outcome (data_write c w).answer (data_write c w).vram pixels
call_item DataRead cartridge ram c pixels = item_outcome (data_read c) c.vram pixels
call_item StatusRead cartridge ram c pixels = item_outcome (status_read c.state) c.vram pixels
call_item (Run budget) cartridge ram c pixels =
    item_outcome (run c cartridge ram budget).answer (run c cartridge ram budget).vram pixels
call_item (Line n) cartridge ram c pixels = item_outcome (line c n pixels).answer c.vram (line c n pixels).pixels
call_item NewFrame cartridge ram c pixels = item_outcome (new_frame c.state) c.vram pixels

-- the answer of an item's call, with the byte where the script goes on
pub record ItemAnswer : Type 0 where
  pub number : ℕ
  pub result : ℕ
  pub next : ℕ
  pub state : State

-- what the item at a byte answers from a state, by what it gives; "Refused, the next byte is the one that was given."
abbrev pub item_answer_of : State → ℕ → Result ItemDone Refusal → ItemAnswer
item_answer_of s at (Ok d) = record { number = 0; result = d.result; next = d.next; state = d.state }
item_answer_of s at (Err refusal) = record { number = number refusal; result = 0; next = at; state = s }

-- what a script item leaves
pub record ScriptItemOutcome : Type 0 where
  pub answer : ItemAnswer
  pub vram : List ℕ
  pub pixels : List ℕ

abbrev pub script_item_outcome : ItemAnswer → List ℕ → List ℕ → ScriptItemOutcome
script_item_outcome a vram pixels = record { answer = a; vram = vram; pixels = pixels }

abbrev pub item_answer : Answer → ℕ → ItemAnswer
item_answer a next = record { number = a.number; result = a.result; next = next; state = a.state }

-- "done, the next byte is the one after the item"; "Refused, the next byte is the one that was given."
abbrev pub called : ItemOutcome → ℕ → ℕ → ScriptItemOutcome
called o at after =
    script_item_outcome (item_answer o.answer (cond (eqb o.answer.number 0) after at)) o.vram o.pixels

-- "if a whole item that is not faulty begins at a byte of the script, its call is made and answers"; "If none does
-- [..], the answer is 11."
abbrev pub call_found : Option Item → ℕ → List ℕ → List ℕ → Chip → List ℕ → ScriptItemOutcome
call_found None at cartridge ram c pixels =
    script_item_outcome (record { number = 11; result = 0; next = at; state = c.state }) c.vram pixels
call_found (Some i) at cartridge ram c pixels = called (call_item i cartridge ram c pixels) at (byte_after at i)

abbrev pub script_item : List ℕ → ℕ → List ℕ → List ℕ → Chip → List ℕ → ScriptItemOutcome
script_item script at cartridge ram c pixels = call_found (item_of (drop at script)) at cartridge ram c pixels
