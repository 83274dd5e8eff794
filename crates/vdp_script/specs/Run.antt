-- A script that is run: definition, Scripts, Running.
use Rattle.std.specs.Prelude.{ℕ, ◌+◌, cond, List, [], ◌∷◌, eqb}
use Rattle.vdp_state.specs.declared.state.State.{State}
use Rattle.vdp_state.specs.State.{Chip, chip}
use Rattle.vdp_script.specs.declared.item.Item.{Item}
use Rattle.vdp_script.specs.declared.run.ScriptAnswer.{ScriptAnswer}
use Rattle.vdp_script.specs.Call.{ItemOutcome, call_item}
use Rattle.vdp_script.specs.Form.{Judged, judged_of, Form, form_of}
use Rattle.vdp_script.specs.Judge.{judged_as}

-- what a script that is run answers: the number, the place of the item that was refused or how many items there are, and
-- the state
pub record RunAnswer : Type 0 where
  pub number : ℕ
  pub place : ℕ
  pub state : State

-- by how it ended
abbrev pub run_answer_of : ScriptAnswer → RunAnswer
run_answer_of a = record { number = (judged_of a.ended).number; place = (judged_of a.ended).place; state = a.state }

-- what a run script leaves: its answer, VRAM and the pixel buffer
pub record ScriptOutcome : Type 0 where
  pub answer : RunAnswer
  pub vram : List ℕ
  pub pixels : List ℕ

abbrev pub script_outcome : RunAnswer → List ℕ → List ℕ → ScriptOutcome
script_outcome a vram pixels = record { answer = a; vram = vram; pixels = pixels }

-- a script that ends with a number at a place
abbrev pub ended_at : ℕ → ℕ → State → List ℕ → List ℕ → ScriptOutcome
ended_at number place s vram pixels = script_outcome (record { number = number; place = place; state = s }) vram pixels

-- "its calls are made in the order of its items, [..] on the state, VRAM and pixel buffer as the call before left them,
-- and with the same cartridge and work RAM. The first call that is refused ends it: its number and its item's place are
-- reported, and what the calls before it did stands. If all are done, the answer is 0 and the place is how many items
-- there are."
abbrev pub run_items : List Item → ℕ → List ℕ → List ℕ → Chip → List ℕ → ScriptOutcome
run_items [] place cartridge ram c pixels = ended_at 0 place c.state c.vram pixels
run_items (i ∷ items) place cartridge ram c pixels =
    let o : ItemOutcome = call_item i cartridge ram c pixels in
    cond (eqb o.answer.number 0) (run_items items (place + 1) cartridge ram (chip o.answer.state o.vram) o.pixels)
    (ended_at o.answer.number place o.answer.state o.vram o.pixels)

-- "A script that is run is judged first, with the pending flag of the state. If it is refused there, that number and its
-- place are the answer, and no call is made."
abbrev pub run_form : Form → List ℕ → List ℕ → Chip → List ℕ → ScriptOutcome
run_form f cartridge ram c pixels =
    let j : Judged = judged_as c.state.control.port.pending f in
    cond (eqb j.number 0) (run_items f.items 0 cartridge ram c pixels)
    (ended_at j.number j.place c.state c.vram pixels)

abbrev pub run_script : List ℕ → List ℕ → List ℕ → Chip → List ℕ → ScriptOutcome
run_script script cartridge ram c pixels = run_form (form_of script) cartridge ram c pixels
