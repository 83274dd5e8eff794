-- The book: definition, The book. It keeps a full copy of the chip for each step.
use Rattle.std.specs.Prelude.{ℕ, zero, suc, cond, List, [], ◌∷◌, eqb, length, get_or, drop}
use Rattle.vdp_state.specs.declared.state.Step.{Step}
use Rattle.vdp_state.specs.Answer.{first}
use Rattle.vdp_state.specs.Cell.{perform, iterate}
use Rattle.vdp_state.specs.State.{Chip}
use Rattle.vdp_tape.specs.Number.{recorded_number}
use Rattle.vdp_tape.specs.Recorded.{Call, plan_of}
use Rattle.vdp_tape.specs.Recorder.{Plan}
use Rattle.vdp_tape.specs.StepBack.{back_tests}

-- what a caller does: a recorded call or a step back
pub data Act : Type 0 where
  Make : Call → Act
  StepBack : ℕ → Act

-- "The book holds a present state and VRAM, a list of pages, the latest on top, and the capacity of the tape. A page
-- holds a whole state and all 65,536 bytes of a VRAM."
pub record Book : Type 0 where
  pub present : Chip
  pub pages : List Chip
  pub capacity : ℕ

-- "At the start the present state and VRAM are those handed in, and there is no page."
abbrev pub new_book : Chip → ℕ → Book
new_book c capacity = record { present = c; pages = []; capacity = capacity }

-- "a copy of the present state and VRAM goes on top as a page, and the present ones become what the step makes of
-- them", n times
abbrev pub turn_page : (Chip → Step) → Book → Book
turn_page step b =
    record { present = perform b.present (step b.present); pages = b.present ∷ b.pages; capacity = b.capacity }

abbrev pub turned : (Chip → Step) → ℕ → Book → Book
turned step n b = iterate (turn_page step) n b

-- "A step back of k that is done takes the state and VRAM of the k-th page from the top as the present ones, and
-- removes that page and those above it. A step back of 0 changes nothing."
abbrev pub turned_back : ℕ → Book → Book
turned_back zero b = b
turned_back (suc k) b = record { present = get_or b.pages k b.present; pages = drop (suc k) b.pages; capacity = b.capacity }

-- the number answered and the book after a call
pub record BookOutcome : Type 0 where
  pub number : ℕ
  pub book : Book

-- "A refused call changes nothing in the book."
abbrev pub book_outcome_at : ℕ → Book → Book → BookOutcome
book_outcome_at n before after =
    cond (eqb n 0) (record { number = 0; book = after }) (record { number = n; book = before })

-- a recorded call: "The number of a call is found with the present state and VRAM as its own and the number of pages as
-- the count."
abbrev pub enter_by : Plan → Book → BookOutcome
enter_by p b = book_outcome_at (recorded_number p.tests (length b.pages) b.capacity p.steps) b (turned p.step p.steps b)

-- a step back: "The book never answers 8."
abbrev pub enter_back : ℕ → Book → BookOutcome
enter_back k b = book_outcome_at (first (back_tests b.present (length b.pages) b.capacity k)) b (turned_back k b)

-- "The book is told each call with its arguments."
abbrev pub enter : Act → Book → BookOutcome
enter (Make call) b = enter_by (plan_of call b.present) b
enter (StepBack k) b = enter_back k b
