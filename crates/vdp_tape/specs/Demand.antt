-- Demand 3 (definition, The book): for every sequence of calls, what the functions give is what the book gives.
use Rattle.std.specs.Prelude.{ℕ, suc, ◌<◌, ◌≡◌, List, [], ◌∷◌, length, get_or}
use Rattle.vdp_state.specs.declared.state.State.{State}
use Rattle.vdp_state.specs.Range.{AllBytes, GoodChip}
use Rattle.vdp_state.specs.State.{chip}
use Rattle.vdp_tape.specs.Book.{Act, Make, StepBack, Book, new_book, BookOutcome, enter}
use Rattle.vdp_tape.specs.Number.{capacity}
use Rattle.vdp_tape.specs.Recorded.{ControlWrite, DataWrite, DataRead, StatusRead, NewFrame, LineBegins, Acknowledge, Run, Line, recorded}
use Rattle.vdp_tape.specs.Recorder.{Recorder, recorder, TapeOutcome}
use Rattle.vdp_tape.specs.StepBack.{step_back}

-- what the functions give: `recorded` and `step_back` are what the contracts of `calls` and `step_back` cite
abbrev pub serve : Act → Recorder → TapeOutcome
serve (Make call) r = recorded call r
serve (StepBack k) r = step_back r k

-- the numbers and bytes of a call fit their types
abbrev pub Fits : Act → Type 0
Fits (Make (ControlWrite w)) = w < 65536
Fits (Make (DataWrite w)) = w < 65536
Fits (Make DataRead) = Unit {0}
Fits (Make StatusRead) = Unit {0}
Fits (Make NewFrame) = Unit {0}
Fits (Make LineBegins) = Unit {0}
Fits (Make (Acknowledge level)) = Unit {0}
Fits (Make (Run cartridge ram budget)) = AllBytes cartridge × AllBytes ram
Fits (Make (Line n pixels)) = Unit {0}
Fits (StepBack k) = Unit {0}

abbrev pub AllFit : List Act → Type 0
AllFit [] = Unit {0}
AllFit (a ∷ acts) = Fits a × AllFit acts

-- what is seen after a call: the number, the count, the state and VRAM
pub record Seen : Type 0 where
  pub number : ℕ
  pub count : ℕ
  pub state : State
  pub vram : List ℕ

abbrev pub seen : TapeOutcome → Seen
seen o = record { number = o.number; count = o.recorder.count; state = o.recorder.chip.state; vram = o.recorder.chip.vram }

abbrev pub seen_in_book : BookOutcome → Seen
seen_in_book e = record { number = e.number; count = length e.book.pages; state = e.book.present.state; vram = e.book.present.vram }

-- what is seen after each of a sequence of calls, of the functions and of the book
abbrev pub served_all : List Act → Recorder → List Seen
served_all [] r = []
served_all (a ∷ acts) r = seen (serve a r) ∷ served_all acts (serve a r).recorder

abbrev pub entered_all : List Act → Book → List Seen
entered_all [] b = []
entered_all (a ∷ acts) b = seen_in_book (enter a b) ∷ entered_all acts (enter a b).book

-- the claim over whole sequences: from every good chip and every tape with count 0, whatever its bytes
abbrev pub Demand3 : Type 0
Demand3 =
    (acts : List Act) → AllFit acts → (s : State) (vram tape : List ℕ) → GoodChip (chip s vram)
    → served_all acts (recorder s vram tape 0) ≡ entered_all acts (new_book (chip s vram) (capacity tape))

-- the recorder and the book after a sequence of calls
abbrev pub served_to : List Act → Recorder → Recorder
served_to [] r = r
served_to (a ∷ acts) r = served_to acts (serve a r).recorder

abbrev pub entered_to : List Act → Book → Book
entered_to [] b = b
entered_to (a ∷ acts) b = entered_to acts (enter a b).book

-- a page is the chip as it stood before a step that is not taken back. The claim: stepping back k + 1 is accepted where
-- there are so many pages, and gives the state and VRAM of the k-th below the top, also inside a run
abbrev pub TakenBack : Recorder → Book → ℕ → Type 0
TakenBack r b k = ((step_back r (suc k)).number ≡ 0) × ((step_back r (suc k)).recorder.chip ≡ get_or b.pages k b.present)

abbrev pub StepBackTakesBack : Type 0
StepBackTakesBack =
    (acts : List Act) → AllFit acts → (s : State) (vram tape : List ℕ) → GoodChip (chip s vram) → (k : ℕ)
    → let b = entered_to acts (new_book (chip s vram) (capacity tape)) in
    k < length b.pages → TakenBack (served_to acts (recorder s vram tape 0)) b k
