-- The pending flag that a call leaves, if it is done, and the claim on the flag that items are judged by.
use Prim.Native.Nat.{ℕ, zero, suc, ◌+◌}
use mathlib.Core.Path.{◌≡◌, refl, ap, sym, ◌∙◌}
use mathlib.Core.Bool.{Bool, true, false, ◌||◌, true≢false}
use mathlib.Core.List.{List, [], ◌∷◌, ◌++◌}
use borrow.Author.Tests.{eqb-true, eqb-false}
use lib.Dec.{eqb}
use Rattle.vdp_state.specs.Answer.{Answer}
use Rattle.vdp_state.specs.declared.state.Control.{Control}
use Rattle.vdp_state.specs.declared.state.State.{State}
use Rattle.vdp_state.specs.declared.state.Step.{Step}
use Rattle.vdp_state.specs.Answer.{first, answered, Outcome, outcome_at}
use Rattle.vdp_state.specs.Cell.{perform, made}
use Rattle.vdp_state.specs.State.{Chip, chip}
use Rattle.vdp_state.proofs.Bools.{by_cond}
use Rattle.vdp_ports.specs.declared.taken.Taken.{Taken}
use Rattle.vdp_ports.specs.declared.taken.Taken.TheVariants.{RegisterWrite, FirstHalf, SecondHalf}
use Rattle.vdp_ports.specs.Control.{taken_step, control_step, control_tests}
use Rattle.vdp_ports.specs.Data.{data_tests, data_word, data_write_step, data_read_step}
use Rattle.vdp_ports.specs.Frame.{frame_step, frame_tests}
use Rattle.vdp_ports.specs.Status.{status_step, status_tests, status_word}
use Rattle.vdp_ports.specs.Taken.{taken_as, pending_left, register_of, has_register}
use Rattle.vdp_dma.specs.Run.{run_tests, units_made, ran}
use Rattle.vdp_dma.specs.Unit.{unit}
use Rattle.vdp_line.specs.Layout.{displayed}
use Rattle.vdp_line.specs.Line.{LineOutcome, line_number, line}
use Rattle.vdp_script.specs.declared.item.Item.{Item}
use Rattle.vdp_script.specs.declared.item.Item.TheVariants.{ControlWord, DataWord, DataRead, StatusRead, Run, Line, NewFrame}
use Rattle.vdp_script.specs.Call.{ItemOutcome, call_item}
use Rattle.vdp_script.specs.Missing.{names_missing, pending_after, any_missing}
use Rattle.vdp_script.specs.Run.{ScriptOutcome, run_items}
use Rattle.vdp_script.specs.Whole.{PendingAsCalled}

abbrev pub pending_of : State → Bool
pending_of s = s.control.port.pending

-- an answer that leaves this flag, if it is done
abbrev pub Leaves : Bool → Answer → Type 0
Leaves pending a = a.number ≡ 0 → pending_of a.state ≡ pending

-- ---- a call of one step leaves the flag of its step
one_step : (n : ℕ) (s : State) (t : Step) (result : ℕ) → Leaves t.control.port.pending (answered n s t result)
one_step n s t result = by_cond (Leaves t.control.port.pending) (eqb n 0) _ _ (λ e z. refl) (λ e z. absurd (eqb-false n 0 e z))

-- and one that is lent VRAM the flag of the chip that it made
made_chip : (n result : ℕ) (c m : Chip) → Leaves (pending_of m.state) (outcome_at n result c m).answer
made_chip n result c m =
    by_cond (λ (o : Outcome). Leaves (pending_of m.state) o.answer) (eqb n 0) _ _ (λ e z. refl) (λ e z. absurd (eqb-false n 0 e z))

-- ---- a control word leaves the flag by how it is taken
abbrev second : Taken → Bool
second RegisterWrite = false
second FirstHalf = false
second SecondHalf = true

clear : (pending : Bool) (w : ℕ) → taken_as pending w ≡ RegisterWrite → pending ≡ false
clear true w e = absurd (true≢false (ap second e))
clear false w e = refl

taken_left : (s : State) (w : ℕ) (t : Taken) → taken_as (pending_of s) w ≡ t → (taken_step t s w).control.port.pending ≡ pending_left t
taken_left s w RegisterWrite e =
    let stays : pending_of s ≡ false = clear (pending_of s) w e in
    by_cond (λ (t : Step). t.control.port.pending ≡ false) (has_register (register_of w)) _ _ (λ h. stays) (λ h. stays)
taken_left s w FirstHalf e = refl
taken_left s w SecondHalf e = refl

word_left : (s : State) (w : ℕ) → (control_step s w).control.port.pending ≡ pending_left (taken_as (pending_of s) w)
unfolding control_step
word_left s w = taken_left s w (taken_as (pending_of s) w) refl

-- ---- units leave it
unit_left : (cartridge ram : List ℕ) (c : Chip) → pending_of (made (unit cartridge ram) c).state ≡ pending_of c.state
unfolding perform
unit_left cartridge ram c =
    let Same : Step → Type 0 = λ t. t.control.port.pending ≡ pending_of c.state in
    by_cond Same (eqb c.state.control.dma.kind 2) _ _ (λ e. refl) (λ e. by_cond Same (eqb c.state.control.dma.kind 3) _ _ (λ f. refl) (λ f. refl))

units_left : (cartridge ram : List ℕ) (n : ℕ) (c : Chip) → pending_of (ran cartridge ram n c).state ≡ pending_of c.state
units_left cartridge ram zero c = refl
units_left cartridge ram (suc n) c = units_left cartridge ram n (made (unit cartridge ram) c) ∙ unit_left cartridge ram c

-- ---- and a line does
line_left : (c : Chip) (n : ℕ) (pixels : List ℕ) → Leaves (pending_of c.state) (line c n pixels).answer
line_left c n pixels =
    by_cond (λ (o : LineOutcome). Leaves (pending_of c.state) o.answer) (eqb (line_number c n pixels) 0) _ _
    (λ e z. by_cond (λ (k : Control). k.port.pending ≡ pending_of c.state) (displayed c.state) _ _ (λ f. refl) (λ f. refl))
    (λ e z. absurd (eqb-false (line_number c n pixels) 0 e z))

-- ---- the call of an item
module _ (cartridge ram : List ℕ) (c : Chip) (pixels : List ℕ) where
  pub item_left : (i : Item) → Leaves (pending_after (pending_of c.state) i) (call_item i cartridge ram c pixels).answer
  unfolding perform data_write_step data_read_step
  item_left (ControlWord w) z = one_step (first (control_tests c.state)) c.state (control_step c.state w) 0 z ∙ word_left c.state w
  item_left (DataWord w) z = made_chip (first (data_tests c)) 0 c (perform c (data_write_step c.state w)) z
  item_left DataRead z = one_step (first (data_tests c)) c.state (data_read_step c.state) (data_word c) z
  item_left StatusRead z = one_step (first (status_tests c.state)) c.state (status_step c.state) (status_word c.state) z
  item_left (Run budget) z =
      made_chip (first (run_tests c cartridge ram budget)) (units_made c.state budget) c (ran cartridge ram (units_made c.state budget) c) z
      ∙ units_left cartridge ram (units_made c.state budget) c
  item_left (Line n) z = line_left c n pixels z
  item_left NewFrame z = one_step (first (frame_tests c.state)) c.state (frame_step c.state) 0 z

-- ---- items
-- whether the first of some items or one behind it does
or_behind : (b x y z : Bool) → x ≡ (y || z) → (b || x) ≡ (b || y || z)
or_behind true x y z e = refl
or_behind false x y z e = e

module _ (cartridge ram : List ℕ) (rest : List Item) where
  -- what a run of items leaves, if all are done, is what the rest is judged by
  abbrev Judges : List Item → Bool → ScriptOutcome → Type 0
  Judges items pending o = o.answer.number ≡ 0 → any_missing pending (items ++ rest) ≡ (any_missing pending items || any_missing (pending_of o.answer.state) rest)

  as_called : (items : List Item) (place : ℕ) (c : Chip) (pixels : List ℕ) → Judges items (pending_of c.state) (run_items items place cartridge ram c pixels)
  as_called [] place c pixels = λ z. refl
  as_called (i ∷ items) place c pixels =
      let o : ItemOutcome = call_item i cartridge ram c pixels in
      let p : Bool = pending_of c.state in
      by_cond (Judges (i ∷ items) p) (eqb o.answer.number 0) _ _
      (λ e z.
      let flag : pending_of o.answer.state ≡ pending_after p i = item_left cartridge ram c pixels i (eqb-true o.answer.number 0 e) in
      let next : Chip = chip o.answer.state o.vram in
      let left : Bool = pending_of (run_items items (place + 1) cartridge ram next o.pixels).answer.state in
      or_behind (names_missing p i) (any_missing (pending_after p i) (items ++ rest)) (any_missing (pending_after p i) items) (any_missing left rest)
      (sym (ap (λ (q : Bool). any_missing q (items ++ rest)) flag) ∙ as_called items (place + 1) next o.pixels z
      ∙ ap (λ (q : Bool). any_missing q items || any_missing left rest) flag))
      (λ e z. absurd (eqb-false o.answer.number 0 e z))

pub pending_as_called : PendingAsCalled
pending_as_called items rest cartridge ram = as_called cartridge ram rest items 0
