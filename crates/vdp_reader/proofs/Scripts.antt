-- The claim of a whole script that is delivered:
--     as_run     it makes the calls of the script that is run, and ends as that does
use Prim.Native.Nat.{ℕ, ◌+◌}
use mathlib.Core.Path.{◌≡◌, refl, sym, ap, ◌∙◌}
use mathlib.Core.Bool.{Bool, true, false, cond}
use mathlib.Core.List.{List, [], ◌∷◌, ◌++◌}
use native.Mathlib.Omega.{arith}
use borrow.Author.Tests.{eqb-true}
use lib.Dec.{eqb}
use Rattle.vdp_state.specs.Answer.{gives, first}
use Rattle.vdp_state.specs.State.{Chip, chip}
use Rattle.vdp_state.proofs.Bools.{none}
use Rattle.vdp_script.specs.declared.item.Item.{Item}
use Rattle.vdp_script.specs.declared.item.Item.TheVariants.{ControlWord, DataWord, DataRead, StatusRead, Run, Line, NewFrame}
use Rattle.vdp_script.specs.Call.{ItemOutcome, call_item}
use Rattle.vdp_script.specs.Form.{Form, form_of}
use Rattle.vdp_script.specs.Item.{item_bytes}
use Rattle.vdp_script.specs.Missing.{names_missing, pending_after, any_missing}
use Rattle.vdp_script.specs.Run.{ScriptOutcome, ended_at, run_items, run_script}
use Rattle.vdp_script.specs.Whole.{items_written, script_of}
use Rattle.vdp_script.proofs.Items.{word_back}
use Rattle.vdp_script.proofs.Judges.{sound}
use Rattle.vdp_script.proofs.Pending.{pending_of, item_left}
use Rattle.vdp_script.proofs.Whole.{writes_back, runs_as_written}
use Rattle.vdp_reader.specs.declared.reader.Reader.{Reader}
use Rattle.vdp_reader.specs.Deliver.{uncalled, called, item_reached, reached}
use Rattle.vdp_reader.specs.Reader.{started, between_items, stopped, in_range, goes_on, answers}
use Rattle.vdp_reader.specs.Take.{takes}
use Rattle.vdp_reader.specs.Whole.{Call, Delivered, behind, deliver_bytes, noticed, calls_of, AsRun}
use Rattle.vdp_reader.proofs.Calls.{may_answer_lem}
use Rattle.vdp_reader.proofs.Cuts.{next}
use Rattle.vdp_reader.proofs.Readers.{stopped_stays, stopped_answers}

-- what the script that is run leaves, with these calls
abbrev ran_as : List Call → ScriptOutcome → Delivered
ran_as calls o =
    record {
      calls = calls;
      number = o.answer.number;
      reader = stopped o.answer.number;
      chip = chip o.answer.state o.vram;
      pixels = o.pixels;
    }

module _ (cartridge ram : List ℕ) where
  -- ---- a reader that takes no byte leaves everything
  none_taken : (bytes : List ℕ) (r : Reader) (c : Chip) (pixels : List ℕ) → goes_on r ≡ false
      → deliver_bytes bytes cartridge ram r c pixels ≡ deliver_bytes [] cartridge ram r c pixels
  none_taken [] r c pixels g = refl
  none_taken (b ∷ bytes) r c pixels g =
      ap (λ (x : Bool). next cartridge ram bytes (cond x (reached (takes r b) 1 cartridge ram c pixels) (uncalled r 0 c pixels))) g
      ∙ none_taken bytes r c pixels g

  -- ---- the bytes of an item make it whole
  item_taken : (i : Item) (bytes : List ℕ) (c : Chip) (pixels : List ℕ)
      → deliver_bytes (item_bytes i ++ bytes) cartridge ram between_items c pixels ≡ next cartridge ram bytes (item_reached i 1 cartridge ram c pixels)
  unfolding takes in_range
  item_taken (ControlWord w) bytes c pixels = ap (λ (n : ℕ). next cartridge ram bytes (item_reached (ControlWord n) 1 cartridge ram c pixels)) (word_back w)
  item_taken (DataWord w) bytes c pixels = ap (λ (n : ℕ). next cartridge ram bytes (item_reached (DataWord n) 1 cartridge ram c pixels)) (word_back w)
  item_taken DataRead bytes c pixels = refl
  item_taken StatusRead bytes c pixels = refl
  item_taken (Run budget) bytes c pixels = ap (λ (n : ℕ). next cartridge ram bytes (item_reached (Run n) 1 cartridge ram c pixels)) (word_back budget)
  item_taken (Line n) bytes c pixels = ap (λ (m : ℕ). next cartridge ram bytes (item_reached (Line m) 1 cartridge ram c pixels)) (word_back n)
  item_taken NewFrame bytes c pixels = refl

  -- ---- items, one after the other
  -- an item's call, by whether it is done, if the items behind it then run
  module _ (c : Chip) (pixels : List ℕ) (i : Item) (items : List Item) (place : ℕ) where
    abbrev outcome : ItemOutcome
    outcome = call_item i cartridge ram c pixels

    abbrev left : Chip
    left = chip outcome.answer.state outcome.vram

    abbrev call_with : ℕ → Call
    call_with number = record { number = number; result = outcome.answer.result; state = outcome.answer.state; vram = outcome.vram }

    by_number : (outcome.answer.number ≡ 0
        → noticed true (deliver_bytes (items_written items) cartridge ram between_items left outcome.pixels)
        ≡ ran_as (calls_of items cartridge ram left outcome.pixels) (run_items items (place + 1) cartridge ram left outcome.pixels))
        → (z : Bool) → eqb outcome.answer.number 0 ≡ z
        → let r : Reader = cond z between_items (stopped outcome.answer.number) in
        behind (call_with (answers r) ∷ []) (noticed true (deliver_bytes (items_written items) cartridge ram r left outcome.pixels))
        ≡ ran_as (call_with outcome.answer.number ∷ cond z (calls_of items cartridge ram left outcome.pixels) [])
        (cond z (run_items items (place + 1) cartridge ram left outcome.pixels)
        (ended_at outcome.answer.number place outcome.answer.state outcome.vram outcome.pixels))
    unfolding in_range
    by_number further true e =
        let done : outcome.answer.number ≡ 0 = eqb-true outcome.answer.number 0 e in
        ap (λ (n : ℕ). behind (call_with n ∷ []) (noticed true (deliver_bytes (items_written items) cartridge ram between_items left outcome.pixels))) (sym done)
        ∙ ap (behind (call_with outcome.answer.number ∷ [])) (further done)
    by_number further false e =
        let n : ℕ = outcome.answer.number in
        let same : answers (stopped n) ≡ n = stopped_answers n (may_answer_lem c pixels cartridge ram i) in
        ap (λ (d : Delivered). behind (call_with (answers (stopped n)) ∷ []) (noticed true d)) (none_taken (items_written items) (stopped n) left outcome.pixels (stopped_stays n))
        ∙ ap (λ (r : Reader). record { calls = call_with (answers (stopped n)) ∷ []; number = answers r; reader = r; chip = left; pixels = outcome.pixels })
        (ap (λ (b : Bool). cond b (cond (eqb 7 1) (stopped 0) (stopped 11)) (stopped n)) (stopped_stays n))
        ∙ ap (λ (m : ℕ). record { calls = call_with m ∷ []; number = m; reader = stopped n; chip = left; pixels = outcome.pixels }) same

  items_run : (items : List Item) (place : ℕ) (c : Chip) (pixels : List ℕ) → any_missing (pending_of c.state) items ≡ false
      → noticed true (deliver_bytes (items_written items) cartridge ram between_items c pixels)
      ≡ ran_as (calls_of items cartridge ram c pixels) (run_items items place cartridge ram c pixels)
  unfolding in_range
  items_run [] place c pixels e = refl
  items_run (i ∷ items) place c pixels e =
      let o : ItemOutcome = call_item i cartridge ram c pixels in
      let pending : Bool = pending_of c.state in
      let both : (names_missing pending i ≡ false) × (any_missing (pending_after pending i) items ≡ false) = none (names_missing pending i) (any_missing (pending_after pending i) items) e in
      ap (noticed true) (item_taken i (items_written items) c pixels)
      ∙ ap (λ (b : Bool). noticed true (next cartridge ram (items_written items) (cond b (uncalled (stopped 12) 1 c pixels) (called o 1)))) both.0
      ∙ by_number c pixels i items place
      (λ z. items_run items (place + 1) (chip o.answer.state o.vram) o.pixels (ap (λ (b : Bool). any_missing b items) (item_left cartridge ram c pixels i z) ∙ both.1))
      (eqb o.answer.number 0) refl

-- ---- a script that is judged with 0 names no missing register
not_missing : (faulty missing : Bool) → first (gives 11 faulty ∷ gives 12 missing ∷ []) ≡ 0 → missing ≡ false
not_missing true missing e = absurd (let bad : ⊥ = omega arith in bad)
not_missing false true e = absurd (let bad : ⊥ = omega arith in bad)
not_missing false false e = refl

pub as_run : AsRun
unfolding takes in_range
as_run script cartridge ram c pixels all e =
    let f : Form = form_of script in
    let pending : Bool = pending_of c.state in
    let written : script_of f.items ≡ script = writes_back script all (sound pending f e) in
    let missing : any_missing pending f.items ≡ false = not_missing f.faulty (any_missing pending f.items) e in
    sym (ap (λ (l : List ℕ). noticed true (deliver_bytes l cartridge ram started c pixels)) written)
    ∙ items_run cartridge ram f.items 0 c pixels missing
    ∙ ap (ran_as (calls_of f.items cartridge ram c pixels)) (sym (runs_as_written f.items cartridge ram c pixels missing) ∙ ap (λ (l : List ℕ). run_script l cartridge ram c pixels) written)
