-- Laws of the call that a reader makes for an item:
--     may_answer_lem     its number is one that a call may answer
--     as_it_came     refused, it leaves state, VRAM and pixels
--     same_size      it leaves the length of the pixel buffer
--     by_size        its answer and VRAM go by that length, and not by what the pixel buffer holds
use Prim.Native.Nat.{ℕ}
use mathlib.Core.Path.{◌≡◌, refl, sym, ap, ◌∙◌}
use mathlib.Core.Bool.{Bool, true, false, cond, not}
use mathlib.Core.List.{List, [], ◌∷◌}
use native.Mathlib.Omega.{arith}
use borrow.Author.Tests.{eqb-true}
use lib.Dec.{eqb}
use lib.ListN.{length, drop, length-append, length-drop}
use Rattle.vdp_state.specs.Answer.{Answer}
use Rattle.vdp_state.specs.declared.state.Step.{Step}
use Rattle.vdp_state.specs.Answer.{order, Test, gives, holds_at, first_of, first, refused, done, answered, Outcome, outcome_at}
use Rattle.vdp_state.specs.Cell.{after, perform}
use Rattle.vdp_state.specs.Good.{all}
use Rattle.vdp_state.specs.State.{Chip}
use Rattle.vdp_state.proofs.Bools.{by_cond, both_left, both_right}
use Rattle.vdp_ports.specs.Control.{control_step, control_tests}
use Rattle.vdp_ports.specs.Data.{data_tests, data_word, data_write_step, data_read_step}
use Rattle.vdp_ports.specs.Frame.{frame_step, frame_tests}
use Rattle.vdp_ports.specs.Refusal.{bad_state, bad_vram}
use Rattle.vdp_ports.specs.Status.{status_step, status_tests, status_word}
use Rattle.vdp_dma.specs.Run.{run_tests, units_made, ran}
use Rattle.vdp_draw.specs.Tabulate.{tabulate}
use Rattle.vdp_draw.specs.Width.{width_of}
use Rattle.vdp_draw.proofs.Painted.{tabulate_length}
use Rattle.vdp_line.specs.Layout.{wide}
use Rattle.vdp_line.specs.Line.{LineOutcome, drawn, visits, line_step, line_tests, line_number, line_made, line, no_line, not_modelled}
use Rattle.vdp_line.proofs.Accepted.{accepted}
use Rattle.vdp_line.proofs.Bounds.{width_small}
use Rattle.vdp_script.specs.declared.item.Item.{Item}
use Rattle.vdp_script.specs.declared.item.Item.TheVariants.{ControlWord, DataWord, DataRead, StatusRead, Run, Line, NewFrame}
use Rattle.vdp_script.specs.Call.{ItemOutcome, item_outcome, call_item}
use Rattle.vdp_reader.specs.Reader.{may_answer}

-- ---- a number picked by the order is one that a call may answer
may_pick : (ns : List ℕ) → all may_answer ns ≡ true → (ts : List Test) → may_answer (first_of ns ts) ≡ true
may_pick [] a ts = refl
may_pick (n ∷ ns) a ts =
    by_cond (λ (r : ℕ). may_answer r ≡ true) (holds_at n ts) n (first_of ns ts)
    (λ holds. both_left (may_answer n) (all may_answer ns) a)
    (λ fails. may_pick ns (both_right (may_answer n) (all may_answer ns) a) ts)

-- ---- what every call has
module _ (c : Chip) (pixels : List ℕ) where
  -- its number comes from tests, and what it leaves if it is refused, and of the pixel buffer
  record Usual (o : ItemOutcome) : Type 0 where
    tests : List Test
    number : o.answer.number ≡ first tests
    came : (o.answer.number ≡ 0 → ⊥) → (o.answer.state ≡ c.state) × (o.vram ≡ c.vram) × (o.pixels ≡ pixels)
    size : length o.pixels ≡ length pixels

  -- a call of one step
  one_step : (ts : List Test) (t : Step) (result : ℕ) → Usual (item_outcome (answered (first ts) c.state t result) c.vram pixels)
  one_step ts t result =
      by_cond (λ (a : Answer). Usual (item_outcome a c.vram pixels)) (eqb (first ts) 0) _ _
      (λ e. record { tests = ts; number = sym (eqb-true (first ts) 0 e); came = λ z. absurd (z refl); size = refl })
      (λ e. record { tests = ts; number = refl; came = λ z. (refl, refl, refl); size = refl })

  -- one that is lent VRAM
  in_vram : (ts : List Test) (result : ℕ) (made : Chip)
      → Usual (item_outcome (outcome_at (first ts) result c made).answer (outcome_at (first ts) result c made).vram pixels)
  in_vram ts result made =
      by_cond (λ (o : Outcome). Usual (item_outcome o.answer o.vram pixels)) (eqb (first ts) 0) _ _
      (λ e. record { tests = ts; number = sym (eqb-true (first ts) 0 e); came = λ z. absurd (z refl); size = refl })
      (λ e. record { tests = ts; number = refl; came = λ z. (refl, refl, refl); size = refl })

  -- and a line, which draws inside 320 bytes
  drawn_size : (f : ℕ → ℕ) → length pixels ≡ 320 → length (drawn c.state f pixels) ≡ length pixels
  drawn_size f h =
      let w : ℕ = width_of (wide c.state) in
      omega (arith, length-append (tabulate f w) (drop w pixels), tabulate_length f w, length-drop w pixels, width_small (wide c.state))

  of_line : (n : ℕ) → Usual (item_outcome (line c n pixels).answer c.vram (line c n pixels).pixels)
  of_line n =
      let ts : List Test = line_tests c n pixels in
      by_cond (λ (o : LineOutcome). Usual (item_outcome o.answer c.vram o.pixels)) (eqb (line_number c n pixels) 0) _ _
      (λ e.
      let z : line_number c n pixels ≡ 0 = eqb-true (line_number c n pixels) 0 e in
      record { tests = ts; number = sym z; came = λ f. absurd (f refl); size = drawn_size _ (accepted c n pixels z).size })
      (λ e. record { tests = ts; number = refl; came = λ z. (refl, refl, refl); size = refl })

  module _ (cartridge ram : List ℕ) where
    usual : (i : Item) → Usual (call_item i cartridge ram c pixels)
    usual (ControlWord w) = one_step (control_tests c.state) (control_step c.state w) 0
    usual (DataWord w) = in_vram (data_tests c) 0 (perform c (data_write_step c.state w))
    usual DataRead = one_step (data_tests c) (data_read_step c.state) (data_word c)
    usual StatusRead = one_step (status_tests c.state) (status_step c.state) (status_word c.state)
    usual (Run budget) =
        in_vram (run_tests c cartridge ram budget) (units_made c.state budget) (ran cartridge ram (units_made c.state budget) c)
    usual (Line n) = of_line n
    usual NewFrame = one_step (frame_tests c.state) (frame_step c.state) 0

    module _ (i : Item) where
      abbrev outcome : ItemOutcome
      outcome = call_item i cartridge ram c pixels

      pub may_answer_lem : may_answer outcome.answer.number ≡ true
      may_answer_lem = ap may_answer (usual i).number ∙ may_pick order refl (usual i).tests

      pub as_it_came : (outcome.answer.number ≡ 0 → ⊥) → (outcome.answer.state ≡ c.state) × (outcome.vram ≡ c.vram) × (outcome.pixels ≡ pixels)
      as_it_came = (usual i).came

      pub same_size : length outcome.pixels ≡ length pixels
      same_size = (usual i).size

-- ---- pixel buffers of one length
module _ (cartridge ram : List ℕ) (c : Chip) (p q : List ℕ) (h : length p ≡ length q) where
  picked_answer : (b : Bool) (x y : LineOutcome) → (cond b x y).answer ≡ cond b x.answer y.answer
  picked_answer true x y = refl
  picked_answer false x y = refl

  -- the answer of a line by its number
  abbrev line_answer : ℕ → ℕ → Answer
  line_answer n number = cond (eqb number 0) (done (visits c n) (after c.state (line_step c n))) (refused number c.state)

  line_same : (n : ℕ) → (line c n p).answer ≡ (line c n q).answer
  line_same n =
      let s = c.state in
      let number : ℕ → ℕ = λ m. first (bad_state s ∷ bad_vram c.vram ∷ gives 2 (not (eqb m 320)) ∷ no_line s n ∷ not_modelled s ∷ []) in
      picked_answer (eqb (line_number c n p) 0) (line_made c n p) _
      ∙ ap (λ (m : ℕ). line_answer n (number m)) h
      ∙ sym (picked_answer (eqb (line_number c n q) 0) (line_made c n q) _)

  pub by_size : (i : Item)
      → ((call_item i cartridge ram c p).answer ≡ (call_item i cartridge ram c q).answer) × ((call_item i cartridge ram c p).vram ≡ (call_item i cartridge ram c q).vram)
  by_size (ControlWord w) = (refl, refl)
  by_size (DataWord w) = (refl, refl)
  by_size DataRead = (refl, refl)
  by_size StatusRead = (refl, refl)
  by_size (Run budget) = (refl, refl)
  by_size (Line n) = (line_same n, refl)
  by_size NewFrame = (refl, refl)
