-- The claims of deliveries, however their bytes are cut:
--     goes_on_lem               a delivery is its first call and a delivery of the rest
--     refused_as_it_came    a refusal leaves state, VRAM and pixels
--     cut_in_two            two deliveries with one pixel buffer are one
--     cut_anywhere          so are any number with pixel buffers of one length, but for the pixels
use Prim.Native.Nat.{ℕ, suc}
use mathlib.Core.Path.{◌≡◌, refl, sym, ap, ap₂, ◌∙◌}
use mathlib.Core.Bool.{Bool, true, false, cond}
use mathlib.Core.List.{List, [], ◌∷◌, ◌++◌, append_assoc}
use lib.ListN.{length, drop}
use Rattle.vdp_state.specs.Answer.{Answer}
use Rattle.vdp_state.specs.State.{Chip}
use Rattle.vdp_state.proofs.Bools.{by_cases, by_cond}
use Rattle.vdp_script.specs.Call.{call_item}
use Rattle.vdp_script.specs.Missing.{names_missing}
use Rattle.vdp_reader.specs.declared.deliver.Reached.{Reached}
use Rattle.vdp_reader.specs.declared.reader.Reader.{Reader}
use Rattle.vdp_reader.specs.declared.take.Taking.{Taking}
use Rattle.vdp_reader.specs.declared.take.Taking.TheVariants.{Kept, Whole, Faulty}
use Rattle.vdp_reader.specs.Deliver.{DeliveryAnswer, DeliverOutcome, deliver_outcome, uncalled, called, reached, reach_from, reach, deliver}
use Rattle.vdp_reader.specs.End.{end_notice}
use Rattle.vdp_reader.specs.Reader.{stopped, goes_on}
use Rattle.vdp_reader.specs.Take.{takes}
use Rattle.vdp_reader.specs.Whole.{Call, Delivered, call_of, behind, chip_of, take_byte, deliver_bytes, GoesOn, RefusedAsItCame, Lent, deliver_each, all_of, OfLength, Told, told, CutAnywhere, CutInTwo}
use Rattle.vdp_reader.proofs.Calls.{may_answer_lem, as_it_came, same_size, by_size}
use Rattle.vdp_reader.proofs.Readers.{kept_goes_on, call_answers}

module _ (cartridge ram : List ℕ) where
  -- bytes that are delivered on what was left
  abbrev pub next : List ℕ → DeliverOutcome → Delivered
  next bytes o = behind (call_of o) (deliver_bytes bytes cartridge ram o.answer.reader (chip_of o) o.pixels)

  -- ---- a delivery is its first call and a delivery of the rest
  abbrev rest : List ℕ → DeliverOutcome → Delivered
  rest bytes o = next (drop o.answer.taken bytes) o

  module _ (c : Chip) (pixels : List ℕ) where
    abbrev led : Reached → DeliverOutcome
    led x = reached x.taking x.taken cartridge ram c pixels

    -- what the last byte led to does not depend on how many were taken
    one_less : (t : Taking) (n b : ℕ) (bytes : List ℕ)
        → rest bytes (reached t n cartridge ram c pixels) ≡ rest (b ∷ bytes) (reached t (suc n) cartridge ram c pixels)
    one_less (Kept r) n b bytes = refl
    one_less Faulty n b bytes = refl
    one_less (Whole i) n b bytes = by_missing (names_missing c.state.control.port.pending i)
      where
        by_missing : (m : Bool)
            → rest bytes (cond m (uncalled (stopped 12) n c pixels) (called (call_item i cartridge ram c pixels) n))
            ≡ rest (b ∷ bytes) (cond m (uncalled (stopped 12) (suc n) c pixels) (called (call_item i cartridge ram c pixels) (suc n)))
        by_missing true = refl
        by_missing false = refl

    -- by what a byte leads to, if the same holds of the bytes behind it
    by_taking : (r : Reader) (b : ℕ) (bytes : List ℕ)
        → ((kept : Reader) → deliver_bytes bytes cartridge ram kept c pixels ≡ rest bytes (deliver kept bytes cartridge ram c pixels))
        → goes_on r ≡ true → (t : Taking) → takes r b ≡ t
        → next bytes (reached t 1 cartridge ram c pixels) ≡ rest (b ∷ bytes) (led (reach_from t (λ kept. reach kept bytes)))
    by_taking r b bytes further g Faulty e = refl
    by_taking r b bytes further g (Whole i) e =
        by_cond (λ (o : DeliverOutcome). next bytes o ≡ rest (b ∷ bytes) o) (names_missing c.state.control.port.pending i)
        (uncalled (stopped 12) 1 c pixels) (called (call_item i cartridge ram c pixels) 1) (λ m. refl) (λ m. refl)
    by_taking r b bytes further g (Kept kept) e =
        let x : Reached = reach kept bytes in
        further kept
        ∙ ap (λ (y : Bool). rest bytes (cond y (led x) (uncalled kept 0 c pixels))) (kept_goes_on r b kept g e)
        ∙ one_less x.taking x.taken b bytes

    deliver_rest : (bytes : List ℕ) (r : Reader) → deliver_bytes bytes cartridge ram r c pixels ≡ rest bytes (deliver r bytes cartridge ram c pixels)
    deliver_rest [] r = by_cond (λ (o : DeliverOutcome). deliver_bytes [] cartridge ram r c pixels ≡ rest [] o) (goes_on r) _ _ (λ g. refl) (λ g. refl)
    deliver_rest (b ∷ bytes) r =
        let later : Bool → Delivered = λ x. rest (b ∷ bytes) (cond x (led (reach r (b ∷ bytes))) (uncalled r 0 c pixels)) in
        by_cases (goes_on r)
        (λ g.
        ap (λ (x : Bool). next bytes (cond x (reached (takes r b) 1 cartridge ram c pixels) (uncalled r 0 c pixels))) g
        ∙ by_taking r b bytes (λ kept. deliver_rest bytes kept) g (takes r b) refl
        ∙ sym (ap later g))
        (λ g. sym (ap later g))

  -- ---- a refusal leaves state, VRAM and pixels
  module _ (c : Chip) (pixels : List ℕ) where
    abbrev Came : DeliverOutcome → Type 0
    Came o = (o.answer.number ≡ 0 → ⊥) → (o.answer.state ≡ c.state) × (o.vram ≡ c.vram) × (o.pixels ≡ pixels)

    came : (t : Taking) (n : ℕ) → Came (reached t n cartridge ram c pixels)
    came (Kept r) n = λ z. (refl, refl, refl)
    came Faulty n = λ z. (refl, refl, refl)
    came (Whole i) n =
        by_cond Came (names_missing c.state.control.port.pending i) (uncalled (stopped 12) n c pixels) (called (call_item i cartridge ram c pixels) n)
        (λ m z. (refl, refl, refl))
        (λ m z. as_it_came c pixels cartridge ram i (λ e. z (call_answers _ (may_answer_lem c pixels cartridge ram i) ∙ e)))

  -- ---- two deliveries with one pixel buffer
  two : (bytes more : List ℕ) (r : Reader) (c : Chip) (pixels : List ℕ)
      → let x : Delivered = deliver_bytes bytes cartridge ram r c pixels in
      behind x.calls (deliver_bytes more cartridge ram x.reader x.chip x.pixels) ≡ deliver_bytes (bytes ++ more) cartridge ram r c pixels
  two [] more r c pixels = refl
  two (b ∷ bytes) more r c pixels =
      let o : DeliverOutcome = take_byte b cartridge ram r c pixels in
      let x : Delivered = deliver_bytes bytes cartridge ram o.answer.reader (chip_of o) o.pixels in
      let y : Delivered = deliver_bytes more cartridge ram x.reader x.chip x.pixels in
      ap (λ (l : List Call). record { calls = l; number = y.number; reader = y.reader; chip = y.chip; pixels = y.pixels }) (append_assoc (call_of o) x.calls y.calls)
      ∙ ap (behind (call_of o)) (two bytes more o.answer.reader (chip_of o) o.pixels)

  -- ---- pixel buffers of one length
  -- what two bytes leave that were taken with such
  record Alike (o p : DeliverOutcome) : Type 0 where
    answer : o.answer ≡ p.answer
    vram : o.vram ≡ p.vram
    size : length o.pixels ≡ length p.pixels

  alike_by : (b : Bool) {o p x y : DeliverOutcome} → Alike o p → Alike x y → Alike (cond b o x) (cond b p y)
  alike_by true a b = a
  alike_by false a b = b

  module _ (c : Chip) (p q : List ℕ) (h : length p ≡ length q) where
    alike_uncalled : (r : Reader) (n : ℕ) → Alike (uncalled r n c p) (uncalled r n c q)
    alike_uncalled r n = record { answer = refl; vram = refl; size = h }

    alike_reached : (t : Taking) → Alike (reached t 1 cartridge ram c p) (reached t 1 cartridge ram c q)
    alike_reached (Kept r) = alike_uncalled r 1
    alike_reached Faulty = alike_uncalled (stopped 11) 1
    alike_reached (Whole i) =
        alike_by (names_missing c.state.control.port.pending i) (alike_uncalled (stopped 12) 1)
        (record {
          answer = ap (λ (a : Answer). (called (record { answer = a; vram = []; pixels = [] }) 1).answer) (by_size cartridge ram c p q h i).0;
          vram = (by_size cartridge ram c p q h i).1;
          size = same_size c p cartridge ram i ∙ h ∙ sym (same_size c q cartridge ram i);
        })

    alike_byte : (b : ℕ) (r : Reader) → Alike (take_byte b cartridge ram r c p) (take_byte b cartridge ram r c q)
    alike_byte b r = alike_by (goes_on r) (alike_reached (takes r b)) (alike_uncalled r 0)

  abbrev told_behind : List Call → Told → Told
  told_behind calls t = record { calls = calls ++ t.calls; number = t.number; reader = t.reader; chip = t.chip }

  told_same : (bytes : List ℕ) (r : Reader) (c : Chip) (p q : List ℕ) → length p ≡ length q
      → told (deliver_bytes bytes cartridge ram r c p) ≡ told (deliver_bytes bytes cartridge ram r c q)
  told_same [] r c p q h = refl
  told_same (b ∷ bytes) r c p q h =
      let o : DeliverOutcome = take_byte b cartridge ram r c p in
      let s : DeliverOutcome = take_byte b cartridge ram r c q in
      let a : Alike o s = alike_byte c p q h b r in
      ap (told_behind (call_of o)) (told_same bytes o.answer.reader (chip_of o) o.pixels s.pixels a.size)
      ∙ ap₂ (λ (d : DeliveryAnswer) (vram : List ℕ). told (next bytes (deliver_outcome d vram s.pixels))) a.answer a.vram

  kept_size : (bytes : List ℕ) (r : Reader) (c : Chip) (pixels : List ℕ) → length (deliver_bytes bytes cartridge ram r c pixels).pixels ≡ length pixels
  kept_size [] r c pixels = refl
  kept_size (b ∷ bytes) r c pixels =
      let o : DeliverOutcome = take_byte b cartridge ram r c pixels in
      kept_size bytes o.answer.reader (chip_of o) o.pixels ∙ by_cond Same (goes_on r) _ _ (λ g. of_taking (takes r b)) (λ g. refl)
    where
      Same : DeliverOutcome → Type 0
      Same o = length o.pixels ≡ length pixels

      of_taking : (t : Taking) → Same (reached t 1 cartridge ram c pixels)
      of_taking (Kept kept) = refl
      of_taking Faulty = refl
      of_taking (Whole i) =
          by_cond Same (names_missing c.state.control.port.pending i) (uncalled (stopped 12) 1 c pixels) (called (call_item i cartridge ram c pixels) 1)
          (λ m. refl)
          (λ m. same_size c pixels cartridge ram i)

  each : (d : Lent) (more : List Lent) (r : Reader) (c : Chip) (pixels : List ℕ) → OfLength (length pixels) d more
      → told (deliver_each d more cartridge ram r c) ≡ told (deliver_bytes (all_of d more) cartridge ram r c pixels)
  each d [] r c pixels h = told_same d.bytes r c d.pixels pixels h
  each d (e ∷ more) r c pixels h =
      let x : Delivered = deliver_bytes d.bytes cartridge ram r c d.pixels in
      let y : Delivered = deliver_bytes d.bytes cartridge ram r c pixels in
      let left : List ℕ = all_of e more in
      ap (told_behind x.calls) (each e more x.reader x.chip pixels h.1)
      ∙ ap (λ (t : Told). told_behind t.calls (told (deliver_bytes left cartridge ram t.reader t.chip pixels))) (told_same d.bytes r c d.pixels pixels h.0)
      ∙ ap (told_behind y.calls) (told_same left y.reader y.chip pixels y.pixels (sym (kept_size d.bytes r c pixels)))
      ∙ ap told (two d.bytes left r c pixels)

pub goes_on_lem : GoesOn
goes_on_lem bytes cartridge ram r c pixels = deliver_rest cartridge ram c pixels bytes r

pub refused_as_it_came : RefusedAsItCame
refused_as_it_came bytes cartridge ram r c pixels =
    let x : Reached = reach r bytes in
    by_cond (Came cartridge ram c pixels) (goes_on r) _ _ (λ g. came cartridge ram c pixels x.taking x.taken) (λ g z. (refl, refl, refl))

pub cut_in_two : CutInTwo
cut_in_two bytes more cartridge ram = two cartridge ram bytes more

-- the end notice goes by the reader
abbrev noticed_told : Told → Told
noticed_told t =
    record { calls = t.calls; number = (end_notice t.reader).number; reader = (end_notice t.reader).reader; chip = t.chip }

pub cut_anywhere : CutAnywhere
cut_anywhere d more false cartridge ram r c pixels h = each cartridge ram d more r c pixels h
cut_anywhere d more true cartridge ram r c pixels h = ap noticed_told (each cartridge ram d more r c pixels h)
