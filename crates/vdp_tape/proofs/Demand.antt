-- Demand 3, proved: the recorder and the book go side by side. The invariant: the records on the tape, undone one after the
-- other from the present, give the pages.
use Prim.Native.Nat.{ℕ, zero, suc, ◌+◌, ◌-◌, ◌*◌, ◌/◌, ◌<◌, ◌≤◌}
use mathlib.Core.Path.{◌≡◌, refl, sym, ap, ap₂, subst, ◌∙◌}
use mathlib.Core.Bool.{true}
use mathlib.Core.List.{List, [], ◌∷◌}
use native.Mathlib.Omega.{arith}
use borrow.Author.Tests.{eqb-true, ltb-false}
use lib.Dec.{eqb, ltb}
use lib.ListN.{length, get_or, drop}
use lib.Seq.{sets, length-sets}
use Rattle.vdp_state.specs.declared.state.Step.{Step}
use Rattle.vdp_state.specs.Answer.{first}
use Rattle.vdp_state.specs.Cell.{perform, undoing}
use Rattle.vdp_state.specs.Range.{GoodChip, GoodStep}
use Rattle.vdp_state.specs.State.{Chip}
use Rattle.vdp_state.proofs.Bools.{by_cases, both}
use Rattle.vdp_state.proofs.Iterate.{iterate_related}
use Rattle.vdp_state.proofs.Laws.{StepsGood, undone, performed_good, undoing_good}
use Rattle.vdp_tape.specs.Book.{Book, turn_page, turned, turned_back, BookOutcome, book_outcome_at, enter_by, enter_back}
use Rattle.vdp_tape.specs.Demand.{seen, seen_in_book}
use Rattle.vdp_tape.specs.Number.{capacity, recorded_number}
use Rattle.vdp_tape.specs.Record.{record_of, step_of, good_record, record_at}
use Rattle.vdp_tape.specs.Recorder.{Recorder, record_step, record_next, record_steps, Plan, TapeOutcome, tape_outcome_at, recorded_by}
use Rattle.vdp_tape.specs.StepBack.{top_good, undo, back_tests, back_number, step_back}
use Rattle.vdp_tape.proofs.Numbers.{accepted, recorded_number_lem}
use Rattle.vdp_tape.proofs.Records.{read_back, record_good}
use Rattle.vdp_tape.proofs.Steps.{back_accepted}
use Rattle.vdp_tape.proofs.Tape.{record_new, record_kept}

-- ---- the invariant
-- the n records of a tape, undone from the chip c, give the pages, all of good chips
abbrev pub Trail : List ℕ → ℕ → Chip → List Chip → Type 0
Trail tape n c [] = Unit {0}
Trail tape n c (p ∷ ps) =
    (good_record (record_at tape (n - 1)) ≡ true) × (perform c (step_of (record_at tape (n - 1))) ≡ p) × GoodChip p × Trail tape (n - 1) p ps

pub record Alike (r : Recorder) (b : Book) : Type 0 where
  pub present : r.chip ≡ b.present
  pub count : r.count ≡ length b.pages
  pub room : capacity r.tape ≡ b.capacity
  pub good : GoodChip r.chip
  pub fits : r.count ≤ capacity r.tape
  pub trail : Trail r.tape r.count r.chip b.pages

-- records that stay keep a trail
trail_kept : (tape tape' : List ℕ) (n : ℕ) (c : Chip) (ps : List Chip) → n ≡ length ps → ((i : ℕ) → i < n → record_at tape' i ≡ record_at tape i) → Trail tape n c ps → Trail tape' n c ps
trail_kept tape tape' n c [] e same t = tt
trail_kept tape tape' n c (p ∷ ps) e same t =
    let s = same (n - 1) (omega arith) in (
      ap good_record s ∙ t.0,
      ap (λ (l : List ℕ). perform c (step_of l)) s ∙ t.1,
      t.2,
      trail_kept tape tape' (n - 1) p ps (omega arith) (λ i h. same i (omega arith)) t.3,
    )

-- a step recorded leaves the tape's room
room_after : (r : Recorder) (t : Step) → capacity (record_step r t).tape ≡ capacity r.tape
unfolding record_step
room_after r t = ap (λ (n : ℕ). n / 32) (length-sets r.tape (32 * r.count) (record_of (undoing r.chip t)))

-- ---- one step recorded, and one page turned
module _ (r : Recorder) (b : Book) (a : Alike r b) (t : Step) (g : GoodStep t) (more : r.count < capacity r.tape) where
  abbrev bytes : List ℕ
  bytes = record_of (undoing r.chip t)

  abbrev tape' : List ℕ
  tape' = sets r.tape (32 * r.count) bytes

  back_good : GoodStep (undoing r.chip t)
  back_good = undoing_good r.chip t a.good g

  new : record_at tape' r.count ≡ bytes
  new = record_new r.tape bytes r.count refl (omega arith)

  last : record_at tape' (r.count + 1 - 1) ≡ bytes
  last = ap (record_at tape') (let e : r.count + 1 - 1 ≡ r.count = omega arith in e) ∙ new

  step_trail : Trail tape' (r.count + 1) (perform r.chip t) (r.chip ∷ b.pages)
  step_trail = (
    ap good_record last ∙ record_good (undoing r.chip t) back_good,
    ap (λ (l : List ℕ). perform (perform r.chip t) (step_of l)) last ∙ ap (perform (perform r.chip t)) (read_back (undoing r.chip t) back_good) ∙ undone r.chip t a.good.vram,
    a.good,
    subst (λ (n : ℕ). Trail tape' n r.chip b.pages) (let e : r.count ≡ r.count + 1 - 1 = omega arith in e)
        (trail_kept r.tape tape' r.count r.chip b.pages a.count (record_kept r.tape bytes r.count refl (omega arith)) a.trail),
  )

  pub step_alike : Alike (record_step r t) (record { present = perform b.present t; pages = b.present ∷ b.pages; capacity = b.capacity })
  unfolding record_step
  step_alike =
      record {
        present = ap (λ (c : Chip). perform c t) a.present;
        count = omega (arith, a.count);
        room = room_after r t ∙ a.room;
        good = performed_good r.chip t a.good g;
        fits = omega (arith, room_after r t);
        trail = subst (λ (c : Chip). Trail tape' (r.count + 1) (perform r.chip t) (c ∷ b.pages)) a.present step_trail;
      }

-- ---- a call's steps
steps_alike : (step : Chip → Step) (n : ℕ) (r : Recorder) (b : Book) → Alike r b → StepsGood step n r.chip → r.count + n ≤ capacity r.tape → Alike (record_steps step n r) (turned step n b)
unfolding record_step
steps_alike step n r b a g h =
    let Left : ℕ → Recorder → Book → Type 0 = λ k x y. Alike x y × StepsGood step k x.chip × (x.count + k ≤ capacity x.tape) in
    let next : (k : ℕ) (x : Recorder) (y : Book) → Left (suc k) x y → Left k (record_next step x) (turn_page step y) = λ k x y l.
    let t = step x.chip in (
      subst (λ (c : Chip). Alike (record_step x t) (record { present = perform y.present (step c); pages = y.present ∷ y.pages; capacity = y.capacity })) l.0.present
          (step_alike x y l.0 t l.1.0 (omega (arith, l.2))),
      l.1.1,
      omega (arith, l.2, room_after x t),
    ) in
    (iterate_related (record_next step) (turn_page step) Left next n r b (a, g, h)).0

-- what a call shows, and the two sides after it
pub record Together (o : TapeOutcome) (e : BookOutcome) : Type 0 where
  pub shown : seen o ≡ seen_in_book e
  pub after : Alike o.recorder e.book

alike_seen : (n result : ℕ) (r : Recorder) (b : Book) → Alike r b → seen (record { number = n; result = result; recorder = r }) ≡ seen_in_book (record { number = n; book = b })
alike_seen n result r b a =
    ap₂ (λ (c : Chip) (k : ℕ). record { number = n; count = k; state = c.state; vram = c.vram }) a.present a.count

-- a call that is refused, or done, on both sides alike
together : (n result : ℕ) (r r' : Recorder) (b b' : Book) → Alike r b → (n ≡ 0 → Alike r' b') → Together (tape_outcome_at n result r r') (book_outcome_at n b b')
together n result r r' b b' a done =
    by_cases (eqb n 0) (λ e. let d = done (eqb-true n 0 e) in rw e (record { shown = alike_seen 0 result r' b' d; after = d }))
    (λ e. rw e (record { shown = alike_seen n 0 r b a; after = a }))

-- a recorded call whose steps are in range where its plain form is accepted
pub plan_together : (p : Plan) (r : Recorder) (b : Book) → Alike r b → (first p.tests ≡ 0 → StepsGood p.step p.steps r.chip) → Together (recorded_by p r) (enter_by p b)
plan_together p r b a good =
    let number = recorded_number p.tests r.count (capacity r.tape) p.steps in
    let same : number ≡ recorded_number p.tests (length b.pages) b.capacity p.steps = ap₂ (λ (k room : ℕ). recorded_number p.tests k room p.steps) a.count a.room in
    let done : number ≡ 0 → Alike (record_steps p.step p.steps r) (turned p.step p.steps b) = λ z.
    let q = accepted (first p.tests) r.count (capacity r.tape) p.steps (sym (recorded_number_lem p.tests r.count (capacity r.tape) p.steps) ∙ z) in
    steps_alike p.step p.steps r b a (good q.plain_done) q.fits in
    subst (λ (n : ℕ). Together (recorded_by p r) (book_outcome_at n b (turned p.step p.steps b))) same
    (together number p.result r (record_steps p.step p.steps r) b (turned p.step p.steps b) a done)

-- ---- step back
-- the chip k pages down
abbrev down : ℕ → Chip → List Chip → Chip
down zero c ps = c
down (suc k) c ps = get_or ps k c

default_apart : (ps : List Chip) (k : ℕ) (c d : Chip) → k < length ps → get_or ps k c ≡ get_or ps k d
default_apart [] k c d h = absurd (let bad : ⊥ = omega arith in bad)
default_apart (p ∷ ps) zero c d h = refl
default_apart (p ∷ ps) (suc k) c d h = default_apart ps k c d (omega arith)

record Back (tape : List ℕ) (n k : ℕ) (c : Chip) (ps : List Chip) : Type 0 where
  pub records : top_good tape n k ≡ true
  pub chip_is : undo tape n k c ≡ down k c ps
  pub good : GoodChip (down k c ps)
  pub trail : Trail tape (n - k) (down k c ps) (drop k ps)
  pub left : length (drop k ps) ≡ length ps - k

back : (tape : List ℕ) (n k : ℕ) (c : Chip) (ps : List Chip) → n ≡ length ps → k ≤ length ps → GoodChip c → Trail tape n c ps → Back tape n k c ps
back tape n zero c ps e h g t =
    record { records = refl; chip_is = refl; good = g; trail = subst (λ (j : ℕ). Trail tape j c ps) (let z : n ≡ n - 0 = omega arith in z) t; left = omega arith }
back tape n (suc k) c [] e h g t = absurd (let bad : ⊥ = omega arith in bad)
back tape n (suc k) c (p ∷ ps) e h g t =
    let q = back tape (n - 1) k p ps (omega arith) (omega arith) t.2 t.3 in
    let same : down k p ps ≡ get_or (p ∷ ps) k c = down_is k (omega arith) in
    let rest : n - 1 - k ≡ n - suc k = omega arith in
    record {
      records = both t.0 q.records;
      chip_is = ap (undo tape (n - 1) k) t.1 ∙ q.chip_is ∙ same;
      good = subst GoodChip same q.good;
      trail = subst (λ (x : Chip). Trail tape (n - suc k) x (drop k ps)) same (subst (λ (j : ℕ). Trail tape j (down k p ps) (drop k ps)) rest q.trail);
      left = q.left ∙ (let z : length ps - k ≡ suc (length ps) - suc k = omega arith in z);
    }
  where
    down_is : (j : ℕ) → j ≤ length ps → down j p ps ≡ get_or (p ∷ ps) j c
    down_is zero i = refl
    down_is (suc j) i = default_apart ps j p c (omega arith)

turned_back_lem : (k : ℕ) (b : Book) → turned_back k b ≡ record { present = down k b.present b.pages; pages = drop k b.pages; capacity = b.capacity }
turned_back_lem zero b = refl
turned_back_lem (suc k) b = refl

-- 8 is never given: beyond the count 10 comes first, and the records on the tape are good
number_back : (r : Recorder) (b : Book) (k : ℕ) → Alike r b → back_number r k ≡ first (back_tests r.chip r.count (capacity r.tape) k)
number_back r b k a =
    by_cases (ltb r.count k) (λ e. simp e)
    (λ e.
    let q = back r.tape r.count k r.chip b.pages a.count (let h : k ≤ r.count = ltb-false r.count k e in omega (arith, a.count)) a.good a.trail in
    simp q.records)

pub back_together : (k : ℕ) (r : Recorder) (b : Book) → Alike r b → Together (step_back r k) (enter_back k b)
back_together k r b a =
    let tests : Chip → ℕ → ℕ → ℕ = λ c n room. first (back_tests c n room k) in
    let same : back_number r k ≡ first (back_tests b.present (length b.pages) b.capacity k) =
    number_back r b k a ∙ ap (λ (c : Chip). tests c r.count (capacity r.tape)) a.present ∙ ap₂ (tests b.present) a.count a.room in
    let after : Recorder = record { chip = undo r.tape r.count k r.chip; tape = r.tape; count = r.count - k } in
    let done : back_number r k ≡ 0 → Alike after (turned_back k b) = λ z.
    let h = back_accepted r k z in
    let q = back r.tape r.count k r.chip b.pages a.count (omega (arith, h.0, a.count)) a.good a.trail in
    subst (Alike after) (sym (turned_back_lem k b))
    (record {
      present = q.chip_is ∙ ap (λ (c : Chip). down k c b.pages) a.present;
      count = omega (arith, a.count, q.left);
      room = a.room;
      good = subst GoodChip (sym q.chip_is) q.good;
      fits = omega (arith, a.fits);
      trail = subst (λ (c : Chip). Trail r.tape (r.count - k) c (drop k b.pages)) (sym q.chip_is) q.trail;
    }) in
    subst (λ (n : ℕ). Together (step_back r k) (book_outcome_at n b (turned_back k b))) same (together (back_number r k) 0 r after b (turned_back k b) a done)
