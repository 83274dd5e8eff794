-- The laws that the crates above cite:
--     fresh_good         a fresh state is GOOD
--     undone             undoing a step after performing it gives back the state and every VRAM byte
--     performed_good     a step in range, performed on a good chip, leaves a good chip
--     undoing_good       the step that undoes a step in range is in range
--     nine_unused        no call answers 9
use Prim.Native.Nat.{ℕ, zero, suc, ◌+◌, ◌/◌, ◌%◌, ◌<◌}
use mathlib.Core.Path.{◌≡◌, refl, ap, ◌∙◌}
use mathlib.Core.Bool.{Bool, true, not, ◌&&◌}
use mathlib.Core.List.{List, [], ◌∷◌}
use native.Mathlib.Omega.{arith}
use borrow.Author.Tests.{lt-ltb, ltb-true, eqb-false, not-true}
use lib.Dec.{ltb, eqb}
use lib.ListN.{length, get_or, set, length-set}
use lib.Seq.{set-set, set_comm, set-get_or}
use Rattle.vdp_state.specs.declared.state.Control.{Control}
use Rattle.vdp_state.specs.declared.state.State.{State}
use Rattle.vdp_state.specs.declared.state.Step.{Step}
use Rattle.vdp_state.specs.declared.state.Store.{Store}
use Rattle.vdp_state.specs.declared.state.Store.TheVariants.{Nothing, Vram, Cram, Vsram, Register}
use Rattle.vdp_state.specs.Answer.{order, Test, holds_at, first_of, NineUnused}
use Rattle.vdp_state.specs.Cell.{word_at, put_word, perform, present, undoing}
use Rattle.vdp_state.specs.Fresh.{fresh}
use Rattle.vdp_state.specs.Good.{all, is_colour, is_scroll, good_control, good}
use Rattle.vdp_state.specs.Range.{AllBytes, GoodControl, GoodChip, good_store, GoodStep}
use Rattle.vdp_state.specs.State.{Chip, chip}
use Rattle.vdp_state.proofs.Bools.{by_cond, both, both_left, both_right}

pub fresh_good : (pal : Bool) → good (fresh pal) ≡ true
unfolding good fresh Rattle.vdp_state.specs.Colour.colour_word
fresh_good pal = refl

-- ---- a word and its two bytes
module _ (m : List ℕ) (place : ℕ) (bytes : AllBytes m) where
  word_high : word_at m place / 256 ≡ get_or m place 0
  word_high = omega (arith, bytes (place + 1))

  word_low : word_at m place % 256 ≡ get_or m (place + 1) 0
  word_low = omega (arith, bytes (place + 1))

  pub word_fits : word_at m place < 65536
  word_fits = omega (arith, bytes place, bytes (place + 1))

  -- the old word put back over a new one gives back every byte
  pub word_put_back : (w : ℕ) → put_word (put_word m place w) place (word_at m place) ≡ m
  word_put_back w =
      rw (word_high, word_low)
      (rw (set_comm (set m place (w / 256)) (place + 1) place (w % 256) (get_or m place 0) (omega arith), set-set, set-set)
      (rw (set-get_or, set-get_or) refl))

-- by the store's cell
undone_at : (c : Chip) (k : Control) (x : Store) → AllBytes c.vram
    → let t : Step = record { control = k; store = x } in perform (perform c t) (undoing c t) ≡ c
unfolding perform undoing
undone_at c k Nothing bytes = refl
undone_at c k (Vram place w) bytes = ap (chip c.state) (word_put_back c.vram place bytes w)
undone_at c k (Cram i w) bytes = simp (set-set, set-get_or)
undone_at c k (Vsram i w) bytes = simp (set-set, set-get_or)
undone_at c k (Register i b) bytes = simp (set-set, set-get_or)

pub undone : (c : Chip) (t : Step) → AllBytes c.vram → perform (perform c t) (undoing c t) ≡ c
undone c t bytes = undone_at c t.control t.store bytes

colour_zero : is_colour 0 ≡ true
unfolding Rattle.vdp_state.specs.Colour.colour_word
colour_zero = refl

-- ---- what a store keeps
pub bytes_set : (m : List ℕ) (i b : ℕ) → AllBytes m → b < 256 → AllBytes (set m i b)
bytes_set [] i b bytes h j = bytes j
bytes_set (x ∷ m) zero b bytes h zero = h
bytes_set (x ∷ m) zero b bytes h (suc j) = bytes (suc j)
bytes_set (x ∷ m) (suc i) b bytes h zero = bytes zero
bytes_set (x ∷ m) (suc i) b bytes h (suc j) = bytes_set m i b (λ k. bytes (suc k)) h j

pub all_set : (p : ℕ → Bool) (l : List ℕ) (i v : ℕ) → all p l ≡ true → p v ≡ true → all p (set l i v) ≡ true
all_set p [] i v e h = refl
all_set p (x ∷ l) zero v e h = both h (both_right (p x) (all p l) e)
all_set p (x ∷ l) (suc i) v e h = both (both_left (p x) (all p l) e) (all_set p l i v (both_right (p x) (all p l) e) h)

all_at : (p : ℕ → Bool) (l : List ℕ) (i : ℕ) → p 0 ≡ true → all p l ≡ true → p (get_or l i 0) ≡ true
all_at p [] i z e = z
all_at p (x ∷ l) zero z e = both_left (p x) (all p l) e
all_at p (x ∷ l) (suc i) z e = all_at p l i z (both_right (p x) (all p l) e)

pub put_word_bytes : (m : List ℕ) (place w : ℕ) → AllBytes m → w < 65536 → AllBytes (put_word m place w)
put_word_bytes m place w bytes h =
    bytes_set (set m place (w / 256)) (place + 1) (w % 256) (bytes_set m place (w / 256) bytes (omega arith)) (omega arith)

pub put_word_length : (m : List ℕ) (place w : ℕ) → length (put_word m place w) ≡ length m
put_word_length m place w = simp length-set

-- ---- GOOD, taken apart and put together
module _ (s : State) where
  pub good_colours : good s ≡ true → all is_colour s.cram ≡ true
  unfolding good
  good_colours e = both_left (all is_colour s.cram) (all is_scroll s.vsram) (both_left _ (good_control s.control) e)

  pub good_scrolls : good s ≡ true → all is_scroll s.vsram ≡ true
  unfolding good
  good_scrolls e = both_right (all is_colour s.cram) (all is_scroll s.vsram) (both_left _ (good_control s.control) e)

  pub good_control_lem : good s ≡ true → good_control s.control ≡ true
  unfolding good
  good_control_lem e = both_right (all is_colour s.cram && all is_scroll s.vsram) (good_control s.control) e

  pub good_of : all is_colour s.cram ≡ true → all is_scroll s.vsram ≡ true → good_control s.control ≡ true → good s ≡ true
  unfolding good
  good_of p q r = both (both p q) r

abbrev vram_place : ℕ → Bool
vram_place place = eqb (place % 2) 0 && ltb place 65536

chip_of_lem : (c : Chip) → all is_colour c.state.cram ≡ true → all is_scroll c.state.vsram ≡ true → GoodControl c.state.control → AllBytes c.state.registers → AllBytes c.vram → length c.vram ≡ 65536 → GoodChip c
chip_of_lem c p q h r m n = record { good = good_of c.state p q h.good; control = h; registers = r; vram = m; size = n }

-- ---- performing
performed_at : (c : Chip) (k : Control) (x : Store) → GoodChip c → GoodControl k → good_store x ≡ true → GoodChip (perform c (record { control = k; store = x }))
unfolding perform
performed_at c k Nothing g h e =
    chip_of_lem _ (good_colours _ g.good) (good_scrolls _ g.good) h g.registers g.vram g.size
performed_at c k (Vram place w) g h e =
    chip_of_lem _ (good_colours _ g.good) (good_scrolls _ g.good) h g.registers
    (put_word_bytes c.vram place w g.vram (ltb-true w 65536 (both_right (vram_place place) (ltb w 65536) e)))
    (put_word_length c.vram place w ∙ g.size)
performed_at c k (Cram i w) g h e =
    chip_of_lem _ (all_set is_colour c.state.cram i w (good_colours _ g.good) (both_right (ltb i 64) (is_colour w) e))
    (good_scrolls _ g.good) h g.registers g.vram g.size
performed_at c k (Vsram i w) g h e =
    chip_of_lem _ (good_colours _ g.good)
    (all_set is_scroll c.state.vsram i w (good_scrolls _ g.good) (both_right (ltb i 40) (is_scroll w) e)) h g.registers
    g.vram g.size
performed_at c k (Register i b) g h e =
    chip_of_lem _ (good_colours _ g.good) (good_scrolls _ g.good) h
    (bytes_set c.state.registers i b g.registers (ltb-true b 256 (both_right (ltb i 24) (ltb b 256) e))) g.vram g.size

pub performed_good : (c : Chip) (t : Step) → GoodChip c → GoodStep t → GoodChip (perform c t)
performed_good c t g h = performed_at c t.control t.store g h.control h.store

-- ---- the old content of a cell in range is in range
present_good : (c : Chip) (x : Store) → GoodChip c → good_store x ≡ true → good_store (present c x) ≡ true
present_good c Nothing g e = refl
present_good c (Vram place w) g e = both (both_left (vram_place place) (ltb w 65536) e) (lt-ltb _ _ (word_fits c.vram place g.vram))
present_good c (Cram i w) g e = both (both_left (ltb i 64) (is_colour w) e) (all_at is_colour c.state.cram i colour_zero (good_colours _ g.good))
present_good c (Vsram i w) g e = both (both_left (ltb i 40) (is_scroll w) e) (all_at is_scroll c.state.vsram i refl (good_scrolls _ g.good))
present_good c (Register i b) g e = both (both_left (ltb i 24) (ltb b 256) e) (lt-ltb _ _ (g.registers i))

pub undoing_good : (c : Chip) (t : Step) → GoodChip c → GoodStep t → GoodStep (undoing c t)
unfolding undoing
undoing_good c t g h = record { control = g.control; store = present_good c t.store g h.store }

-- ---- steps one after the other
-- each of n steps is in range where it is made
abbrev pub StepsGood : (Chip → Step) → ℕ → Chip → Type 0
StepsGood step zero c = Unit {0}
StepsGood step (suc n) c = GoodStep (step c) × StepsGood step n (perform c (step c))

-- ---- a number that is not in the order is never answered
absent : (n : ℕ) (ns : List ℕ) → all (λ k. not (eqb k n)) ns ≡ true → (ts : List Test) → 0 < n → first_of ns ts ≡ n → ⊥
absent n [] a ts some = λ e. omega arith
absent n (k ∷ ns) a ts some =
    by_cond (λ (r : ℕ). r ≡ n → ⊥) (holds_at k ts) k (first_of ns ts)
    (λ holds. eqb-false k n (not-true (eqb k n) (both_left (not (eqb k n)) (all (λ j. not (eqb j n)) ns) a)))
    (λ fails. absent n ns (both_right (not (eqb k n)) (all (λ j. not (eqb j n)) ns) a) ts some)

pub nine_unused : NineUnused
nine_unused ts = absent 9 order refl ts (omega arith)
