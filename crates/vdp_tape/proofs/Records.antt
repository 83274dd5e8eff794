-- The laws of records:
--     fields_back     the law of the layout: reading what was written gives what the fields hold
--     read_back       reading the record of a step in range gives the step
--     record_good     the record of a step in range is good
--     good_written    a good record is what writing the step that it reads as gives
use Prim.Native.Nat.{ℕ, zero, suc, ◌+◌, ◌*◌, ◌/◌, ◌%◌, ◌^◌, ◌<◌, ◌≤◌}
use mathlib.Core.Path.{◌≡◌, refl, sym, ap, ap₂, ◌∙◌}
use mathlib.Core.Bool.{Bool, true, false, ◌&&◌}
use mathlib.Core.List.{List, [], ◌∷◌, ◌++◌, append_assoc}
use native.Mathlib.Omega.{arith}
use borrow.Author.Tests.{eq-eqb, ne_eqb, eqb-true, leb-true, ltb-true}
use lib.Dec.{eqb, ltb}
use lib.ListN.{length, get_or, length-append}
use lib.Pointwise.{pointwise}
use mir.Val.{bool_byte}
use native.Mathlib.Nat.{pow-succ', div-div-eq-div-mul}
use Rattle.vdp_state.specs.declared.state.Control.{Control}
use Rattle.vdp_state.specs.declared.state.Step.{Step}
use Rattle.vdp_state.specs.declared.state.Store.{Store}
use Rattle.vdp_state.specs.declared.state.Store.TheVariants.{Nothing, Vram, Cram, Vsram, Register}
use Rattle.vdp_state.specs.Colour.{colour_word}
use Rattle.vdp_state.specs.Good.{is_colour, is_scroll, good_control, last_line}
use Rattle.vdp_state.specs.Range.{good_store, GoodStep}
use Rattle.vdp_state.specs.Same.{same}
use Rattle.vdp_state.proofs.Bools.{and_false, both_left, both_right, both}
use Rattle.vdp_state.proofs.Facts.{dma_facts, source_bits, parts}
use Rattle.vdp_state.proofs.Same.{same_equal, same_self}
use Rattle.vdp_tape.specs.Record.{kept_of, store_of, flag_bit, flag_byte, flag_at, Field, layout, Reading, reading, bytes_of, number_at, written, record_of, read_from, step_of, good_record}

-- ---- a number in bytes
-- so many bytes hold n
abbrev pub InBytes : ℕ → ℕ → Type 0
InBytes zero n = n ≡ 0
InBytes (suc width) n = InBytes width (n / 256)

-- a number that one byte holds is that byte
pub one_byte : (n : ℕ) → InBytes 1 n → n % 256 ≡ n
one_byte n h = omega arith

-- a number without its two lower bytes
pub two_down : (n : ℕ) → n / 256 / 256 ≡ n / 65536
two_down n = omega arith

bytes_length : (width n : ℕ) → length (bytes_of width n) ≡ width
bytes_length zero n = refl
bytes_length (suc width) n = length-append (bytes_of width (n / 256)) (n % 256 ∷ []) ∙ (let ih = bytes_length width (n / 256) in omega arith)

at_end : (pre post : List ℕ) (b : ℕ) → get_or (pre ++ (b ∷ post)) (length pre) 0 ≡ b
at_end [] post b = refl
at_end (x ∷ pre) post b = at_end pre post b

number_back : (width n : ℕ) (pre post : List ℕ) → InBytes width n → number_at (pre ++ (bytes_of width n ++ post)) (length pre) width ≡ n
number_back zero n pre post h = sym h
number_back (suc zero) n pre post h = at_end pre post (n % 256) ∙ one_byte n h
number_back (suc (suc width)) n pre post h =
    let high : List ℕ = bytes_of (suc width) (n / 256) in
    let rest : List ℕ = n % 256 ∷ post in
    let split : pre ++ ((high ++ (n % 256 ∷ [])) ++ post) ≡ pre ++ (high ++ rest) = ap (λ (l : List ℕ). pre ++ l) (append_assoc high (n % 256 ∷ []) post) in
    let upper : number_at (pre ++ (high ++ rest)) (length pre) (suc width) ≡ n / 256 = number_back (suc width) (n / 256) pre rest h in
    let place : length pre + suc width ≡ length (pre ++ high) = omega (arith, length-append pre high, bytes_length (suc width) (n / 256)) in
    let lower : get_or (pre ++ (high ++ rest)) (length pre + suc width) 0 ≡ n % 256 = ap₂ (λ (l : List ℕ) (i : ℕ). get_or l i 0) (sym (append_assoc pre high rest)) place ∙ at_end (pre ++ high) post (n % 256) in
    ap (λ (l : List ℕ). number_at l (length pre) (suc width) * 256 + get_or l (length pre + suc width) 0) split
    ∙ ap₂ (λ (x y : ℕ). x * 256 + y) upper lower ∙ (let e : n / 256 * 256 + n % 256 ≡ n = omega arith in e)

-- ---- the layout
pub data FieldsFit : List Field → Step → Type 0 where
  end : {t : Step} → FieldsFit [] t
  row : {f : Field} {fs : List Field} {t : Step} → InBytes f.width (f.value t) → FieldsFit fs t → FieldsFit (f ∷ fs) t

-- a reading of what the fields hold
abbrev pub held : (fs : List Field) → Reading fs → Step → Step
held [] r t = r
held (f ∷ fs) r t = held fs (r (f.value t)) t

pub fields_back : (fs : List Field) (r : Reading fs) (t : Step) (pre : List ℕ) → FieldsFit fs t → read_from fs r (length pre) (pre ++ written fs t) ≡ held fs r t
fields_back [] r t pre end = refl
fields_back (f ∷ fs) r t pre (row here more) =
    let bytes : List ℕ = bytes_of f.width (f.value t) in
    let rest : List ℕ = written fs t in
    let place : length pre + f.width ≡ length (pre ++ bytes) = omega (arith, length-append pre bytes, bytes_length f.width (f.value t)) in
    ap (λ (n : ℕ). read_from fs (r n) (length pre + f.width) (pre ++ (bytes ++ rest))) (number_back f.width (f.value t) pre rest here)
    ∙ ap₂ (read_from fs (r (f.value t))) place (sym (append_assoc pre bytes rest))
    ∙ fields_back fs (r (f.value t)) t (pre ++ bytes) more

-- ---- a step in range: what its fields hold fits them, and reads as the step
record KeptFits (x : Store) : Type 0 where
  place : InBytes 2 (kept_of x).place
  content : InBytes 2 (kept_of x).content
  back : store_of (kept_of x) ≡ x

index_back : (n : ℕ) → n < 256 → n % 256 ≡ n
index_back n h = omega arith

colour_fits : (w : ℕ) → is_colour w ≡ true → w < 65536
unfolding colour_word
colour_fits w e = let q : colour_word w ≡ w = eqb-true (colour_word w) w e in omega arith

pub kind_fits : (x : Store) → InBytes 1 (kept_of x).kind
kind_fits Nothing = refl
kind_fits (Vram place w) = refl
kind_fits (Cram i w) = refl
kind_fits (Vsram i w) = refl
kind_fits (Register i b) = refl

kept_fits : (x : Store) → good_store x ≡ true → KeptFits x
kept_fits Nothing e = record { place = refl; content = refl; back = refl }
kept_fits (Vram place w) e =
    let even : Bool = eqb (place % 2) 0 in
    let inside : Bool = ltb place 65536 in
    let p : place < 65536 = ltb-true place 65536 (both_right even inside (both_left (even && inside) (ltb w 65536) e)) in
    let f : w < 65536 = ltb-true w 65536 (both_right (even && inside) (ltb w 65536) e) in
    record { place = omega arith; content = omega arith; back = refl }
kept_fits (Cram i w) e =
    let h : i < 64 = ltb-true i 64 (both_left (ltb i 64) (is_colour w) e) in
    let f = colour_fits w (both_right (ltb i 64) (is_colour w) e) in
    record { place = omega arith; content = omega arith; back = ap (λ (j : ℕ). Cram j w) (index_back i (omega arith)) }
kept_fits (Vsram i w) e =
    let h : i < 40 = ltb-true i 40 (both_left (ltb i 40) (is_scroll w) e) in
    let f : w ≤ 1023 = leb-true w 1023 (both_right (ltb i 40) (is_scroll w) e) in
    record { place = omega arith; content = omega arith; back = ap (λ (j : ℕ). Vsram j w) (index_back i (omega arith)) }
kept_fits (Register i b) e =
    let h : i < 24 = ltb-true i 24 (both_left (ltb i 24) (ltb b 256) e) in
    let f : b < 256 = ltb-true b 256 (both_right (ltb i 24) (ltb b 256) e) in
    record { place = omega arith; content = omega arith; back = ap₂ Register (index_back i (omega arith)) (index_back b f) }

pub flag_bit_fits : (b : Bool) → InBytes 1 (flag_bit b) × (eqb (flag_bit b) 1 ≡ b)
flag_bit_fits true = (refl, refl)
flag_bit_fits false = (refl, refl)

-- a flag as `u8::from` gives it
pub bit_byte : (b : Bool) → bool_byte b ≡ flag_bit b
bit_byte true = refl
bit_byte false = refl

-- ---- flags in a byte, up to three of them
pub bit_small : (b : Bool) → flag_bit b ≤ 1
bit_small true = omega arith
bit_small false = omega arith

pub flags_fit : (a b c : Bool) → InBytes 1 (flag_byte (a ∷ b ∷ c ∷ []))
flags_fit a b c = omega (arith, bit_small a, bit_small b, bit_small c)

-- the first flag, and those after it
flag_first : (b : Bool) (n : ℕ) → flag_at (flag_bit b + 2 * n) 0 ≡ b
flag_first true n = eq-eqb ((1 + 2 * n) % 2) 1 (omega arith)
flag_first false n = ne_eqb ((0 + 2 * n) % 2) 1 (λ e. omega arith)

flag_later : (b : Bool) (n i : ℕ) → flag_at (flag_bit b + 2 * n) (suc i) ≡ flag_at n i
flag_later b n i = ap (λ (m : ℕ). flag_at m i) (let half : (flag_bit b + 2 * n) / 2 ≡ n = omega (arith, bit_small b) in half)

flag_second : (a b : Bool) (n : ℕ) → flag_at (flag_bit a + 2 * (flag_bit b + 2 * n)) 1 ≡ b
flag_second a b n = flag_later a (flag_bit b + 2 * n) 0 ∙ flag_first b n

flag_third : (a b c : Bool) (n : ℕ) → flag_at (flag_bit a + 2 * (flag_bit b + 2 * (flag_bit c + 2 * n))) 2 ≡ c
flag_third a b c n = flag_later a (flag_bit b + 2 * (flag_bit c + 2 * n)) 1 ∙ flag_second b c n

module _ (t : Step) (g : GoodStep t) where
  abbrev k : Control
  k = t.control

  fit : FieldsFit layout t
  fit =
      let x = kept_fits t.store g.store in
      let p = parts k g.control in
      let d = dma_facts k.dma p.dma.0 in
      let bits = source_bits k.dma.kind k.dma.source d.source in
      let address : InBytes 2 k.port.address = omega (arith, p.address) in
      let code : InBytes 1 k.port.code = omega (arith, p.code) in
      let kind : InBytes 1 k.dma.kind = omega (arith, d.kind) in
      let remaining : InBytes 3 k.dma.remaining = omega (arith, d.most) in
      let source : InBytes 3 k.dma.source = omega (arith, bits) in
      let fill : InBytes 1 k.dma.fill = omega (arith, p.dma.1) in
      let flags = flags_fit k.flags.overflow k.flags.collision k.flags.used_up in
      let line : InBytes 2 k.timing.line = omega (arith, leb-true k.timing.line last_line p.timing.0) in
      let counter : InBytes 1 k.timing.counter = omega (arith, p.timing.1) in
      let interrupts = flags_fit k.timing.vertical k.timing.horizontal false in
      row refl (row refl (row (kind_fits t.store) (row x.place (row x.content (row address (row code (row (flag_bit_fits k.port.pending).0
      (row kind (row remaining (row source (row fill (row flags (row line (row counter (row interrupts (row refl end))))))))))))))))

  pub read_back : step_of (record_of t) ≡ t
  read_back =
      let f = k.flags in
      let interrupts = k.timing in
      fields_back layout reading t [] fit
      ∙ ap₂ (λ (c : Control) (x : Store). record { control = c; store = x })
      (simp (
        (flag_bit_fits k.port.pending).1,
        flag_first f.overflow (flag_byte (f.collision ∷ f.used_up ∷ [])),
        flag_second f.overflow f.collision (flag_byte (f.used_up ∷ [])),
        flag_third f.overflow f.collision f.used_up 0,
        flag_first interrupts.vertical (flag_byte (interrupts.horizontal ∷ [])),
        flag_second interrupts.vertical interrupts.horizontal 0,
      ))
      (kept_fits t.store g.store).back

  pub record_good : good_record (record_of t) ≡ true
  record_good =
      both (both (ap (λ (x : Step). same (record_of x) (record_of t)) read_back ∙ same_self (record_of t)) (ap (λ (x : Step). good_control x.control) read_back ∙ g.control.good))
      (ap (λ (x : Step). good_store x.store) read_back ∙ g.store)

-- `==` at arrays compares as the definition does, and lists of different lengths are not the same
pub pointwise_same : (a b : List ℕ) → pointwise eqb a b ≡ same a b
pointwise_same [] [] = refl
pointwise_same [] (y ∷ ys) = refl
pointwise_same (x ∷ xs) [] = refl
pointwise_same (x ∷ xs) (y ∷ ys) = ap (λ (r : Bool). eqb x y && r) (pointwise_same xs ys)

pub same_lengths : (a b : List ℕ) → (length a ≡ length b → ⊥) → same a b ≡ false
same_lengths [] [] h = absurd (h refl)
same_lengths [] (y ∷ b) h = refl
same_lengths (x ∷ a) [] h = refl
same_lengths (x ∷ a) (y ∷ b) h = ap (λ (t : Bool). eqb x y && t) (same_lengths a b (λ e. h (ap suc e))) ∙ and_false (eqb x y)

-- a flag of a byte, as the code shifts it down
pub flag_shifted : (i n : ℕ) → eqb (n / 2 ^ i % 2) 1 ≡ flag_at n i
flag_shifted zero n = ap (λ (m : ℕ). eqb (m % 2) 1) (let e : n / 2 ^ zero ≡ n = omega arith in e)
flag_shifted (suc i) n =
    ap (λ (m : ℕ). eqb (m % 2) 1) (ap (λ (d : ℕ). n / d) (pow-succ' 2 i) ∙ sym (div-div-eq-div-mul n 2 (2 ^ i)))
    ∙ flag_shifted i (n / 2)

pub good_written : (l : List ℕ) → good_record l ≡ true → record_of (step_of l) ≡ l
good_written l e =
    same_equal (record_of (step_of l)) l
    (both_left (same (record_of (step_of l)) l) (good_control (step_of l).control) (both_left _ (good_store (step_of l).store) e))
