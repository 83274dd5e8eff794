-- When a byte is faulty: a reader that goes on is at a place in a script, and knows what can follow there.
--     first_faulty_byte    a byte is faulty exactly if no well formed script begins with those before it and this one
-- It rests on three laws of places:
--     leads      a byte leads to the place that it brings a script to, or is faulty whatever follows it
--     known      bytes that do not stop a reader bring it to their place
--     can_end    at every place there is a rest that makes a script well formed
use Prim.Native.Nat.{ℕ, ◌+◌, ◌*◌, ◌≤◌}
use mathlib.Core.Path.{◌≡◌, refl, sym, ap, ◌∙◌}
use mathlib.Core.Bool.{Bool, true, false, true≢false}
use mathlib.Core.List.{List, [], ◌∷◌, ◌++◌}
use native.Mathlib.Omega.{arith}
use borrow.Author.Tests.{eqb-true, eqb-false}
use lib.Dec.{eqb}
use lib.ListN.{length, get_or, drop}
use Rattle.std.specs.Prelude.{Option, Some, None}
use Rattle.vdp_state.specs.Cell.{word_at}
use Rattle.vdp_state.specs.State.{Chip}
use Rattle.vdp_state.proofs.Bools.{by_cond}
use Rattle.vdp_script.specs.declared.item.Item.{Item}
use Rattle.vdp_script.specs.declared.item.Item.TheVariants.{ControlWord, DataWord, DataRead, StatusRead, Run, Line, NewFrame}
use Rattle.vdp_script.specs.Call.{call_item}
use Rattle.vdp_script.specs.Form.{Form, items_from, version, form_of}
use Rattle.vdp_script.specs.Item.{kind_of, length_of, item_bytes, item_from, item_of}
use Rattle.vdp_script.specs.Missing.{names_missing}
use Rattle.vdp_script.proofs.Forms.{at_whole, at_faulty, wrong_version, right_version}
use Rattle.vdp_script.proofs.Items.{size, whole, whole_fits, Fits}
use Rattle.vdp_reader.specs.declared.reader.Reader.{Reader}
use Rattle.vdp_reader.specs.declared.take.Taking.{Taking}
use Rattle.vdp_reader.specs.declared.take.Taking.TheVariants.{Kept, Whole, Faulty}
use Rattle.vdp_reader.specs.Deliver.{DeliverOutcome, reached}
use Rattle.vdp_reader.specs.Reader.{at_stage, between_items, started, stopped, has_content, goes_on}
use Rattle.vdp_reader.specs.Take.{kept_if, length_taken, short_item, kind_taken, takes}
use Rattle.vdp_reader.specs.Whole.{chip_of, take_byte, deliver_bytes, FirstFaultyByte}
use Rattle.vdp_reader.proofs.Readers.{stopped_stays}

-- ---- items, by their kinds
-- whether there is a faulty item from the bytes on
abbrev faulty_from : List ℕ → Bool
faulty_from bytes = (items_from 0 bytes).faulty

-- an item has a content or none, by its length and by its kind
data Sort (i : Item) : Type 0 where
  short : length_of i ≡ 1 → has_content (kind_of i) ≡ false → short_item (kind_of i) ≡ Whole i → Sort i
  long : length_of i ≡ 3 → has_content (kind_of i) ≡ true → Sort i

sort : (i : Item) → Sort i
sort (ControlWord w) = long refl refl
sort (DataWord w) = long refl refl
sort DataRead = short refl refl refl
sort StatusRead = short refl refl refl
sort (Run budget) = long refl refl
sort (Line n) = long refl refl
sort NewFrame = short refl refl refl

-- an item that is found for a kind is of it, and a kind that has a content has an item
abbrev OfKind : ℕ → Option Item → Type 0
OfKind kind None = has_content kind ≡ false
OfKind kind (Some i) = kind ≡ kind_of i

of_kind : (kind w : ℕ) → OfKind kind (item_from kind w)
of_kind kind w =
    by_cond (OfKind kind) (eqb kind 1) _ _ (eqb-true kind 1)
    (λ n1. by_cond (OfKind kind) (eqb kind 2) _ _ (eqb-true kind 2)
    (λ n2. by_cond (OfKind kind) (eqb kind 3) _ _ (eqb-true kind 3)
    (λ _. by_cond (OfKind kind) (eqb kind 4) _ _ (eqb-true kind 4)
    (λ _. by_cond (OfKind kind) (eqb kind 5) _ _ (eqb-true kind 5)
    (λ n5. by_cond (OfKind kind) (eqb kind 6) _ _ (eqb-true kind 6)
    (λ n6. by_cond (OfKind kind) (eqb kind 7) _ _ (eqb-true kind 7)
    (λ _. simp (n1, n2, n5, n6))))))))

module _ (kind w : ℕ) (h : has_content kind ≡ true) where
  long_found : (f : Option Item) → OfKind kind f → (i : Item) × (f ≡ Some i) × (3 ≡ length_of i)
  long_found None n = absurd (true≢false (sym h ∙ n))
  long_found (Some i) same =
      (i, refl, elim (sort i) [ short _ n _ ↦ absurd (true≢false (sym h ∙ ap has_content same ∙ n)) | long l _ ↦ sym l ])

  long_item_lem : (i : Item) × (item_from kind w ≡ Some i) × (3 ≡ length_of i)
  long_item_lem = long_found (item_from kind w) (of_kind kind w)

module _ (bytes : List ℕ) where
  -- a whole item is passed over
  item_passed : (i : Item) → item_from (get_or bytes 2 0) (word_at bytes 3) ≡ Some i → word_at bytes 0 ≡ length_of i → 2 + word_at bytes 0 ≤ length bytes
      → faulty_from bytes ≡ faulty_from (drop (2 + word_at bytes 0) bytes)
  item_passed i e l h =
      ap (λ (f : Form). f.faulty) (at_whole bytes i (sym (whole bytes (Some i) (sym e) i refl (omega (arith, size i)) (omega (arith, size i)))))
      ∙ ap (λ (n : ℕ). faulty_from (drop n bytes)) (let n : length (item_bytes i) ≡ 2 + word_at bytes 0 = omega (arith, size i) in n)

  -- no item is of their length and of their kind
  abbrev NoneFits : Type 0
  NoneFits = (i : Item) → word_at bytes 0 ≡ length_of i → get_or bytes 2 0 ≡ kind_of i → Sort i → ⊥

  none_found : (f : Option Item) → item_of bytes ≡ f → 1 ≤ length bytes → NoneFits → faulty_from bytes ≡ true
  none_found None e h none = ap (λ (f : Form). f.faulty) (at_faulty bytes h e)
  none_found (Some i) e h none =
      let f : Fits bytes i = whole_fits bytes i e in
      absurd (none i f.said (rw f.kind at (of_kind (get_or bytes 2 0) (word_at bytes 3))) (sort i))

  none_fits : 1 ≤ length bytes → NoneFits → faulty_from bytes ≡ true
  none_fits = none_found (item_of bytes) refl

-- ---- places in a script
-- a place is a stage that takes bytes, with what is kept there
data Place : Type 0 where
  anew : Place
  between : Place
  in_length : Place
  at_short : Place
  at_long : Place
  at_upper : (kind : ℕ) → has_content kind ≡ true → Place
  at_lower : (kind upper : ℕ) → has_content kind ≡ true → Place

-- the reader that is there
abbrev reader_at : Place → Reader
reader_at anew = started
reader_at between = between_items
reader_at in_length = at_stage 2
reader_at at_short = at_stage 3
reader_at at_long = at_stage 4
reader_at (at_upper kind h) = record { stage = 5; kind = kind; upper = 0; number = 0 }
reader_at (at_lower kind upper h) = record { stage = 6; kind = kind; upper = upper; number = 0 }

-- whether a script is faulty, from the bytes that follow the place
abbrev faulty_at : Place → List ℕ → Bool
faulty_at anew rest = (form_of rest).faulty
faulty_at between rest = faulty_from rest
faulty_at in_length rest = faulty_from (0 ∷ rest)
faulty_at at_short rest = faulty_from (0 ∷ 1 ∷ rest)
faulty_at at_long rest = faulty_from (0 ∷ 3 ∷ rest)
faulty_at (at_upper kind h) rest = faulty_from (0 ∷ 3 ∷ kind ∷ rest)
faulty_at (at_lower kind upper h) rest = faulty_from (0 ∷ 3 ∷ kind ∷ upper ∷ rest)

-- a reader is at the place that bytes have brought a script to, where the rest tells whether it is faulty
record Knows (faulty : List ℕ → Bool) (r : Reader) : Type 0 where
  place : Place
  here : r ≡ reader_at place
  rest : faulty ≡ faulty_at place

-- what the last byte led to, likewise
abbrev Leads : (List ℕ → Bool) → Taking → Type 0
Leads faulty (Kept r) = Knows faulty r
Leads faulty (Whole i) = faulty ≡ faulty_at between
Leads faulty Faulty = (rest : List ℕ) → faulty rest ≡ true

-- a byte at a place
abbrev Next : Place → ℕ → Taking → Type 0
Next p b = Leads (λ rest. faulty_at p (b ∷ rest))

leads_to : {faulty : List ℕ → Bool} (p : Place) → faulty ≡ faulty_at p → Knows faulty (reader_at p)
leads_to p e = record { place = p; here = refl; rest = e }

module _ (b : ℕ) where
  version_leads : Next anew b (kept_if (eqb b version) 1)
  version_leads =
      by_cond (Next anew b) (eqb b version) _ _
      (λ t. leads_to between (λ i rest. (right_version (b ∷ rest) (eqb-true b version t) i).faulty))
      (λ t rest. ap (λ (f : Form). f.faulty) (wrong_version (b ∷ rest) (eqb-false b version t)))

  between_leads : Next between b (kept_if (eqb b 0) 2)
  between_leads =
      by_cond (Next between b) (eqb b 0) _ _
      (λ t. leads_to in_length (λ i rest. faulty_from (eqb-true b 0 t i ∷ rest)))
      (λ t rest.
      none_fits (b ∷ rest) (omega arith)
      (λ i said _ s. eqb-false b 0 t (elim s [ short l _ _ ↦ omega arith | long l _ ↦ omega arith ])))

  length_leads : Next in_length b (length_taken b)
  length_leads =
      by_cond (Next in_length b) (eqb b 1) _ _ (λ t. leads_to at_short (λ i rest. faulty_from (0 ∷ eqb-true b 1 t i ∷ rest)))
      (λ n1. by_cond (Next in_length b) (eqb b 3) _ _ (λ t. leads_to at_long (λ i rest. faulty_from (0 ∷ eqb-true b 3 t i ∷ rest)))
      (λ n3 rest.
      none_fits (0 ∷ b ∷ rest) (omega arith)
      (λ i said _ s. elim s [ short l _ _ ↦ eqb-false b 1 n1 (omega arith) | long l _ ↦ eqb-false b 3 n3 (omega arith) ])))

  short_whole : (i : Item) → b ≡ kind_of i → ((w : ℕ) → item_from (kind_of i) w ≡ Some i) → length_of i ≡ 1 → Next at_short b (Whole i)
  short_whole i e found l =
      λ j rest. item_passed (0 ∷ 1 ∷ b ∷ rest) i (ap (λ (k : ℕ). item_from k (word_at rest 0)) e ∙ found (word_at rest 0)) (sym l) (omega arith) j

  -- where the kind is of no item without a content
  short_faulty : short_item b ≡ Faulty → Next at_short b Faulty
  short_faulty e rest =
      none_fits (0 ∷ 1 ∷ b ∷ rest) (omega arith)
      (λ i said same s. elim s [ short _ _ w ↦ let z : ◌≡◌ {A = ℕ} 0 1 = cc in omega arith | long l _ ↦ omega arith ])

  short_leads : Next at_short b (short_item b)
  short_leads =
      by_cond (Next at_short b) (eqb b 3) _ _ (λ t. short_whole DataRead (eqb-true b 3 t) (λ w. refl) refl)
      (λ n3. by_cond (Next at_short b) (eqb b 4) _ _ (λ t. short_whole StatusRead (eqb-true b 4 t) (λ w. refl) refl)
      (λ n4. by_cond (Next at_short b) (eqb b 7) _ _ (λ t. short_whole NewFrame (eqb-true b 7 t) (λ w. refl) refl)
      (λ n7. short_faulty (simp (n3, n4, n7)))))

  kind_leads : Next at_long b (kind_taken b)
  kind_leads =
      by_cond (Next at_long b) (has_content b) _ _ (λ h. leads_to (at_upper b h) refl)
      (λ n rest.
      none_fits (0 ∷ 3 ∷ b ∷ rest) (omega arith)
      (λ i said same s. elim s [ short l _ _ ↦ omega arith | long _ h ↦ true≢false (sym (ap has_content same ∙ h) ∙ n) ]))

-- an item with a content is passed over with its last byte
content_passed : (kind upper b : ℕ) → has_content kind ≡ true → (rest : List ℕ) → faulty_from (0 ∷ 3 ∷ kind ∷ upper ∷ b ∷ rest) ≡ faulty_from rest
content_passed kind upper b h rest =
    let i = long_item_lem kind (upper * 256 + b) h in
    item_passed (0 ∷ 3 ∷ kind ∷ upper ∷ b ∷ rest) i.0 i.1 i.2 (omega arith)

leads_at : (p : Place) (b : ℕ) → Next p b (takes (reader_at p) b)
unfolding takes
leads_at anew b = version_leads b
leads_at between b = between_leads b
leads_at in_length b = length_leads b
leads_at at_short b = short_leads b
leads_at at_long b = kind_leads b
leads_at (at_upper kind h) b = leads_to (at_lower kind b h) refl
leads_at (at_lower kind upper h) b =
    rw (long_item_lem kind (upper * 256 + b) h).1 (λ i rest. content_passed kind upper b h rest i)

leads : (faulty : List ℕ → Bool) (r : Reader) (b : ℕ) → Knows faulty r → Leads (λ rest. faulty (b ∷ rest)) (takes r b)
leads faulty r b k = rw (k.here, k.rest) (leads_at k.place b)

can_end : (p : Place) → (rest : List ℕ) × (faulty_at p rest ≡ false)
unfolding form_of item_of
can_end anew = (1 ∷ [], refl)
can_end between = ([], refl)
can_end in_length = (1 ∷ 3 ∷ [], refl)
can_end at_short = (3 ∷ [], refl)
can_end at_long = (1 ∷ 0 ∷ 0 ∷ [], refl)
can_end (at_upper kind h) = (0 ∷ 0 ∷ [], content_passed kind 0 0 h [])
can_end (at_lower kind upper h) = (0 ∷ [], content_passed kind upper 0 h [])

-- ---- what is known behind bytes
stopped_stops : (n : ℕ) → goes_on (stopped n) ≡ true → ⊥
stopped_stops n g = true≢false (sym g ∙ stopped_stays n)

-- a reader that goes on is at its place
abbrev Goes : (List ℕ → Bool) → Reader → Type 0
Goes faulty r = goes_on r ≡ true → Knows faulty r

module _ (cartridge ram : List ℕ) where
  -- a reader that does not go on stays as it is, so one that goes on in the end went on before
  abbrev WentOn : List ℕ → Reader → Reader → Chip → List ℕ → Type 0
  WentOn bytes before r c pixels = goes_on (deliver_bytes bytes cartridge ram r c pixels).reader ≡ true → goes_on before ≡ true

  went_on : (bytes : List ℕ) (r : Reader) (c : Chip) (pixels : List ℕ) → WentOn bytes r r c pixels
  went_on [] r c pixels g = g
  went_on (b ∷ bytes) r c pixels g =
      by_cond (λ (o : DeliverOutcome). WentOn bytes r o.answer.reader (chip_of o) o.pixels) (goes_on r) _ _ (λ t _. t) (λ _. went_on bytes r c pixels) g

  reached_known : (faulty : List ℕ → Bool) (t : Taking) (c : Chip) (pixels : List ℕ) → Leads faulty t
      → Goes faulty (reached t 1 cartridge ram c pixels).answer.reader
  reached_known faulty (Kept r) c pixels k g = k
  reached_known faulty (Whole i) c pixels e g =
      by_cond (λ (o : DeliverOutcome). Goes faulty o.answer.reader) (names_missing c.state.control.port.pending i) _ _
      (λ _ g. absurd (stopped_stops 12 g))
      (λ _.
      let number : ℕ = (call_item i cartridge ram c pixels).answer.number in
      by_cond (Goes faulty) (eqb number 0) _ _ (λ _ g. leads_to between e) (λ _ g. absurd (stopped_stops number g))) g
  reached_known faulty Faulty c pixels e g = absurd (stopped_stops 11 g)

  byte_known : (faulty : List ℕ → Bool) (b : ℕ) (r : Reader) (c : Chip) (pixels : List ℕ) → Knows faulty r
      → Goes (λ rest. faulty (b ∷ rest)) (take_byte b cartridge ram r c pixels).answer.reader
  byte_known faulty b r c pixels k =
      by_cond (λ (o : DeliverOutcome). Goes (λ rest. faulty (b ∷ rest)) o.answer.reader) (goes_on r) _ _
      (λ _. reached_known (λ rest. faulty (b ∷ rest)) (takes r b) c pixels (leads faulty r b k))
      (λ f g. absurd (true≢false (sym g ∙ f)))

  known : (bytes : List ℕ) (faulty : List ℕ → Bool) (r : Reader) (c : Chip) (pixels : List ℕ) → Knows faulty r
      → Goes (λ rest. faulty (bytes ++ rest)) (deliver_bytes bytes cartridge ram r c pixels).reader
  known [] faulty r c pixels k g = k
  known (b ∷ bytes) faulty r c pixels k g =
      let o : DeliverOutcome = take_byte b cartridge ram r c pixels in
      known bytes (λ rest. faulty (b ∷ rest)) o.answer.reader (chip_of o) o.pixels
      (byte_known faulty b r c pixels k (went_on bytes o.answer.reader (chip_of o) o.pixels g)) g

-- ---- the claim
some_rest : (faulty : List ℕ → Bool) (t : Taking) → Leads faulty t → (t ≡ Faulty → ⊥) → (rest : List ℕ) × (faulty rest ≡ false)
some_rest faulty (Kept r) k n = let e = can_end k.place in (e.0, ap (λ (f : List ℕ → Bool). f e.0) k.rest ∙ e.1)
some_rest faulty (Whole i) e n = ([], ap (λ (f : List ℕ → Bool). f []) e)
some_rest faulty Faulty e n = absurd (n refl)

pub first_faulty_byte : FirstFaultyByte
first_faulty_byte bytes cartridge ram c pixels b g =
    let r : Reader = (deliver_bytes bytes cartridge ram started c pixels).reader in
    let faulty : List ℕ → Bool = λ rest. (form_of (bytes ++ (b ∷ rest))).faulty in
    let l : Leads faulty (takes r b) =
    leads (λ rest. (form_of (bytes ++ rest)).faulty) r b (known cartridge ram bytes (faulty_at anew) started c pixels (leads_to anew refl) g) in
    record { none = λ e. let n : Leads faulty Faulty = rw e at l in n; some = some_rest faulty (takes r b) l }
