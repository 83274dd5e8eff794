-- A transfer that moves its words part by part makes the units of the definition one by one.
use Prim.Native.Nat.{ℕ, zero, suc, ◌+◌, ◌-◌, ◌*◌, ◌/◌, ◌%◌, ◌<◌, ◌≤◌, min}
use mathlib.Core.Path.{◌≡◌, refl, sym, ap, ap₂, subst, ◌∙◌}
use mathlib.Core.Bool.{Bool, true, false, cond, false≢true}
use mathlib.Core.List.{List, [], ◌∷◌}
use native.Mathlib.Omega.{arith}
use borrow.Author.Tests.{eqb-false, eq-eqb, ne_eqb, le-leb, lt-leb, leb-true, leb-false}
use lib.Dec.{eqb, leb, ltb}
use lib.ListN.{length, get_or, take, drop, length-take, length-drop}
use lib.Seq.{drop-cons}
use Rattle.std.specs.Simd.{first_chunks}
use Rattle.vdp_state.specs.declared.state.Control.{Control}
use Rattle.vdp_state.specs.declared.state.Dma.{Dma}
use Rattle.vdp_state.specs.declared.state.State.{State}
use Rattle.vdp_state.specs.Cell.{word_at, stored, stored_in, perform}
use Rattle.vdp_state.specs.State.{Chip, chip, with_control}
use Rattle.vdp_state.proofs.Bools.{by_cases}
use Rattle.vdp_ports.specs.declared.access.Access.{Access}
use Rattle.vdp_ports.specs.declared.access.Access.TheVariants.{Write, Read, Nothing}
use Rattle.vdp_ports.specs.declared.access.Memory.TheVariants.{Vram, Cram, Vsram}
use Rattle.vdp_ports.specs.Access.{access, word_number, written}
use Rattle.vdp_ports.specs.Length.{register}
use Rattle.vdp_dma.specs.Run.{ran}
use Rattle.vdp_dma.specs.Source.{work_ram, word_from, words_next, next_source}
use Rattle.vdp_dma.specs.Transfer.{moved, holding, colours_in, scrolls_in, at_hand, Ready}
use Rattle.vdp_dma.specs.Unit.{unit_dma, unit_control, transfer_step, unit}
use Rattle.vdp_dma.proofs.Remaining.{dma}

-- ---- the loop over a part's words
-- a word of a part, as one of its chunks of two bytes
pub chunk_of_two : (l : List ℕ) (i n : ℕ) → i < n → 2 * n ≤ length l → get_or (first_chunks 2 n l) i [] ≡ get_or l (2 * i) 0 ∷ (get_or l (2 * i + 1) 0 ∷ [])
chunk_of_two l zero zero h k = absurd (let bad : ⊥ = omega arith in bad)
chunk_of_two [] zero (suc n) h k = absurd (let bad : ⊥ = omega arith in bad)
chunk_of_two (x ∷ []) zero (suc n) h k = absurd (let bad : ⊥ = omega arith in bad)
chunk_of_two (x ∷ (y ∷ l)) zero (suc n) h k = refl
chunk_of_two l (suc i) zero h k = absurd (let bad : ⊥ = omega arith in bad)
chunk_of_two [] (suc i) (suc n) h k = absurd (let bad : ⊥ = omega arith in bad)
chunk_of_two (x ∷ []) (suc i) (suc n) h k = absurd (let bad : ⊥ = omega arith in bad)
chunk_of_two (x ∷ (y ∷ l)) (suc i) (suc n) h k =
    let p : suc (suc (2 * i)) ≡ 2 * suc i = omega arith in
    let q : suc (suc (2 * i + 1)) ≡ 2 * suc i + 1 = omega arith in
    chunk_of_two l i n (omega arith) (omega arith) ∙ ap₂ (λ (j k : ℕ). get_or (x ∷ (y ∷ l)) j 0 ∷ (get_or (x ∷ (y ∷ l)) k 0 ∷ [])) p q

-- the words from word i on, the first of them moved
pub moved_turn : (l : List ℕ) (i : ℕ) (c c' : Chip) → i < length l / 2 → c' ≡ perform c (transfer_step c.state (get_or l (2 * i) 0 * 256 + get_or l (2 * i + 1) 0)) → moved (drop (2 * (i + 1)) l) c' ≡ moved (drop (2 * i) l) c
moved_turn l i c c' h e =
    let j : ℕ = 2 * i in
    let two : drop j l ≡ get_or l j 0 ∷ (get_or l (suc j) 0 ∷ drop (suc (suc j)) l) = drop-cons l j 0 (omega arith) ∙ ap (λ (r : List ℕ). get_or l j 0 ∷ r) (drop-cons l (suc j) 0 (omega arith)) in
    let p : 2 * (i + 1) ≡ suc (suc j) = omega arith in
    let q : j + 1 ≡ suc j = omega arith in
    ap₂ (λ (k : ℕ) (x : Chip). moved (drop k l) x) p (e ∙ ap (λ (k : ℕ). perform c (transfer_step c.state (get_or l j 0 * 256 + get_or l k 0))) q)
    ∙ sym (ap (λ (r : List ℕ). moved r c) two)

-- ---- one word
module _ (cartridge : List ℕ) (size : length cartridge ≤ 4194304) where
  -- the next source, where n words are at hand and more than one is left
  pub next_plain : (source : ℕ) → (source ≡ 0xfffffe → ⊥) → source < 0x1000000 → source % 2 ≡ 0 → next_source source ≡ source + 2
  next_plain source h b e = simp (ne_eqb source 0xfffffe h) (omega arith)

  pub next_even : (source : ℕ) → source < 0x1000000 → source % 2 ≡ 0 → (next_source source % 2 ≡ 0) × (next_source source < 0x1000000)
  next_even source b e = by_cases (eqb source 0xfffffe) (λ p. simp p (omega arith)) (λ p. simp p (omega arith))

  at_hand_next : (source n : ℕ) → source < 0x1000000 → source % 2 ≡ 0 → 1 < n → at_hand cartridge source n ≡ true → at_hand cartridge (next_source source) (n - 1) ≡ true
  at_hand_next source n b e more h =
      by_cases (work_ram source)
      (λ p.
      let high : 0xe00000 ≤ source = leb-true 0xe00000 source p in
      by_cases (eqb source 0xfffffe) (λ q. simp q)
      (λ q.
      let far : source ≡ 0xfffffe → ⊥ = eqb-false source 0xfffffe q in
      simp (le-leb 0xe00000 (next_source source) (rw (next_plain source far b e) (omega arith)))))
      (λ p.
      let low : source < 0xe00000 = leb-false 0xe00000 source p in
      let fits : source + 2 * n ≤ length cartridge = leb-true (source + 2 * n) (length cartridge) (simp p at h) in
      let plain : next_source source ≡ source + 2 = next_plain source (omega arith) b e in
      rw (plain, lt-leb 0xe00000 (source + 2) (omega arith), le-leb (source + 2 + 2 * (n - 1)) (length cartridge) (omega arith)) refl)

  -- a unit leaves a transfer ready for the words that are left
  pub ready_next : (d : Dma) (n : ℕ) → 1 < n → Ready cartridge d n → Ready cartridge (unit_dma d (next_source d.source)) (n - 1)
  ready_next d n more r =
      let many : leb d.remaining 1 ≡ false = lt-leb d.remaining 1 (omega arith) in
      let e = next_even d.source r.bits r.even in
      rw many (record { kind = r.kind; enough = omega arith; even = e.0; bits = e.1; lent = at_hand_next d.source n r.bits r.even more r.lent })

-- before the last unit the source is the next one
unit_source : (d : Dma) (source : ℕ) → 1 < d.remaining → (unit_dma d source).source ≡ source
unit_source d source h = simp (lt-leb d.remaining 1 h)

-- ---- the words of a part
take_two : (l : List ℕ) (p k : ℕ) → p + 2 ≤ length l → take (2 * suc k) (drop p l) ≡ get_or l p 0 ∷ (get_or l (p + 1) 0 ∷ take (2 * k) (drop (p + 2) l))
take_two l p k h =
    let two : drop p l ≡ get_or l p 0 ∷ (get_or l (suc p) 0 ∷ drop (suc (suc p)) l) = drop-cons l p 0 (omega arith) ∙ ap (λ (r : List ℕ). get_or l p 0 ∷ r) (drop-cons l (suc p) 0 (omega arith)) in
    let n : 2 * suc k ≡ suc (suc (2 * k)) = omega arith in
    let one : suc p ≡ p + 1 = omega arith in
    let next : suc (suc p) ≡ p + 2 = omega arith in
    ap₂ (λ (j : ℕ) (r : List ℕ). take j r) n two
    ∙ ap₂ (λ (i j : ℕ). get_or l p 0 ∷ (get_or l i 0 ∷ take (2 * k) (drop j l))) one next

take_own : (n : ℕ) (l : List ℕ) → take (length (take n l)) l ≡ take n l
take_own zero l = refl
take_own (suc n) [] = refl
take_own (suc n) (x ∷ l) = ap (λ (r : List ℕ). x ∷ r) (take_own n l)

module _ (cartridge ram : List ℕ) (size : length cartridge ≤ 4194304) (ram_size : length ram ≡ 65536) where
  abbrev memory : Bool → List ℕ
  memory b = cond b ram cartridge

  -- k words from a source lie in one memory from place p on
  record Place (b : Bool) (source p k : ℕ) : Type 0 where
    side : work_ram source ≡ b
    place : p ≡ cond b (source % 65536) source
    inside : p + 2 * k ≤ length (memory b)

  word_here : (b : Bool) (source p k : ℕ) → Place b source p k → word_from cartridge ram source ≡ word_at (memory b) p
  word_here true source p k h = simp h.side (ap (word_at ram) (sym h.place))
  word_here false source p k h = simp h.side (ap (word_at cartridge) (sym h.place))

  place_next : (b : Bool) (source p k : ℕ) → 0 < k → source < 0x1000000 → source % 2 ≡ 0 → Place b source p (suc k) → Place b (next_source source) (p + 2) k
  place_next true source p k more bits even h =
      let low : 0xe00000 ≤ source = leb-true 0xe00000 source h.side in
      let at : p ≡ source % 65536 = h.place in
      let inside : p + 2 * suc k ≤ length ram = h.inside in
      let plain : next_source source ≡ source + 2 = next_plain cartridge size source (λ e. let bad : ⊥ = omega arith in bad) bits even in
      rw plain (record { side = le-leb 0xe00000 (source + 2) (omega arith); place = omega arith; inside = omega arith })
  place_next false source p k more bits even h =
      let low : source < 0xe00000 = leb-false 0xe00000 source h.side in
      let at : p ≡ source = h.place in
      let inside : p + 2 * suc k ≤ length cartridge = h.inside in
      let plain : next_source source ≡ source + 2 = next_plain cartridge size source (λ e. let bad : ⊥ = omega arith in bad) bits even in
      rw plain (record { side = lt-leb 0xe00000 (source + 2) (omega arith); place = omega arith; inside = omega arith })

  -- what moving k words of a part comes to, where n are to be moved: k units, and a transfer ready for the others
  record Moved (n k : ℕ) (c c' : Chip) : Type 0 where
    pub made : ran cartridge ram n c ≡ ran cartridge ram (n - k) c'
    pub ready : 0 < n - k → Ready cartridge (dma c') (n - k)

  unit_here : (b : Bool) (c : Chip) (p k : ℕ) → (dma c).kind ≡ 2 → Place b (dma c).source p k → unit cartridge ram c ≡ transfer_step c.state (word_at (memory b) p)
  unit_here b c p k e h = simp (eq-eqb (dma c).kind 2 e) (ap (transfer_step c.state) (word_here b (dma c).source p k h))

  moved_steps : (b : Bool) (k n p : ℕ) (c : Chip) → k ≤ n → (0 < n → Ready cartridge (dma c) n) → (0 < k → Place b (dma c).source p k) → Moved n k c (moved (take (2 * k) (drop p (memory b))) c)
  unfolding perform
  moved_steps b zero n p c le ready here =
      let e : n ≡ n - 0 = omega arith in
      record { made = ap (λ (j : ℕ). ran cartridge ram j c) e; ready = λ more. subst (λ (j : ℕ). Ready cartridge (dma c) j) e (ready (omega arith)) }
  moved_steps b (suc k) zero p c le ready here = absurd (let bad : ⊥ = omega arith in bad)
  moved_steps b (suc k) (suc n) p c le ready here =
      let r : Ready cartridge (dma c) (suc n) = ready (omega arith) in
      let h : Place b (dma c).source p (suc k) = here (omega arith) in
      let inside : p + 2 * suc k ≤ length (memory b) = h.inside in
      let c' : Chip = perform c (transfer_step c.state (word_at (memory b) p)) in
      let next : 0 < n → Ready cartridge (dma c') n = λ more. subst (λ (j : ℕ). Ready cartridge (dma c') j) (let e : suc n - 1 ≡ n = omega arith in e) (ready_next cartridge size (dma c) (suc n) (omega arith) r) in
      let ih = moved_steps b k n (p + 2) c' (omega arith) next (λ more. subst (λ (j : ℕ). Place b j (p + 2) k) (sym (unit_source (dma c) (next_source (dma c).source) (let e : 1 < (dma c).remaining = omega (arith, r.enough) in e))) (place_next b (dma c).source p k more r.bits r.even h)) in
      let part : take (2 * suc k) (drop p (memory b)) ≡ get_or (memory b) p 0 ∷ (get_or (memory b) (p + 1) 0 ∷ take (2 * k) (drop (p + 2) (memory b))) = take_two (memory b) p k (omega arith) in
      let q : n - k ≡ suc n - suc k = omega arith in
      subst (λ (l : List ℕ). Moved (suc n) (suc k) c (moved l c)) (sym part)
      (record {
        made = ap (ran cartridge ram n) (ap (perform c) (unit_here b c p (suc k) r.kind h)) ∙ ih.made ∙ ap (λ (j : ℕ). ran cartridge ram j (moved (take (2 * k) (drop (p + 2) (memory b))) c')) q;
        ready = λ more. subst (λ (j : ℕ). Ready cartridge (dma (moved (take (2 * k) (drop (p + 2) (memory b))) c')) j) q (ih.ready (omega arith));
      })

  -- the part that is looked up for n words has at least one of them and no more than n
  record Part (b : Bool) (source p n : ℕ) (l : List ℕ) : Type 0 where
    pub bytes : 2 * (length l / 2) ≡ length l
    pub some : 0 < length l / 2
    pub most : length l / 2 ≤ n
    pub place : Place b source p (length l / 2)

  part_of : (b : Bool) (source p n : ℕ) → 0 < n → source % 2 ≡ 0 → work_ram source ≡ b → p ≡ cond b (source % 65536) source → (b ≡ false → source + 2 * n ≤ length cartridge) → Part b source p n (take (2 * n) (drop p (memory b)))
  part_of true source p n more even side at fits =
      let len : length (take (2 * n) (drop p ram)) ≡ min (2 * n) (length ram - p) = length-take (2 * n) (drop p ram) ∙ ap (min (2 * n)) (length-drop p ram) in
      let inside : p + 2 * (length (take (2 * n) (drop p ram)) / 2) ≤ length ram = omega arith in
      record { bytes = omega arith; some = omega arith; most = omega arith; place = record { side = side; place = at; inside = inside } }
  part_of false source p n more even side at fits =
      let len : length (take (2 * n) (drop p cartridge)) ≡ min (2 * n) (length cartridge - p) = length-take (2 * n) (drop p cartridge) ∙ ap (min (2 * n)) (length-drop p cartridge) in
      let enough : source + 2 * n ≤ length cartridge = fits refl in
      let inside : p + 2 * (length (take (2 * n) (drop p cartridge)) / 2) ≤ length cartridge = omega arith in
      record { bytes = omega arith; some = omega arith; most = omega arith; place = record { side = side; place = at; inside = inside } }

  -- moving the words of that part
  pub record PartMoved (n : ℕ) (c : Chip) (part : List ℕ) : Type 0 where
    pub some : 0 < length part / 2
    pub most : length part / 2 ≤ n
    pub made : ran cartridge ram n c ≡ ran cartridge ram (n - length part / 2) (moved part c)
    pub ready : 0 < n - length part / 2 → Ready cartridge (moved part c).state.control.dma (n - length part / 2)

  moved_part : (b : Bool) (n p : ℕ) (c : Chip) (l : List ℕ) → l ≡ take (2 * n) (drop p (memory b)) → (0 < n → Ready cartridge (dma c) n) → Part b (dma c).source p n l → PartMoved n c l
  moved_part b n p c l e ready h =
      let k = length l / 2 in
      let same : take (2 * k) (drop p (memory b)) ≡ l = ap (λ (j : ℕ). take j (drop p (memory b))) (h.bytes ∙ ap length e) ∙ take_own (2 * n) (drop p (memory b)) ∙ sym e in
      let m : Moved n k c (moved l c) = subst (λ (x : List ℕ). Moved n k c (moved x c)) same (moved_steps b k n p c h.most ready (λ more. h.place)) in
      record { some = h.some; most = h.most; made = m.made; ready = m.ready }

  pub part_moved : (n : ℕ) (c : Chip) → 0 < n → Ready cartridge (dma c) n → PartMoved n c (words_next cartridge ram (dma c).source (record { 0 = n }))
  part_moved n c more r =
      by_cases (work_ram (dma c).source)
      (λ e.
      rw e (moved_part true n ((dma c).source % 65536) c _ refl (λ x. r)
      (part_of true (dma c).source _ n more r.even e refl (λ f. absurd (false≢true (sym f))))))
      (λ e.
      rw e (moved_part false n (dma c).source c _ refl (λ x. r)
      (part_of false (dma c).source _ n more r.even e refl (λ f. leb-true ((dma c).source + 2 * n) (length cartridge) (simp e at r.lent)))))

  -- it has no word only where no more are to be moved
  pub none_left : (n : ℕ) (c : Chip) → (0 < n → Ready cartridge (dma c) n) → length (words_next cartridge ram (dma c).source (record { 0 = n })) / 2 ≡ 0 → n ≡ 0
  none_left zero c ready e = refl
  none_left (suc n) c ready e =
      let p = part_moved (suc n) c (omega arith) (ready (omega arith)) in
      absurd (let bad : ⊥ = omega (arith, p.some, e) in bad)

  pub some_left : (n : ℕ) (source : ℕ) → (length (words_next cartridge ram source (record { 0 = n })) / 2 ≡ 0 → ⊥) → 0 < n
  some_left zero source h = absurd (h (by_cases (work_ram source) (λ e. simp e) (λ e. simp e)))
  some_left (suc n) source h = omega arith

-- ---- a word moved, by what it changes
module _ (s : State) (k k' : Control) (colours scrolls : List ℕ) where
  stored_holding : (a : Access) (address w : ℕ) → with_control (stored (holding s k colours scrolls) (written a address w)) k' ≡ holding s k' (colours_in colours (written a address w)) (scrolls_in scrolls (written a address w))
  stored_holding (Write Vram) address w = refl
  stored_holding (Write Cram) address w = refl
  stored_holding (Write Vsram) address w = by_cases (ltb (word_number address) 40) (λ e. simp e) (λ e. simp e)
  stored_holding (Read m) address w = refl
  stored_holding Nothing address w = refl

pub word_moved : (s : State) (k : Control) (colours scrolls vram : List ℕ) (w : ℕ) → let x = written (access k.port.code) k.port.address w in
    perform (chip (holding s k colours scrolls) vram) (transfer_step (holding s k colours scrolls) w)
    ≡ chip (holding s (unit_control k (register s 15) (next_source k.dma.source)) (colours_in colours x) (scrolls_in scrolls x)) (stored_in vram x)
unfolding perform
word_moved s k colours scrolls vram w =
    ap (λ (t : State). chip t (stored_in vram (written (access k.port.code) k.port.address w)))
    (stored_holding s k (unit_control k (register s 15) (next_source k.dma.source)) colours scrolls (access k.port.code) k.port.address w)
