-- When the counter expires, proved: `expires_by_remainder` is the claim of specs/Frame.antt. The invariant: before line k
-- begins, the counter that it finds is n less the remainder of k by n + 1.
use Prim.Native.Nat.{ℕ, zero, suc, ◌+◌, ◌-◌, ◌%◌, ◌<◌, ◌≤◌}
use mathlib.Core.Path.{◌≡◌, refl, sym, ap, subst, ◌∙◌}
use mathlib.Core.Bool.{true, false}
use native.Mathlib.Nat.{mod-lt, mod-eq_of_lt, mod_self, suc-mod, zero-mod}
use native.Mathlib.Omega.{arith}
use borrow.Author.Tests.{eq-eqb, ne_eqb, le-leb, lt-leb, lt-ltb, eqb-true, eqb-false}
use lib.Dec.{eqb}
use Rattle.vdp_state.specs.declared.state.State.{State}
use Rattle.vdp_state.specs.Cell.{after}
use Rattle.vdp_state.specs.Good.{last_line, good}
use Rattle.vdp_state.proofs.Bools.{by_cases, both}
use Rattle.vdp_state.proofs.Facts.{tested}
use Rattle.vdp_state.proofs.Laws.{good_colours, good_scrolls, good_control_lem, good_of}
use Rattle.vdp_ports.specs.Length.{register}
use Rattle.vdp_timing.proofs.Decided.{next_inside}
use Rattle.vdp_timing.specs.Frame.{lines_begun, line_after, FrameEnds, ExpiresByRemainder}
use Rattle.vdp_timing.specs.LineBegins.{next_line, loaded, counted, line_begins_step, line_begins}

-- ---- a remainder, one further
module _ (k n : ℕ) where
  abbrev remainder : ℕ
  remainder = k % (n + 1)

  small : remainder < n + 1
  small = mod-lt k (omega arith)

  further : (k + 1) % (n + 1) ≡ suc remainder % (n + 1)
  further = ap (λ (j : ℕ). j % (n + 1)) (let e : k + 1 ≡ suc k = omega arith in e) ∙ suc-mod k (n + 1)

  next_remainder : remainder < n → (k + 1) % (n + 1) ≡ remainder + 1
  next_remainder h = further ∙ mod-eq_of_lt (omega arith) ∙ (let e : suc remainder ≡ remainder + 1 = omega arith in e)

  last_remainder : remainder ≡ n → (k + 1) % (n + 1) ≡ 0
  last_remainder e = further ∙ ap (λ (j : ℕ). j % (n + 1)) (let z : suc remainder ≡ n + 1 = omega arith in z) ∙ mod_self (n + 1)

  -- the counter is 0 exactly where the next remainder is, and counts on to the next remainder
  zero_alike : eqb (n - remainder) 0 ≡ eqb ((k + 1) % (n + 1)) 0
  zero_alike =
      by_cases (eqb (n - remainder) 0)
      (λ z.
      let e = eqb-true (n - remainder) 0 z in
      let f : remainder ≡ n = omega (arith, small) in
      z ∙ sym (eq-eqb ((k + 1) % (n + 1)) 0 (last_remainder f)))
      (λ z.
      let e = eqb-false (n - remainder) 0 z in
      let f : remainder < n = omega (arith, small) in
      z ∙ sym (ne_eqb ((k + 1) % (n + 1)) 0 (λ y. let g = next_remainder f in let bad : ⊥ = omega arith in bad)))

  counts_on : k ≤ 224 → counted k n (n - remainder) ≡ n - (k + 1) % (n + 1)
  counts_on h =
      by_cases (eqb (n - remainder) 0)
      (λ z.
      let e = eqb-true (n - remainder) 0 z in
      let g = last_remainder (let f : remainder ≡ n = omega (arith, small) in f) in
      simp (le-leb k 224 h, z) (omega (arith, g)))
      (λ z.
      let e = eqb-false (n - remainder) 0 z in
      let g = next_remainder (let f : remainder < n = omega (arith, small) in f) in
      simp (le-leb k 224 h, z) (omega (arith, g)))

-- ---- before line k begins, with n in register 10
record Before (n k : ℕ) (s : State) : Type 0 where
  is_good_lem : good s ≡ true
  ntsc : s.pal ≡ false
  reload : register s 10 ≡ n
  next : line_after s ≡ k
  finds : loaded k n s.control.timing.counter ≡ n - k % (n + 1)

first_line : (s : State) → FrameEnds s → Before (register s 10) 0 s
first_line s f =
    let n = register s 10 in
    record {
      is_good_lem = f.good;
      ntsc = f.ntsc;
      reload = refl;
      next = ap next_line f.line;
      finds = let z = zero-mod (n + 1) in omega arith;
    }

-- a line that begins in such a state is not refused
begun_is : (n k : ℕ) (s : State) → Before n k s → (line_begins s).state ≡ after s (line_begins_step s)
begun_is n k s b = simp (b.is_good_lem, b.ntsc)

begun_good : (s : State) → good s ≡ true → good (after s (line_begins_step s)) ≡ true
begun_good s g =
    let t = tested s.control (good_control_lem s g) in
    good_of _ (good_colours s g) (good_scrolls s g)
    (both (both (le-leb s.control.port.code 63 t.code) t.dma) (le-leb (line_after s) last_line (next_inside s.control.timing.line)))

next_line_lem : (n k : ℕ) (s : State) → k + 1 ≤ 224 → Before n k s → Before n (k + 1) (line_begins s).state
next_line_lem n k s h b =
    subst (Before n (k + 1)) (sym (begun_is n k s b))
    (record {
      is_good_lem = begun_good s b.is_good_lem;
      ntsc = b.ntsc;
      reload = b.reload;
      next = ap next_line b.next ∙ simp (lt-ltb k last_line (omega arith));
      finds =
          let kept : (c : ℕ) → loaded (k + 1) n c ≡ c = λ c. simp (ne_eqb (k + 1) 0 (λ z. let bad : ⊥ = omega arith in bad), lt-leb 225 (k + 1) (omega arith)) in
          kept _ ∙ simp (b.reload, b.next, b.finds) (counts_on k n (omega arith));
    })

lines_on : (m n k : ℕ) (s : State) → k + m ≤ 224 → Before n k s → Before n (k + m) (lines_begun m s)
lines_on zero n k s h b = subst (λ (j : ℕ). Before n j s) (let e : k ≡ k + 0 = omega arith in e) b
lines_on (suc m) n k s h b =
    subst (λ (j : ℕ). Before n j (lines_begun (suc m) s)) (let e : k + 1 + m ≡ k + suc m = omega arith in e)
    (lines_on m n (k + 1) (line_begins s).state (omega arith) (next_line_lem n k s (omega arith) b))

pub expires_by_remainder : ExpiresByRemainder
expires_by_remainder s f line h =
    let n = register s 10 in
    let b = lines_on line n 0 s (omega arith) (first_line s f) in
    let at : line_after (lines_begun line s) ≡ line = b.next ∙ (let e : 0 + line ≡ line = omega arith in e) in
    (at, simp (b.reload, at, le-leb line 224 h) (subst (λ (j : ℕ). eqb (loaded j n (lines_begun line s).control.timing.counter) 0 ≡ eqb ((j + 1) % (n + 1)) 0) (let e : 0 + line ≡ line = omega arith in e) (ap (λ (x : ℕ). eqb x 0) b.finds ∙ zero_alike (0 + line) n)))
