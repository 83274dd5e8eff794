-- The top records of a tape are the chunks of its bytes, from the end.
--     top_length, top_at    how many they are, and which is which
--     top_good_all          that each of them is tested
--     chunks_from_top       what the chunks are that are left
use Prim.Native.Nat.{ℕ, zero, suc, ◌+◌, ◌-◌, ◌*◌, ◌/◌, ◌<◌, ◌≤◌}
use mathlib.Core.Path.{◌≡◌, refl, sym, ap, ap₂, ◌∙◌}
use mathlib.Core.Bool.{Bool, ◌&&◌}
use mathlib.Core.List.{List, ◌∷◌, ◌++◌}
use native.Mathlib.Omega.{arith}
use denote.Ref.{Bor}
use lib.ListN.{length, get_or, take, drop, length-append}
use lib.Seq.{take-add, drop-drop, drop_at, take_at, length-take-le}
use Rattle.std.specs.Prelude.{None, Some}
use Rattle.std.specs.declared.slice.RChunksExact.{RChunksExact}
use Rattle.std.specs.List.{list_all}
use Rattle.std.specs.Slice.Exact.{rchunks_exact_rest, rchunks_exact_size, rchunks_exact_steps}
use Rattle.std.proofs.lemmas.Iterator.{YieldsList}
use Rattle.std.proofs.lemmas.Iterator.Splits.{YieldsList-from_shown_while}
use Rattle.vdp_tape.specs.Record.{good_record, record_at}
use Rattle.vdp_tape.specs.StepBack.{top_records, top_good}

pub top_length : (tape : List ℕ) (n k : ℕ) → length (top_records tape n k) ≡ k
top_length tape n zero = refl
top_length tape n (suc k) = ap suc (top_length tape (n - 1) k)

pub top_at : (tape : List ℕ) (n k i : ℕ) (d : List ℕ) → i < k → get_or (top_records tape n k) i d ≡ record_at tape (n - i - 1)
top_at tape n zero i d h = absurd (let bad : ⊥ = omega arith in bad)
top_at tape n (suc k) zero d h = ap (record_at tape) (let e : n - 1 ≡ n - 0 - 1 = omega arith in e)
top_at tape n (suc k) (suc i) d h =
    top_at tape (n - 1) k i d (omega arith) ∙ ap (record_at tape) (let e : n - 1 - i - 1 ≡ n - suc i - 1 = omega arith in e)

pub top_good_all : (tape : List ℕ) (n k : ℕ) → top_good tape n k ≡ list_all good_record (top_records tape n k)
top_good_all tape n zero = refl
top_good_all tape n (suc k) = ap (λ (b : Bool). good_record (record_at tape (n - 1)) && b) (top_good_all tape (n - 1) k)

module _ (tape : List ℕ) (low : ℕ) where
  abbrev bytes : List ℕ
  bytes = drop (32 * low) tape

  -- some records are left, from `low` on
  abbrev pub Left : RChunksExact ℕ → Type 0
  Left s = (rchunks_exact_size s ≡ 32) × ((m : ℕ) × (rchunks_exact_rest s ≡ take (32 * m) bytes) × (32 * m ≤ length bytes))

  abbrev left : RChunksExact ℕ → ℕ
  left s = length (rchunks_exact_rest s) / 32

  abbrev shown : RChunksExact ℕ → List (List ℕ)
  shown s = top_records tape (low + left s) (left s)

  -- the chunk at the end, and those before it
  record Next (j : ℕ) (rest x : List ℕ) : Type 0 where
    rest_is : rest ≡ take (32 * j) bytes
    x_is : x ≡ record_at tape (low + j)

  next : (j : ℕ) (rest x : List ℕ) → take (32 * (j + 1)) bytes ≡ rest ++ x → length x ≡ 32 → 32 * (j + 1) ≤ length bytes → Next j rest x
  next j rest x e long within =
      let upper : ℕ = 32 * j in
      let whole : 32 * (j + 1) ≡ upper + 32 = omega arith in
      let split : take upper bytes ++ take 32 (drop upper bytes) ≡ rest ++ x = sym (take-add upper 32 bytes) ∙ ap (λ (n : ℕ). take n bytes) (sym whole) ∙ e in
      let front : length (take upper bytes) ≡ upper = length-take-le upper bytes (omega arith) in
      let total : length (take (32 * (j + 1)) bytes) ≡ 32 * (j + 1) = length-take-le (32 * (j + 1)) bytes within in
      let before : length rest ≡ upper = omega (arith, total, ap length e, length-append rest x, long) in
      record {
        rest_is = sym (take_at rest x upper before) ∙ ap (take upper) (sym split) ∙ take_at (take upper bytes) (take 32 (drop upper bytes)) upper front;
        x_is = sym (drop_at rest x upper before) ∙ ap (drop upper) (sym split) ∙ drop_at (take upper bytes) (take 32 (drop upper bytes)) upper front
            ∙ ap (take 32) (drop-drop upper (32 * low) tape ∙ ap (λ (n : ℕ). drop n tape) (let q : 32 * low + upper ≡ 32 * (low + j) = omega arith in q));
      }

  pub chunks_from_top : (s : RChunksExact ℕ) → Left s → YieldsList rchunks_exact_steps (λ (x : Bor (List ℕ)). x.now) s (shown s)
  chunks_from_top = YieldsList-from_shown_while rchunks_exact_steps (λ x. x.now) shown Left none some
    where
      none : (s t : RChunksExact ℕ) → Left s → rchunks_exact_steps s None t → length (shown s) ≡ 0
      none s t p e = top_length tape (low + left s) (left s) ∙ (let z : left s ≡ 0 = omega (arith, p.0, e.2.0) in z)

      some : (s : RChunksExact ℕ) (x : Bor (List ℕ)) (t : RChunksExact ℕ) → Left s → rchunks_exact_steps s (Some x) t → Left t × (shown s ≡ x.now ∷ shown t)
      some s x t p e =
          let m : ℕ = p.1.0 in
          let rest : List ℕ = rchunks_exact_rest t in
          let long : length x.now ≡ 32 = e.2.1 ∙ p.0 in
          let before : length (rchunks_exact_rest s) ≡ 32 * m = ap length p.1.1 ∙ length-take-le (32 * m) bytes p.1.2 in
          let more : length (rchunks_exact_rest s) ≡ length rest + 32 = ap length e.2.0 ∙ length-append rest x.now ∙ ap (λ (n : ℕ). length rest + n) long in
          let whole : take (32 * (m - 1 + 1)) bytes ≡ rest ++ x.now = ap (λ (n : ℕ). take n bytes) (let q : 32 * (m - 1 + 1) ≡ 32 * m = omega arith in q) ∙ sym p.1.1 ∙ e.2.0 in
          let n = next (m - 1) rest x.now whole long (omega (arith, p.1.2)) in
          let top : ℕ = low + left t + 1 in (
            (e.0 ∙ p.0, (m - 1, n.rest_is, omega (arith, p.1.2))),
            ap₂ (top_records tape) (let q : low + left s ≡ top = omega arith in q) (let q : left s ≡ suc (left t) = omega arith in q)
                ∙ ap₂ (λ (r : List ℕ) (k : ℕ). r ∷ top_records tape k (left t)) (ap (record_at tape) (let q : top - 1 ≡ low + (m - 1) = omega arith in q) ∙ sym n.x_is) (let q : top - 1 ≡ low + left t = omega arith in q),
          )
