-- Records on a tape: a new one is read where it was written, and those below it stay; the copy that stores one.
use Prim.Native.Nat.{ℕ, ◌+◌, ◌-◌, ◌*◌, ◌<◌, ◌≤◌}
use borrow.Rule.Slice.PartMut.{put_mid}
use mathlib.Core.Path.{◌≡◌, refl, sym, ap, ◌∙◌}
use mathlib.Core.List.{List, ◌++◌, append_assoc}
use native.Mathlib.Omega.{arith}
use lib.ListN.{length, take, drop, take-append-drop, length-drop}
use lib.Seq.{sets, sets-eq, length-take-le, drop-append-le, take-append-le, drop_at, take_at}
use Rattle.std.proofs.lemmas.List.Edits.{paste_all}
use Rattle.std.proofs.lemmas.Slice.{put_mid-paste}
use Rattle.vdp_tape.specs.Record.{record_at}

module _ (tape bytes : List ℕ) (count : ℕ) (long : length bytes ≡ 32) (room : 32 * count + 32 ≤ length tape) where
  abbrev place : ℕ
  place = 32 * count

  head_length : length (take place tape) ≡ place
  head_length = length-take-le place tape (omega arith)

  written : sets tape place bytes ≡ take place tape ++ (bytes ++ drop (place + length bytes) tape)
  written = sets-eq bytes tape place (omega arith) ∙ append_assoc (take place tape) bytes (drop (place + length bytes) tape)

  pub record_new : record_at (sets tape place bytes) count ≡ bytes
  record_new =
      ap (λ (l : List ℕ). take 32 (drop place l)) written
      ∙ ap (take 32) (drop_at (take place tape) (bytes ++ drop (place + length bytes) tape) place head_length)
      ∙ take_at bytes (drop (place + length bytes) tape) 32 long

  -- a record below is read from what stands before the new one
  below : (rest : List ℕ) (i : ℕ) → i < count → record_at (take place tape ++ rest) i ≡ take 32 (drop (32 * i) (take place tape))
  below rest i h =
      let in_head : 32 * i ≤ length (take place tape) = omega (arith, head_length) in
      ap (take 32) (drop-append-le (32 * i) (take place tape) rest in_head)
      ∙ take-append-le 32 (drop (32 * i) (take place tape)) rest (let q : length (drop (32 * i) (take place tape)) ≡ length (take place tape) - 32 * i = length-drop (32 * i) (take place tape) in omega (arith, head_length))

  pub record_kept : (i : ℕ) → i < count → record_at (sets tape place bytes) i ≡ record_at tape i
  record_kept i h =
      ap (λ (l : List ℕ). record_at l i) written ∙ below _ i h
      ∙ sym (ap (λ (l : List ℕ). record_at l i) (sym (take-append-drop place tape)) ∙ below (drop place tape) i h)

-- ---- bytes copied over a part
pub put_sets : (tape bytes : List ℕ) (at k : ℕ) → k ≡ length bytes → at + length bytes ≤ length tape → put_mid at k tape bytes ≡ sets tape at bytes
put_sets tape bytes at k long room =
    put_mid-paste at k tape bytes bytes (length bytes) refl (sym long) refl
    ∙ paste_all tape at bytes (length bytes) refl
    ∙ sym (append_assoc (take at tape) bytes (drop (at + length bytes) tape))
    ∙ sym (sets-eq bytes tape at room)
