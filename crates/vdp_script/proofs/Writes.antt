-- Laws of an item's bytes stored:
--     part_stored           bytes stored as a part of a script are stored one after the other
--     room                  what writing leaves where there is room
use Prim.Native.Nat.{ℕ, ◌+◌, ◌≤◌}
use mathlib.Core.Path.{◌≡◌, refl, sym, ap, ap₂, ◌∙◌}
use mathlib.Core.List.{List, ◌++◌, append_assoc}
use borrow.Author.Tests.{le-leb}
use borrow.Rule.Slice.PartMut.{put_mid}
use lib.ListN.{length, take, drop}
use lib.Seq.{sets, sets-eq}
use Rattle.std.proofs.lemmas.List.Edits.{paste_all}
use Rattle.std.proofs.lemmas.Slice.{put_mid-paste}
use Rattle.vdp_script.specs.declared.item.Item.{Item}
use Rattle.vdp_script.specs.Item.{item_bytes, byte_after}
use Rattle.vdp_script.specs.Write.{write_outcome, written, write_item}

pub part_stored : (s part bytes : List ℕ) (at n : ℕ) → part ≡ bytes → n ≡ length bytes → at + length bytes ≤ length s → put_mid at n s part ≡ sets s at bytes
part_stored s part bytes at n p k h =
    put_mid-paste at n s part bytes n p refl k
    ∙ paste_all s at bytes n k
    ∙ ap (λ (m : ℕ). take at s ++ (bytes ++ drop (at + m) s)) k
    ∙ sym (sets-eq bytes s at h ∙ append_assoc (take at s) bytes (drop (at + length bytes) s))

module _ (s : List ℕ) (at : ℕ) (i : Item) where
  pub room : (n : ℕ) (l : List ℕ) → byte_after at i ≤ length s → n ≡ length (item_bytes i) → l ≡ sets s at (item_bytes i) → write_outcome (written 0 (at + n)) l ≡ write_item s at i
  room n l h e stored =
      ap₂ (λ (m : ℕ) (x : List ℕ). write_outcome (written 0 (at + m)) x) e stored ∙ (simp (le-leb (byte_after at i) (length s) h))
