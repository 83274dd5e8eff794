-- A loop that digests the bytes one after the other: what is left at index i is the digest over those from i on.
use Prim.Native.Nat.{ℕ, ◌+◌, ◌<◌, ◌≤◌}
use mathlib.Core.Path.{◌≡◌, sym, ap, ◌∙◌}
use mathlib.Core.List.{List}
use native.Mathlib.Numerals.{add-one}
use lib.ListN.{length, get_or, drop, drop_of_length-le}
use lib.Seq.{drop-cons}
use Rattle.stream.specs.Digest.{step, digest}

module _ (h : ℕ) (l : List ℕ) (i : ℕ) where
  -- the byte at i is digested, and the others are left
  pub digest_more : i < length l → digest h (drop i l) ≡ digest (step h (get_or l i 0)) (drop (i + 1) l)
  digest_more le = ap (digest h) (drop-cons l i 0 le) ∙ ap (λ n. digest (step h (get_or l i 0)) (drop n l)) (sym (add-one i))

  -- nothing is left
  pub digest_ended : length l ≤ i → digest h (drop i l) ≡ h
  digest_ended le = ap (digest h) (drop_of_length-le l le)
