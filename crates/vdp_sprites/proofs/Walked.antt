-- A walk cut in two: what has been kept and visited so far, before the walk that is left.
use Prim.Native.Nat.{ℕ, suc, ◌+◌, ◌-◌, ◌<◌, ◌≤◌}
use mathlib.Core.Path.{◌≡◌, sym, ap, ap₂, subst, ◌∙◌}
use mathlib.Core.Bool.{Bool, true, false}
use mathlib.Core.List.{List, [], ◌∷◌, ◌++◌, append_assoc, append-nil}
use native.Mathlib.Omega.{arith}
use borrow.Author.Tests.{eq-eqb, ne_eqb}
use lib.ListN.{length, length-append}
use Rattle.vdp_sprites.specs.declared.sprite.Sprite.{Sprite}
use Rattle.vdp_sprites.specs.Sprite.{sprite_at, on_line}
use Rattle.vdp_sprites.specs.Walk.{Walk, walk_of, onward, walk_from}

abbrev pub joined : List ℕ → ℕ → Walk → Walk
joined kept visits w = walk_of (kept ++ w.kept) (visits + w.visits) w.overflow

-- nothing is left to visit
pub joined_end : (kept : List ℕ) (visits : ℕ) (overflow : Bool) → walk_of kept visits overflow ≡ joined kept visits (walk_of [] 0 overflow)
joined_end kept visits overflow =
    let none : visits ≡ visits + 0 = omega arith in
    ap₂ (λ (k : List ℕ) (n : ℕ). walk_of k n overflow) (sym (append-nil kept)) none

counted : (v n : ℕ) → v + (n + 1) ≡ v + 1 + n
counted v n = omega arith

-- one visit, with visits left: of sprite i, the next of `most`, where `room` sprites may be on the line
module _ (vram : List ℕ) (base : ℕ) (wide : Bool) (line most visits i : ℕ) (kept : List ℕ) (more : visits < most) (s : Sprite) (e : s ≡ sprite_at vram base i) where
  abbrev at : ℕ → Walk
  at r = walk_from vram base wide line (most - visits) r i

  abbrev next : ℕ → Walk
  next r = onward wide s (walk_from vram base wide line (most - (visits + 1)) r s.link)

  abbrev after : Sprite → ℕ → Walk
  after t r = onward wide t (walk_from vram base wide line (most - (visits + 1)) r t.link)

  one_less : most - visits ≡ suc (most - (visits + 1))
  one_less = omega arith

  begun : (r : ℕ) → at r ≡ walk_from vram base wide line (suc (most - (visits + 1))) r i
  begun r = ap (λ (n : ℕ). walk_from vram base wide line n r i) one_less

  -- one sprite too many
  pub visit_overflow : (r : ℕ) → on_line s line ≡ true → r ≡ 0 → joined kept visits (at r) ≡ walk_of kept (visits + 1) true
  visit_overflow r h z =
      let h' : on_line (sprite_at vram base i) line ≡ true = subst (λ (t : Sprite). on_line t line ≡ true) e h in
      ap (joined kept visits) (begun r) ∙ simp (h', eq-eqb r 0 z) (ap₂ (λ (k : List ℕ) (n : ℕ). walk_of k n true) (append-nil kept) (let n : visits + (0 + 1) ≡ visits + 1 = omega arith in n))

  -- a sprite beside the line
  pub visit_pass : (r : ℕ) → on_line s line ≡ false → joined kept visits (at r) ≡ joined kept (visits + 1) (next r)
  visit_pass r h =
      let h' : on_line (sprite_at vram base i) line ≡ false = subst (λ (t : Sprite). on_line t line ≡ false) e h in
      let w = after (sprite_at vram base i) r in
      ap (joined kept visits) (begun r) ∙ simp h' (ap (λ (n : ℕ). walk_of (kept ++ w.kept) n w.overflow) (counted visits w.visits))
      ∙ ap (λ (t : Sprite). joined kept (visits + 1) (after t r)) (sym e)

  -- a sprite kept
  pub visit_keep : (r : ℕ) → on_line s line ≡ true → (r ≡ 0 → ⊥) → joined kept visits (at r) ≡ joined (kept ++ (i ∷ [])) (visits + 1) (next (r - 1))
  visit_keep r h z =
      let h' : on_line (sprite_at vram base i) line ≡ true = subst (λ (t : Sprite). on_line t line ≡ true) e h in
      let w = after (sprite_at vram base i) (r - 1) in
      ap (joined kept visits) (begun r)
      ∙ simp (h', ne_eqb r 0 z) (ap₂ (λ (k : List ℕ) (n : ℕ). walk_of k n w.overflow) (sym (append_assoc kept (i ∷ []) w.kept)) (counted visits w.visits))
      ∙ ap (λ (t : Sprite). joined (kept ++ (i ∷ [])) (visits + 1) (after t (r - 1))) (sym e)

-- a visit that goes on, kept or passed by: what is kept has room, and the walk goes on from the link
module _ (vram : List ℕ) (base : ℕ) (wide : Bool) (line most room visits i : ℕ) (more : visits < most) (s : Sprite) (e : s ≡ sprite_at vram base i) (whole : Walk) where
  abbrev pub Met : List ℕ → Type 0
  Met kept =
      (length kept ≤ room)
      × (joined kept (visits + 1) (onward wide s (walk_from vram base wide line (most - (visits + 1)) (room - length kept) s.link)) ≡ whole)

  module _ (kept : List ℕ) (fits : length kept ≤ room) (is : joined kept visits (walk_from vram base wide line (most - visits) (room - length kept) i) ≡ whole) where
    pub passed : on_line s line ≡ false → Met kept
    passed h = (fits, sym (visit_pass vram base wide line most visits i kept more s e (room - length kept) h) ∙ is)

    pub kept_on : on_line s line ≡ true → (length kept ≡ room → ⊥) → Met (kept ++ (i ∷ []))
    kept_on h differ =
        let longer : length (kept ++ (i ∷ [])) ≡ length kept + 1 = length-append kept (i ∷ []) in
        let less : room - length kept - 1 ≡ room - length (kept ++ (i ∷ [])) = omega arith in
        let some : room - length kept ≡ 0 → ⊥ = λ z. differ (omega (arith, fits, z)) in (
          omega (arith, fits, differ),
          sym
              (visit_keep vram base wide line most visits i kept more s e (room - length kept) h some
              ∙ ap (λ (r : ℕ). joined (kept ++ (i ∷ [])) (visits + 1) (onward wide s (walk_from vram base wide line (most - (visits + 1)) r s.link))) less)
              ∙ is,
        )
