-- Calls made one after the other, with nothing called between: each is given the chip that the one before left and a
-- number of its own, a data write its word and a run its budget.
use Rattle.std.specs.Prelude.{ℕ, ◌+◌, ◌≡◌, List, [], ◌∷◌}
use Rattle.vdp_state.specs.Answer.{Outcome}
use Rattle.vdp_state.specs.State.{Chip, chip}

-- the chip that a call leaves
abbrev pub left : Outcome → Chip
left o = chip o.answer.state o.vram

-- the chip after all of them
abbrev pub in_turn : (Chip → ℕ → Outcome) → List ℕ → Chip → Chip
in_turn call [] c = c
in_turn call (n ∷ ns) c = in_turn call ns (left (call c n))

-- none of them is refused
abbrev pub NoneRefused : (Chip → ℕ → Outcome) → List ℕ → Chip → Type 0
NoneRefused call [] c = Unit {0}
NoneRefused call (n ∷ ns) c = ((call c n).answer.number ≡ 0) × NoneRefused call ns (left (call c n))

-- their results, added up
abbrev pub results_of : (Chip → ℕ → Outcome) → List ℕ → Chip → ℕ
results_of call [] c = 0
results_of call (n ∷ ns) c = (call c n).answer.result + results_of call ns (left (call c n))
