-- Serves proofs only: what a call that shows a column is said to give.
use Rattle.std.specs.Prelude.{ℕ, ◌≡◌}
use Rattle.vdp_line.specs.declared.mix.Dots.{Dots}

-- whatever a call may give for the dots of a column is what p says of them
abbrev pub Shows : (Dots → ℕ → Type 0) → (ℕ → ℕ → ℕ → ℕ) → Type 0
Shows post p = (d : Dots) → (pixel : ℕ) → post d pixel → pixel ≡ p d.b d.a d.sprite
