-- An accepted line, blanked and displayed.
use Prim.Native.Nat.{ℕ}
use mathlib.Core.Path.{◌≡◌}
use mathlib.Core.Bool.{true, false}
use mathlib.Core.List.{List}
use Rattle.vdp_state.specs.Answer.{done}
use Rattle.vdp_state.specs.State.{Chip, with_control}
use Rattle.vdp_line.specs.Layout.{displayed, backdrop}
use Rattle.vdp_line.specs.Line.{sprites_of, mixed, drawn, flagged, blanked, line_outcome, line_made}

module _ (c : Chip) (n : ℕ) (pixels : List ℕ) where
  pub made_blank : displayed c.state ≡ false → line_outcome (done 0 (with_control c.state (blanked c.state.control))) (drawn c.state (λ x. backdrop c.state) pixels) ≡ line_made c n pixels
  made_blank e = simp e

  pub made_shown : displayed c.state ≡ true
      → let found = sprites_of c n in
      line_outcome (done found.visits (with_control c.state (flagged c.state.control found))) (drawn c.state (mixed c n found.dots) pixels) ≡ line_made c n pixels
  made_shown e = simp e
