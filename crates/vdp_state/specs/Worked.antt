-- Tables of worked cases (definition, Worked cases): what is given, and what should be.
use Rattle.std.specs.Prelude.{ℕ, Bool, true, ◌&&◌, List, [], ◌∷◌}
use Rattle.vdp_state.specs.Same.{same}

pub record Case : Type 0 where
  pub given : List ℕ
  pub should : List ℕ

abbrev pub gives : List ℕ → List ℕ → Case
gives g s = record { given = g; should = s }

-- every case gives what it should
abbrev pub all_given : List Case → Bool
all_given [] = true
all_given (c ∷ cs) = same c.given c.should && all_given cs
