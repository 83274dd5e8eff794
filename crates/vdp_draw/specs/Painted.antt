-- Serves proofs only: a list whose columns are stored one after the other, as a loop over columns leaves it.
use Rattle.std.specs.Prelude.{ℕ, zero, suc, ◌+◌, Bool, false, ◌||◌, List, get_or, set}

-- n columns from `from` on, each made anew from its number and what the list held there
abbrev pub painted : (ℕ → ℕ → ℕ) → ℕ → ℕ → List ℕ → List ℕ
painted f from zero l = l
painted f from (suc n) l = set (painted f from n l) (from + n) (f (from + n) (get_or l (from + n) 0))

-- one of n columns from `from` on passes the test
abbrev pub any_from : (ℕ → Bool) → ℕ → ℕ → Bool
any_from p from zero = false
any_from p from (suc n) = any_from p from n || p (from + n)
