-- A digest: h := 0; for each byte h := (h * 16,777,619 + byte + 1) mod 2^32.
use Rattle.std.specs.Prelude.{ℕ, ◌+◌, ◌*◌, ◌%◌, ◌^◌, List, [], ◌∷◌}

abbrev pub step : ℕ → ℕ → ℕ
step h b = (h * 16777619 + b + 1) % 2 ^ 32

-- the digest that goes on from h over the bytes
abbrev pub digest : ℕ → List ℕ → ℕ
digest h [] = h
digest h (b ∷ bs) = digest (step h b) bs
