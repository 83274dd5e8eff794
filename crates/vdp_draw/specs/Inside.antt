-- Inside VRAM: places below 65,536 (definition, Drawing, Tables in VRAM).
use Rattle.std.specs.Prelude.{ℕ, ◌+◌, ◌≤◌, ◌≡◌, List, get_or}

-- so many bytes from a place on all lie below 65,536
abbrev pub Inside : ℕ → ℕ → Type 0
Inside place bytes = place + bytes ≤ 65536

-- two memories that hold the same there, whatever each holds past FFFFh
abbrev pub SameInside : List ℕ → List ℕ → Type 0
SameInside m m' = (place : ℕ) → Inside place 1 → get_or m place 0 ≡ get_or m' place 0
