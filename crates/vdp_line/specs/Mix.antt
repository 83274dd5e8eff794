-- Mixing: definition, Drawing ("A column shows the colour index of the solid dot that lies in front").
use Rattle.std.specs.Prelude.{ℕ, ◌%◌, Bool, cond, ◌&&◌}
use Rattle.vdp_draw.specs.Dot.{solid, high}

-- the colour index of a dot
abbrev pub index : ℕ → ℕ
index dot = dot % 64

-- a solid dot of high priority
abbrev pub in_front : ℕ → Bool
in_front dot = solid dot && high dot

-- asked from the front: "From the back to the front: low plane B, low plane A or window, low sprites, high plane B,
-- high plane A or window, high sprites."
unfoldable pub mix : ℕ → ℕ → ℕ → ℕ → ℕ
mix backdrop b a sprite =
    cond (in_front sprite) (index sprite)
    (cond (in_front a) (index a)
    (cond (in_front b) (index b)
    (cond (solid sprite) (index sprite) (cond (solid a) (index a) (cond (solid b) (index b) backdrop)))))
