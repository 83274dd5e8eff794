-- The colour word: definition, Ports, The colour word. Notes s9 draw it, bit 15 first, as
--     ----bbb-ggg-rrr-
use Rattle.std.specs.Prelude.{ℕ, ◌+◌, ◌*◌, ◌/◌, ◌%◌}
use Rattle.vdp_state.specs.declared.colour.Parts.{Parts}

-- "Its blue part is its bits 11-9, its green part its bits 7-5 and its red part its bits 3-1, each 0 to 7."
abbrev pub blue : ℕ → ℕ
blue w = w / 512 % 8  -- bits 11-9

abbrev pub green : ℕ → ℕ
green w = w / 32 % 8  -- bits 7-5

abbrev pub red : ℕ → ℕ
red w = w / 2 % 8  -- bits 3-1

-- the three, taken out of a word
abbrev pub parts_of : ℕ → Parts
parts_of w = record { blue = blue w; green = green w; red = red w }

-- "The bits of 0EEEh of a word are its three parts joined, each where it was, with 0 in the other bits."
unfoldable pub colour_word : ℕ → ℕ
colour_word w = blue w * 512 + green w * 32 + red w * 2
