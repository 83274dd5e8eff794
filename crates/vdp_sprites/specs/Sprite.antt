-- A sprite of the table: definition, Drawing; notes s15.
use Rattle.std.specs.Prelude.{ℕ, ◌+◌, ◌*◌, ◌/◌, ◌%◌, Bool, ◌&&◌, List, leb, ltb, get_or}
use Rattle.vdp_state.specs.Cell.{word_at}
use Rattle.vdp_sprites.specs.declared.sprite.Sprite.{Sprite}

-- "Y, the low 9 bits of the word"; "bits 3-2 are the width in cells less one, bits 1-0 the height in cells less one";
-- "the link, the low 7 bits"; "the cell word"; "X, the low 9 bits of the word"; of the sprite whose first byte lies at
-- a place
abbrev pub sprite_from : List ℕ → ℕ → Sprite
sprite_from vram place =
    record {
      y = word_at vram place % 512;
      columns = get_or vram (place + 2) 0 / 4 % 4 + 1;
      rows = get_or vram (place + 2) 0 % 4 + 1;
      link = get_or vram (place + 3) 0 % 128;
      cell = word_at vram (place + 4);
      x = word_at vram (place + 6) % 512;
    }

-- "Sprite i is the 8 bytes at base + 8 x i"
abbrev pub sprite_place : ℕ → ℕ → ℕ
sprite_place base i = base + 8 * i

abbrev pub sprite_at : List ℕ → ℕ → ℕ → Sprite
sprite_at vram base i = sprite_from vram (sprite_place base i)

-- a line of the screen crosses the sprite, which begins on "line Y - 128"
abbrev pub on_line : Sprite → ℕ → Bool
on_line s line = leb s.y (line + 128) && ltb (line + 128) (s.y + 8 * s.rows)
