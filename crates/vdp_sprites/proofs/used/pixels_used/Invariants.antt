-- The invariant: what has been used, with what the sprites that are left use, is what all of them use.
use Rattle.std.proofs.Common.{◌≡◌, ◌+◌, ◌*◌, ◌≤◌, map, drop}
use Rattle.vdp_sprites.specs.Sprite.{sprite_at}
use Rattle.vdp_sprites.specs.Used.{pixels_used}
use Rattle.vdp_sprites.proofs.used.pixels_used.Given as goal

-- a width has 8 bits in cells, so that a sprite uses 2,040 pixels at most
abbrev pub invariant-loop-i : goal.invariant-loop-i
invariant-loop-i l = record {
  few : l.used ≤ 2040 * l.i-index;
  is : l.used + pixels_used (map (sprite_at l.table.vram.now l.table.base) (drop l.i-index l.i-items)) ≡ pixels_used (map (sprite_at l.table.vram.now l.table.base) l.i-items);
}
