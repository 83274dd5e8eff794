-- The invariant: what is kept and visited so far, before the walk that is left, is the whole walk.
use Rattle.std.proofs.Common.{◌≡◌, ◌-◌, ◌≤◌, length}
use Rattle.vdp_sprites.proofs.Walked.{joined}
use Rattle.vdp_sprites.specs.Walk.{walk_from, walk}
use Rattle.vdp_sprites.proofs.walk.walk.Given as goal

abbrev pub invariant-loop-before : goal.invariant-loop-before
invariant-loop-before l = record {
  fits : length l.kept.items ≤ l.room;
  few : l.room ≤ 20;
  is : joined l.kept.items l.before (walk_from l.table.vram.now l.table.base l.wide l.line (l.most - l.before) (l.room - length l.kept.items) l.i) ≡ walk l.table.vram.now l.table.base l.wide l.line;
}
