-- The invariant: the sprites that are left, put behind what stands there, give what all of them give.
use Rattle.std.proofs.Common.{◌≡◌, ℕ, Bool, false, ◌||◌, List, map, length, drop}
use Rattle.vdp_sprites.specs.Behind.{behind_all, meets_all}
use Rattle.vdp_sprites.specs.Shown.{Shown, shown_from}
use Rattle.vdp_sprites.specs.Sprite.{sprite_at}
use Rattle.vdp_sprites.proofs.paint.paint_kept.Given as goal

-- what the sprites from k on show
abbrev pub rest : List ℕ → ℕ → List ℕ → ℕ → Bool → Bool → ℕ → List Shown
rest vram base kept left canMask masked k = shown_from left canMask masked (map (sprite_at vram base) (drop k kept))

abbrev pub invariant-loop-i : goal.invariant-loop-i
invariant-loop-i l =
    let t = l.table in
    let width = length l.initial.dots in
    let all = rest t.vram.now t.base l.i-items width l.began false 0 in
    let others = rest t.vram.now t.base l.i-items l.left l.can_mask l.masked l.i-index in
    record {
      dots_after : behind_all t.vram.now l.line width others l.dots ≡ behind_all t.vram.now l.line width all l.initial.dots;
      value : (l.met || meets_all t.vram.now l.line width others l.dots) ≡ meets_all t.vram.now l.line width all l.initial.dots;
    }
