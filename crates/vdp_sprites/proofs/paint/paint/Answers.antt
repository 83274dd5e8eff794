-- One column more is painted, and the columns painted are all of the screen's.
use Rattle.std.proofs.Common.{◌≡◌, ℕ, ◌+◌, ◌-◌, min, Bool, ◌&&◌, ◌||◌, List, length, get_or, set, ap, ap₂, ◌∙◌, arith}
use Rattle.vdp_draw.specs.Dot.{solid, block_dot}
use Rattle.vdp_draw.specs.Painted.{painted, any_from}
use Rattle.vdp_draw.proofs.Painted.{painted_past, painted_turn, any_turn}
use Rattle.vdp_sprites.proofs.Painting.{dot_inside_lem, whole, whole_meets}
use Rattle.vdp_sprites.specs.Behind.{under}
use Rattle.vdp_sprites.specs.Column.{shown_dot}
use Rattle.vdp_sprites.specs.Shown.{shown}
use Rattle.vdp_sprites.proofs.paint.paint.Goals as goal

pub loop-x-preserved : goal.loop-x-preserved
loop-x-preserved c =
    let l = c.loop-x in
    let a = c.args in
    let from = c.saturating_sub-from.result in
    let paints : ℕ → ℕ → ℕ = λ y old. under old (shown_dot a.vram.now a.line (shown a.s a.columns) y) in
    let tests : ℕ → Bool = λ y. solid (get_or a.dots.now y 0) && solid (shown_dot a.vram.now a.line (shown a.s a.columns) y) in
    let old : get_or l.dots l.x 0 ≡ get_or a.dots.now l.x 0 =
    ap (λ (r : List ℕ). get_or r l.x 0) l.invariant.painted_so_far ∙ painted_past paints from a.dots.now (l.x - from) l.x (omega arith) in
    let row : c.saturating_sub-row.result ≡ a.line + 128 - a.s.y = omega arith in
    let column : l.x + 128 - c.from-left.result ≡ l.x + 128 - a.s.x = omega arith in
    let dot-here : c.block_dot-dot.result ≡ shown_dot a.vram.now a.line (shown a.s a.columns) l.x =
    c.block_dot-dot.ensures
    ∙ ap₂ (block_dot a.vram.now a.s.cell a.s.columns a.s.rows) row column
    ∙ dot_inside_lem a.vram.now a.line a.s a.columns (length a.dots.now) l.x (omega arith) (omega arith) in record {
      within = omega arith;
      painted_so_far = ap (set l.dots l.x) (c.under.ensures ∙ ap₂ under old dot-here) ∙ painted_turn paints from a.dots.now l.x l.dots (omega arith) l.invariant.painted_so_far;
      met_so_far = ap₂ ◌||◌ l.invariant.met_so_far (ap₂ ◌&&◌ (c.solid.ensures ∙ ap solid old) (c.solid-in-loop-x.ensures ∙ ap solid dot-here)) ∙ any_turn tests from l.x (omega arith);
    }

pub returns-clause-dots_after : goal.returns-clause-dots_after
returns-clause-dots_after c =
    let l = c.loop-x in
    let a = c.args in
    let paints : ℕ → ℕ → ℕ = λ y old. under old (shown_dot a.vram.now a.line (shown a.s a.columns) y) in
    let from : c.saturating_sub-from.result ≡ a.s.x - 128 = omega arith in
    let made : l.x - c.saturating_sub-from.result ≡ min (length a.dots.now) (a.s.x + a.columns - 128) - (a.s.x - 128) = omega arith in
    l.invariant.painted_so_far ∙ ap₂ (λ (f n : ℕ). painted paints f n a.dots.now) from made
    ∙ whole a.vram.now a.line a.s a.columns (length a.dots.now) a.dots.now (omega arith)

pub returns-clause-value : goal.returns-clause-value
returns-clause-value c =
    let l = c.loop-x in
    let a = c.args in
    let tests : ℕ → Bool = λ y. solid (get_or a.dots.now y 0) && solid (shown_dot a.vram.now a.line (shown a.s a.columns) y) in
    let from : c.saturating_sub-from.result ≡ a.s.x - 128 = omega arith in
    let made : l.x - c.saturating_sub-from.result ≡ min (length a.dots.now) (a.s.x + a.columns - 128) - (a.s.x - 128) = omega arith in
    l.invariant.met_so_far ∙ ap₂ (any_from tests) from made
    ∙ whole_meets a.vram.now a.line a.s a.columns (length a.dots.now) a.dots.now (omega arith)
