-- By the lemmas on a walk cut in two: one visit more, and where the walk ends.
use Rattle.std.proofs.Common.{◌≡◌, ℕ, ◌+◌, ◌-◌, false, length, sym, ap₂, ◌∙◌, arith}
use Rattle.vdp_sprites.proofs.Walked.{joined, joined_end, visit_overflow, Met, passed, kept_on}
use Rattle.vdp_sprites.specs.Walk.{walk_from, walk}
use Rattle.vdp_sprites.proofs.walk.walk.Goals as goal
use Rattle.vdp_sprites.proofs.walk.walk.Goals.{After-last, then-on_line+else-len-room, else-on_line}

-- the visit that the last test is asked of, kept or passed by
met : (c : After-last) → let l = c.loop-before in let a = c.args in let t = a.table in
    Met t.vram.now t.base a.wide a.line c.most_visits-most.result c.most_on_line-room.result l.before l.i c.loop-before-test.true c.sprite_at-s.result c.sprite_at-s.ensures (walk t.vram.now t.base a.wide a.line) c.if-on_line.kept.items
met c =
    let l = c.loop-before in
    let a = c.args in
    let t = a.table in
    let whole = walk t.vram.now t.base a.wide a.line in
    elim c.if-on_line.branch [
      | then-on_line+else-len-room w ↦ rw (w.kept-is, w.push.ensures.items) (kept_on t.vram.now t.base a.wide a.line c.most_visits-most.result c.most_on_line-room.result l.before l.i c.loop-before-test.true c.sprite_at-s.result c.sprite_at-s.ensures whole l.kept.items l.invariant.fits l.invariant.is (sym c.on_line.ensures ∙ w.if-on_line.true) (λ e. w.if-len-room.false (w.len.ensures.value ∙ e)))
      | else-on_line w ↦ rw w.kept-is (passed t.vram.now t.base a.wide a.line c.most_visits-most.result c.most_on_line-room.result l.before l.i c.loop-before-test.true c.sprite_at-s.result c.sprite_at-s.ensures whole l.kept.items l.invariant.fits l.invariant.is (sym c.on_line.ensures ∙ w.if-on_line.false))
    ]

pub returns-then-len-room : goal.returns-then-len-room
returns-then-len-room c =
    let l = c.loop-before in
    let a = c.args in
    let t = a.table in
    let full : c.most_on_line-room.result - length l.kept.items ≡ 0 = omega (arith, c.len.ensures.value, c.if-len-room.true) in
    sym (visit_overflow t.vram.now t.base a.wide a.line c.most_visits-most.result l.before l.i l.kept.items c.loop-before-test.true c.sprite_at-s.result c.sprite_at-s.ensures (c.most_on_line-room.result - length l.kept.items) (sym c.on_line.ensures ∙ c.if-on_line.true) full)
    ∙ l.invariant.is

pub returns-then-last : goal.returns-then-last
returns-then-last c =
    let m = met (goal.at.returns-then-last c).After-last in
    joined_end c.if-on_line.kept.items (c.loop-before.before + 1) false ∙ sym (simp (sym c.last.ensures ∙ c.if-last.true) at (sym m.1))

pub loop-before-preserved : goal.loop-before-preserved
loop-before-preserved c =
    let m = met (goal.at.loop-before-preserved c).After-last in record {
      fits = m.0;
      few = c.loop-before.invariant.few;
      is = simp (sym c.last.ensures ∙ c.if-last.false) at m.1;
    }

pub returns : goal.returns
returns c =
    let l = c.loop-before in
    let a = c.args in
    let t = a.table in
    let end : l.before ≡ c.most_visits-most.result = omega arith in
    let none : c.most_visits-most.result - l.before ≡ 0 = omega arith in
    joined_end l.kept.items c.most_visits-most.result false
    ∙ ap₂ (λ (v n : ℕ). joined l.kept.items v (walk_from t.vram.now t.base a.wide a.line n (c.most_on_line-room.result - length l.kept.items) l.i)) (sym end) (sym none)
    ∙ l.invariant.is
