-- The sprites found, the columns drawn, and the flags set.
use Rattle.std.proofs.Common.{◌≡◌, ℕ, Bool, List, ap, ap₂, ◌∙◌, arith}
use Rattle.vdp_draw.proofs.Painted.{painted_all}
use Rattle.vdp_draw.specs.Width.{width_of}
use Rattle.vdp_line.proofs.Bounds.{width_small}
use Rattle.vdp_line.proofs.Made.{made_shown}
use Rattle.vdp_line.specs.Layout.{wide}
use Rattle.vdp_line.specs.Line.{sprites_of, mixed, drawn, flagged, line_outcome}
use Rattle.vdp_sprites.specs.SpriteLine.{sprite_line}
use Rattle.vdp_sprites.specs.declared.sprite_line.SpriteLine.{SpriteLine}
use Rattle.vdp_state.specs.Answer.{done}
use Rattle.vdp_state.specs.State.{chip, with_control}
use Rattle.vdp_state.specs.declared.state.Control.{Control}
use Rattle.vdp_line.proofs.line.shown_line.Goals as goal

pub returns : goal.returns
returns c =
    let a = c.args in
    let k = chip a.s a.vram.now in
    let f = c.sprite_line-found.result in
    let found : f ≡ sprites_of k a.line =
    c.sprite_line-found.ensures ∙ ap₂ (λ (b : ℕ) (w : Bool). sprite_line a.vram.now b w a.s.control.flags.used_up a.line) c.base_sprites.ensures c.wide.ensures in
    ap (λ (n : ℕ). line_outcome (done n (with_control a.s c.flagged.result)) c.draw_columns.new.pixels) c.from.ensures
    ∙ ap₂ (λ (ctl : Control) (px : List ℕ). line_outcome (done f.visits (with_control a.s ctl)) px) c.flagged.ensures
    (c.draw_columns.ensures ∙ painted_all (mixed k a.line f.dots) (width_of (wide a.s)) a.pixels.now (omega (arith, width_small (wide a.s))))
    ∙ ap (λ (r : SpriteLine). line_outcome (done r.visits (with_control a.s (flagged a.s.control r))) (drawn a.s (mixed k a.line r.dots) a.pixels.now)) found
    ∙ made_shown k a.line a.pixels.now c.requires
