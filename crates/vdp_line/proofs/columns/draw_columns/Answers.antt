-- With shadow and highlight and without.
use Rattle.std.proofs.Common.{◌≡◌, true, false, sym, ◌∙◌, rules}
use Rattle.vdp_line.proofs.Intensities.{as_mixed}
use Rattle.vdp_line.specs.Intensity.{pixel}
use Rattle.vdp_line.specs.Layout.{shadow, backdrop}
use Rattle.vdp_line.specs.Mix.{mix}
use Rattle.vdp_line.proofs.columns.draw_columns.Goals as goal

pub returns-then-shadow : goal.returns-then-shadow
returns-then-shadow c =
    let on : shadow c.args.s ≡ true = sym c.shadow.ensures ∙ c.if-shadow.true in
    let shown = c.paint_columns.ensures (pixel true (backdrop c.args.s)) (λ d r e. search rules) in
    rw on shown

pub returns-else-shadow : goal.returns-else-shadow
returns-else-shadow c =
    let off : shadow c.args.s ≡ false = sym c.shadow.ensures ∙ c.if-shadow.false in
    let shown = c.paint_columns-else-shadow.ensures (pixel false (backdrop c.args.s)) (λ d r e. let mixed : r ≡ mix (backdrop c.args.s) d.b d.a d.sprite = search rules in mixed ∙ sym (as_mixed (backdrop c.args.s) d.b d.a d.sprite)) in
    rw off shown
