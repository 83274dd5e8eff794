-- A blanked line.
use Rattle.std.proofs.Common.{◌≡◌, false, sym, ◌∙◌, rules}
use Rattle.vdp_line.proofs.Made.{made_blank}
use Rattle.vdp_line.specs.Layout.{displayed}
use Rattle.vdp_state.specs.State.{chip}
use Rattle.vdp_line.proofs.line.line.Goals as goal

pub returns-else-displayed : goal.returns-else-displayed
returns-else-displayed c =
    let a = c.args in
    let dark : displayed a.s ≡ false = sym c.displayed.ensures ∙ c.if-displayed.false in
    let made = made_blank (chip a.s a.vram.now) a.line a.pixels.now dark in
    search rules
