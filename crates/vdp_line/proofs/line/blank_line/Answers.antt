-- Every visible column is backdrop.
use Rattle.std.proofs.Common.{◌≡◌, ℕ, zero, suc, List, [], ◌∷◌, ◌++◌, length, take, drop, replicate, refl, sym, ap, ap₂, ◌∙◌, add-one, arith}
use Rattle.std.proofs.Math.Seq.{length-take-le}
use Rattle.std.proofs.lemmas.Grind.{replicate_next}
use Rattle.vdp_draw.specs.Tabulate.{tabulate}
use Rattle.vdp_draw.specs.Width.{width_of}
use Rattle.vdp_line.proofs.Bounds.{width_small}
use Rattle.vdp_line.specs.Layout.{wide, backdrop}
use Rattle.vdp_line.proofs.line.blank_line.Goals as goal

all_same : (b n : ℕ) → replicate n b ≡ tabulate (λ _. b) n
all_same b zero = refl
all_same b (suc n) = ap (λ (k : ℕ). replicate k b) (sym (add-one n)) ∙ replicate_next n b ∙ ap (λ (r : List ℕ). r ++ b ∷ []) (all_same b n)

pub returns-clause-columns : goal.returns-clause-columns
returns-clause-columns c =
    let a = c.args in
    let px = a.pixels.now in
    let width = width_of (wide a.s) in
    let n : c.width_of.result ≡ width = c.width_of.ensures ∙ ap width_of c.wide.ensures in
    let long : length (take c.width_of.result px) ≡ width = length-take-le c.width_of.result px (omega (arith, width_small (wide a.s), n)) ∙ n in
    ap₂ ◌++◌ (c.fill.ensures.after (λ y e. e) ∙ ap₂ replicate long c.backdrop.ensures ∙ all_same (backdrop a.s) width) (ap (λ (k : ℕ). drop k px) n)
