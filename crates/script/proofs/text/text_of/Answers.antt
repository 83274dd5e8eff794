-- A line that was written, piece by piece, stands in the text that was empty before.
use Rattle.std.proofs.Common.{◌∙◌, ap, ◌++◌}
use Rattle.std.proofs.lemmas.Fmt.{contents_after_writes}
use Rattle.script.specs.Text.{line_text}
use Rattle.script.proofs.text.text_of.Goals as goal

pub returns : goal.returns
returns c =
    contents_after_writes _ (λ s. s.bytes) (λ _ _ _ t. t) _ _ _ c.in_ok-write.ensures.writes ∙ ap (λ bs. bs ++ line_text c.args.line.place c.args.line.number c.args.line.result) c.new-text.ensures
