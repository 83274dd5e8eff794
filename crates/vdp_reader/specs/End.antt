-- The end notice to a reader: definition, Scripts, The reader.
use Rattle.std.specs.Prelude.{ℕ, cond, eqb}
use Rattle.vdp_state.specs.Answer.{number_in}
use Rattle.vdp_reader.specs.declared.end.Ended.{Ended}
use Rattle.vdp_reader.specs.declared.reader.Reader.{Reader}
use Rattle.vdp_reader.specs.Reader.{stopped, goes_on, answers}

-- what the end notice answers: the number, and the reader that is left
pub record EndAnswer : Type 0 where
  pub number : ℕ
  pub reader : Reader

-- by what it gives
abbrev pub end_answer_of : Ended → EndAnswer
end_answer_of e = record { number = number_in e.answer; reader = e.reader }

-- "The end notice stops a reader: in stage 1 with 0, in stages 0 and 2 to 6 with 11. A stopped reader and one outside its
-- ranges stay as they are."
abbrev pub ended : Reader → Reader
ended r = cond (goes_on r) (cond (eqb r.stage 1) (stopped 0) (stopped 11)) r

-- "It answers as a delivery does."
abbrev pub end_notice : Reader → EndAnswer
end_notice r = record { number = answers (ended r); reader = ended r }
