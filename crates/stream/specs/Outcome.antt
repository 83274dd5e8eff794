-- What a call answers, as a line shows it: the number, 0 if it is done, and the result.
use Rattle.std.specs.Prelude.{ℕ, Result, Ok, Err}
use Rattle.vdp_state.specs.Answer.{number}
use Rattle.vdp_state.specs.declared.answer.Refusal.{Refusal}
use Rattle.vdp_script.specs.declared.form.Fault.{Fault}
use Rattle.stream.specs.declared.outcome.Outcome.{Outcome}

-- refused, the result is 0
abbrev pub outcome_of : Result ℕ Refusal → Outcome
outcome_of (Ok n) = record { number = 0; result = n }
outcome_of (Err r) = record { number = number r; result = 0 }

-- of a script: how many items it has, or the place of the item that is at fault
abbrev pub script_outcome_of : Result ℕ Fault → Outcome
script_outcome_of (Ok n) = record { number = 0; result = n }
script_outcome_of (Err f) = record { number = number f.refusal; result = f.place }
