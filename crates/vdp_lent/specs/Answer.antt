-- What a call gives to a caller who lent the state: definition, Calls for a host program.
use Rattle.vdp_state.specs.declared.state.State.{State}
use Rattle.vdp_state.specs.Answer.{Answer}
use Rattle.vdp_reader.specs.Deliver.{DeliveryAnswer}
use Rattle.vdp_reader.specs.End.{EndAnswer}
use Rattle.vdp_script.specs.Call.{ItemAnswer}
use Rattle.vdp_script.specs.Form.{Judged}
use Rattle.vdp_script.specs.Run.{RunAnswer}
use Rattle.vdp_script.specs.Write.{Written}
use Rattle.vdp_tape.specs.Recorder.{TapeAnswer}
use Rattle.vdp_lent.specs.declared.answer.LentAnswer.{LentAnswer}
use Rattle.vdp_lent.specs.declared.answer.LentTapeAnswer.{LentTapeAnswer}
use Rattle.vdp_lent.specs.declared.answer.LentItemAnswer.{LentItemAnswer}
use Rattle.vdp_lent.specs.declared.answer.LentScriptAnswer.{LentScriptAnswer}
use Rattle.vdp_lent.specs.declared.answer.LentDelivery.{LentDelivery}
use Rattle.vdp_lent.specs.declared.answer.LentEnd.{LentEnd}
use Rattle.vdp_lent.specs.declared.answer.LentJudged.{LentJudged}
use Rattle.vdp_lent.specs.declared.answer.LentWritten.{LentWritten}

-- what was given and the lent state at exit are together the answer of the call by value
abbrev pub with_state : LentAnswer → State → Answer
with_state g s = record { number = g.number; result = g.result; state = s }

-- the same of a recorded call and of a step back
abbrev pub with_tape_state : LentTapeAnswer → State → TapeAnswer
with_tape_state g s = record { number = g.number; result = g.result; count = g.count; state = s }

-- the same of a script that was run, and of one item
abbrev pub with_script_state : LentScriptAnswer → State → RunAnswer
with_script_state g s = record { number = g.number; place = g.place; state = s }

abbrev pub with_item_state : LentItemAnswer → State → ItemAnswer
with_item_state g s = record { number = g.number; result = g.result; next = g.next; state = s }

-- what was given alone, of a script that was judged and of an item that was written
abbrev pub judged_as : LentJudged → Judged
judged_as g = record { number = g.number; place = g.place }

abbrev pub written_as : LentWritten → Written
written_as g = record { number = g.number; next = g.next }

-- bytes that were delivered, and the end notice
abbrev pub with_delivered : LentDelivery → State → DeliveryAnswer
with_delivered g s =
    record { number = g.number; called = g.called; result = g.result; taken = g.taken; reader = g.reader; state = s }

abbrev pub ended_as : LentEnd → EndAnswer
ended_as g = record { number = g.number; reader = g.reader }
