-- Items that name missing registers: definition, Scripts, Missing registers.
use Rattle.std.specs.Prelude.{ℕ, suc, Bool, false, cond, not, ◌||◌, List, [], ◌∷◌}
use Rattle.vdp_state.specs.Answer.{Test, gives, first}
use Rattle.vdp_ports.specs.declared.taken.Taken.{Taken}
use Rattle.vdp_ports.specs.declared.taken.Taken.TheVariants.{RegisterWrite, FirstHalf, SecondHalf}
use Rattle.vdp_ports.specs.Taken.{taken_as, pending_left, register_of, has_register}
use Rattle.vdp_script.specs.declared.item.Item.{Item}
use Rattle.vdp_script.specs.declared.item.Item.TheVariants.{ControlWord, DataWord, DataRead, StatusRead, Run, Line, NewFrame}
use Rattle.vdp_script.specs.Form.{Judged}

-- "its word would be taken as a register write, and the register is one of those"; "A second half names no register,
-- whatever its bits are."
abbrev pub writes_missing : Taken → ℕ → Bool
writes_missing RegisterWrite w = not (has_register (register_of w))
writes_missing FirstHalf w = false
writes_missing SecondHalf w = false

-- "An item names a missing register if it is a control write", and "How a word would be taken goes by the pending flag"
abbrev pub names_missing : Bool → Item → Bool
names_missing pending (ControlWord w) = writes_missing (taken_as pending w) w
names_missing pending (DataWord w) = false
names_missing pending DataRead = false
names_missing pending StatusRead = false
names_missing pending (Run budget) = false
names_missing pending (Line n) = false
names_missing pending NewFrame = false

-- "A control write leaves the flag as the control port does [..]. A data write, a data read and a status read clear it. A
-- run, a line and a new frame leave it as it is."
abbrev pub pending_after : Bool → Item → Bool
pending_after pending (ControlWord w) = pending_left (taken_as pending w)
pending_after pending (DataWord w) = false
pending_after pending DataRead = false
pending_after pending StatusRead = false
pending_after pending (Run budget) = pending
pending_after pending (Line n) = pending
pending_after pending NewFrame = pending

-- whether an item names a missing register: "the flag that is given with the script, as the calls of the items before
-- would leave it if all of them were done"
abbrev pub any_missing : Bool → List Item → Bool
any_missing pending [] = false
any_missing pending (i ∷ items) = names_missing pending i || any_missing (pending_after pending i) items

-- "the place of the first such item"; as many as there are if there is none
abbrev pub items_before : Bool → List Item → ℕ
items_before pending [] = 0
items_before pending (i ∷ items) = cond (names_missing pending i) 0 (suc (items_before (pending_after pending i) items))

-- 12: "an item of the script names a register that there is not"
abbrev pub missing_register : Bool → List Item → Test
missing_register pending items = gives 12 (any_missing pending items)

-- items that are not faulty, as they are judged
abbrev pub registers_judged : Bool → List Item → Judged
registers_judged pending items =
    record { number = first (missing_register pending items ∷ []); place = items_before pending items }
