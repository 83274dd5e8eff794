-- Whole scripts written, read and run: definition, Scripts, Writing, Running and Missing registers.
use Rattle.std.specs.Prelude.{ℕ, ◌≤◌, ◌≡◌, Bool, false, cond, ◌||◌, List, [], ◌∷◌, ◌++◌, eqb, length, get_or}
use Rattle.std.proofs.lemmas.List.Edits.{sets}
use Rattle.vdp_state.specs.Range.{AllBytes}
use Rattle.vdp_state.specs.State.{Chip}
use Rattle.vdp_script.specs.declared.item.Item.{Item}
use Rattle.vdp_script.specs.Form.{form, form_of, version}
use Rattle.vdp_script.specs.Item.{item_bytes}
use Rattle.vdp_script.specs.Missing.{any_missing}
use Rattle.vdp_script.specs.Run.{RunAnswer, run_items, run_script}
use Rattle.vdp_script.specs.Write.{WriteOutcome, write_outcome, written, write_item}

-- "the version and the items [..], written one after the other"
abbrev pub items_written : List Item → List ℕ
items_written [] = []
items_written (i ∷ items) = item_bytes i ++ items_written items

abbrev pub script_of : List Item → List ℕ
script_of items = version ∷ items_written items

-- items written one after the other, each at the byte after the one before, up to the first that has no room
abbrev pub write_items : List Item → ℕ → List ℕ → WriteOutcome
write_items [] at script = write_outcome (written 0 at) script
write_items (i ∷ items) at script =
    let o : WriteOutcome = write_item script at i in
    cond (eqb o.answer.number 0) (write_items items o.answer.next o.script) o

-- the claim: "items that are written one after the other, from byte 1 on, into a buffer that begins with the version
-- and has room for all, leave the bytes of their script there"
abbrev pub WrittenInTurn : Type 0
WrittenInTurn =
    (items : List Item) (buffer : List ℕ) → get_or buffer 0 0 ≡ version → length (script_of items) ≤ length buffer
    → write_items items 1 buffer ≡ write_outcome (written 0 (length (script_of items))) (sets buffer 0 (script_of items))

-- the claim: "the bytes of a version and of items, whatever their words, are a well formed script, and its items are
-- those"
abbrev pub ReadsBack : Type 0
ReadsBack = (items : List Item) → form_of (script_of items) ≡ form items false

-- the claim: "the version and the items of a well formed script, written one after the other, are its bytes"
abbrev pub WritesBack : Type 0
WritesBack = (script : List ℕ) → AllBytes script → (form_of script).faulty ≡ false → script_of (form_of script).items ≡ script

-- the claim: "a script that was written and is run, and of which no item names a missing register, makes the calls of its
-- items, one after the other"
abbrev pub RunsAsWritten : Type 0
RunsAsWritten =
    (items : List Item) (cartridge ram : List ℕ) (c : Chip) (pixels : List ℕ)
    → any_missing c.state.control.port.pending items ≡ false
    → run_script (script_of items) cartridge ram c pixels ≡ run_items items 0 cartridge ram c pixels

-- the claim: "if the calls of items are done, one after the other, what follows them is judged by the pending flag of the
-- state that they leave"
abbrev pub PendingAsCalled : Type 0
PendingAsCalled =
    (items rest : List Item) (cartridge ram : List ℕ) (c : Chip) (pixels : List ℕ)
    → let left : RunAnswer = (run_items items 0 cartridge ram c pixels).answer in
    let pending : Bool = c.state.control.port.pending in
    left.number ≡ 0
    → any_missing pending (items ++ rest) ≡ (any_missing pending items || any_missing left.state.control.port.pending rest)
