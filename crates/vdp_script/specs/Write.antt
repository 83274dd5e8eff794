-- An item written into a buffer: definition, Scripts, Writing.
use Rattle.std.specs.Prelude.{ℕ, cond, not, List, [], ◌∷◌, eqb, leb, length, Option, Some, None, Result, Ok, Err}
use Rattle.std.proofs.lemmas.List.Edits.{sets}
use Rattle.vdp_state.specs.declared.answer.Refusal.{Refusal}
use Rattle.vdp_state.specs.Answer.{Test, gives, first, number}
use Rattle.vdp_script.specs.declared.item.Item.{Item}
use Rattle.vdp_script.specs.Item.{item_bytes, byte_after, item_from}

-- what writing an item answers: the number, and the byte after the item
pub record Written : Type 0 where
  pub number : ℕ
  pub next : ℕ

abbrev pub written : ℕ → ℕ → Written
written number next = record { number = number; next = next }

-- by what it gives; refused, "the result [is] 0"
abbrev pub written_of : Result ℕ Refusal → Written
written_of (Ok next) = written 0 next
written_of (Err refusal) = written (number refusal) 0

-- what writing leaves: its answer and the buffer
pub record WriteOutcome : Type 0 where
  pub answer : Written
  pub script : List ℕ

abbrev pub write_outcome : Written → List ℕ → WriteOutcome
write_outcome w script = record { answer = w; script = script }

-- 2: "an item that is to be written has no room"
abbrev pub no_room : List ℕ → ℕ → Item → Test
no_room script at i = gives 2 (not (leb (byte_after at i) (length script)))

abbrev pub write_number : List ℕ → ℕ → Item → ℕ
write_number script at i = first (no_room script at i ∷ [])

-- "the bytes of the item stand there then, one after the other, whatever stood there before, and the result is the byte
-- after them"; else "the answer is 2, the result 0 and nothing changes"
abbrev pub write_item : List ℕ → ℕ → Item → WriteOutcome
write_item script at i =
    cond (eqb (write_number script at i) 0) (write_outcome (written 0 (byte_after at i)) (sets script at (item_bytes i)))
    (write_outcome (written (write_number script at i) 0) script)

-- "A caller can also name the item by its kind and its content. A kind that is not in the table answers 11, with the
-- result 0."
abbrev pub write_found : Option Item → List ℕ → ℕ → WriteOutcome
write_found None script at = write_outcome (written 11 0) script
write_found (Some i) script at = write_item script at i

abbrev pub write_kind : List ℕ → ℕ → ℕ → ℕ → WriteOutcome
write_kind script at kind content = write_found (item_from kind content) script at
