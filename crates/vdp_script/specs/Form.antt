-- The form of a script: definition, Scripts, The form.
use Rattle.std.specs.Prelude.{ℕ, zero, suc, ◌+◌, Bool, true, false, cond, List, [], ◌∷◌, eqb, length, get_or, drop, Option, Some, None, Result, Ok, Err}
use Rattle.vdp_state.specs.Answer.{Test, gives, first, number}
use Rattle.vdp_script.specs.declared.item.Item.{Item}
use Rattle.vdp_script.specs.declared.form.Fault.{Fault}
use Rattle.vdp_script.specs.Item.{length_of, item_of}

-- what a script is: its items up to the first that is faulty, and whether there is a faulty one
pub record Form : Type 0 where
  pub items : List Item
  pub faulty : Bool

abbrev pub form : List Item → Bool → Form
form items faulty = record { items = items; faulty = faulty }

-- what was found before the rest; "Where an item is faulty, what follows it is not looked at."
abbrev pub before : Option Item → Form → Form
before None rest = form [] true
before (Some i) rest = form (i ∷ rest.items) rest.faulty

-- the bytes that an item has beside its first
abbrev pub others : Option Item → ℕ
others None = 0
others (Some i) = 1 + length_of i

-- "Its items follow, one after the other, up to its last byte"; the bytes passed are those of an item already found
abbrev pub items_from : ℕ → List ℕ → Form
items_from passed [] = form [] false
items_from zero (b ∷ bytes) = before (item_of (b ∷ bytes)) (items_from (others (item_of (b ∷ bytes))) bytes)
items_from (suc passed) (b ∷ bytes) = items_from passed bytes

-- "Its first byte is the version, 1."
abbrev pub version : ℕ
version = 1

-- a script; "if the version is wrong or missing" no item is found
unfoldable pub form_of : List ℕ → Form
form_of script = cond (eqb (get_or script 0 0) version) (items_from 0 (drop 1 script)) (form [] true)

-- a judgement: the number, and the place of the item that is refused, or how many items there are
pub record Judged : Type 0 where
  pub number : ℕ
  pub place : ℕ

abbrev pub judgement : ℕ → ℕ → Judged
judgement number place = record { number = number; place = place }

-- what a script is judged as, by how many items it has or what is at fault
abbrev pub judged_of : Result ℕ Fault → Judged
judged_of (Ok items) = judgement 0 items
judged_of (Err fault) = judgement (number fault.refusal) fault.place

-- 11: "the script is not well formed"
abbrev pub bad_script : Form → Test
bad_script f = gives 11 f.faulty

-- the form alone, as it is judged
abbrev pub form_judged : Form → Judged
form_judged f = record { number = first (bad_script f ∷ []); place = length f.items }
