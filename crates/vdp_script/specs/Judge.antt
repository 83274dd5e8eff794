-- A script that is judged: definition, Scripts, Judging.
use Rattle.std.specs.Prelude.{ℕ, Bool, cond, List, [], ◌∷◌, length}
use Rattle.vdp_state.specs.Answer.{Test, first}
use Rattle.vdp_script.specs.Form.{Judged, Form, form_of, bad_script}
use Rattle.vdp_script.specs.Missing.{items_before, missing_register}

-- 11, and then 12
abbrev pub judged_tests : Bool → Form → List Test
judged_tests pending f = bad_script f ∷ missing_register pending f.items ∷ []

-- "It answers 11 if it is not well formed, and its result is then the place of the first faulty item [..]. If it is well
-- formed and an item names a missing register, it answers 12, and its result is the place of the first such item. Else it
-- answers 0, and its result is how many items it has."
abbrev pub judged_as : Bool → Form → Judged
judged_as pending f =
    record {
      number = first (judged_tests pending f);
      place = cond f.faulty (length f.items) (items_before pending f.items);
    }

abbrev pub judged : Bool → List ℕ → Judged
judged pending script = judged_as pending (form_of script)
