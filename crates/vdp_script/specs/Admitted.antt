-- A script as the program `script` judges it: definition, Scripts, The program.
use Rattle.std.specs.Prelude.{ℕ, false, cond, not, List, ◌∷◌, leb, length}
use Rattle.vdp_state.specs.Answer.{Test, gives, first}
use Rattle.vdp_script.specs.Form.{Judged, form_of}
use Rattle.vdp_script.specs.Judge.{judged_tests, judged}

-- "of at most 16,384 bytes"
abbrev pub most_bytes : ℕ
most_bytes = 16384

-- 2: "a script is too long for the program `script`"
abbrev pub too_long : List ℕ → Test
too_long script = gives 2 (not (leb (length script) most_bytes))

-- "More than 16,384 bytes answer 2, with the place 0, whatever they are. Else the script is judged with pending clear, as
-- it is in a fresh state."
abbrev pub admitted : List ℕ → Judged
admitted script =
    record {
      number = first (too_long script ∷ judged_tests false (form_of script));
      place = cond (too_long script).holds 0 (judged false script).place;
    }
