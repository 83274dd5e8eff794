-- A line begins: definition, Frame timing, A line begins; notes s4.
use Rattle.std.specs.Prelude.{ℕ, ◌+◌, ◌-◌, ◌/◌, ◌%◌, Bool, cond, ◌&&◌, ◌||◌, List, [], ◌∷◌, eqb, leb, ltb}
use Rattle.vdp_state.specs.Answer.{Answer}
use Rattle.vdp_state.specs.declared.state.State.{State}
use Rattle.vdp_state.specs.declared.state.Step.{Step}
use Rattle.vdp_state.specs.declared.state.Timing.{Timing}
use Rattle.vdp_state.specs.Answer.{Test, gives, first, answered}
use Rattle.vdp_state.specs.Good.{last_line}
use Rattle.vdp_ports.specs.Length.{register}
use Rattle.vdp_ports.specs.Refusal.{bad_state}
use Rattle.vdp_timing.specs.Timing.{timing_step}

-- "First the line becomes the next one; the line after 261 is line 0."
abbrev pub next_line : ℕ → ℕ
next_line line = cond (ltb line last_line) (line + 1) 0

-- "On line 0 and on lines 225 to 261 the line counter is loaded from register 10."
abbrev pub loads : ℕ → Bool
loads line = eqb line 0 || leb 225 line

abbrev pub loaded : ℕ → ℕ → ℕ → ℕ
loaded line reload counter = cond (loads line) reload counter

-- the lines on which the counter counts: "On lines 0 to 224 a counter of 0 expires"
abbrev pub counts : ℕ → Bool
counts line = leb line 224

abbrev pub expires : ℕ → ℕ → Bool
expires line counter = counts line && eqb counter 0

-- "it is loaded from register 10 [..] A counter that is not 0 becomes one less.", on these lines
abbrev pub counted : ℕ → ℕ → ℕ → ℕ
counted line reload counter = cond (counts line) (cond (eqb counter 0) reload (counter - 1)) counter

-- "if register 0 bit 4 is set, horizontal is set", where the counter expires; "On line 224 vertical is set"
abbrev pub timing_begun : State → Timing
timing_begun s =
    let t : Timing = s.control.timing in
    let line : ℕ = next_line t.line in
    let counter : ℕ = loaded line (register s 10) t.counter in
    record {
      line = line;
      counter = counted line (register s 10) counter;
      vertical = t.vertical || eqb line 224;
      horizontal = t.horizontal || (expires line counter && eqb (register s 0 / 16 % 2) 1);
    }

abbrev pub line_begins_step : State → Step
line_begins_step s = timing_step s (timing_begun s)

-- 4: "a line begins with PAL set"
abbrev pub pal_frame : State → Test
pal_frame s = gives 4 s.pal

abbrev pub line_begins_tests : State → List Test
line_begins_tests s = bad_state s ∷ pal_frame s ∷ []

abbrev pub line_begins : State → Answer
line_begins s = answered (first (line_begins_tests s)) s (line_begins_step s) 0
