-- The cases of frame timing of definition, Worked cases, that are proved, as one table.
use Rattle.std.specs.Prelude.{ℕ, true, false, List, [], ◌∷◌, map, set}
use Rattle.vdp_state.specs.declared.state.State.{State}
use Rattle.vdp_state.specs.Fresh.{fresh}
use Rattle.vdp_state.specs.State.{with_control, with_registers, with_timing}
use Rattle.vdp_state.specs.Worked.{Case, gives}
use Rattle.vdp_ports.specs.Frame.{new_frame}
use Rattle.vdp_ports.specs.Status.{status_read}
use Rattle.vdp_timing.specs.Interrupt.{level_offered, acknowledge}
use Rattle.vdp_timing.specs.LineBegins.{line_begins}
use Rattle.vdp_timing.specs.VCounter.{v_counter}

abbrev pub start : State
start = fresh false

-- the start with registers 0, 1 and 10
abbrev pub asked : ℕ → ℕ → ℕ → State
asked register0 register1 register10 = with_registers start (set (set (set start.registers 0 register0) 1 register1) 10 register10)

-- a state on a line, with this counter
abbrev pub on_line : ℕ → ℕ → State → State
on_line line counter s = with_control s (with_timing s.control (record { line = line; counter = counter; vertical = false; horizontal = false }))

abbrev pub v_counter_on : ℕ → ℕ
v_counter_on line = (v_counter (on_line line 0 start)).result

abbrev pub status_on : ℕ → ℕ
status_on line = (status_read (on_line line 0 start)).result

-- the next line begun, from a line with this counter
abbrev pub begun_from : ℕ → ℕ → State → State
begun_from line counter s = (line_begins (on_line line counter s)).state

-- line 224 begun, with a counter that expires there or not
abbrev pub at224 : ℕ → State → State
at224 = begun_from 223

abbrev pub level_of : State → ℕ
level_of s = (level_offered s).result

abbrev pub level_and_status : State → List ℕ
level_and_status s = level_of s ∷ (status_read s).result ∷ []

abbrev pub counter_and_level : State → List ℕ
counter_and_level s = s.control.timing.counter ∷ level_of s ∷ []

-- line 224 begun with register 1 bit 5 set, and the same where a level 4 comes there too
abbrev pub vertical_waits : State
vertical_waits = at224 5 (asked 0 0x20 0)

abbrev pub both_wait : State
both_wait = at224 0 (asked 0x10 0x20 0)

-- register 0 bit 4 set, and register 10 = 9
abbrev pub by_nine : State
by_nine = asked 0x10 0 9

unfoldable pub table : List Case
table =
    -- the V counter on lines 0, 234, 235 and 261
    gives (map v_counter_on (0 ∷ 234 ∷ 235 ∷ 261 ∷ [])) (0 ∷ 0xea ∷ 0xe5 ∷ 0xff ∷ [])
    -- status on lines 223, 224, 260 and 261
    ∷ gives (map status_on (223 ∷ 224 ∷ 260 ∷ 261 ∷ [])) (0x3600 ∷ 0x3608 ∷ 0x3608 ∷ 0x3600 ∷ [])
    -- line 224, register 1 bit 5 set: level 6, status 3688h; once acknowledged, none and 3608h
    ∷ gives (level_and_status vertical_waits) (6 ∷ 0x3688 ∷ [])
    ∷ gives (level_and_status (acknowledge vertical_waits 6).state) (0 ∷ 0x3608 ∷ [])
    -- line 224, register 1 bit 5 clear: no level, status 3688h
    ∷ gives (level_and_status (at224 5 start)) (0 ∷ 0x3688 ∷ [])
    -- both on line 224: level 4, then 6; an acknowledge of 6 answers 10 before
    ∷ gives (level_of both_wait ∷ (acknowledge both_wait 6).number ∷ level_of (acknowledge both_wait 4).state ∷ []) (4 ∷ 10 ∷ 6 ∷ [])
    -- level 0 is never offered
    ∷ gives ((acknowledge start 0).number ∷ (acknowledge both_wait 0).number ∷ []) (10 ∷ 10 ∷ [])
    -- what waits goes on to the next line, and a status read and a new frame leave it
    ∷ gives (level_of (line_begins both_wait).state ∷ level_of (line_begins vertical_waits).state ∷ []) (4 ∷ 6 ∷ [])
    ∷ gives (level_and_status (new_frame (status_read vertical_waits).state).state) (6 ∷ 0x3688 ∷ [])
    -- on line 224 the counter counts and is not loaded
    ∷ gives (counter_and_level (at224 5 by_nine)) (4 ∷ 0 ∷ [])
    ∷ gives (counter_and_level (at224 0 by_nine)) (9 ∷ 4 ∷ [])
    -- register 0 bit 4 clear: the counter expires, and no level 4 comes
    ∷ gives (counter_and_level (at224 0 (asked 0 0 9))) (9 ∷ 0 ∷ [])
    -- on line 225 it is loaded and does not count
    ∷ gives (counter_and_level (begun_from 224 5 by_nine)) (9 ∷ 0 ∷ [])
    ∷ gives (counter_and_level (begun_from 224 0 by_nine)) (9 ∷ 0 ∷ [])
    -- on line 0 it is loaded and counts: by 9, and by 0
    ∷ gives (counter_and_level (begun_from 261 0 by_nine)) (8 ∷ 0 ∷ [])
    ∷ gives (counter_and_level (begun_from 261 5 (asked 0x10 0 0))) (0 ∷ 4 ∷ [])
    -- the line after 261, and PAL there
    ∷ gives ((line_begins start).state.control.timing.line ∷ (line_begins (fresh true)).number ∷ []) (0 ∷ 4 ∷ [])
    ∷ []
