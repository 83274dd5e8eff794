-- The cases of scripts of definition, Worked cases, that are proved, as one table.
use Rattle.std.specs.Prelude.{ℕ, Bool, true, false, List, [], ◌∷◌, ◌++◌, get_or, replicate, take}
use Rattle.vdp_state.specs.declared.state.State.{State}
use Rattle.vdp_state.specs.Fresh.{fresh}
use Rattle.vdp_state.specs.State.{chip, with_control, with_port, with_dma}
use Rattle.vdp_state.specs.Worked.{Case, gives}
use Rattle.vdp_script.specs.declared.item.Item.{Item}
use Rattle.vdp_script.specs.declared.item.Item.TheVariants.{ControlWord, DataWord, DataRead, StatusRead, Run, Line, NewFrame}
use Rattle.vdp_script.specs.Admitted.{admitted}
use Rattle.vdp_script.specs.Call.{script_item}
use Rattle.vdp_script.specs.Form.{Judged}
use Rattle.vdp_script.specs.Judge.{judged}
use Rattle.vdp_script.specs.Run.{ScriptOutcome, run_script}
use Rattle.vdp_script.specs.Whole.{script_of}
use Rattle.vdp_script.specs.Write.{WriteOutcome, write_item}

abbrev pub number_and_place : Judged → List ℕ
number_and_place j = j.number ∷ j.place ∷ []

abbrev pub form : List ℕ → List ℕ
form script = number_and_place (judged false script)

-- 8F02h to the control port, and a status read
abbrev pub two : List ℕ
two = 1 ∷ 0 ∷ 3 ∷ 1 ∷ 0x8f ∷ 2 ∷ 0 ∷ 1 ∷ 4 ∷ []

-- a script with this length, in two bytes, and this kind in its one item, a control word
abbrev pub one_item : ℕ → ℕ → ℕ → List ℕ
one_item upper lower kind = 1 ∷ upper ∷ lower ∷ kind ∷ 0x8f ∷ 2 ∷ []

abbrev pub start : State
start = fresh false

-- with this code and pending flag; a code of 64 is not GOOD
abbrev pub ported : ℕ → Bool → State
ported code pending = with_control start (with_port start.control (record { address = 0; code = code; pending = pending }))

abbrev pub bad : State
bad = ported 64 false

-- in a transfer
abbrev pub busy : State
busy = with_control start (with_dma start.control (record { kind = 2; remaining = 1; source = 0; fill = 0 }))

-- a script of these items, judged with pending clear and set
abbrev pub either_way : List Item → List ℕ
either_way items = number_and_place (judged false (script_of items)) ++ number_and_place (judged true (script_of items))

-- the same of a control word alone, and of 4000h, an item and 9800h
abbrev pub alone : ℕ → List ℕ
alone w = either_way (ControlWord w ∷ [])

abbrev pub between : Item → List ℕ
between i = either_way (ControlWord 0x4000 ∷ i ∷ ControlWord 0x9800 ∷ [])

-- 8F02h, a line that fresh registers refuse, and 9800h
abbrev pub third : List ℕ
third = script_of (ControlWord 0x8f02 ∷ Line 0 ∷ ControlWord 0x9800 ∷ [])

-- a script run with VRAM, work RAM and pixels that are 0 and no cartridge, as the program does it
abbrev pub zeros : ℕ → List ℕ
zeros n = replicate n 0

abbrev pub run : State → List ℕ → ScriptOutcome
run s script = run_script script [] (zeros 65536) (chip s (zeros 65536)) (zeros 320)

-- its number and place, and register 15 then
abbrev pub ran : State → List ℕ → List ℕ
ran s script =
    let a = (run s script).answer in
    a.number ∷ a.place ∷ get_or a.state.registers 15 0 ∷ []

-- one item of the script of two: its number, result and next byte
abbrev pub item : ℕ → List ℕ
item at =
    let a = (script_item two at [] (zeros 65536) (chip start (zeros 65536)) (zeros 320)).answer in
    a.number ∷ a.result ∷ a.next ∷ []

-- a status read written at a byte of four that are 9: the number, the next byte, and the four
abbrev pub wrote : ℕ → List ℕ
wrote at =
    let o : WriteOutcome = write_item (replicate 4 9) at StatusRead in
    o.answer.number ∷ o.answer.next ∷ o.script

unfoldable pub table : List Case
table =
    -- the script of two items; nothing; a version alone, and other versions
    gives (form two ++ (form [] ++ form (1 ∷ []))) (0 ∷ 2 ∷ 11 ∷ 0 ∷ 0 ∷ 0 ∷ [])
    ∷ gives (form (0 ∷ []) ++ form (2 ∷ [])) (11 ∷ 0 ∷ 11 ∷ 0 ∷ [])
    -- its first 2, 5, 6, 7 and 8 bytes
    ∷ gives (form (take 2 two) ++ (form (take 5 two) ++ form (take 6 two))) (11 ∷ 0 ∷ 11 ∷ 0 ∷ 0 ∷ 1 ∷ [])
    ∷ gives (form (take 7 two) ++ form (take 8 two)) (11 ∷ 1 ∷ 11 ∷ 1 ∷ [])
    -- kinds 0, 1, 2, 3 and 8 with the length of a control word; lengths of 2 and 4, and one with its lower byte first
    ∷ gives (form (one_item 0 3 0) ++ (form (one_item 0 3 1) ++ form (one_item 0 3 2))) (11 ∷ 0 ∷ 0 ∷ 1 ∷ 0 ∷ 1 ∷ [])
    ∷ gives (form (one_item 0 3 3) ++ form (one_item 0 3 8)) (11 ∷ 0 ∷ 11 ∷ 0 ∷ [])
    ∷ gives (form (one_item 0 2 1) ++ (form (one_item 0 4 1) ++ form (one_item 3 0 1))) (11 ∷ 0 ∷ 11 ∷ 0 ∷ 11 ∷ 0 ∷ [])
    -- every kind, written
    ∷ gives (script_of (ControlWord 0x8f02 ∷ DataWord 0x1234 ∷ DataRead ∷ StatusRead ∷ []))
    (1 ∷ 0 ∷ 3 ∷ 1 ∷ 0x8f ∷ 2 ∷ 0 ∷ 3 ∷ 2 ∷ 0x12 ∷ 0x34 ∷ 0 ∷ 1 ∷ 3 ∷ 0 ∷ 1 ∷ 4 ∷ [])
    ∷ gives (script_of (Run 300 ∷ Line 223 ∷ NewFrame ∷ [])) (1 ∷ 0 ∷ 3 ∷ 5 ∷ 1 ∷ 44 ∷ 0 ∷ 3 ∷ 6 ∷ 0 ∷ 223 ∷ 0 ∷ 1 ∷ 7 ∷ [])
    -- at byte 1 of four there is room for three, at byte 2 there is not
    ∷ gives (wrote 1) (0 ∷ 4 ∷ 9 ∷ 0 ∷ 1 ∷ 4 ∷ [])
    ∷ gives (wrote 2) (2 ∷ 0 ∷ 9 ∷ 9 ∷ 9 ∷ 9 ∷ [])
    -- the script of two items is run, as a whole and item by item; no item begins at byte 2, nor at the end
    ∷ gives (ran start two) (0 ∷ 2 ∷ 2 ∷ [])
    ∷ gives (item 1 ++ item 6) (0 ∷ 0 ∷ 6 ∷ 0 ∷ 0x3600 ∷ 9 ∷ [])
    ∷ gives (item 2 ++ item 9) (11 ∷ 0 ∷ 2 ∷ 11 ∷ 0 ∷ 9 ∷ [])
    -- line 0 under fresh registers answers 4, which ends a script; what was called before it stands
    ∷ gives (ran start (script_of (ControlWord 0x8f02 ∷ Line 0 ∷ ControlWord 0x8f04 ∷ []))) (4 ∷ 1 ∷ 2 ∷ [])
    -- a faulty item behind one that would be called: no call is made
    ∷ gives (ran start (script_of (ControlWord 0x8f02 ∷ []) ++ (0 ∷ []))) (11 ∷ 1 ∷ 0 ∷ [])
    -- in a bad state: the first call is refused, and a script of no items is done
    ∷ gives (ran bad two ++ ran bad (1 ∷ [])) (1 ∷ 0 ∷ 0 ∷ 0 ∷ 0 ∷ 0 ∷ [])
    -- as the program judges 16,384 and 16,385 bytes, and 9800h
    ∷ gives (number_and_place (admitted (zeros 16384)) ++ number_and_place (admitted (zeros 16385))) (11 ∷ 0 ∷ 2 ∷ 0 ∷ [])
    ∷ gives (number_and_place (admitted (script_of (ControlWord 0x9800 ∷ [])))) (12 ∷ 0 ∷ [])
    -- registers 23, 24 and 31, with bit 13 clear and set: written with pending clear, a second half with it set
    ∷ gives (alone 0x97ff ++ alone 0xb7ff) (0 ∷ 1 ∷ 0 ∷ 1 ∷ 0 ∷ 1 ∷ 0 ∷ 1 ∷ [])
    ∷ gives (alone 0x9800 ++ alone 0x9fff) (12 ∷ 0 ∷ 0 ∷ 1 ∷ 12 ∷ 0 ∷ 0 ∷ 1 ∷ [])
    ∷ gives (alone 0xb800 ++ alone 0xbfff) (12 ∷ 0 ∷ 0 ∷ 1 ∷ 12 ∷ 0 ∷ 0 ∷ 1 ∷ [])
    -- halves of a command with the bits of registers 24 and 31
    ∷ gives (alone 0x1800 ++ alone 0xdfff) (0 ∷ 1 ∷ 0 ∷ 1 ∷ 0 ∷ 1 ∷ 0 ∷ 1 ∷ [])
    -- behind a first half, behind a register write, and twice
    ∷ gives (either_way (ControlWord 0x4000 ∷ ControlWord 0x9800 ∷ [])) (0 ∷ 2 ∷ 12 ∷ 1 ∷ [])
    ∷ gives (either_way (ControlWord 0x8f02 ∷ ControlWord 0x9800 ∷ [])) (12 ∷ 1 ∷ 12 ∷ 1 ∷ [])
    ∷ gives (either_way (ControlWord 0x9800 ∷ ControlWord 0x9900 ∷ [])) (12 ∷ 0 ∷ 12 ∷ 1 ∷ [])
    -- behind 4000h and an item of each kind that clears pending, and of each that leaves it
    ∷ gives (between (DataWord 0)) (12 ∷ 2 ∷ 12 ∷ 2 ∷ [])
    ∷ gives (between DataRead ++ between StatusRead) (12 ∷ 2 ∷ 12 ∷ 2 ∷ 12 ∷ 2 ∷ 12 ∷ 2 ∷ [])
    ∷ gives (between (Run 1)) (0 ∷ 3 ∷ 12 ∷ 2 ∷ [])
    ∷ gives (between (Line 0) ++ between NewFrame) (0 ∷ 3 ∷ 12 ∷ 2 ∷ 0 ∷ 3 ∷ 12 ∷ 2 ∷ [])
    -- before a faulty item
    ∷ gives (form (script_of (ControlWord 0x9800 ∷ []) ++ (0 ∷ []))) (11 ∷ 1 ∷ [])
    -- run: 12 before any call, in a bad state and in a busy one too; with pending set 9800h is taken as a second half
    ∷ gives (ran start third ++ (ran bad third ++ ran busy third)) (12 ∷ 2 ∷ 0 ∷ 12 ∷ 2 ∷ 0 ∷ 12 ∷ 2 ∷ 0 ∷ [])
    ∷ gives (ran (ported 0 true) (script_of (ControlWord 0x9800 ∷ []))) (0 ∷ 1 ∷ 0 ∷ [])
    ∷ []
