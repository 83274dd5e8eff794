-- The cases of readers of definition, Worked cases, that are proved, as one table.
use Rattle.std.specs.Prelude.{ℕ, Bool, true, false, List, [], ◌∷◌, ◌++◌, get_or, take}
use Rattle.vdp_state.specs.declared.state.State.{State}
use Rattle.vdp_state.specs.State.{chip}
use Rattle.vdp_state.specs.Worked.{Case, gives}
use Rattle.vdp_script.specs.declared.item.Item.TheVariants.{ControlWord, DataRead, StatusRead, Run, Line, NewFrame}
use Rattle.vdp_script.specs.Bench.{two, start, ported, bad, busy, zeros}
use Rattle.vdp_script.specs.Whole.{script_of}
use Rattle.vdp_reader.specs.declared.reader.Reader.{Reader}
use Rattle.vdp_reader.specs.Deliver.{DeliveryAnswer, deliver}
use Rattle.vdp_reader.specs.End.{end_notice}
use Rattle.vdp_reader.specs.Reader.{started, between_items, stopped}
use Rattle.vdp_reader.specs.Whole.{Call, Delivered, deliver_bytes, noticed}

abbrev pub reader : ℕ → ℕ → ℕ → ℕ → Reader
reader stage kind upper number = record { stage = stage; kind = kind; upper = upper; number = number }

-- the four numbers of a reader
abbrev pub kept : Reader → List ℕ
kept r = r.stage ∷ r.kind ∷ r.upper ∷ r.number ∷ []

-- bytes delivered with VRAM, work RAM and pixels that are 0 and no cartridge
abbrev pub delivered : State → Reader → List ℕ → Delivered
delivered s r bytes = deliver_bytes bytes [] (zeros 65536) r (chip s (zeros 65536)) (zeros 320)

-- each call's number and result
abbrev pub answered : List Call → List ℕ
answered [] = []
answered (c ∷ calls) = c.number ∷ c.result ∷ answered calls

-- and then the last answer and the stage
abbrev pub ended : Delivered → List ℕ
ended d = answered d.calls ++ (d.number ∷ d.reader.stage ∷ [])

-- to a reader that is started anew, without the end notice and with it
abbrev pub fed : State → List ℕ → List ℕ
fed s bytes = ended (delivered s started bytes)

abbrev pub finished : List ℕ → List ℕ
finished bytes = ended (noticed true (delivered start started bytes))

-- register 15 after that
abbrev pub step : State → List ℕ → List ℕ
step s bytes = get_or (delivered s started bytes).chip.state.registers 15 0 ∷ []

-- `deliver`: the number, how many bytes were taken, and whether there was a call, as 0 or 1
abbrev pub bit : Bool → ℕ
bit true = 1
bit false = 0

abbrev pub first : Reader → List ℕ → List ℕ
first r bytes =
    let d : DeliveryAnswer = (deliver r bytes [] (zeros 65536) (chip start (zeros 65536)) (zeros 320)).answer in
    d.number ∷ d.taken ∷ bit d.called ∷ []

-- the same of one byte behind an item's length
abbrev pub kind : ℕ → ℕ → List ℕ
kind length b = first (reader length 0 0 0) (b ∷ [])

-- what the end notice answers and leaves
abbrev pub noticed_then : Reader → List ℕ
noticed_then r = (end_notice r).number ∷ kept (end_notice r).reader

unfoldable pub table : List Case
table =
    -- 8F02h and a status read: all the bytes; with the end notice; a version alone; nothing
    gives (fed start two) (0 ∷ 0 ∷ 0 ∷ 0x3600 ∷ 0 ∷ 1 ∷ [])
    ∷ gives (finished two ++ (finished (1 ∷ []) ++ finished [])) (0 ∷ 0 ∷ 0 ∷ 0x3600 ∷ 0 ∷ 7 ∷ 0 ∷ 7 ∷ 11 ∷ 7 ∷ [])
    -- the end notice behind its first 2, 3, 4, 5 bytes, behind 6, and behind 7 and 8
    ∷ gives (finished (take 2 two) ++ (finished (take 3 two) ++ (finished (take 4 two) ++ finished (take 5 two))))
    (11 ∷ 7 ∷ 11 ∷ 7 ∷ 11 ∷ 7 ∷ 11 ∷ 7 ∷ [])
    ∷ gives (finished (take 6 two) ++ (finished (take 7 two) ++ finished (take 8 two))) (0 ∷ 0 ∷ 0 ∷ 7 ∷ 0 ∷ 0 ∷ 11 ∷ 7 ∷ 0 ∷ 0 ∷ 11 ∷ 7 ∷ [])
    -- one call at a time; the reader is in stage 1 between them
    ∷ gives (first started two ++ first between_items (0 ∷ 1 ∷ 4 ∷ [])) (0 ∷ 6 ∷ 1 ∷ 0 ∷ 3 ∷ 1 ∷ [])
    ∷ gives (first started (take 5 two) ++ first started []) (0 ∷ 5 ∷ 0 ∷ 0 ∷ 0 ∷ 0 ∷ [])
    -- what half an item leaves, and what the next byte does
    ∷ gives (kept (delivered start started (take 4 two)).reader ++ kept (delivered start started (take 5 two)).reader) (5 ∷ 1 ∷ 0 ∷ 0 ∷ 6 ∷ 1 ∷ 0x8f ∷ 0 ∷ [])
    ∷ gives (ended (delivered start (reader 6 1 0x8f 0) (2 ∷ [])) ++ ended (delivered start (reader 3 0 0 0) (4 ∷ []))) (0 ∷ 0 ∷ 0 ∷ 1 ∷ 0 ∷ 0x3600 ∷ 0 ∷ 1 ∷ [])
    -- versions 0 and 2; a length that begins with 1; lengths 0, 2 and 4
    ∷ gives (first started (0 ∷ 0 ∷ []) ++ first started (2 ∷ 0 ∷ [])) (11 ∷ 1 ∷ 0 ∷ 11 ∷ 1 ∷ 0 ∷ [])
    ∷ gives (first started (1 ∷ 1 ∷ 3 ∷ [])) (11 ∷ 2 ∷ 0 ∷ [])
    ∷ gives (kind 2 0 ++ (kind 2 2 ++ kind 2 4)) (11 ∷ 1 ∷ 0 ∷ 11 ∷ 1 ∷ 0 ∷ 11 ∷ 1 ∷ 0 ∷ [])
    -- kinds that the length 1 has, and others; kinds that the length 3 has, and others
    ∷ gives (kind 3 3 ++ (kind 3 4 ++ kind 3 7)) (0 ∷ 1 ∷ 1 ∷ 0 ∷ 1 ∷ 1 ∷ 0 ∷ 1 ∷ 1 ∷ [])
    ∷ gives (kind 3 0 ++ (kind 3 1 ++ (kind 3 2 ++ kind 3 5))) (11 ∷ 1 ∷ 0 ∷ 11 ∷ 1 ∷ 0 ∷ 11 ∷ 1 ∷ 0 ∷ 11 ∷ 1 ∷ 0 ∷ [])
    ∷ gives (kind 3 6 ++ kind 3 8) (11 ∷ 1 ∷ 0 ∷ 11 ∷ 1 ∷ 0 ∷ [])
    ∷ gives (kind 4 1 ++ (kind 4 2 ++ (kind 4 5 ++ kind 4 6))) (0 ∷ 1 ∷ 0 ∷ 0 ∷ 1 ∷ 0 ∷ 0 ∷ 1 ∷ 0 ∷ 0 ∷ 1 ∷ 0 ∷ [])
    ∷ gives (kind 4 0 ++ (kind 4 3 ++ (kind 4 4 ++ (kind 4 7 ++ kind 4 8))))
    (11 ∷ 1 ∷ 0 ∷ 11 ∷ 1 ∷ 0 ∷ 11 ∷ 1 ∷ 0 ∷ 11 ∷ 1 ∷ 0 ∷ 11 ∷ 1 ∷ 0 ∷ [])
    -- items of every other kind: a data read, a new frame, a run, and a line that fresh registers refuse
    ∷ gives (fed start (script_of (DataRead ∷ NewFrame ∷ Run 300 ∷ Line 0 ∷ StatusRead ∷ []))) (0 ∷ 0 ∷ 0 ∷ 0 ∷ 0 ∷ 0 ∷ 4 ∷ 0 ∷ 4 ∷ 7 ∷ [])
    -- 9800h: whole, with pending clear; with it set; one byte before; in a bad state and in a transfer
    ∷ gives (fed start (script_of (ControlWord 0x9800 ∷ [])) ++ fed (ported 0 true) (script_of (ControlWord 0x9800 ∷ []))) (12 ∷ 7 ∷ 0 ∷ 0 ∷ 0 ∷ 1 ∷ [])
    ∷ gives (fed start (take 5 (script_of (ControlWord 0x9800 ∷ [])))) (0 ∷ 6 ∷ [])
    ∷ gives (fed bad (script_of (ControlWord 0x9800 ∷ [])) ++ fed busy (script_of (ControlWord 0x9800 ∷ []))) (12 ∷ 7 ∷ 12 ∷ 7 ∷ [])
    -- behind 8F02h and 4000h: the calls before 12 stand, and the flag is that of the state
    ∷ gives (fed start (script_of (ControlWord 0x8f02 ∷ ControlWord 0x9800 ∷ []))) (0 ∷ 0 ∷ 12 ∷ 7 ∷ [])
    ∷ gives (step start (script_of (ControlWord 0x8f02 ∷ ControlWord 0x9800 ∷ []))) (2 ∷ [])
    ∷ gives (fed start (script_of (ControlWord 0x4000 ∷ ControlWord 0x9800 ∷ []))) (0 ∷ 0 ∷ 0 ∷ 0 ∷ 0 ∷ 1 ∷ [])
    -- in a bad state: nothing and half an item, then a whole one
    ∷ gives (fed bad [] ++ (fed bad (take 5 two) ++ fed bad two)) (0 ∷ 0 ∷ 0 ∷ 6 ∷ 1 ∷ 0 ∷ 1 ∷ 7 ∷ [])
    -- stopped by 0, 4 and 11: bytes and the end notice change nothing
    ∷ gives (ended (delivered start (stopped 0) two) ++ (ended (delivered start (stopped 4) two) ++ ended (delivered start (stopped 11) [])))
    (0 ∷ 7 ∷ 4 ∷ 7 ∷ 11 ∷ 7 ∷ [])
    ∷ gives (first (stopped 4) two ++ noticed_then (stopped 4)) (4 ∷ 0 ∷ 0 ∷ 4 ∷ 7 ∷ 0 ∷ 0 ∷ 4 ∷ [])
    -- the end notice in stages 0, 1 and 6
    ∷ gives (noticed_then started ++ (noticed_then between_items ++ noticed_then (reader 6 1 5 0)))
    (11 ∷ 7 ∷ 0 ∷ 0 ∷ 11 ∷ 0 ∷ 7 ∷ 0 ∷ 0 ∷ 0 ∷ 11 ∷ 7 ∷ 0 ∷ 0 ∷ 11 ∷ [])
    -- outside the ranges: a stage, a kind and an upper byte too early, a kind without a content, a number before the stop
    ∷ gives (first (reader 8 0 0 0) two ++ (first (reader 1 1 0 0) two ++ first (reader 5 1 1 0) two)) (1 ∷ 0 ∷ 0 ∷ 1 ∷ 0 ∷ 0 ∷ 1 ∷ 0 ∷ 0 ∷ [])
    ∷ gives (first (reader 5 3 0 0) two ++ (first (reader 6 0 0 0) two ++ first (reader 0 0 0 11) two)) (1 ∷ 0 ∷ 0 ∷ 1 ∷ 0 ∷ 0 ∷ 1 ∷ 0 ∷ 0 ∷ [])
    -- stopped with 9, 12 and 13, and with a kind
    ∷ gives (first (stopped 9) two ++ (first (stopped 12) two ++ first (stopped 13) two)) (1 ∷ 0 ∷ 0 ∷ 12 ∷ 0 ∷ 0 ∷ 1 ∷ 0 ∷ 0 ∷ [])
    ∷ gives (noticed_then (reader 7 1 0 0) ++ noticed_then (reader 8 0 0 0)) (1 ∷ 7 ∷ 1 ∷ 0 ∷ 0 ∷ 1 ∷ 8 ∷ 0 ∷ 0 ∷ 0 ∷ [])
    ∷ []
