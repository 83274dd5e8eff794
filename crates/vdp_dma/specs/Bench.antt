-- The cases of definition, Worked cases, that are proved, as one table: what is given, and what should be.
use Rattle.std.specs.Prelude.{ℕ, true, false, List, [], ◌∷◌, map, set, take, replicate}
use Rattle.vdp_state.specs.declared.state.State.{State}
use Rattle.vdp_state.specs.Colour.{blue, green, red}
use Rattle.vdp_state.specs.Fresh.{fresh}
use Rattle.vdp_state.specs.Good.{most_units}
use Rattle.vdp_state.specs.State.{Chip, chip, with_control, with_flags}
use Rattle.vdp_state.specs.Worked.{Case, gives}
use Rattle.vdp_ports.specs.Control.{control_write}
use Rattle.vdp_ports.specs.Data.{data_write}
use Rattle.vdp_ports.specs.Frame.{new_frame}
use Rattle.vdp_ports.specs.Length.{register}
use Rattle.vdp_ports.specs.Status.{status_read}
use Rattle.vdp_dma.specs.InTurn.{left}
use Rattle.vdp_dma.specs.Run.{run}

-- a state after control words, one after the other
abbrev pub controls : List ℕ → State → State
controls [] s = s
controls (w ∷ ws) s = controls ws (control_write s w).state

abbrev pub start : State
start = fresh false

abbrev pub zeros : List ℕ
zeros = replicate 65536 0

-- a chip after a data word, and after a run of all its units
abbrev pub written : ℕ → Chip → Chip
written w c = left (data_write c w)

abbrev pub ended : Chip → Chip
ended c = left (run c [] zeros most_units)

-- how many units remain, and how many a run with this budget makes
abbrev pub remaining : State → ℕ
remaining s = s.control.dma.remaining

abbrev pub units_run : ℕ → State → ℕ
units_run budget s = (run (chip s zeros) [] zeros budget).answer.result

-- auto-increment 2, and the two halves of a command: VRAM write, colour write, scroll write
abbrev pub accessed : ℕ → ℕ → State
accessed first_half second_half = controls (0x8f02 ∷ first_half ∷ second_half ∷ []) start

-- "VRAM of zeros, a fill with the word 1234h at 0, step 1, length 4"
abbrev pub filled : Chip
filled = ended (written 0x1234 (chip (controls (0x8f01 ∷ 0x9304 ∷ 0x9400 ∷ 0x9780 ∷ 0x8114 ∷ 0x4000 ∷ 0x0080 ∷ []) start) zeros))

-- "VRAM AA 00 00 00 00, a copy from 0 to 1, step 1, length 3"
abbrev pub copying : State
copying = controls (0x8f01 ∷ 0x9303 ∷ 0x9400 ∷ 0x97c0 ∷ 0x8114 ∷ 0x0001 ∷ 0x00c0 ∷ []) start

-- "overflow and collision set"
abbrev pub flagged : State
flagged = with_control start (with_flags start.control (record { overflow = true; collision = true; used_up = false }))

-- DMA asked for "with registers 19 and 20 zero", by the word for register 23 and the two halves of a command
abbrev pub zero_length : ℕ → ℕ → ℕ → State
zero_length register23 first_half second_half = controls (0x8114 ∷ 0x9300 ∷ 0x9400 ∷ register23 ∷ first_half ∷ second_half ∷ []) start

-- so "a transfer, a copy and a fill": the transfer from work RAM, the fill with its data word
abbrev pub longest : List State
longest =
    zero_length 0x9770 0x4000 0x0080
    ∷ zero_length 0x97c0 0x0001 0x00c0
    ∷ (written 0x1234 (chip (zero_length 0x9780 0x4000 0x0080) zeros)).state
    ∷ []

-- what is looked at of a state and of a chip
abbrev pub code_and_address : State → List ℕ
code_and_address s = s.control.port.code ∷ s.control.port.address ∷ []

abbrev pub bytes_and_address : ℕ → Chip → List ℕ
bytes_and_address n c = c.state.control.port.address ∷ take n c.vram

abbrev pub scrolls_and_address : State → List ℕ
scrolls_and_address s = s.control.port.address ∷ s.vsram

unfoldable pub table : List Case
table =
    -- 8F02h: register 15 = 2
    gives (register (controls (0x8f02 ∷ []) start) 15 ∷ []) (2 ∷ [])
    -- C000h, 0000h: code 3, address 0
    ∷ gives (code_and_address (controls (0xc000 ∷ 0x0000 ∷ []) start)) (3 ∷ 0 ∷ [])
    -- 4000h, 0003h: code 1, address C000h
    ∷ gives (code_and_address (controls (0x4000 ∷ 0x0003 ∷ []) start)) (1 ∷ 0xc000 ∷ [])
    -- 0000h, 00C0h: code 30h
    ∷ gives (code_and_address (controls (0x0000 ∷ 0x00c0 ∷ []) start)) (0x30 ∷ 0 ∷ [])
    -- 1234h at VRAM 0001h: bytes 0, 1 = 34h, 12h
    ∷ gives (bytes_and_address 2 (written 0x1234 (chip (accessed 0x4001 0x0000) zeros))) (3 ∷ 0x34 ∷ 0x12 ∷ [])
    -- FFFFh at colour 0080h: entry 0 = 0EEEh
    ∷ gives (take 2 (written 0xffff (chip (accessed 0xc080 0x0000) zeros)).state.cram) (0x0eee ∷ 0 ∷ [])
    -- F79Dh at colour 0000h: entry 0 = 068Ch; blue 3, green 4, red 6
    ∷ gives (take 1 (written 0xf79d (chip (accessed 0xc000 0x0000) zeros)).state.cram) (0x068c ∷ [])
    ∷ gives (blue 0xf79d ∷ green 0xf79d ∷ red 0xf79d ∷ []) (3 ∷ 4 ∷ 6 ∷ [])
    -- scroll 004Eh is word 39
    ∷ gives (scrolls_and_address (written 0x0155 (chip (accessed 0x404e 0x0010) zeros)).state) (0x0050 ∷ set (replicate 40 0) 39 0x155)
    -- 0050h stores nothing, address moves
    ∷ gives (scrolls_and_address (written 0x0155 (chip (accessed 0x4050 0x0010) zeros)).state) (0x0052 ∷ replicate 40 0)
    -- FFFEh + 2 = 0000h
    ∷ gives (bytes_and_address 1 (written 0x0000 (chip (accessed 0x7ffe 0x0003) zeros))) (0x0000 ∷ 0 ∷ [])
    -- fresh status 3600h, PAL 3601h; 3602h in a copy
    ∷ gives ((status_read start).result ∷ (status_read (fresh true)).result ∷ (status_read copying).result ∷ []) (0x3600 ∷ 0x3601 ∷ 0x3602 ∷ [])
    -- both flags set: 3660h, then 3600h; 3600h after a new frame
    ∷ gives ((status_read flagged).result ∷ (status_read (status_read flagged).state).result ∷ []) (0x3660 ∷ 0x3600 ∷ [])
    ∷ gives ((status_read (new_frame flagged).state).result ∷ []) (0x3600 ∷ [])
    -- the fill: 12 34 12 12 00 12, address 5
    ∷ gives (bytes_and_address 6 filled) (5 ∷ 0x12 ∷ 0x34 ∷ 0x12 ∷ 0x12 ∷ 0x00 ∷ 0x12 ∷ [])
    -- the copy: four AA
    ∷ gives (bytes_and_address 5 (ended (chip copying (set zeros 0 0xaa)))) (4 ∷ 0xaa ∷ 0xaa ∷ 0xaa ∷ 0xaa ∷ 0x00 ∷ [])
    -- registers 19 and 20 zero: 65,536 units remain, and a run with a greater budget makes them
    ∷ gives (map remaining longest) (65536 ∷ 65536 ∷ 65536 ∷ [])
    ∷ gives (map (units_run 65537) longest) (65536 ∷ 65536 ∷ 65536 ∷ [])
    ∷ []
