-- Which memory a data access touches: definition, Ports ("CD3-CD0 decide what a data access does"); notes s7.
use Rattle.std.specs.Prelude.{ℕ, ◌+◌, ◌-◌, ◌*◌, ◌/◌, ◌%◌, cond, eqb, ltb, get_or}
use Rattle.vdp_state.specs.declared.state.Store.{Store}
use Rattle.vdp_state.specs.declared.state.Store.TheVariants.{Nothing as NoStore, Vram as VramWord, Cram as Colour, Vsram as Scroll}
use Rattle.vdp_state.specs.Cell.{word_at}
use Rattle.vdp_state.specs.Colour.{colour_word}
use Rattle.vdp_state.specs.State.{Chip}
use Rattle.vdp_ports.specs.declared.access.Access.{Access}
use Rattle.vdp_ports.specs.declared.access.Access.TheVariants.{Write, Read, Nothing}
use Rattle.vdp_ports.specs.declared.access.Memory.{Memory}
use Rattle.vdp_ports.specs.declared.access.Memory.TheVariants.{Vram, Cram, Vsram}

-- writes: 0001 VRAM, 0011 colour, 0101 scroll; reads: 0000, 1000, 0100 likewise; other codes nothing
abbrev pub access : ℕ → Access
access code =
    cond (eqb (code % 16) 0b0001) (Write Vram)
    (cond (eqb (code % 16) 0b0011) (Write Cram)
    (cond (eqb (code % 16) 0b0101) (Write Vsram)
    (cond (eqb (code % 16) 0b0000) (Read Vram)
    (cond (eqb (code % 16) 0b1000) (Read Cram) (cond (eqb (code % 16) 0b0100) (Read Vsram) Nothing)))))

-- the address with bit 0 cleared, and the colour or scroll word's number
abbrev pub even_place : ℕ → ℕ
even_place address = address - address % 2

abbrev pub word_number : ℕ → ℕ
word_number address = address / 2 % 64

-- the bytes of a word swapped
abbrev pub swapped : ℕ → ℕ
swapped w = w % 256 * 256 + w / 256

-- "the word goes to the address with bit 0 cleared, upper byte first. At an odd address its two bytes are exchanged
-- before."; "colour word (address / 2) mod 64 takes the bits of 0EEEh of the word"; "scroll word (address / 2) mod 64
-- takes the low 10 bits of the word, if that number is below 40"
abbrev pub written_to : Memory → ℕ → ℕ → Store
written_to Vram address w = VramWord (even_place address) (cond (eqb (address % 2) 0) w (swapped w))
written_to Cram address w = Colour (word_number address) (colour_word w)
written_to Vsram address w = cond (ltb (word_number address) 40) (Scroll (word_number address) (w % 1024)) NoStore

abbrev pub written : Access → ℕ → ℕ → Store
written (Write memory) address w = written_to memory address w
written (Read memory) address w = NoStore
written Nothing address w = NoStore

-- "the word at the address with bit 0 cleared. Its bytes are never exchanged."; "A scroll word that is not there reads
-- as 0."
abbrev pub read_from : Memory → Chip → ℕ → ℕ
read_from Vram c address = word_at c.vram (even_place address)
read_from Cram c address = get_or c.state.cram (word_number address) 0
read_from Vsram c address = get_or c.state.vsram (word_number address) 0

abbrev pub read_word : Access → Chip → ℕ → ℕ
read_word (Write memory) c address = 0
read_word (Read memory) c address = read_from memory c address
read_word Nothing c address = 0
