-- Where a transfer finds its words: definition, DMA; notes s11.
use Rattle.std.specs.Prelude.{ℕ, zero, suc, ◌+◌, ◌*◌, ◌%◌, Bool, true, cond, ◌&&◌, ◌||◌, List, eqb, leb, ltb, length, take, drop}
use Rattle.vdp_state.specs.Cell.{word_at}
use Rattle.vdp_ports.specs.declared.length.Words.{Words}

-- "A word at E00000h or above is the word of work RAM at source mod 65,536. A word below the cartridge's length is the
-- word of the cartridge at the source."
abbrev pub work_ram : ℕ → Bool
work_ram source = leb 0xe00000 source

abbrev pub word_from : List ℕ → List ℕ → ℕ → ℕ
word_from cartridge ram source = cond (work_ram source) (word_at ram (source % 65536)) (word_at cartridge source)

-- the bytes of the words next to be moved: n words, or as many as there are up to the end of the memory they lie in
abbrev pub words_next : List ℕ → List ℕ → ℕ → Words → List ℕ
words_next cartridge ram source n =
    cond (work_ram source) (take (2 * n.0) (drop (source % 65536) ram)) (take (2 * n.0) (drop source cartridge))

-- "the source goes on by 2, and from FFFFFEh it goes to FF0000h"; a source has 24 bits
abbrev pub next_source : ℕ → ℕ
next_source source = cond (eqb source 0xfffffe) 0xff0000 ((source + 2) % 0x1000000)

-- a word lies in lent memory; and each of n words does, from a source on
abbrev pub is_lent : List ℕ → ℕ → Bool
is_lent cartridge source = work_ram source || ltb source (length cartridge)

abbrev pub all_lent : List ℕ → ℕ → ℕ → Bool
all_lent cartridge source zero = true
all_lent cartridge source (suc n) = is_lent cartridge source && all_lent cartridge (next_source source) n
