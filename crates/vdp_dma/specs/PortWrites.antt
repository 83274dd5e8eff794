-- A transfer is its port writes: definition, DMA, What a run equals.
use Rattle.std.specs.Prelude.{ℕ, zero, suc, ◌≤◌, ◌≡◌, List, [], ◌∷◌}
use Rattle.vdp_state.specs.State.{Chip, chip, with_control, with_port, with_dma}
use Rattle.vdp_ports.specs.Data.{settled, data_write}
use Rattle.vdp_ports.specs.Length.{idle}
use Rattle.vdp_dma.specs.InTurn.{left, in_turn, NoneRefused}
use Rattle.vdp_dma.specs.Run.{run}
use Rattle.vdp_dma.specs.Source.{word_from, next_source}

-- n words: "that at the source, that at the next source, and so on"
abbrev pub words_moved : List ℕ → List ℕ → ℕ → ℕ → List ℕ
words_moved cartridge ram source zero = []
words_moved cartridge ram source (suc n) = word_from cartridge ram source ∷ words_moved cartridge ram (next_source source) n

-- "as many as units remain"
abbrev pub transfer_words : List ℕ → List ℕ → Chip → List ℕ
transfer_words cartridge ram c = words_moved cartridge ram c.state.control.dma.source c.state.control.dma.remaining

-- "the same chip with only the DMA made idle"
abbrev pub made_idle : Chip → Chip
made_idle c = chip (with_control c.state (with_dma c.state.control idle)) c.vram

-- the chip after the data writes of a transfer's words
abbrev pub port_writes : List ℕ → List ℕ → Chip → Chip
port_writes cartridge ram c = in_turn data_write (transfer_words cartridge ram c) (made_idle c)

-- "a chip in kind 2, memories, and a budget of at least the units remaining, such that the run is not refused"
pub record WholeTransfer (c : Chip) (cartridge ram : List ℕ) (budget : ℕ) : Type 0 where
  pub kind : c.state.control.dma.kind ≡ 2
  pub enough : c.state.control.dma.remaining ≤ budget
  pub accepted : (run c cartridge ram budget).answer.number ≡ 0

-- "VRAM, colours, scroll words and address"
pub record SameMemoryAndAddress (a b : Chip) : Type 0 where
  pub vram : a.vram ≡ b.vram
  pub colours : a.state.cram ≡ b.state.cram
  pub scrolls : a.state.vsram ≡ b.state.vsram
  pub address : a.state.control.port.address ≡ b.state.control.port.address

-- the claim: "It leaves VRAM, colours, scroll words and address as data writes of the same words do"; "None of the data
-- writes is refused."
abbrev pub TransferAsWrites : Type 0
TransferAsWrites =
    (c : Chip) (cartridge ram : List ℕ) (budget : ℕ) → WholeTransfer c cartridge ram budget
    → NoneRefused data_write (transfer_words cartridge ram c) (made_idle c)
    × SameMemoryAndAddress (left (run c cartridge ram budget)) (port_writes cartridge ram c)

-- a chip with pending clear
abbrev pub not_pending : Chip → Chip
not_pending c = chip (with_control c.state (with_port c.state.control (settled c.state.control.port))) c.vram

-- the claim: "All else is the same too but for pending, which a data write clears and a unit leaves."
abbrev pub SameButPending : Type 0
SameButPending =
    (c : Chip) (cartridge ram : List ℕ) (budget : ℕ) → WholeTransfer c cartridge ram budget
    → not_pending (left (run c cartridge ram budget)) ≡ port_writes cartridge ram c
