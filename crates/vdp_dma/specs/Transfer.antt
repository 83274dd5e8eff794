-- Serves proofs only: the words of a part of memory moved one after the other, and when n words are at hand.
use Rattle.std.specs.Prelude.{ℕ, ◌+◌, ◌*◌, ◌%◌, ◌≤◌, ◌<◌, ◌≡◌, Bool, true, ◌||◌, List, [], ◌∷◌, leb, length, set}
use Rattle.vdp_state.specs.declared.state.Control.{Control}
use Rattle.vdp_state.specs.declared.state.Dma.{Dma}
use Rattle.vdp_state.specs.declared.state.State.{State}
use Rattle.vdp_state.specs.declared.state.Store.{Store}
use Rattle.vdp_state.specs.declared.state.Store.TheVariants.{Nothing, Vram, Cram, Vsram, Register}
use Rattle.vdp_state.specs.Cell.{perform}
use Rattle.vdp_state.specs.State.{Chip, with_cram, with_vsram, with_control}
use Rattle.vdp_dma.specs.Source.{work_ram}
use Rattle.vdp_dma.specs.Unit.{transfer_step}

-- a last odd byte is not a word
abbrev pub moved : List ℕ → Chip → Chip
moved [] c = c
moved (high ∷ []) c = c
moved (high ∷ (low ∷ bytes)) c = moved bytes (perform c (transfer_step c.state (high * 256 + low)))

-- a state with a control part, colours and scroll words of its own
abbrev pub holding : State → Control → List ℕ → List ℕ → State
holding s k colours scrolls = with_vsram (with_cram (with_control s k) colours) scrolls

-- colours and scroll words once a cell is stored
abbrev pub colours_in : List ℕ → Store → List ℕ
colours_in l Nothing = l
colours_in l (Vram place w) = l
colours_in l (Cram i w) = set l i w
colours_in l (Vsram i w) = l
colours_in l (Register i b) = l

abbrev pub scrolls_in : List ℕ → Store → List ℕ
scrolls_in l Nothing = l
scrolls_in l (Vram place w) = l
scrolls_in l (Cram i w) = l
scrolls_in l (Vsram i w) = set l i w
scrolls_in l (Register i b) = l

-- n words from a source lie in work RAM, or before the end of the cartridge
abbrev pub at_hand : List ℕ → ℕ → ℕ → Bool
at_hand cartridge source n = work_ram source || leb (source + 2 * n) (length cartridge)

-- a transfer that can move n words
pub record Ready (cartridge : List ℕ) (d : Dma) (n : ℕ) : Type 0 where
  pub kind : d.kind ≡ 2
  pub enough : n ≤ d.remaining
  pub even : d.source % 2 ≡ 0
  pub bits : d.source < 0x1000000
  pub lent : at_hand cartridge d.source n ≡ true
