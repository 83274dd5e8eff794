-- Ranges: a chip whose numbers fit the fields that hold them, and a step that may be performed on it.
use Rattle.std.specs.Prelude.{ℕ, ◌<◌, ◌%◌, ◌≡◌, Bool, true, ◌&&◌, List, ltb, eqb, length, get_or}
use Rattle.vdp_state.specs.declared.state.Control.{Control}
use Rattle.vdp_state.specs.declared.state.Step.{Step}
use Rattle.vdp_state.specs.declared.state.Store.{Store}
use Rattle.vdp_state.specs.declared.state.Store.TheVariants.{Nothing, Vram, Cram, Vsram, Register}
use Rattle.vdp_state.specs.Good.{is_colour, is_scroll, good_control, good}
use Rattle.vdp_state.specs.State.{Chip}

-- every element is a byte
abbrev pub AllBytes : List ℕ → Type 0
AllBytes m = (i : ℕ) → get_or m i 0 < 256

-- a control part that GOOD admits, with an address of 16 bits, and a fill byte and a line counter of 8
pub record GoodControl (c : Control) : Type 0 where
  pub good : good_control c ≡ true
  pub address : c.port.address < 65536
  pub fill : c.dma.fill < 256
  pub counter : c.timing.counter < 256

-- a GOOD state of bytes and words beside 65,536 bytes of VRAM
pub record GoodChip (c : Chip) : Type 0 where
  pub good : good c.state ≡ true
  pub control : GoodControl c.state.control
  pub registers : AllBytes c.state.registers
  pub vram : AllBytes c.vram
  pub size : length c.vram ≡ 65536

-- definition, The tape: "the even address of a VRAM word, else the number of the word or register", and the contents
-- that GOOD admits there
abbrev pub good_store : Store → Bool
good_store Nothing = true
good_store (Vram place w) = eqb (place % 2) 0 && ltb place 65536 && ltb w 65536
good_store (Cram i w) = ltb i 64 && is_colour w
good_store (Vsram i w) = ltb i 40 && is_scroll w
good_store (Register i b) = ltb i 24 && ltb b 256

-- a step in range
pub record GoodStep (t : Step) : Type 0 where
  pub control : GoodControl t.control
  pub store : good_store t.store ≡ true
