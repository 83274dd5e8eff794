-- The control port: definition, Ports and DMA; notes s7 and s11.
use Rattle.std.specs.Prelude.{ℕ, ◌+◌, ◌*◌, ◌/◌, ◌%◌, Bool, cond, ◌&&◌, List, [], ◌∷◌, eqb, ltb}
use Rattle.vdp_state.specs.Answer.{Answer}
use Rattle.vdp_state.specs.declared.state.Control.{Control}
use Rattle.vdp_state.specs.declared.state.Dma.{Dma}
use Rattle.vdp_state.specs.declared.state.Port.{Port}
use Rattle.vdp_state.specs.declared.state.State.{State}
use Rattle.vdp_state.specs.declared.state.Step.{Step}
use Rattle.vdp_state.specs.declared.state.Store.TheVariants.{Nothing, Register}
use Rattle.vdp_state.specs.Answer.{Test, first, answered}
use Rattle.vdp_state.specs.State.{with_port, with_dma}
use Rattle.vdp_ports.specs.declared.taken.Taken.{Taken}
use Rattle.vdp_ports.specs.declared.taken.Taken.TheVariants.{RegisterWrite, FirstHalf, SecondHalf}
use Rattle.vdp_ports.specs.Length.{register, units_of, words, bytes, idle, fill_waiting, transfer, copy}
use Rattle.vdp_ports.specs.Refusal.{bad_state, busy}
use Rattle.vdp_ports.specs.Taken.{taken_as, pending_left, register_of, has_register}

abbrev pub port : ℕ → ℕ → Bool → Port
port address code pending = record { address = address; code = code; pending = pending }

-- "A byte b that is written to a port counts as the word 257 x b"
abbrev pub byte_word : ℕ → ℕ
byte_word b = 257 * b

-- a waiting fill is dropped
abbrev pub fill_dropped : Dma → Dma
fill_dropped d = cond (eqb d.kind 1) idle d

-- "its byte is the low byte of the word. A write to registers 24 to 31 changes nothing. A write to registers 0 to 23
-- stores the byte, makes the code 0 and drops a waiting fill; the address stays."
abbrev pub register_write : Control → ℕ → Step
register_write c w =
    cond (has_register (register_of w))
    (record {
      control = with_dma (with_port c (port c.port.address 0 c.port.pending)) (fill_dropped c.dma);
      store = Register (register_of w) (w % 256);
    })
    (record { control = c; store = Nothing })

-- "Its bits 15-14 become CD1-CD0 and its bits 13-0 become A13-A0, at once; CD5-CD2 and A15-A14 stay. It drops a waiting
-- fill and sets pending."
abbrev pub first_half : Control → ℕ → Step
first_half c w =
    record {
      control = with_dma
          (with_port c
          (port (c.port.address / 16384 * 16384 + w % 16384) (c.port.code / 4 * 4 + w / 16384) (pending_left FirstHalf)))
          (fill_dropped c.dma);
      store = Nothing;
    }

-- the DMA that starts: "Register 23 bit 7 clear: a transfer, kind 2. Its source is 2 x (65,536 x register 23 +
-- registers 22:21)."; "Register 23 bits 7-6 = 10: a fill that waits for a data write, kind 1."; "Register 23 bits 7-6 =
-- 11: a copy, kind 4. Its source is registers 22:21."
abbrev pub dma_started : State → Dma
dma_started s =
    cond (ltb (register s 23) 128)
    (transfer (words (units_of s)) (2 * (register s 23 * 65536 + register s 22 * 256 + register s 21)))
    (cond (ltb (register s 23) 192) fill_waiting (copy (bytes (units_of s)) (register s 22 * 256 + register s 21)))

-- "The second half of a command starts DMA if its bit 7 (CD5) and register 1 bit 4 are both set. Else the DMA state
-- stays"
abbrev pub dma_after : State → ℕ → Dma
dma_after s w = cond (eqb (w / 128 % 2) 1 && eqb (register s 1 / 16 % 2) 1) (dma_started s) s.control.dma

-- "Its bits 7-4 become CD5-CD2 and its bits 1-0 become A15-A14; CD1-CD0 and A13-A0 stay. It clears pending"
abbrev pub second_half : State → ℕ → Step
second_half s w =
    record {
      control = with_dma
          (with_port s.control
          (port (w % 4 * 16384 + s.control.port.address % 16384) (w / 16 % 16 * 4 + s.control.port.code % 4)
          (pending_left SecondHalf)))
          (dma_after s w);
      store = Nothing;
    }

-- what a word does, by how it is taken
abbrev pub taken_step : Taken → State → ℕ → Step
taken_step RegisterWrite s w = register_write s.control w
taken_step FirstHalf s w = first_half s.control w
taken_step SecondHalf s w = second_half s w

unfoldable pub control_step : State → ℕ → Step
control_step s w = taken_step (taken_as s.control.port.pending w) s w

abbrev pub control_tests : State → List Test
control_tests s = bad_state s ∷ busy s ∷ []

abbrev pub control_write : State → ℕ → Answer
control_write s w = answered (first (control_tests s)) s (control_step s w) 0
