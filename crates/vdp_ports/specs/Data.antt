-- The data port: definition, Ports; notes s7 to s10.
use Rattle.std.specs.Prelude.{ℕ, ◌+◌, ◌/◌, ◌%◌, false, cond, List, [], ◌∷◌, eqb}
use Rattle.vdp_state.specs.Answer.{Answer}
use Rattle.vdp_state.specs.declared.state.Dma.{Dma}
use Rattle.vdp_state.specs.declared.state.Port.{Port}
use Rattle.vdp_state.specs.declared.state.State.{State}
use Rattle.vdp_state.specs.declared.state.Step.{Step}
use Rattle.vdp_state.specs.declared.state.Store.TheVariants.{Nothing}
use Rattle.vdp_state.specs.Answer.{Test, first, answered, served, Outcome}
use Rattle.vdp_state.specs.State.{Chip, with_port, with_dma}
use Rattle.vdp_ports.specs.Access.{access, written, read_word}
use Rattle.vdp_ports.specs.Length.{register, units_of, bytes, fill}
use Rattle.vdp_ports.specs.Refusal.{bad_state, bad_vram, busy}

-- "adds register 15 to the address, mod 65,536"
abbrev pub advanced : Port → ℕ → Port
advanced p increment = record { address = (p.address + increment) % 65536; code = p.code; pending = p.pending }

-- a data access "clears pending, whatever its code", and so does a status read
abbrev pub settled : Port → Port
settled p = record { address = p.address; code = p.code; pending = false }

-- in kind 1, after the write: "Then kind 3 begins: the fill byte is the upper byte of the word"
abbrev pub fill_begun : State → ℕ → Dma
fill_begun s w = cond (eqb s.control.dma.kind 1) (fill (bytes (units_of s)) (w / 256)) s.control.dma

-- the port after a data access
abbrev pub port_after : State → Port
port_after s = settled (advanced s.control.port (register s 15))

unfoldable pub data_write_step : State → ℕ → Step
data_write_step s w =
    record {
      control = with_dma (with_port s.control (port_after s)) (fill_begun s w);
      store = written (access s.control.port.code) s.control.port.address w;
    }

unfoldable pub data_read_step : State → Step
data_read_step s = record { control = with_port s.control (port_after s); store = Nothing }

-- the word that a data read gives
abbrev pub data_word : Chip → ℕ
data_word c = read_word (access c.state.control.port.code) c c.state.control.port.address

abbrev pub data_tests : Chip → List Test
data_tests c = bad_state c.state ∷ bad_vram c.vram ∷ busy c.state ∷ []

abbrev pub data_write : Chip → ℕ → Outcome
data_write c w = served (first (data_tests c)) c (data_write_step c.state w) 0

abbrev pub data_read : Chip → Answer
data_read c = answered (first (data_tests c)) c.state (data_read_step c.state) (data_word c)
