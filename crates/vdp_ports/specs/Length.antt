-- DMA lengths: definition, DMA; notes s11. A transfer counts words, a fill or a copy counts bytes.
use Rattle.std.specs.Prelude.{ℕ, ◌+◌, ◌*◌, cond, eqb, get_or}
use Rattle.vdp_state.specs.declared.state.Dma.{Dma}
use Rattle.vdp_state.specs.declared.state.State.{State}
use Rattle.vdp_state.specs.Good.{most_units}
use Rattle.vdp_ports.specs.declared.length.Bytes.{Bytes}
use Rattle.vdp_ports.specs.declared.length.Words.{Words}

abbrev pub register : State → ℕ → ℕ
register s i = get_or s.registers i 0

-- "The length is registers 20:19, and 65,536 if they are 0."
abbrev pub units : ℕ → ℕ
units n = cond (eqb n 0) most_units n

abbrev pub units_of : State → ℕ
units_of s = units (register s 20 * 256 + register s 19)

-- "It counts words in a transfer and bytes in a fill or a copy."
abbrev pub words : ℕ → Words
words n = record { 0 = n }

abbrev pub bytes : ℕ → Bytes
bytes n = record { 0 = n }

abbrev pub idle : Dma
idle = record { kind = 0; remaining = 0; source = 0; fill = 0 }

abbrev pub fill_waiting : Dma
fill_waiting = record { kind = 1; remaining = 0; source = 0; fill = 0 }

abbrev pub transfer : Words → ℕ → Dma
transfer n source = record { kind = 2; remaining = n.0; source = source; fill = 0 }

abbrev pub fill : Bytes → ℕ → Dma
fill n b = record { kind = 3; remaining = n.0; source = 0; fill = b }

abbrev pub copy : Bytes → ℕ → Dma
copy n source = record { kind = 4; remaining = n.0; source = source; fill = 0 }
