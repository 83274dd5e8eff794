-- One DMA unit of each kind, as the step that it decides: definition, DMA; notes s11.
use Rattle.std.specs.Prelude.{ℕ, ◌+◌, ◌-◌, ◌*◌, ◌%◌, Bool, true, false, cond, List, eqb, leb, get_or}
use Rattle.vdp_state.specs.declared.state.Control.{Control}
use Rattle.vdp_state.specs.declared.state.Dma.{Dma}
use Rattle.vdp_state.specs.declared.state.Port.{Port}
use Rattle.vdp_state.specs.declared.state.State.{State}
use Rattle.vdp_state.specs.declared.state.Step.{Step}
use Rattle.vdp_state.specs.declared.state.Store.{Store}
use Rattle.vdp_state.specs.declared.state.Store.TheVariants.{Nothing as NoStore, Vram as VramWord}
use Rattle.vdp_state.specs.State.{Chip, with_port, with_dma}
use Rattle.vdp_ports.specs.declared.access.Access.{Access}
use Rattle.vdp_ports.specs.declared.access.Access.TheVariants.{Write, Read, Nothing}
use Rattle.vdp_ports.specs.declared.access.Memory.TheVariants.{Vram, Cram, Vsram}
use Rattle.vdp_ports.specs.Access.{access, even_place, written}
use Rattle.vdp_ports.specs.Data.{advanced}
use Rattle.vdp_ports.specs.Length.{register, idle}
use Rattle.vdp_dma.specs.Source.{word_from, next_source}

-- the DMA state once n units are made: each makes "the units remaining one less. After the last unit the kind, the
-- source and the fill byte are 0."
abbrev pub units_dma : Dma → ℕ → ℕ → Dma
units_dma d n source =
    cond (leb d.remaining n) idle
    (record { kind = d.kind; remaining = d.remaining - n; source = source; fill = d.fill })

abbrev pub unit_dma : Dma → ℕ → Dma
unit_dma d source = units_dma d 1 source

-- the control part after a unit: the address moves by register 15, the source as the kind has it; "A unit changes no
-- register, not pending, not the code and no flag."
abbrev pub unit_control : Control → ℕ → ℕ → Control
unit_control c increment source = with_dma (with_port c (advanced c.port increment)) (unit_dma c.dma source)

-- the control part once n units are made, with the port and the source that they lead to
abbrev pub units_control : Control → Port → ℕ → ℕ → Control
units_control c p n source = with_dma (with_port c p) (units_dma c.dma n source)

-- a byte stored in VRAM, as a store of the even word that holds it
abbrev pub byte_stored : List ℕ → ℕ → ℕ → Store
byte_stored m place b =
    VramWord (even_place place)
    (cond (eqb (place % 2) 0) (b * 256 + get_or m (place + 1) 0) (get_or m (place - 1) 0 * 256 + b))

-- "A transfer unit stores the word at the source as a data write would, with the same code and address."
abbrev pub transfer_step : State → ℕ → Step
transfer_step s w =
    record {
      control = unit_control s.control (register s 15) (next_source s.control.dma.source);
      store = written (access s.control.port.code) s.control.port.address w;
    }

-- "if CD3-CD0 are 0001"
abbrev pub writes_vram : Access → Bool
writes_vram (Write Vram) = true
writes_vram (Write Cram) = false
writes_vram (Write Vsram) = false
writes_vram (Read memory) = false
writes_vram Nothing = false

-- "the address with bit 0 inverted"
abbrev pub inverted : ℕ → ℕ
inverted place = cond (eqb (place % 2) 0) (place + 1) (place - 1)

-- "A fill unit stores the fill byte at the address with bit 0 inverted, if CD3-CD0 are 0001."
abbrev pub fill_step : Chip → Step
fill_step c =
    let k = c.state.control in
    record {
      control = unit_control k (register c.state 15) k.dma.source;
      store = cond (writes_vram (access k.port.code)) (byte_stored c.vram (inverted k.port.address) k.dma.fill) NoStore;
    }

-- "A copy unit stores the VRAM byte at the source at the address, whatever the code. Then the source goes on by 1, mod
-- 65,536."
abbrev pub copy_step : Chip → Step
copy_step c =
    let k = c.state.control in
    record {
      control = unit_control k (register c.state 15) ((k.dma.source + 1) % 65536);
      store = byte_stored c.vram k.port.address (get_or c.vram k.dma.source 0);
    }

-- the unit that a chip makes next, by its DMA kind: 2, 3 or 4, as no unit is left in kinds 0 and 1
abbrev pub unit : List ℕ → List ℕ → Chip → Step
unit cartridge ram c =
    cond (eqb c.state.control.dma.kind 2) (transfer_step c.state (word_from cartridge ram c.state.control.dma.source))
    (cond (eqb c.state.control.dma.kind 3) (fill_step c) (copy_step c))
