-- "DMA kind: 0 idle, 1 fill waiting, 2 transfer, 3 fill, 4 copy": definition, The state.
use Rattle.std.specs.Prelude.{ℕ}
use Rattle.vdp_state.specs.declared.kind.DmaKind.{DmaKind}
use Rattle.vdp_state.specs.declared.kind.DmaKind.TheVariants.{Idle, FillWaiting, Transfer, Fill, Copy}

abbrev pub kind_number : DmaKind → ℕ
kind_number Idle = 0
kind_number FillWaiting = 1
kind_number Transfer = 2
kind_number Fill = 3
kind_number Copy = 4
