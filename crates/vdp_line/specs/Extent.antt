-- The extents and the planes' names of the code, as numbers of the definition.
use Rattle.std.specs.Prelude.{ℕ}
use Rattle.vdp_line.specs.declared.extent.Extent.{Extent}
use Rattle.vdp_line.specs.declared.extent.Extent.TheVariants.{Cells32, Cells64, Cells128}
use Rattle.vdp_line.specs.declared.extent.PlaneName.{PlaneName}
use Rattle.vdp_line.specs.declared.extent.PlaneName.TheVariants.{A, B}

-- "32, 64 and 128 cells"
abbrev pub cells_in : Extent → ℕ
cells_in Cells32 = 32
cells_in Cells64 = 64
cells_in Cells128 = 128

-- plane 0 (A) or 1 (B)
abbrev pub plane_number : PlaneName → ℕ
plane_number A = 0
plane_number B = 1
