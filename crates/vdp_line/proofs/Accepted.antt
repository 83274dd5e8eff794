-- What an accepted line was tested for.
use Prim.Native.Nat.{ℕ, ◌<◌, ◌≤◌}
use mathlib.Core.Path.{◌≡◌, refl}
use mathlib.Core.Bool.{Bool, true, false, true≢false}
use mathlib.Core.List.{List}
use native.Mathlib.Omega.{arith}
use borrow.Author.Tests.{eqb-true, leb-false, ltb-false}
use lib.Dec.{eqb, leb, ltb}
use lib.ListN.{length}
use Rattle.vdp_state.specs.declared.state.State.{State}
use Rattle.vdp_state.specs.Good.{good}
use Rattle.vdp_state.specs.State.{Chip}
use Rattle.vdp_state.proofs.Bools.{by_cases, or_true}
use Rattle.vdp_line.specs.Layout.{height}
use Rattle.vdp_line.specs.Line.{plane_cells, most_cells, not_modelled, line_number}

pub record Passed (s : State) (n : ℕ) (pixels : List ℕ) : Type 0 where
  pub size : length pixels ≡ 320
  pub tall : n < height s
  pub few : plane_cells s ≤ most_cells

-- the last of the conditions for 4
few_cells : (s : State) → (not_modelled s).holds ≡ false → plane_cells s ≤ most_cells
few_cells s e =
    by_cases (ltb most_cells (plane_cells s)) (λ over. absurd (true≢false (simp (over, or_true) at e))) (λ within. ltb-false most_cells (plane_cells s) within)

module _ (c : Chip) (n : ℕ) (pixels : List ℕ) where
  by_tests : (g : Bool) → good c.state ≡ g → (v : Bool) → eqb (length c.vram) 65536 ≡ v → (p : Bool) → eqb (length pixels) 320 ≡ p → (h : Bool) → leb (height c.state) n ≡ h
      → (m : Bool) → (not_modelled c.state).holds ≡ m → line_number c n pixels ≡ 0 → Passed c.state n pixels
  by_tests false a v b p d h e m f z = let bad : ◌≡◌ {A = ℕ} 1 0 = simp a at z in absurd (omega arith)
  by_tests true a false b p d h e m f z = let bad : ◌≡◌ {A = ℕ} 2 0 = simp (a, b) at z in absurd (omega arith)
  by_tests true a true b false d h e m f z = let bad : ◌≡◌ {A = ℕ} 2 0 = simp (a, b, d) at z in absurd (omega arith)
  by_tests true a true b true d true e m f z = let bad : ◌≡◌ {A = ℕ} 5 0 = simp (a, b, d, e) at z in absurd (omega arith)
  by_tests true a true b true d false e true f z = let bad : ◌≡◌ {A = ℕ} 4 0 = simp (a, b, d, e, f) at z in absurd (omega arith)
  by_tests true a true b true d false e false f z =
      record {
        size = eqb-true (length pixels) 320 d;
        tall = leb-false (height c.state) n e;
        few = few_cells c.state f;
      }

  pub accepted : line_number c n pixels ≡ 0 → Passed c.state n pixels
  accepted =
      by_tests (good c.state) refl (eqb (length c.vram) 65536) refl (eqb (length pixels) 320) refl (leb (height c.state) n) refl
      (not_modelled c.state).holds refl
