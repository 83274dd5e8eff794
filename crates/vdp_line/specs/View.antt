-- Serves proofs only: what the code computes once for a line, and the rows that 16 columns of the screen show, in
-- which neither the vertical scroll nor the window's edge changes.
use Rattle.std.specs.Prelude.{ℕ, ◌+◌, ◌*◌, ◌/◌, ◌%◌, Bool, cond, ◌||◌, List, ltb, get_or}
use Rattle.vdp_state.specs.State.{Chip}
use Rattle.vdp_ports.specs.Length.{register}
use Rattle.vdp_line.specs.declared.view.Scrolled.{Scrolled as ScrolledHeld}
use Rattle.vdp_line.specs.declared.view.View.{View as ViewHeld}
use Rattle.vdp_line.specs.Layer.{horizontal}
use Rattle.vdp_line.specs.Layout.{bit}
use Rattle.vdp_line.specs.Plane.{Plane, Row, plane_a, plane_b, window, row_of, side, plane_in}

-- a plane and its horizontal scroll
pub record Scrolled : Type 0 where
  pub plane : Plane
  pub h : ℕ

-- the planes and the window; whether the vertical scroll goes by 16 columns; whether the window has the whole line,
-- else whether it lies right of its edge, which is counted in 16 columns
pub record View : Type 0 where
  pub a : Scrolled
  pub b : Scrolled
  pub window : Plane
  pub stepped : Bool
  pub whole : Bool
  pub beyond : Bool
  pub edge : ℕ

abbrev pub view_of : Chip → ℕ → View
view_of c line =
    let s = c.state in
    record {
      a = record { plane = plane_a s; h = horizontal c line 0 };
      b = record { plane = plane_b s; h = horizontal c line 1 };
      window = window s;
      stepped = bit s 11 2;
      whole = side (bit s 18 7) (ltb (line / 8) (register s 18 % 32));
      beyond = bit s 17 7;
      edge = register s 17 % 32;
    }

-- which scroll word holds for a plane on the 16 columns from 16 c on, and the plane's row there
abbrev pub scroll_word : Bool → ℕ → ℕ → ℕ
scroll_word stepped plane c = cond stepped (2 * c + plane) plane

abbrev pub scrolled_row : Scrolled → Bool → ℕ → List ℕ → ℕ → ℕ → Row
scrolled_row p stepped plane vsram c line =
    row_of p.plane p.h (get_or vsram (scroll_word stepped plane c) 0) line

abbrev pub row_a_at : View → List ℕ → ℕ → ℕ → Row
row_a_at v vsram c line =
    cond (v.whole || side v.beyond (ltb c v.edge)) (row_of v.window 0 0 line)
    (scrolled_row v.a v.stepped 0 vsram c line)

abbrev pub row_b_at : View → List ℕ → ℕ → ℕ → Row
row_b_at v vsram c line = scrolled_row v.b v.stepped 1 vsram c line

-- what the code's structs hold
abbrev pub scrolled_in : ScrolledHeld → Scrolled
scrolled_in p = record { plane = plane_in p.plane; h = p.h }

abbrev pub view_in : ViewHeld → View
view_in v =
    record {
      a = scrolled_in v.a;
      b = scrolled_in v.b;
      window = plane_in v.window;
      stepped = v.stepped;
      whole = v.whole;
      beyond = v.beyond;
      edge = v.edge;
    }
