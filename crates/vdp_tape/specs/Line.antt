-- The recorded line: what it leaves on the chip and the tape, and the pixel buffer (definition, The tape and Drawing).
use Rattle.std.specs.Prelude.{ℕ, cond, List, eqb}
use Rattle.vdp_line.specs.Line.{line_pixels}
use Rattle.vdp_tape.specs.Recorded.{Line, recorded}
use Rattle.vdp_tape.specs.Recorder.{Recorder, TapeOutcome}

pub record LineTapeOutcome : Type 0 where
  pub outcome : TapeOutcome
  pub pixels : List ℕ

abbrev pub line_tape_outcome : TapeOutcome → List ℕ → LineTapeOutcome
line_tape_outcome o pixels = record { outcome = o; pixels = pixels }

-- "Pixels are drawn as by the plain line."; a refused line leaves them
abbrev pub recorded_line : ℕ → List ℕ → Recorder → LineTapeOutcome
recorded_line n pixels r =
    let o = recorded (Line n pixels) r in
    line_tape_outcome o (cond (eqb o.number 0) (line_pixels r.chip n pixels) pixels)
