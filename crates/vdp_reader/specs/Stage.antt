-- The table of stages: definition, Scripts, The reader.
use Rattle.std.specs.Prelude.{ℕ, cond, eqb, Option, Some, None}
use Rattle.vdp_reader.specs.declared.stage.Stage.{Stage}
use Rattle.vdp_reader.specs.declared.stage.Stage.TheVariants.{Anew, Between, InLength, AtShort, AtLong, AtUpper, AtLower, Stopped}

-- "nothing"; "the version and whole items"; "of the next item, the first byte of its length"; "its length, 1"; "its
-- length, 3"; "that, and its kind"; "that, and the first byte of its content"; "the reader is stopped"
abbrev pub stage_number : Stage → ℕ
stage_number Anew = 0
stage_number Between = 1
stage_number InLength = 2
stage_number AtShort = 3
stage_number AtLong = 4
stage_number AtUpper = 5
stage_number AtLower = 6
stage_number Stopped = 7

-- the stage that has a number
abbrev pub stage_of : ℕ → Option Stage
stage_of n =
    cond (eqb n 0) (Some Anew)
    (cond (eqb n 1) (Some Between)
    (cond (eqb n 2) (Some InLength)
    (cond (eqb n 3) (Some AtShort)
    (cond (eqb n 4) (Some AtLong)
    (cond (eqb n 5) (Some AtUpper)
    (cond (eqb n 6) (Some AtLower)
    (cond (eqb n 7) (Some Stopped) None)))))))
