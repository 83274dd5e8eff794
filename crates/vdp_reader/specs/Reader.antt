-- What a reader keeps between deliveries: definition, Scripts, The reader.
use Rattle.std.specs.Prelude.{ℕ, Bool, cond, not, ◌&&◌, ◌||◌, eqb, leb}
use Rattle.vdp_reader.specs.declared.reader.Reader.{Reader}

-- in a stage that keeps nothing else
abbrev pub at_stage : ℕ → Reader
at_stage stage = record { stage = stage; kind = 0; upper = 0; number = 0 }

-- "A reader that is started anew is in stage 0."
abbrev pub started : Reader
started = at_stage 0

-- the version and whole items have come
abbrev pub between_items : Reader
between_items = at_stage 1

-- "To stop a reader with a number is to bring it to stage 7 with that number."
abbrev pub stopped : ℕ → Reader
stopped number = record { stage = 7; kind = 0; upper = 0; number = number }

-- kinds "1, 2, 5 or 6", whose length is 3
abbrev pub has_content : ℕ → Bool
has_content kind = eqb kind 1 || eqb kind 2 || eqb kind 5 || eqb kind 6

-- "a number that a call may answer: not above 12, and not 9"
abbrev pub may_answer : ℕ → Bool
may_answer n = leb n 12 && not (eqb n 9)

-- the table of stages; "A reader that is in no row of this table is outside its ranges."
unfoldable pub in_range : Reader → Bool
in_range r =
    let bare : Bool = eqb r.kind 0 && eqb r.upper 0 in
    let going : Bool = eqb r.number 0 in
    (leb r.stage 4 && bare && going)
    || (eqb r.stage 5 && has_content r.kind && eqb r.upper 0 && going)
    || (eqb r.stage 6 && has_content r.kind && going)
    || (eqb r.stage 7 && bare && may_answer r.number)

-- "A stopped reader takes no byte, makes no call and stays as it is [..]; a reader outside its ranges does so too."
abbrev pub goes_on : Reader → Bool
goes_on r = in_range r && not (eqb r.stage 7)

-- "A delivery answers the number of the reader that it leaves, or 1 if that reader is outside its ranges."
abbrev pub answers : Reader → ℕ
answers r = cond (in_range r) r.number 1
