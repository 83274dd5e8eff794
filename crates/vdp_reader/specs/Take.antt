-- What a byte does in each stage of a reader: definition, Scripts, The reader.
use Rattle.std.specs.Prelude.{ℕ, ◌+◌, ◌*◌, Bool, cond, eqb, Option, Some, None}
use Rattle.vdp_script.specs.declared.item.Item.{Item}
use Rattle.vdp_script.specs.declared.item.Item.TheVariants.{DataRead, StatusRead, NewFrame}
use Rattle.vdp_script.specs.Form.{version}
use Rattle.vdp_script.specs.Item.{item_from}
use Rattle.vdp_reader.specs.declared.reader.Reader.{Reader}
use Rattle.vdp_reader.specs.declared.take.Taking.{Taking}
use Rattle.vdp_reader.specs.declared.take.Taking.TheVariants.{Kept, Whole, Faulty}
use Rattle.vdp_reader.specs.Reader.{at_stage, has_content}

-- "Any other byte in stages 0 to 4 is a faulty byte."
abbrev pub kept_if : Bool → ℕ → Taking
kept_if right stage = cond right (Kept (at_stage stage)) Faulty

-- stage 2: "1; 3" lead to "stage 3; stage 4"
abbrev pub length_taken : ℕ → Taking
length_taken b = cond (eqb b 1) (Kept (at_stage 3)) (kept_if (eqb b 3) 4)

-- stage 3: with "3, 4 or 7", "the item is whole: it is of that kind"
abbrev pub short_item : ℕ → Taking
short_item b =
    cond (eqb b 3) (Whole DataRead)
    (cond (eqb b 4) (Whole StatusRead)
    (cond (eqb b 7) (Whole NewFrame) Faulty))

-- stage 4: "stage 5, and the kind is the byte"
abbrev pub kind_taken : ℕ → Taking
kind_taken b = cond (has_content b) (Kept (record { stage = 5; kind = b; upper = 0; number = 0 })) Faulty

-- stage 5: "stage 6, and the upper byte is the byte"
abbrev pub upper_taken : ℕ → ℕ → Taking
upper_taken kind b = Kept (record { stage = 6; kind = kind; upper = b; number = 0 })

-- stage 6: "the item is whole: its kind is the one kept, its content 256 x upper byte + byte"
abbrev pub whole_if : Option Item → Taking
whole_if None = Faulty
whole_if (Some i) = Whole i

abbrev pub long_item : ℕ → ℕ → ℕ → Taking
long_item kind upper b = whole_if (item_from kind (upper * 256 + b))

-- the table of what a byte does, by the stage
unfoldable pub takes : Reader → ℕ → Taking
takes r b =
    cond (eqb r.stage 0) (kept_if (eqb b version) 1)
    (cond (eqb r.stage 1) (kept_if (eqb b 0) 2)
    (cond (eqb r.stage 2) (length_taken b)
    (cond (eqb r.stage 3) (short_item b)
    (cond (eqb r.stage 4) (kind_taken b)
    (cond (eqb r.stage 5) (upper_taken r.kind b) (long_item r.kind r.upper b))))))
