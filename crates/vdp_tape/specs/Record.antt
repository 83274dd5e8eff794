-- A tape record: the step that undoes a step, in 32 bytes (definition, The tape). One layout writes and reads it.
use Rattle.std.specs.Prelude.{ℕ, zero, suc, ◌+◌, ◌*◌, ◌/◌, ◌%◌, Bool, cond, ◌&&◌, List, [], ◌∷◌, ◌++◌, eqb, get_or, take, drop}
use Rattle.vdp_state.specs.declared.state.Flags.{Flags}
use Rattle.vdp_state.specs.declared.state.Step.{Step}
use Rattle.vdp_state.specs.declared.state.Store.{Store}
use Rattle.vdp_state.specs.declared.state.Store.TheVariants.{Nothing, Vram, Cram, Vsram, Register}
use Rattle.vdp_state.specs.Good.{good_control}
use Rattle.vdp_state.specs.Range.{good_store}
use Rattle.vdp_state.specs.Same.{same}
use Rattle.vdp_tape.specs.declared.«record».KeptCell.{KeptCell}

-- "the kind of cell: 0 none, 1 VRAM word, 2 colour word, 3 scroll word, 4 register", its place and its content; "A step
-- that stores nothing has a record with cell kind 0, place 0 and content 0"
abbrev pub kept : ℕ → ℕ → ℕ → KeptCell
kept kind place content = record { kind = kind; place = place; content = content }

abbrev pub kept_of : Store → KeptCell
kept_of Nothing = kept 0 0 0
kept_of (Vram place w) = kept 1 place w
kept_of (Cram i w) = kept 2 i w
kept_of (Vsram i w) = kept 3 i w
kept_of (Register i b) = kept 4 i b

-- the store of a kept cell; an index has 8 bits, and so has a register's content
abbrev pub store_of : KeptCell → Store
store_of c =
    cond (eqb c.kind 1) (Vram c.place c.content)
    (cond (eqb c.kind 2) (Cram (c.place % 256) c.content)
    (cond (eqb c.kind 3) (Vsram (c.place % 256) c.content)
    (cond (eqb c.kind 4) (Register (c.place % 256) (c.content % 256)) Nothing)))

-- a flag as a bit
abbrev pub flag_bit : Bool → ℕ
flag_bit b = cond b 1 0

-- flags in a byte: 1 if the first is set, plus 2 if the second is, plus 4 if the third is; and the flag at an index
abbrev pub flag_byte : List Bool → ℕ
flag_byte [] = 0
flag_byte (b ∷ bs) = flag_bit b + 2 * flag_byte bs

abbrev pub flag_at : ℕ → ℕ → Bool
flag_at n zero = eqb (n % 2) 1
flag_at n (suc i) = flag_at (n / 2) i

-- the sprite flags of a byte: "1 if overflow is set, plus 2 if collision is set, plus 4 if used up is set"
abbrev pub flags_of : ℕ → Flags
flags_of n = record { overflow = flag_at n 0; collision = flag_at n 1; used_up = flag_at n 2 }

-- "the version, 3"
abbrev pub version : ℕ
version = 3

-- a field: how many bytes it has, and the number that it holds for a step
pub record Field : Type 0 where
  pub width : ℕ
  pub value : Step → ℕ

abbrev pub field : ℕ → (Step → ℕ) → Field
field width value = record { width = width; value = value }

-- the table of definition, The tape, row by row: how many bytes, and what they hold
abbrev pub layout : List Field
layout =
    field 1 (λ t. version)
    ∷ field 2 (λ t. 32)
    ∷ field 1 (λ t. (kept_of t.store).kind)
    ∷ field 2 (λ t. (kept_of t.store).place)
    ∷ field 2 (λ t. (kept_of t.store).content)
    ∷ field 2 (λ t. t.control.port.address)
    ∷ field 1 (λ t. t.control.port.code)
    ∷ field 1 (λ t. flag_bit t.control.port.pending)
    ∷ field 1 (λ t. t.control.dma.kind)
    ∷ field 3 (λ t. t.control.dma.remaining)
    ∷ field 3 (λ t. t.control.dma.source)
    ∷ field 1 (λ t. t.control.dma.fill)
    ∷ field 1 (λ t. flag_byte (t.control.flags.overflow ∷ t.control.flags.collision ∷ t.control.flags.used_up ∷ []))
    ∷ field 2 (λ t. t.control.timing.line)
    ∷ field 1 (λ t. t.control.timing.counter)
    ∷ field 1 (λ t. flag_byte (t.control.timing.vertical ∷ t.control.timing.horizontal ∷ []))
    ∷ field 7 (λ t. 0)
    ∷ []

-- the step that the numbers of the fields read as, in the layout's order
abbrev pub Reading : List Field → Type 0
Reading [] = Step
Reading (f ∷ fs) = ℕ → Reading fs

abbrev pub reading : Reading layout
reading v size kind place content address code pending dma remaining source fill flags line counter interrupts unused =
    record {
      control = record {
        port = record { address = address; code = code; pending = eqb pending 1 };
        dma = record { kind = dma; remaining = remaining; source = source; fill = fill };
        flags = flags_of flags;
        timing = record {
          line = line;
          counter = counter;
          vertical = flag_at interrupts 0;
          horizontal = flag_at interrupts 1;
        };
      };
      store = store_of (kept kind place content);
    }

-- "A number of more than one byte has its uppermost byte first.": a number in so many bytes, and the number of so many
-- bytes at an index
abbrev pub bytes_of : ℕ → ℕ → List ℕ
bytes_of zero n = []
bytes_of (suc width) n = bytes_of width (n / 256) ++ (n % 256 ∷ [])

abbrev pub number_at : List ℕ → ℕ → ℕ → ℕ
number_at l i zero = 0
number_at l i (suc zero) = get_or l i 0
number_at l i (suc (suc width)) = number_at l i (suc width) * 256 + get_or l (i + suc width) 0

-- a record: its fields one after the other, written and read
abbrev pub written : List Field → Step → List ℕ
written [] t = []
written (f ∷ fs) t = bytes_of f.width (f.value t) ++ written fs t

abbrev pub record_of : Step → List ℕ
record_of t = written layout t

abbrev pub read_from : (fs : List Field) → Reading fs → ℕ → List ℕ → Step
read_from [] t i l = t
read_from (f ∷ fs) r i l = read_from fs (r (number_at l i f.width)) (i + f.width) l

abbrev pub step_of : List ℕ → Step
step_of l = read_from layout reading 0 l

-- "A record is good if its fields are in the ranges of this table and what they hold is in the ranges of GOOD": its
-- bytes are those of the step that they read as, and that step is in range
abbrev pub good_record : List ℕ → Bool
good_record l = same (record_of (step_of l)) l && good_control (step_of l).control && good_store (step_of l).store

-- record i of a tape
abbrev pub record_at : List ℕ → ℕ → List ℕ
record_at tape i = take 32 (drop (32 * i) tape)
