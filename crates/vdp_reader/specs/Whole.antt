-- Whole deliveries, with all the calls that they make, and the claims of them: definition, Scripts, The reader.
use Rattle.std.specs.Prelude.{ℕ, ◌≡◌, Bool, true, false, cond, List, [], ◌∷◌, ◌++◌, eqb, length, drop}
use Rattle.vdp_state.specs.declared.state.State.{State}
use Rattle.vdp_state.specs.Range.{AllBytes}
use Rattle.vdp_state.specs.State.{Chip, chip}
use Rattle.vdp_script.specs.declared.item.Item.{Item}
use Rattle.vdp_script.specs.Call.{ItemOutcome, call_item}
use Rattle.vdp_script.specs.Form.{form_of}
use Rattle.vdp_script.specs.Judge.{judged}
use Rattle.vdp_script.specs.Run.{ScriptOutcome, run_script}
use Rattle.vdp_reader.specs.declared.reader.Reader.{Reader}
use Rattle.vdp_reader.specs.declared.take.Taking.TheVariants.{Faulty}
use Rattle.vdp_reader.specs.Deliver.{DeliverOutcome, uncalled, reached, deliver}
use Rattle.vdp_reader.specs.End.{end_notice}
use Rattle.vdp_reader.specs.Reader.{started, stopped, goes_on, answers}
use Rattle.vdp_reader.specs.Take.{takes}

-- what a call leaves: "number, result, state and VRAM"
pub record Call : Type 0 where
  pub number : ℕ
  pub result : ℕ
  pub state : State
  pub vram : List ℕ

-- what deliveries leave: their calls, the last answer, and what is handed on
pub record Delivered : Type 0 where
  pub calls : List Call
  pub number : ℕ
  pub reader : Reader
  pub chip : Chip
  pub pixels : List ℕ

-- the call that was made, if there was one
abbrev pub call_of : DeliverOutcome → List Call
call_of o =
    cond o.answer.called
    (record { number = o.answer.number; result = o.answer.result; state = o.answer.state; vram = o.vram } ∷ [])
    []

-- calls, and what was delivered behind them
abbrev pub behind : List Call → Delivered → Delivered
behind calls d =
    record { calls = calls ++ d.calls; number = d.number; reader = d.reader; chip = d.chip; pixels = d.pixels }

-- what is handed on from what was left
abbrev pub chip_of : DeliverOutcome → Chip
chip_of o = chip o.answer.state o.vram

-- one byte, if the reader takes bytes
abbrev pub take_byte : ℕ → List ℕ → List ℕ → Reader → Chip → List ℕ → DeliverOutcome
take_byte b cartridge ram r c pixels =
    cond (goes_on r) (reached (takes r b) 1 cartridge ram c pixels) (uncalled r 0 c pixels)

-- "In a delivery the bytes are taken one after the other, each on the reader, state, VRAM and pixel buffer as the byte
-- before left them."
abbrev pub deliver_bytes : List ℕ → List ℕ → List ℕ → Reader → Chip → List ℕ → Delivered
deliver_bytes [] cartridge ram r c pixels =
    record { calls = []; number = answers r; reader = r; chip = c; pixels = pixels }
deliver_bytes (b ∷ bytes) cartridge ram r c pixels =
    let o : DeliverOutcome = take_byte b cartridge ram r c pixels in
    behind (call_of o) (deliver_bytes bytes cartridge ram o.answer.reader (chip_of o) o.pixels)

-- the claim: "a delivery is what `deliver` does, and then a delivery of the bytes that it has not taken"
abbrev pub GoesOn : Type 0
GoesOn =
    (bytes cartridge ram : List ℕ) (r : Reader) (c : Chip) (pixels : List ℕ)
    → let o : DeliverOutcome = deliver r bytes cartridge ram c pixels in
    deliver_bytes bytes cartridge ram r c pixels
    ≡ behind (call_of o) (deliver_bytes (drop o.answer.taken bytes) cartridge ram o.answer.reader (chip_of o) o.pixels)

-- the claim: "where `deliver` does not answer 0, the state, VRAM and pixels are as they came"
abbrev pub RefusedAsItCame : Type 0
RefusedAsItCame =
    (bytes cartridge ram : List ℕ) (r : Reader) (c : Chip) (pixels : List ℕ)
    → let o : DeliverOutcome = deliver r bytes cartridge ram c pixels in
    (o.answer.number ≡ 0 → ⊥) → (o.answer.state ≡ c.state) × (o.vram ≡ c.vram) × (o.pixels ≡ pixels)

-- bytes, and "a pixel buffer of its own" for them
pub record Lent : Type 0 where
  pub bytes : List ℕ
  pub pixels : List ℕ

-- "deliveries one after the other, at least one, of any bytes or none, with reader, state and VRAM handed on"
abbrev pub deliver_each : Lent → List Lent → List ℕ → List ℕ → Reader → Chip → Delivered
deliver_each d [] cartridge ram r c = deliver_bytes d.bytes cartridge ram r c d.pixels
deliver_each d (e ∷ more) cartridge ram r c =
    let x : Delivered = deliver_bytes d.bytes cartridge ram r c d.pixels in
    behind x.calls (deliver_each e more cartridge ram x.reader x.chip)

-- "all the bytes"
abbrev pub all_of : Lent → List Lent → List ℕ
all_of d [] = d.bytes
all_of d (e ∷ more) = d.bytes ++ all_of e more

-- pixel buffers "all of one length"
abbrev pub OfLength : ℕ → Lent → List Lent → Type 0
OfLength n d [] = length d.pixels ≡ n
OfLength n d (e ∷ more) = (length d.pixels ≡ n) × OfLength n e more

-- "and then the end notice or not"
abbrev pub noticed : Bool → Delivered → Delivered
noticed false d = d
noticed true d =
    record {
      calls = d.calls;
      number = (end_notice d.reader).number;
      reader = (end_notice d.reader).reader;
      chip = d.chip;
      pixels = d.pixels;
    }

-- what is the same however the bytes are cut: the calls, "the last answer, the state, VRAM and reader at the end"
pub record Told : Type 0 where
  pub calls : List Call
  pub number : ℕ
  pub reader : Reader
  pub chip : Chip

abbrev pub told : Delivered → Told
told d = record { calls = d.calls; number = d.number; reader = d.reader; chip = d.chip }

-- the claim: deliveries "make the calls of one delivery of all the bytes"
abbrev pub CutAnywhere : Type 0
CutAnywhere =
    (d : Lent) (more : List Lent) (notice : Bool) (cartridge ram : List ℕ) (r : Reader) (c : Chip) (pixels : List ℕ)
    → OfLength (length pixels) d more
    → told (noticed notice (deliver_each d more cartridge ram r c))
    ≡ told (noticed notice (deliver_bytes (all_of d more) cartridge ram r c pixels))

-- the claim: "With one pixel buffer that is handed on too, two deliveries end with the pixels of one as well."
abbrev pub CutInTwo : Type 0
CutInTwo =
    (bytes more cartridge ram : List ℕ) (r : Reader) (c : Chip) (pixels : List ℕ)
    → let x : Delivered = deliver_bytes bytes cartridge ram r c pixels in
    behind x.calls (deliver_bytes more cartridge ram x.reader x.chip x.pixels)
    ≡ deliver_bytes (bytes ++ more) cartridge ram r c pixels

-- "the calls of its items, one after the other, up to the first that is refused"
abbrev pub calls_of : List Item → List ℕ → List ℕ → Chip → List ℕ → List Call
calls_of [] cartridge ram c pixels = []
calls_of (i ∷ items) cartridge ram c pixels =
    let o : ItemOutcome = call_item i cartridge ram c pixels in
    record { number = o.answer.number; result = o.answer.result; state = o.answer.state; vram = o.vram }
    ∷ cond (eqb o.answer.number 0) (calls_of items cartridge ram (chip o.answer.state o.vram) o.pixels) []

-- the claim: "if a script is judged with 0, [..] then delivered to a reader that is started anew, with the end notice after
-- it", it makes these calls, "and it ends with the number, state, VRAM and pixels of the script that is run"
abbrev pub AsRun : Type 0
AsRun =
    (script cartridge ram : List ℕ) (c : Chip) (pixels : List ℕ) → AllBytes script
    → (judged c.state.control.port.pending script).number ≡ 0
    → let ran : ScriptOutcome = run_script script cartridge ram c pixels in
    noticed true (deliver_bytes script cartridge ram started c pixels)
    ≡ record {
      calls = calls_of (form_of script).items cartridge ram c pixels;
      number = ran.answer.number;
      reader = stopped ran.answer.number;
      chip = chip ran.answer.state ran.vram;
      pixels = ran.pixels;
    }

-- the claim: "after bytes that did not stop the reader, a byte is faulty exactly if no well formed script begins with
-- those bytes and this one"
pub record ExactlyFaulty (bytes : List ℕ) (r : Reader) (b : ℕ) : Type 0 where
  pub none : takes r b ≡ Faulty → (rest : List ℕ) → (form_of (bytes ++ (b ∷ rest))).faulty ≡ true
  pub some : (takes r b ≡ Faulty → ⊥) → (rest : List ℕ) × ((form_of (bytes ++ (b ∷ rest))).faulty ≡ false)

abbrev pub FirstFaultyByte : Type 0
FirstFaultyByte =
    (bytes cartridge ram : List ℕ) (c : Chip) (pixels : List ℕ) (b : ℕ)
    → let r : Reader = (deliver_bytes bytes cartridge ram started c pixels).reader in
    goes_on r ≡ true → ExactlyFaulty bytes r b
