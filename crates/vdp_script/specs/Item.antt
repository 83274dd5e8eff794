-- The items of a script: definition, Scripts, The form.
use Rattle.std.specs.Prelude.{ℕ, ◌+◌, ◌/◌, ◌%◌, cond, ◌&&◌, List, [], ◌∷◌, ◌++◌, eqb, leb, length, get_or, Option, Some, None}
use Rattle.vdp_state.specs.Cell.{word_at}
use Rattle.vdp_script.specs.declared.item.Item.{Item}
use Rattle.vdp_script.specs.declared.item.Item.TheVariants.{ControlWord, DataWord, DataRead, StatusRead, Run, Line, NewFrame}

-- "Numbers of two bytes have their upper byte first."
abbrev pub word : ℕ → List ℕ
word n = n / 256 ∷ n % 256 ∷ []

-- the table of kinds, and of contents
abbrev pub kind_of : Item → ℕ
kind_of (ControlWord w) = 1
kind_of (DataWord w) = 2
kind_of DataRead = 3
kind_of StatusRead = 4
kind_of (Run budget) = 5
kind_of (Line n) = 6
kind_of NewFrame = 7

abbrev pub content_of : Item → List ℕ
content_of (ControlWord w) = word w
content_of (DataWord w) = word w
content_of DataRead = []
content_of StatusRead = []
content_of (Run budget) = word budget
content_of (Line n) = word n
content_of NewFrame = []

-- the bytes of a content, by its number, if there is one
abbrev pub content_bytes : Option ℕ → List ℕ
content_bytes (Some w) = word w
content_bytes None = []

-- "it is 1 plus the size of the content"
abbrev pub length_of : Item → ℕ
length_of i = 1 + length (content_of i)

-- "An item is a length of two bytes, a kind of one byte, and a content."
abbrev pub item_bytes : Item → List ℕ
item_bytes i = word (length_of i) ++ (kind_of i ∷ content_of i)

-- the byte after an item that begins at a byte
abbrev pub byte_after : ℕ → Item → ℕ
byte_after at i = at + length (item_bytes i)

-- the item of a kind with a content; a kind that "is not in the table" has none
abbrev pub item_from : ℕ → ℕ → Option Item
item_from kind w =
    cond (eqb kind 1) (Some (ControlWord w))
    (cond (eqb kind 2) (Some (DataWord w))
    (cond (eqb kind 3) (Some DataRead)
    (cond (eqb kind 4) (Some StatusRead)
    (cond (eqb kind 5) (Some (Run w))
    (cond (eqb kind 6) (Some (Line w))
    (cond (eqb kind 7) (Some NewFrame) None))))))

-- faulty too: "if its length is not that of its kind, or if it is cut: the script ends before the item does"
abbrev pub as_long : List ℕ → Option Item → Option Item
as_long bytes None = None
as_long bytes (Some i) =
    cond (eqb (word_at bytes 0) (length_of i) && leb (length (item_bytes i)) (length bytes)) (Some i) None

-- the item that the bytes begin with: its length, its kind and its content
unfoldable pub item_of : List ℕ → Option Item
item_of bytes = as_long bytes (item_from (get_or bytes 2 0) (word_at bytes 3))
