-- A line of output: numbers, decimal, with single spaces.
use Rattle.std.specs.Prelude.{ℕ, List, [], ◌∷◌, ◌++◌, codes}
use Rattle.std.specs.Fmt.{decimal}
use Rattle.stream.specs.declared.line.Line.{Line}
use Rattle.stream.specs.declared.line.Line.TheVariants.{Call, Digests}

-- a number and those after it, with a space between two
abbrev pub numbers_text : ℕ → List ℕ → List ℕ
numbers_text n [] = decimal n
numbers_text n (m ∷ more) = decimal n ++ (codes " " ++ numbers_text m more)

abbrev pub line_text : Line → List ℕ
line_text (Call op outcome count) = numbers_text op (outcome.number ∷ outcome.result ∷ count ∷ [])
line_text (Digests state vram pixels row tape count) =
    codes "48 " ++ numbers_text state (vram ∷ pixels ∷ row ∷ tape ∷ count ∷ [])
