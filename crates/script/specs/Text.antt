-- The text of a line: definition, Scripts, The program. A text is a list of character codes: 48 is the digit 0, 65 the
-- letter A, 32 a space and 10 the end of a line.
use Rattle.std.specs.Prelude.{ℕ, ◌+◌, ◌/◌, ◌%◌, cond, List, [], ◌∷◌, ◌++◌, leb, ltb}

-- the decimal digit of a number that counts this unit; a number less than the unit has none
abbrev pub digit : ℕ → ℕ → List ℕ
digit n unit = cond (leb unit n) ((48 + n / unit % 10) ∷ []) []

-- "in decimal digits": those of a number below 100,000, without zeros in front
unfoldable pub decimal : ℕ → List ℕ
decimal n = digit n 10000 ++ (digit n 1000 ++ (digit n 100 ++ (digit n 10 ++ ((48 + n % 10) ∷ []))))

-- a digit below 16, "with capital letters"
unfoldable pub hex_digit : ℕ → ℕ
hex_digit d = cond (ltb d 10) (48 + d) (55 + d)

-- "as four hexadecimal digits"
abbrev pub hex : ℕ → List ℕ
hex n = hex_digit (n / 4096 % 16) ∷ hex_digit (n / 256 % 16) ∷ hex_digit (n / 16 % 16) ∷ hex_digit (n % 16) ∷ []

-- "a line: the item's place and the number answered, [..] and the result [..] with single spaces between them"
abbrev pub line_text : ℕ → ℕ → ℕ → List ℕ
line_text place number result = decimal place ++ (32 ∷ (decimal number ++ (32 ∷ (hex result ++ (10 ∷ [])))))
