-- Texts are lists of bytes; a text is lines, and a list is parts.
use Rattle.std.specs.Prelude.{Bool, true, false, List, [], ◌∷◌, ℕ, eqb}
use Rattle.std.specs.List.{position_or_len, before_first, after_first}
use Prim.Native.Char.{code}
use Prim.Native.String.{String, [] as no_more, ◌∷◌ as ◌then◌}
use Rattle.strips.specs.Choice.{pick}

-- the bytes of a text that is written out
abbrev pub bytes : String → List ℕ
bytes no_more = []
bytes (c then s) = code c ∷ bytes s

abbrev pub newline : ℕ
newline = 10

abbrev pub comma : ℕ
comma = 44

-- the digit 0; the others follow it
abbrev pub zero_digit : ℕ
zero_digit = 48

-- one byte more at the front of the first piece
abbrev pub push : ℕ → List (List ℕ) → List (List ℕ)
push b [] = (b ∷ []) ∷ []
push b (p ∷ ps) = (b ∷ p) ∷ ps

-- the pieces between bytes c; behind the last of them stand the pieces of `end`
unfoldable pub split : ℕ → List (List ℕ) → List ℕ → List (List ℕ)
split c end [] = end
split c end (b ∷ t) = let rest = split c end t in pick (eqb b c) ([] ∷ rest) (push b rest)

-- lines are ended by newlines: a line is there while a byte is left
abbrev pub lines : List ℕ → List (List ℕ)
lines = split newline []

-- how many bytes stand before the first newline
abbrev pub line_end : List ℕ → ℕ
line_end t = position_or_len (λ b. eqb b newline) t

-- the bytes before the first newline, and those behind it
abbrev pub first_line : List ℕ → List ℕ
first_line text = before_first (λ b. eqb b newline) text

abbrev pub behind_line : List ℕ → List ℕ
behind_line text = after_first (λ b. eqb b newline) text

-- the parts of a list are parted by commas: there is one more of them than there are commas
abbrev pub parts : List ℕ → List (List ℕ)
parts = split comma ([] ∷ [])

-- the text begins with the key
unfoldable pub begins : List ℕ → List ℕ → Bool
begins [] t = true
begins (k ∷ ks) [] = false
begins (k ∷ ks) (b ∷ t) = pick (eqb b k) (begins ks t) false
