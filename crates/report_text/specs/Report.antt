-- The text of a front, and of a refusal (document 01: one hall, whole).
use Rattle.std.specs.Prelude.{List, [], ◌∷◌, ◌++◌, ℕ, suc, length}
use Rattle.outcome.specs.Answer.{Value, minutes, none}
use Rattle.task_format.specs.Text.{bytes, newline, comma}
use Rattle.task_format.specs.Lines.{outages_key, moves_key}
use Rattle.task_format.specs.Render.{digits_of}
use Rattle.pareto.specs.Front.{Line}

-- the keys, each with its "="; those of the plans are the file's
abbrev pub entries_key : List ℕ
entries_key = bytes "entries="

abbrev pub price_key : List ℕ
price_key = bytes "price="

abbrev pub answer_key : List ℕ
answer_key = bytes "answer="

abbrev pub refused_key : List ℕ
refused_key = bytes "refused="

abbrev pub line_key : List ℕ
line_key = bytes "line="

-- the word "none"
abbrev pub none_word : List ℕ
none_word = bytes "none"

-- the decimal digits of a number, which has no more than n + 1 of them
unfoldable pub numeral : ℕ → List ℕ
numeral n = digits_of (suc n) n

-- the numbers behind the first, each after a comma
unfoldable pub further_text : List ℕ → List ℕ
further_text [] = []
further_text (n ∷ ns) = comma ∷ (numeral n ++ further_text ns)

-- numbers parted by single commas
unfoldable pub plan_text : List ℕ → List ℕ
plan_text [] = []
plan_text (n ∷ ns) = numeral n ++ further_text ns

unfoldable pub answer_text : Value → List ℕ
answer_text (minutes n) = numeral n
answer_text none = none_word

-- a printed line: a key, a value and a newline
unfoldable pub printed : List ℕ → List ℕ → List ℕ
printed key value = key ++ (value ++ (newline ∷ []))

-- the four printed lines of a line of the front
unfoldable pub line_text : Line → List ℕ
line_text l =
    printed price_key (numeral l.price)
    ++ (printed answer_key (answer_text l.answer)
    ++ (printed outages_key (plan_text l.leader_plan)
    ++ printed moves_key (plan_text l.follower_plan)))

unfoldable pub lines_text : List Line → List ℕ
lines_text [] = []
lines_text (l ∷ ls) = line_text l ++ lines_text ls

-- the first printed line, for so many lines of the front
unfoldable pub head_text : ℕ → List ℕ
head_text count = printed entries_key (numeral count)

unfoldable pub report_text : List Line → List ℕ
report_text ls = head_text (length ls) ++ lines_text ls

-- the two printed lines of a refusal
unfoldable pub refusal_text : (number place : ℕ) → List ℕ
refusal_text number place = printed refused_key (numeral number) ++ printed line_key (numeral place)
