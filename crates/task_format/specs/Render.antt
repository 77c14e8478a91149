-- The text of a task.
use Rattle.std.specs.Prelude.{Bool, true, false, List, [], ◌∷◌, ◌++◌, ℕ, zero, suc, ◌+◌, ◌/◌, ◌%◌, eqb, ltb}
use Rattle.strips.specs.declared.Task.{Task}
use Rattle.strips.specs.Choice.{pick}
use Rattle.task_format.specs.Limits.{max_digits}
use Rattle.task_format.specs.Text.{newline, comma, zero_digit}
use Rattle.task_format.specs.Lines.{key_of, kind_of, last_line, field}
use Rattle.task_format.specs.declared.Kind.{Kind}
use Rattle.task_format.specs.declared.Kind.TheVariants.{Number, FactList}

-- the digits of n, which has at most k
unfoldable pub digits_of : ℕ → ℕ → List ℕ
digits_of zero n = []
digits_of (suc k) n = pick (ltb n 10) ((zero_digit + n) ∷ []) (digits_of k (n / 10) ++ ((zero_digit + n % 10) ∷ []))

abbrev pub digits : ℕ → List ℕ
digits n = digits_of max_digits n

-- the facts of a set whose lowest bit is fact i, among k facts
unfoldable pub facts_of : ℕ → ℕ → ℕ → List ℕ
facts_of zero i s = []
facts_of (suc k) i s = let rest = facts_of k (i + 1) (s / 2) in pick (eqb (s % 2) 1) (i ∷ rest) rest

-- numbers parted by commas; the first has none before it
unfoldable pub listed : Bool → List ℕ → List ℕ
listed first [] = []
listed first (m ∷ ms) = pick first (digits m) (comma ∷ digits m) ++ listed false ms

-- the value that says x
unfoldable pub value_text : Kind → ℕ → List ℕ
value_text (Number low high) x = digits x
value_text (FactList most) x = listed true (facts_of most 1 x)

-- line n, without its newline
unfoldable pub line_text : Task → ℕ → List ℕ
line_text t n = key_of n ++ value_text (kind_of t.facts n) (field t n)

-- k lines from line n on
unfoldable pub lines_text : ℕ → ℕ → Task → List ℕ
lines_text zero n t = []
lines_text (suc k) n t = line_text t n ++ newline ∷ lines_text k (n + 1) t

unfoldable pub render : Task → List ℕ
render t = lines_text (last_line t) 1 t
