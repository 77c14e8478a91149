-- The questions about a line's value, answered.
use Rattle.std.specs.Prelude.{◌≡◌, List, ℕ, Result, Ok, Err}
use Rattle.outcome.specs.Refusal.{number_of, place_of}
use Rattle.outcome.specs.declared.Refusal.{Refusal}
use Rattle.task_format.specs.Value.{content}
use Rattle.task_format.specs.Parse.{fault}
use Rattle.task_format.specs.declared.Kind.{Kind}

-- of the value of line n: what the record is to hold of it where each question gets a yes, and else the first that gets no, with its line
abbrev pub Answered : Kind → List ℕ → ℕ → Result ℕ Refusal → Type 0
Answered kind v n (Ok x) = (fault kind v ≡ 0) × (x ≡ content kind v)
Answered kind v n (Err q) = (number_of q ≡ fault kind v) × (place_of q ≡ n)
