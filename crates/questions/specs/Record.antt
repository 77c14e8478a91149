-- The questions about a record, wherever a call is given one.
use Rattle.std.specs.Prelude.{Result, Ok, Err, List, [], ◌∷◌, ℕ, eqb}
use Rattle.strips.specs.Task.{Valid}
use Rattle.strips.specs.Deciders.{dec_valid}
use Rattle.strips.specs.declared.Task.{Task}
use Rattle.outcome.specs.Refusal.{number_of, place_of}
use Rattle.outcome.specs.declared.Refusal.{Refusal}
use Rattle.questions.specs.Asked.{◌is◌then◌else◌, first_no}
use Rattle.questions.specs.Deciders.{dec_chosen}

abbrev pub record_asks : List ℕ
record_asks = 9 ∷ []

-- what each number asks of a record
abbrev pub Record : Task → ℕ → Type 0
Record t q = q is 9 then Valid t else Unit {0}

unfoldable pub dec_record : (t : Task) (q : ℕ) → Dec (Record t q)
dec_record t q = dec_chosen (eqb q 9) (dec_valid t) (yes tt)

-- the number of the first question about the record that gets no, 0 where none does
unfoldable pub record_fault : Task → ℕ
record_fault t = first_no (dec_record t) record_asks

-- number and place that a verdict says, 0 and 0 where nothing is refused
abbrev pub number_in : {A : Type 0} → Result A Refusal → ℕ
number_in (Ok _) = 0
number_in (Err q) = number_of q

abbrev pub place_in : {A : Type 0} → Result A Refusal → ℕ
place_in (Ok _) = 0
place_in (Err q) = place_of q
