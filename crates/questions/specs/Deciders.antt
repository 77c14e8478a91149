-- Deciders: each has the question in its type, so that a reader need not look behind its name.
use Rattle.std.specs.Prelude.{Bool, true, false}
use Rattle.questions.specs.Asked.{chosen}

-- a line of a table of questions has a yes or a no where both of its sides have
unfoldable pub dec_chosen : (b : Bool) {A B : Type 0} → Dec A → Dec B → Dec (chosen b A B)
dec_chosen true a b = a
dec_chosen false a b = b
