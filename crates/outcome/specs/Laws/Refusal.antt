-- Number and place, as they are told, give the refusal back, and no refusal has the number 0. What goes through all cases of a refusal stands here.
use Rattle.std.specs.Prelude.{◌≡◌, [], ◌∷◌, ℕ, ◌-◌, ◌≤◌, get_or}
use Rattle.std.proofs.Common.{sym, ◌∙◌, arith}
use Rattle.outcome.specs.Refusal.{number_of, place_of}
use Rattle.outcome.specs.declared.Refusal.{Refusal}
use Rattle.outcome.specs.declared.Refusal.TheVariants.{TextTooLong, LineMissing, WrongKey, Malformed, EmptyMember, LeadingZero}
use Rattle.outcome.specs.declared.Refusal.TheVariants.{OutOfRange, NotRising, TextGoesOn, WorkspaceSize, InvalidTask, PlanTooLong, UnknownAction}
use Rattle.outcome.specs.declared.Refusal.TheVariants.{NotApplicable, TooManyStates, TooManyEntries, PlansTooLong, OutputTooLong}

-- the refusal of a question at a place
unfoldable pub refusal_of : (number place : ℕ) → Refusal
refusal_of n p =
    get_or (TextTooLong ∷ LineMissing p ∷ WrongKey p ∷ Malformed p ∷ OutOfRange p ∷ NotRising p ∷ TextGoesOn p ∷ WorkspaceSize ∷ InvalidTask ∷ PlanTooLong
    ∷ UnknownAction p ∷ NotApplicable p ∷ TooManyStates ∷ TooManyEntries ∷ PlansTooLong ∷ OutputTooLong ∷ EmptyMember p ∷ LeadingZero p ∷ [])
    (n - 1) TextTooLong

pub refusal_of_lem : (q : Refusal) → refusal_of (number_of q) (place_of q) ≡ q
unfolding refusal_of
refusal_of_lem q = grind arith

pub refusal_unique : (q r : Refusal) → number_of q ≡ number_of r → place_of q ≡ place_of r → q ≡ r
refusal_unique q r e f = sym (refusal_of_lem q) ∙ rw (e, f) (refusal_of_lem r)

pub number_some : (q : Refusal) → 1 ≤ number_of q
number_some q = grind arith

-- the largest number of a question
pub number_few : (q : Refusal) → number_of q ≤ 18
number_few q = grind arith
