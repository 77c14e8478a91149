-- The members of a list, read one by one.
use Rattle.std.specs.Prelude.{◌≡◌, List, [], ◌∷◌, ◌++◌, ℕ, ◌^◌, ◌<◌, Result, Ok, Err}
use Rattle.outcome.specs.declared.Refusal.{Refusal}
use Rattle.outcome.specs.declared.Refusal.TheVariants.{OutOfRange, NotRising}
use Rattle.task_format.specs.Value.{All, Between, RisesFrom, set_of}
use Rattle.value_reader.specs.declared.values.Members.{Members}

-- the last of some numbers, or m where there are none
abbrev pub last_from : ℕ → List ℕ → ℕ
last_from m [] = m
last_from m (k ∷ ms) = last_from k ms

-- the members ms are in their range and rise
pub record Good (most : ℕ) (ms : List ℕ) (m : Members) : Type 0 where
  pub range : All (Between 1 most) ms
  pub rise : RisesFrom 0 ms
  pub last : m.last ≡ last_from 0 ms
  pub set : m.set ≡ set_of ms
  pub small : m.set < 2 ^ m.last

-- the members ms get a no
pub data Bad (most n : ℕ) (ms : List ℕ) : Refusal → Type 0 where
  outside : (All (Between 1 most) ms → ⊥) → Bad most n ms (OutOfRange n)
  flat : All (Between 1 most) ms → (RisesFrom 0 ms → ⊥) → Bad most n ms (NotRising n)

-- what the members ms of line n come to
abbrev pub MembersRead : ℕ → ℕ → List ℕ → Result Members Refusal → Type 0
MembersRead most n ms (Ok m) = Good most ms m
MembersRead most n ms (Err q) = Bad most n ms q

-- what a member more makes of it, whichever the members before it were
abbrev pub Joined : ℕ → ℕ → Result Members Refusal → ℕ → Result Members Refusal → Type 0
Joined most n before k after = (ms : List ℕ) → MembersRead most n ms before → MembersRead most n (ms ++ (k ∷ [])) after
