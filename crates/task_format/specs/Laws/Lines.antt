-- The lines behind line 5.
use Rattle.std.specs.Prelude.{◌≡◌, ℕ, ◌%◌, ◌≤◌, eqb}
use Rattle.std.proofs.Common.{arith}
use Rattle.strips.specs.Limits.{max_cost}
use Rattle.strips.specs.declared.Task.{Task}
use Rattle.strips.specs.Choice.{pick}
use Rattle.task_format.specs.Lines.{key_of, action_key, kind_of, field, action_field, stored, with_action, action_of}
use Rattle.task_format.specs.Fields.{Other}
use Rattle.task_format.specs.declared.Kind.TheVariants.{Number, FactList}

pub other : (n : ℕ) → 6 ≤ n → Other n
other n h = search arith

module _ (n : ℕ) (o : Other n) where
  pub key_rest : action_key (n % 4) ≡ key_of n
  unfolding key_of
  key_rest = search arith

  pub kind_rest : (facts : ℕ) → kind_of facts n ≡ pick (eqb (n % 4) 2) (Number 0 max_cost) (FactList facts)
  unfolding kind_of
  kind_rest facts = search arith

  pub field_rest : (t : Task) → action_field t (action_of n) (n % 4) ≡ field t n
  unfolding field
  field_rest t = search arith

  pub stored_rest : (t : Task) (x : ℕ) → with_action t (action_of n) (n % 4) x ≡ stored t n x
  unfolding stored
  stored_rest t x = search arith
