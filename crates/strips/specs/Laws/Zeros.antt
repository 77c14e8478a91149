-- A task by default has zero everywhere.
use Rattle.std.specs.Prelude.{◌≡◌, List, ℕ, replicate}
use Rattle.std.specs.Array.{AllOfLen}
use Rattle.std.proofs.Common.{arith, sym, ◌∙◌}
use Rattle.std.proofs.lemmas.List.{ext_get_or, get_or-replicate, length-replicate}
use Rattle.strips.specs.Limits.{max_leader, max_follower}
use Rattle.strips.specs.Task.{idle}
use Rattle.strips.specs.declared.Action.{Action}
use Rattle.strips.specs.declared.Task.{Task}

abbrev pub IsZero : Action → Type 0
IsZero a = (a.cost ≡ 0) × ((a.precondition ≡ 0) × ((a.delete ≡ 0) × (a.add ≡ 0)))

pub zero_idle : (a : Action) → IsZero a → a ≡ idle
zero_idle a z = λ i. record { cost = z.0 i; precondition = z.1.0 i; delete = z.1.1.0 i; add = z.1.1.1 i }

all_idle : {n : ℕ} {places : List Action} → AllOfLen IsZero places n → places ≡ replicate n idle
all_idle {n} {places} z =
    ext_get_or idle places (replicate n idle) (z.long ∙ sym (length-replicate n idle))
    (λ i h. zero_idle _ (z.at i idle (omega arith)) ∙ sym (get_or-replicate n i idle idle (omega arith)))

-- what `default` says of a task
abbrev pub IsDefault : Task → Type 0
IsDefault t =
    (t.facts ≡ 0) × ((t.initial ≡ 0) × ((t.goal ≡ 0) × ((t.leader_count ≡ 0) × ((t.follower_count ≡ 0)
    × (AllOfLen IsZero t.leader max_leader × AllOfLen IsZero t.follower max_follower)))))

pub default_zeros : (t : Task) → IsDefault t → t ≡ record {
  facts = 0;
  initial = 0;
  goal = 0;
  leader_count = 0;
  follower_count = 0;
  leader = replicate max_leader idle;
  follower = replicate max_follower idle;
}
default_zeros t (a, (b, (c, (d, (e, (l, f)))))) =
    let m = all_idle l in
    let n = all_idle f in
    λ i. record { facts = a i; initial = b i; goal = c i; leader_count = d i; follower_count = e i; leader = m i; follower = n i }
