-- The questions about the record, and about plans and record, all at once: what the code asks by one number.
use Rattle.std.specs.Prelude.{◌≡◌, refl, true, false, ℕ, ◌≤◌, eqb, Option, Some, None, MatchOption}
use Rattle.std.specs.Option.{ok_or}
use Rattle.std.proofs.Common.{sym, arith}
use mathlib.Core.List.{List, [], ◌∷◌, ◌++◌}
use Rattle.std.proofs.lemmas.Bool.{eqb-false}
use Rattle.strips.specs.Task.{Valid}
use Rattle.strips.specs.Deciders.{dec_valid}
use Rattle.strips.specs.Laws.Decision.{asked_yes, asked_no}
use Rattle.strips.specs.declared.Task.{Task}
use Rattle.outcome.specs.declared.Refusal.TheVariants.{InvalidTask}
use Rattle.questions.specs.Deciders.{dec_chosen}
use Rattle.questions.specs.Asked.{No, Asked, first_no}
use Rattle.questions.specs.Memory.{Room, is_one_of, before_use}
use Rattle.questions.specs.Record.{Record, record_asks, dec_record, record_fault, number_in, place_in}
use Rattle.questions.specs.Call.{Call, Question, Replay, place}
use Rattle.questions.specs.Laws.Asked.{Each, Asks, none_of, not_one, all, each_by, first_asked}

-- the numbers that ask about lent memory, and about plans
abbrev of_memory : List ℕ
of_memory = 0 ∷ 8 ∷ 13 ∷ 14 ∷ 15 ∷ 16 ∷ []

abbrev of_plans : List ℕ
of_plans = 10 ∷ 11 ∷ 12 ∷ []

some : (q : ℕ) → eqb q 0 ≡ false → 1 ≤ q
some q e = let z : No (q ≡ 0) = eqb-false q 0 e in omega arith

module _ {X A : Type 0} (c : Call X A) (m : Room) where
  -- every other number asks about plans and record alone
  pub replay_each : (qs : List ℕ) → all (none_of of_memory) qs ≡ true → Each (Asks (Question c m) (Replay c)) qs
  replay_each = each_by (none_of of_memory) (λ q h.
      let a = not_one 0 (8 ∷ 13 ∷ 14 ∷ 15 ∷ 16 ∷ []) q h in
      let b = not_one 8 (13 ∷ 14 ∷ 15 ∷ 16 ∷ []) q a.1 in
      let d = not_one 13 (14 ∷ 15 ∷ 16 ∷ []) q b.1 in
      let e = not_one 14 (15 ∷ 16 ∷ []) q d.1 in
      let f = not_one 15 (16 ∷ []) q e.1 in
      let g = not_one 16 [] q f.1 in
      (some q a.0, λ y. rw (b.0, d.0, e.0, f.0, g.0) y, λ n. rw (b.0, d.0, e.0, f.0, g.0) n))

  -- and every number that asks about neither, about the record alone
  abbrev AsRecord : ℕ → Type 0
  AsRecord q = (Record c.task q → Replay c q) × (No (Record c.task q) → No (Replay c q))

  pub record_each : (qs : List ℕ) → all (none_of of_plans) qs ≡ true → Each AsRecord qs
  record_each = each_by (none_of of_plans) (λ q h.
      let a = not_one 10 (11 ∷ 12 ∷ []) q h in
      let b = not_one 11 (12 ∷ []) q a.1 in
      let d = not_one 12 [] q b.1 in
      (λ y. rw (a.0, b.0, d.0) y, λ n. rw (a.0, b.0, d.0) n))

  pub record_asked : {Refused : ℕ → Type 0} {Done : Type 0} {qs : List ℕ}
      → (record_fault c.task ≡ 0 → Asked (Question c m) Refused Done qs) → ((q : ℕ) → record_fault c.task ≡ q → 1 ≤ q → Refused q)
      → Asked (Question c m) Refused Done (record_asks ++ qs)
  unfolding record_fault
  record_asked =
      first_asked {Question = Question c m} (dec_record c.task) record_asks
      (each_both record_asks (replay_each record_asks refl) (record_each record_asks refl))
    where
      each_both : (qs : List ℕ) → Each (Asks (Question c m) (Replay c)) qs → Each AsRecord qs → Each (Asks (Question c m) (Record c.task)) qs
      each_both [] a b = tt
      each_both (q ∷ qs) a b = ((a.0.0, λ y. a.0.1 (b.0.0 y), λ n. a.0.2 (b.0.1 n)), each_both qs a.1 b.1)

-- the record's questions by one test
pub record_valid : (t : Task) → Valid t → 0 ≡ record_fault t
unfolding record_fault first_no dec_record dec_chosen
record_valid t v = sym (asked_yes (dec_valid t) v 9 0)

pub record_invalid : (t : Task) → (Valid t → ⊥) → 9 ≡ record_fault t
unfolding record_fault first_no dec_record dec_chosen
record_invalid t n = sym (asked_no (dec_valid t) n 9 0)

-- what the verdict says where the task is valid, and where it is not
pub verdict : (t : Task) (o : Option Task) → MatchOption o (Valid t → ⊥) (λ v. (v ≡ t) × Valid t)
    → (number_in (ok_or o InvalidTask) ≡ record_fault t) × (place_in (ok_or o InvalidTask) ≡ 0)
verdict t (Some v) m = (record_valid t m.1, refl)
verdict t None n = (record_invalid t n, refl)

-- the number of a record's fault is that of a question asked before the working slices are used, and it has no place
module _ (t : Task) (q : ℕ) (e : record_fault t ≡ q) (some : 1 ≤ q) where
  fault_nine : q ≡ 9
  fault_nine = of (dec_valid t)
    where
      of : Dec (Valid t) → q ≡ 9
      of (yes v) = absurd (omega (arith, record_valid t v, e, some))
      of (no n) = omega (arith, record_invalid t n, e)

  pub fault_before_use : is_one_of q before_use ≡ true
  fault_before_use = rw fault_nine refl

  pub fault_place : {X A : Type 0} (c : Call X A) → place c q ≡ 0
  fault_place c = rw fault_nine refl
