-- The questions about record and plans, as a replay of the plans asks them.
use Rattle.std.specs.Prelude.{◌≡◌, refl, List, [], ◌∷◌, ◌++◌, ℕ, ◌+◌, ◌≤◌, ◌<◌, eqb, length}
use Rattle.std.proofs.Common.{sym, ap, ◌∙◌, arith, eq-eqb, ne_eqb}
use Rattle.std.proofs.Math.Decide.{dec_le, dec_lt}
use Rattle.strips.specs.Limits.{max_steps}
use Rattle.strips.specs.Choice.{pick}
use Rattle.strips.specs.Deciders.{dec_valid}
use Rattle.strips.specs.Task.{Valid, leader_actions, follower_actions}
use Rattle.strips.specs.Laws.Validity.{leader_count, follower_count}
use Rattle.strips.specs.declared.Task.{Task}
use Rattle.replay.specs.Replay.{Returned, refused, known_steps, applied_steps, end_state, replayed}
use Rattle.replay.specs.Run.{Numbered}
use Rattle.replay.specs.Laws.Steps.{known_most, applied_most}
use Rattle.replay.specs.Laws.Replay.{refuses_9, refuses_10_leader, refuses_10_follower, refuses_11_leader, refuses_11_follower}
use Rattle.replay.specs.Laws.Replay.{refuses_12_leader, refuses_12_follower, both_run}
use Rattle.questions.specs.Asked.{Asked, no_to, yes_to}
use Rattle.questions.specs.Memory.{Room}
use Rattle.questions.specs.Record.{record_asks}
use Rattle.questions.specs.Call.{Call, Question, known, place}
use Rattle.questions.specs.Laws.Asked.{Each}

abbrev pub plans_asks : List ℕ
plans_asks = 10 ∷ 11 ∷ 12 ∷ []

-- steps counted on from one plan to the other
module _ (first second m : ℕ) where
  abbrev counted : ℕ
  counted = pick (eqb first m) (first + second) first

  counted_on : first ≡ m → counted ≡ m + second
  counted_on e = rw (eq-eqb first m e) (ap (λ (n : ℕ). n + second) e)

  counted_first : first < m → counted ≡ first
  counted_first h = rw (ne_eqb first m (λ e. omega arith)) refl

module _ {X A : Type 0} (c : Call X A) (room : Room) where
  abbrev t : Task
  t = c.task

  abbrev p : List ℕ
  p = c.leader_plan

  abbrev q : List ℕ
  q = c.follower_plan

  abbrev middle : ℕ
  middle = end_state (leader_actions t) t.initial p

  -- the steps that are known, and those that apply
  abbrev leader_known : ℕ
  leader_known = known_steps t.leader_count p

  abbrev follower_known : ℕ
  follower_known = known_steps t.follower_count q

  abbrev leader_applied : ℕ
  leader_applied = applied_steps (leader_actions t) t.initial p

  abbrev follower_applied : ℕ
  follower_applied = applied_steps (follower_actions t) middle q

  known_is : Valid t → known c ≡ counted leader_known follower_known (length p)
  known_is v = rw (leader_count v, follower_count v) refl

  module _ {Refused : ℕ → Type 0} {Done : Type 0} {qs : List ℕ} (done : (replayed t p q).number ≡ 0 → Asked (Question c room) Refused Done qs)
      (refuse : Each (λ n. replayed t p q ≡ refused n (place c n) → Refused n) (record_asks ++ plans_asks)) where
    ask_12 : Numbered t p q → Dec (leader_applied < length p) → Dec (follower_applied < length q) → Asked (Question c room) Refused Done (12 ∷ qs)
    ask_12 n (yes h) y =
        let e = counted_first leader_applied follower_applied (length p) h in
        no_to {q = 12} (λ z. omega (arith, z, e)) (refuse.1.1.1.0 (refuses_12_leader t p q n h ∙ ap (λ (k : ℕ). refused 12 (k + 1)) (sym e)))
    ask_12 n (no h) (yes l) =
        let all : leader_applied ≡ length p = omega (arith, applied_most (leader_actions t) t.initial p) in
        let e = counted_on leader_applied follower_applied (length p) all in
        no_to {q = 12} (λ z. omega (arith, z, e)) (refuse.1.1.1.0 (refuses_12_follower t p q n all l ∙ ap (λ (k : ℕ). refused 12 (k + 1)) (sym e)))
    ask_12 n (no h) (no l) =
        let all : leader_applied ≡ length p = omega (arith, applied_most (leader_actions t) t.initial p) in
        let both : follower_applied ≡ length q = omega (arith, applied_most (follower_actions t) middle q) in
        yes_to {q = 12} (counted_on leader_applied follower_applied (length p) all ∙ ap (λ (k : ℕ). length p + k) both)
        (done (ap (λ (r : Returned). r.number) (both_run t p q n all both)))

    ask_11 : Valid t → length p ≤ max_steps → length q ≤ max_steps → Dec (leader_known < length p) → Dec (follower_known < length q)
        → Asked (Question c room) Refused Done (11 ∷ 12 ∷ qs)
    ask_11 v i j (yes h) y =
        let e = known_is v ∙ counted_first leader_known follower_known (length p) h in
        no_to {q = 11} (λ z. omega (arith, z, e)) (refuse.1.1.0 (refuses_11_leader t p q v i j h ∙ ap (λ (k : ℕ). refused 11 (k + 1)) (sym e)))
    ask_11 v i j (no h) (yes l) =
        let all : leader_known ≡ length p = omega (arith, known_most t.leader_count p) in
        let e = known_is v ∙ counted_on leader_known follower_known (length p) all in
        no_to {q = 11} (λ z. omega (arith, z, e)) (refuse.1.1.0 (refuses_11_follower t p q v i j all l ∙ ap (λ (k : ℕ). refused 11 (k + 1)) (sym e)))
    ask_11 v i j (no h) (no l) =
        let all : leader_known ≡ length p = omega (arith, known_most t.leader_count p) in
        let both : follower_known ≡ length q = omega (arith, known_most t.follower_count q) in
        yes_to {q = 11} (known_is v ∙ counted_on leader_known follower_known (length p) all ∙ ap (λ (k : ℕ). length p + k) both)
        (ask_12 (record { valid = v; short_leader = i; short_follower = j; known_leader = all; known_follower = both }) (dec_lt _ _) (dec_lt _ _))

    ask_10 : Valid t → Dec (length p ≤ max_steps) → Dec (length q ≤ max_steps) → Asked (Question c room) Refused Done (10 ∷ 11 ∷ 12 ∷ qs)
    ask_10 v (no i) y = no_to {q = 10} (λ z. i z.0) (refuse.1.0 (refuses_10_leader t p q v (omega arith)))
    ask_10 v (yes i) (no j) = no_to {q = 10} (λ z. j z.1) (refuse.1.0 (refuses_10_follower t p q v i (omega arith)))
    ask_10 v (yes i) (yes j) = yes_to {q = 10} (i, j) (ask_11 v i j (dec_lt _ _) (dec_lt _ _))

    pub replay_asked : Asked (Question c room) Refused Done (record_asks ++ plans_asks ++ qs)
    replay_asked = of (dec_valid t)
      where
        of : Dec (Valid t) → Asked (Question c room) Refused Done (record_asks ++ plans_asks ++ qs)
        of (no n) = no_to {q = 9} n (refuse.0 (refuses_9 t p q n))
        of (yes v) = yes_to {q = 9} v (ask_10 v (dec_le _ _) (dec_le _ _))
