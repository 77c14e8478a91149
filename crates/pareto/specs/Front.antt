-- The Pareto front of a task (document 01: the front).
use Rattle.std.specs.Prelude.{◌≡◌, ℕ, ◌≤◌, ◌<◌}
use mathlib.Core.List.{List, [], ◌∷◌, Memᴰ}
use Rattle.strips.specs.Task.{leader_actions}
use Rattle.strips.specs.Plan.{Runs, cost, Least}
use Rattle.outcome.specs.Answer.{Value, UpTo, Below}
use Rattle.strips.specs.declared.Task.{Task}
use Rattle.search.specs.Answer.{AnswerOf}

-- the pair of a price p and an answer f covers that of p' and f'
abbrev pub Covers : ℕ → Value → ℕ → Value → Type 0
Covers p f p' f' = (p ≤ p') × UpTo f' f

-- the leader plan leads from the initial state to s
abbrev pub Attacks : Task → List ℕ → ℕ → Type 0
Attacks t p s = Runs (leader_actions t) t.initial p s

-- the leader plan ends in a state with this answer
pub record Inflicts (t : Task) (f : Value) (p : List ℕ) : Type 0 where
  pub end : ℕ
  pub attacks : Attacks t p end
  pub plan : List ℕ
  pub response : AnswerOf t end f plan

pub record Line : Type 0 where
  pub price : ℕ
  pub answer : Value
  pub leader_plan : List ℕ
  pub follower_plan : List ℕ

-- the leader plan is the least that ends in a state with the line's answer, and costs its price; the follower plan is the best response there
pub record Stands (t : Task) (l : Line) : Type 0 where
  pub end : ℕ
  pub attacks : Attacks t l.leader_plan end
  pub costs : cost (leader_actions t) l.leader_plan ≡ l.price
  pub response : AnswerOf t end l.answer l.follower_plan
  pub least : Least (leader_actions t) (Inflicts t l.answer) l.leader_plan

pub record Lower (x y : Line) : Type 0 where
  pub price : x.price < y.price
  pub answer : Below x.answer y.answer

-- each line is lower than all that follow it
pub data Rising : List Line → Type 0 where
  nil : Rising []
  cons : {x : Line} {xs : List Line} → ((y : Line) → Memᴰ y xs → Lower x y) → Rising xs → Rising (x ∷ xs)

-- some line covers a price p with the answer of the state s
pub record Covered (t : Task) (lines : List Line) (p s : ℕ) : Type 0 where
  pub line : Line
  pub listed : Memᴰ line lines
  pub answer : Value
  pub plan : List ℕ
  pub response : AnswerOf t s answer plan
  pub covers : Covers line.price line.answer p answer

-- the lines rise, each stands, and every leader plan is covered
pub record Front (t : Task) (lines : List Line) : Type 0 where
  pub rising : Rising lines
  pub each : (l : Line) → Memᴰ l lines → Stands t l
  pub covered : (p : List ℕ) (s : ℕ) → Attacks t p s → Covered t lines (cost (leader_actions t) p) s
