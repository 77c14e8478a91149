-- Document 01's worked examples: what an example claims, the test that a claim is put to, and the table.
use Rattle.std.specs.Prelude.{◌≡◌, Bool, false, List, [], ◌∷◌, ◌++◌, ℕ, ◌-◌, eqb, leb, ltb, length, take, replicate}
use Rattle.strips.specs.Decision.{says}
use Rattle.strips.specs.Task.{idle, leader_actions}
use Rattle.strips.specs.Plan.{cost}
use Rattle.strips.specs.Deciders.{dec_valid}
use Rattle.strips.specs.Limits.{max_leader, max_follower}
use Rattle.outcome.specs.Answer.{Value, minutes, none, up_to}
use Rattle.strips.specs.declared.Action.{Action}
use Rattle.strips.specs.declared.Task.{Task}
use Rattle.replay.specs.Replay.{replayed}
use Rattle.task_format.specs.Text.{bytes, newline}
use Rattle.task_format.specs.Parse.{parse, accepted}
use Rattle.task_format.specs.Render.{render}
use Rattle.search.specs.Reachable.{Fits}
use Rattle.pareto.specs.Front.{Covers, Inflicts, Line, Front}
use Rattle.worked.specs.Check.{Node, Attack, both, either, same_list, runs_to, answered, is_front, is_reach}

-- an example
pub data Example : Type 0 where
  front : Task → List Attack → List Line → Example
  reach : Task → List Attack → List ℕ → (enough short : ℕ) → Example
  replay : Task → List ℕ → List ℕ → ℕ → ℕ → Example
  refusal : List ℕ → ℕ → ℕ → Example
  file : Task → List ℕ → ℕ → Example
  covered : Task → List Attack → List Line → Attack → ℕ → Example

-- the first of some lines covers a pair
abbrev pub FirstCovers : List Line → ℕ → Value → Type 0
FirstCovers [] price a = ⊥
FirstCovers (l ∷ ls) price a = Covers l.price l.answer price a

-- what it claims
abbrev pub Claims : Example → Type 0
Claims (front t attacks lines) = Front t lines
Claims (reach t attacks states enough short) = Fits t enough × (Fits t short → ⊥)
Claims (replay t p q number place) = ((replayed t p q).number ≡ number) × ((replayed t p q).place ≡ place)
Claims (refusal text number place) = ((parse text).number ≡ number) × ((parse text).place ≡ place)
Claims (file t text n) = (length text ≡ n) × (parse text ≡ accepted t)
Claims (covered t attacks lines x price) =
    Front t lines × (cost (leader_actions t) x.node.plan ≡ price) × Inflicts t x.answer x.node.plan × FirstCovers lines price x.answer

unfoldable pub first_covers : List Line → ℕ → Value → Bool
first_covers [] price a = false
first_covers (l ∷ ls) price a = both (leb l.price price) (up_to a l.answer)

-- the test of the claim
unfoldable pub test : Example → Bool
test (front t attacks lines) = is_front t attacks lines
test (reach t attacks states enough short) = both (is_reach t attacks states) (both (leb (length states) enough) (ltb short (length states)))
test (replay t p q number place) = both (eqb (replayed t p q).number number) (eqb (replayed t p q).place place)
test (refusal text number place) = both (eqb (parse text).number number) (eqb (parse text).place place)
test (file t text n) =
    both (eqb (length text) n) (both (says (dec_valid t)) (either (same_list text (render t)) (same_list (text ++ (newline ∷ [])) (render t))))
test (covered t attacks lines x price) =
    both (is_front t attacks lines)
    (both (eqb (cost (leader_actions t) x.node.plan) price)
    (both (both (runs_to (leader_actions t) t.initial x.node.plan x.node.state) (answered t x)) (first_covers lines price x.answer)))

-- document 01's hall: 1 tray in the house, 2 tray at the dock, 3 upper belt runs, 4 lower belt runs
unfoldable pub act : ℕ → ℕ → ℕ → ℕ → Action
act c p d a = record { cost = c; precondition = p; delete = d; add = a }

-- with so many of its outages and of its moves, a price for the first outage, and a goal
unfoldable pub hall : ℕ → ℕ → ℕ → ℕ → Task
hall outages moves price goal = record {
  facts = 4;
  initial = 13;
  goal = goal;
  leader_count = outages;
  follower_count = moves;
  leader = take outages (act price 4 4 0 ∷ act 5 8 8 0 ∷ []) ++ replicate (max_leader - outages) idle;
  follower = take moves (act 3 5 1 2 ∷ act 7 9 1 2 ∷ []) ++ replicate (max_follower - moves) idle;
}

unfoldable pub worked : Task
worked = hall 2 2 2 2

unfoldable pub node : ℕ → List ℕ → Node
node s p = record { state = s; plan = p }

unfoldable pub attack : ℕ → List ℕ → Value → List ℕ → List Node → Attack
attack s p a response nodes = record { node = node s p; answer = a; response = response; nodes = nodes }

unfoldable pub line : ℕ → Value → List ℕ → List ℕ → Line
line price a p q = record { price = price; answer = a; leader_plan = p; follower_plan = q }

unfoldable pub attacks : List Attack
attacks =
    attack 13 [] (minutes 3) (1 ∷ []) (node 13 [] ∷ node 14 (1 ∷ []) ∷ [])
    ∷ attack 9 (1 ∷ []) (minutes 7) (2 ∷ []) (node 9 [] ∷ node 10 (2 ∷ []) ∷ [])
    ∷ attack 5 (2 ∷ []) (minutes 3) (1 ∷ []) (node 5 [] ∷ node 6 (1 ∷ []) ∷ [])
    ∷ attack 1 (1 ∷ 2 ∷ []) none [] (node 1 [] ∷ [])
    ∷ []

-- an outage alone, at price 5
unfoldable pub second : Attack
second = attack 5 (2 ∷ []) (minutes 3) (1 ∷ []) (node 5 [] ∷ node 6 (1 ∷ []) ∷ [])

-- its front
unfoldable pub lines : List Line
lines = line 0 (minutes 3) [] (1 ∷ []) ∷ line 2 (minutes 7) (1 ∷ []) (2 ∷ []) ∷ line 7 none (1 ∷ 2 ∷ []) [] ∷ []

-- its file without the last newline
unfoldable pub text : List ℕ
text =
    bytes "facts=4\nstart=1,3,4\ngoal=2\noutages=2\nmoves=2\n"
    ++ bytes "cost=2\nneeds=3\ndrops=3\ngives=\n" ++ bytes "cost=5\nneeds=4\ndrops=4\ngives=\n"
    ++ bytes "cost=3\nneeds=1,3\ndrops=1\ngives=2\n" ++ bytes "cost=7\nneeds=1,4\ndrops=1\ngives=2"

unfoldable pub examples : List Example
examples =
    -- the hall's front; its reach is 7: 7 places do, 6 give 13
    front worked attacks lines
    ∷ reach worked attacks (13 ∷ 14 ∷ 9 ∷ 10 ∷ 5 ∷ 6 ∷ 1 ∷ []) 7 6
    -- the outage at price 5 alone is covered by the first line of the front
    ∷ covered worked attacks lines second 5
    -- its 171 bytes, and the 170 without the last newline
    ∷ file worked (text ++ bytes "\n") 171
    ∷ file worked text 170
    -- no outages: one line of price 0; an empty goal: 0 and 0; no moves: 0 and none
    ∷ front (hall 0 2 2 2) (attack 13 [] (minutes 3) (1 ∷ []) (node 13 [] ∷ node 14 (1 ∷ []) ∷ []) ∷ []) (line 0 (minutes 3) [] (1 ∷ []) ∷ [])
    ∷ front (hall 2 2 2 0)
    (attack 13 [] (minutes 0) [] (node 13 [] ∷ node 14 (1 ∷ []) ∷ []) ∷ attack 9 (1 ∷ []) (minutes 0) [] (node 9 [] ∷ node 10 (2 ∷ []) ∷ [])
    ∷ attack 5 (2 ∷ []) (minutes 0) [] (node 5 [] ∷ node 6 (1 ∷ []) ∷ []) ∷ attack 1 (1 ∷ 2 ∷ []) (minutes 0) [] (node 1 [] ∷ []) ∷ [])
    (line 0 (minutes 0) [] [] ∷ [])
    ∷ front (hall 2 0 2 2)
    (attack 13 [] none [] (node 13 [] ∷ []) ∷ attack 9 (1 ∷ []) none [] (node 9 [] ∷ [])
    ∷ attack 5 (2 ∷ []) none [] (node 5 [] ∷ []) ∷ attack 1 (1 ∷ 2 ∷ []) none [] (node 1 [] ∷ []) ∷ [])
    (line 0 none [] [] ∷ [])
    -- the first outage at price 0: (0, 7) and (5, none), and the start's own pair is absent
    ∷ front (hall 2 2 0 2) attacks (line 0 (minutes 7) (1 ∷ []) (2 ∷ []) ∷ line 5 none (1 ∷ 2 ∷ []) [] ∷ [])
    -- replay of moves 1, 1: 12, step 2
    ∷ replay worked [] (1 ∷ 1 ∷ []) 12 2
    -- the empty text: 2, line 1; facts=0: 5; facts=64 passes, so that line 2 is missing; facts=65: 5; facts=007: 18
    ∷ refusal [] 2 1
    ∷ refusal (bytes "facts=0\n") 5 1
    ∷ refusal (bytes "facts=64\n") 2 2
    ∷ refusal (bytes "facts=65\n") 5 1
    ∷ refusal (bytes "facts=007\n") 18 1
    -- with four facts start=3,1: 6; start=5,1: 5
    ∷ refusal (bytes "facts=4\nstart=3,1\n") 6 2
    ∷ refusal (bytes "facts=4\nstart=5,1\n") 5 2
    -- an empty place wins over a leading zero before it, and a foreign byte behind them over both
    ∷ refusal (bytes "facts=4\nstart=01,\n") 17 2
    ∷ refusal (bytes "facts=4\nstart=01,,x\n") 4 2
    -- a carriage return before a line's end: 4; a blank line at the end: 7, at the line behind the last
    ∷ refusal (bytes "facts=4\r\n") 4 1
    ∷ refusal (text ++ bytes "\n\n") 7 22
    ∷ []
