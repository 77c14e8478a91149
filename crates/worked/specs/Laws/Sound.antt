-- A checked table has the least plan to every state that can be reached; so a checked front is the front.
use Rattle.std.specs.Prelude.{◌≡◌, refl, true, false, ◌⊎◌, ℕ, ◌≤◌, ◌<◌, leb, ltb, length}
use Rattle.std.proofs.Common.{sym, ap, inl, inr, arith}
use mathlib.Core.List.Memᴰ
use mathlib.Core.List.{List, [], ◌∷◌, ◌++◌, Memᴰ}
use Rattle.std.proofs.Math.Dec.{eqb}
use borrow.Author.Tests.{eqb-true, leb-true, ltb-true}
use Rattle.strips.specs.State.{after}
use Rattle.strips.specs.Task.{leader_actions, follower_actions}
use Rattle.strips.specs.Plan.{action, cost, AtMost, Runs, Least}
use Rattle.outcome.specs.Answer.{Value, minutes, none, up_to}
use Rattle.outcome.specs.Laws.Answers.{up_to_is}
use Rattle.strips.specs.Laws.ClosedTable.{Served, Closed, least_plan}
use Rattle.strips.specs.Laws.Order.{at_most_trans, at_most_cost}
use Rattle.strips.specs.declared.Action.{Action}
use Rattle.strips.specs.declared.Task.{Task}
use Rattle.strips.specs.Laws.Pigeonhole.{pigeonhole}
use Rattle.search.specs.Reachable.{Reach, Fits}
use Rattle.search.specs.Response.{Solves, Response, found, nothing}
use Rattle.search.specs.Laws.Response.{response_unique}
use Rattle.pareto.specs.Front.{Attacks, Inflicts, Line, Stands, Rising, nil, cons, Covered, Front}
use Rattle.worked.specs.Check.{Node, Attack, both, every, some, when, same_list, same_value, below, holds, at_most, runs_to, serves, closed, tabled, responds}
use Rattle.worked.specs.Check.{answered, rises, stands, covers, attack_nodes, is_front, every_up_to, among, is_reach}
use Rattle.worked.specs.Laws.Tests.{both_first, both_second, when_then, every_each, some_one, up_to_each, same_list_lem, same_value_lem, value_same, below_is}
use Rattle.worked.specs.Laws.Tests.{holds_is, is_holds, at_most_is, runs_to_lem, among_is, distinct_is}

abbrev Listed : List Node → Node → Type 0
Listed nodes n = Memᴰ n nodes

-- some node has the state t and a plan that is at most q
abbrev Serving : List Action → List Node → ℕ → List ℕ → Type 0
Serving acts nodes = Served acts (Listed nodes) (λ n. n.state) (λ n. n.plan)

serving : (acts : List Action) (nodes : List Node) (t : ℕ) (q : List ℕ) → serves acts nodes t q ≡ true → Serving acts nodes t q
unfolding serves
serving acts nodes t q e =
    let p = some_one (λ n. both (eqb n.state t) (at_most acts n.plan q)) nodes e in
    record {
      row = p.it;
      listed = p.listed;
      state = eqb-true p.it.state t (both_first _ _ p.passes);
      least = at_most_is acts p.it.plan q (both_second (eqb p.it.state t) _ p.passes);
    }

module _ (acts : List Action) (s : ℕ) (nodes : List Node) (checked : tabled acts s nodes ≡ true) where
  pub node_runs : (n : Node) → Memᴰ n nodes → Runs acts s n.plan n.state
  unfolding tabled
  node_runs n m = runs_to_lem acts s n.plan n.state (every_each (λ x. runs_to acts s x.plan x.state) nodes (both_first _ _ (both_second _ _ checked)) n m)

  pub plan_runs : (n : Node) → Memᴰ n nodes → (p : List ℕ) → n.plan ≡ p → Runs acts s p n.state
  plan_runs n m p e = rw (← e) (node_runs n m)

  is_closed : Closed acts (Listed nodes) (λ n. n.state) (λ n. n.plan)
  unfolding tabled closed
  is_closed n m k l =
      let step = λ (x : Node) (j : ℕ).
      when (holds x.state (action acts j).precondition) (serves acts nodes (after (action acts j) x.state) (x.plan ++ (j ∷ []))) in
      let row = every_each (λ x. every_up_to (step x) (length acts)) nodes (both_second _ _ (both_second _ _ checked)) n m in
      let one = up_to_each (step n) (length acts) row k l.known.0 l.known.1 in
      serving acts nodes (after (action acts k) n.state) (n.plan ++ (k ∷ [])) (when_then _ _ one (is_holds _ _ l.applies))

  -- every plan from s leads to a node's state, and the node's plan is at most it
  pub every_plan : {u : ℕ} {p : List ℕ} → Runs acts s p u → Serving acts nodes u p
  unfolding tabled
  every_plan {u} {p} r =
      let source = some_one (λ n. both (eqb n.state s) (same_list n.plan [])) nodes (both_first _ _ checked) in
      let n = source.it in
      let state : n.state ≡ s = eqb-true n.state s (both_first _ _ source.passes) in
      let empty : n.plan ≡ [] = same_list_lem n.plan [] (both_second (eqb n.state s) _ source.passes) in
      let runs : Runs acts n.state p u = rw state r in
      least_plan acts (Listed nodes) (λ n. n.state) (λ n. n.plan) is_closed n source.listed empty runs

impossible : {X : Type 0} → false ≡ true → X
impossible e = absurd (let z : ◌≡◌ {A = ℕ} 0 1 = cc in omega arith)

module _ (t : Task) (s : ℕ) (nodes : List Node) (table : tabled (follower_actions t) s nodes ≡ true) where
  -- the node of a plan that solves the state, and that the goal holds there
  solver : {p : List ℕ} (q : Solves t s p) → Serving (follower_actions t) nodes q.end p
  solver q = every_plan (follower_actions t) s nodes table q.runs

  goal_there : {p : List ℕ} (q : Solves t s p) → holds (solver q).row.state t.goal ≡ true
  goal_there q = is_holds _ _ (rw (solver q).state q.holds)

  at_cost : (c : ℕ) (p : List ℕ) → cost (follower_actions t) p ≡ c → Least (follower_actions t) (Solves t s) p → Response t s (minutes c) p
  at_cost c p e l = rw (← e) (found l)

  no_plan : (p : List ℕ) → p ≡ [] → Response t s none [] → Response t s none p
  no_plan p e r = rw e r

  -- a checked answer is the best response
  response_is : (a : Value) (p : List ℕ) → responds t s nodes a p ≡ true → Response t s a p
  unfolding responds
  response_is none p r =
      let empty : p ≡ [] = same_list_lem p [] (both_first _ _ r) in
      let no_way : Response t s none [] = nothing (λ q solves.
      let none_there = every_each (λ n. when (holds n.state t.goal) false) nodes (both_second _ _ r) (solver solves).row (solver solves).listed in
      impossible (when_then _ _ none_there (goal_there solves))) in
      no_plan p empty no_way
  response_is (minutes c) p r =
      let costs : cost (follower_actions t) p ≡ c = eqb-true _ c (both_first _ _ r) in
      let one = some_one (λ n. both (same_list n.plan p) (holds n.state t.goal)) nodes (both_first _ _ (both_second _ _ r)) in
      let n = one.it in
      let plan : n.plan ≡ p = same_list_lem n.plan p (both_first _ _ one.passes) in
      let runs = plan_runs (follower_actions t) s nodes table n one.listed p plan in
      let solves : Solves t s p = record { end = n.state; runs = runs; holds = holds_is n.state t.goal (both_second (same_list n.plan p) _ one.passes) } in
      let acts = follower_actions t in
      let each = every_each (λ n. when (holds n.state t.goal) (at_most acts p n.plan)) nodes (both_second _ _ (both_second _ _ r)) in
      let least : (q : List ℕ) → Solves t s q → AtMost acts p q = λ q x.
      let v = solver x in
      at_most_trans acts (at_most_is acts p v.row.plan (when_then _ _ (each v.row v.listed) (goal_there x))) v.least in
      at_cost c p costs (record { has = solves; least = least })

pub attack_response : (t : Task) (x : Attack) → answered t x ≡ true → Response t x.node.state x.answer x.response
unfolding answered
attack_response t x e = response_is t x.node.state x.nodes (both_first _ _ e) x.answer x.response (both_second _ _ e)

-- an attack for each node
record Attacker (attacks : List Attack) (n : Node) : Type 0 where
  attack : Attack
  listed : Memᴰ attack attacks
  node : attack.node ≡ n

attacker : (attacks : List Attack) (n : Node) → Memᴰ n (attack_nodes attacks) → Attacker attacks n
unfolding attack_nodes
attacker [] n m = absurd (Memᴰ.not-nil m)
attacker (x ∷ xs) n m = of (Memᴰ.cases_cons m) (λ k. attacker xs n k)
  where
    of : (n ≡ x.node) ⊎ Memᴰ n (attack_nodes xs) → (Memᴰ n (attack_nodes xs) → Attacker xs n) → Attacker (x ∷ xs) n
    of (inl e) g = record { attack = x; listed = Memᴰ.head refl; node = sym e }
    of (inr k) g = let a = g k in record { attack = a.attack; listed = Memᴰ.tail a.listed; node = a.node }

attack_node : (attacks : List Attack) (x : Attack) → Memᴰ x attacks → Memᴰ x.node (attack_nodes attacks)
unfolding attack_nodes
attack_node [] x m = absurd (Memᴰ.not-nil m)
attack_node (y ∷ ys) x m = of (Memᴰ.cases_cons m) (λ k. attack_node ys x k)
  where
    of : (x ≡ y) ⊎ Memᴰ x ys → (Memᴰ x ys → Memᴰ x.node (attack_nodes ys)) → Memᴰ x.node (y.node ∷ attack_nodes ys)
    of (inl e) g = Memᴰ.head (ap (λ z. z.node) e)
    of (inr k) g = Memᴰ.tail (g k)

rising_is : (lines : List Line) → rises lines ≡ true → Rising lines
unfolding rises
rising_is [] e = nil
rising_is (l ∷ ls) e = cons (λ m k.
    let p = every_each (λ m. both (ltb l.price m.price) (below l.answer m.answer)) ls (both_first _ _ e) m k in
    record { price = ltb-true _ _ (both_first _ _ p); answer = below_is _ _ (both_second (ltb l.price m.price) _ p) }) (rising_is ls (both_second _ _ e))

-- a checked table of the leader's plans
module _ (t : Task) (attacks : List Attack) (table : tabled (leader_actions t) t.initial (attack_nodes attacks) ≡ true) where
  attack_runs : (x : Attack) → Memᴰ x attacks → Attacks t x.node.plan x.node.state
  attack_runs x m = node_runs (leader_actions t) t.initial (attack_nodes attacks) table x.node (attack_node attacks x m)

  -- the attack of a leader plan: it ends in the same state, and its plan is at most that one
  record Meeting (p : List ℕ) (s : ℕ) : Type 0 where
    attack : Attack
    listed : Memᴰ attack attacks
    state : attack.node.state ≡ s
    least : AtMost (leader_actions t) attack.node.plan p

  meets : (p : List ℕ) (s : ℕ) → Attacks t p s → Meeting p s
  meets p s r =
      let v = every_plan (leader_actions t) t.initial (attack_nodes attacks) table r in
      let a = attacker attacks v.row v.listed in
      record { attack = a.attack; listed = a.listed; state = rw a.node v.state; least = rw a.node v.least }

module _ (t : Task) (attacks : List Attack) (lines : List Line) (checked : is_front t attacks lines ≡ true) where
  table : tabled (leader_actions t) t.initial (attack_nodes attacks) ≡ true
  unfolding is_front
  table = both_first _ _ checked

  response : (x : Attack) → Memᴰ x attacks → Response t x.node.state x.answer x.response
  unfolding is_front
  response x m = attack_response t x (every_each (answered t) attacks (both_first _ _ (both_second _ _ checked)) x m)

  -- the attack whose plan, answer and response these are
  attacked_by : (x : Attack) → Memᴰ x attacks → (p : List ℕ) → x.node.plan ≡ p → Attacks t p x.node.state
  attacked_by x m p e = rw (← e) (attack_runs t attacks table x m)

  answered_by : (x : Attack) → Memᴰ x attacks → (a : Value) (p : List ℕ) → x.answer ≡ a → x.response ≡ p → Response t x.node.state a p
  answered_by x m a p e f = rw (← e, ← f) (response x m)

  line_stands : (l : Line) → stands t attacks l ≡ true → Stands t l
  unfolding stands
  line_stands l e =
      let one =
      some_one (λ x. both (same_list x.node.plan l.leader_plan) (both (same_value x.answer l.answer) (same_list x.response l.follower_plan))) attacks
      (both_first _ _ e) in
      let x = one.it in
      let plan : x.node.plan ≡ l.leader_plan = same_list_lem _ _ (both_first _ _ one.passes) in
      let rest = both_second (same_list x.node.plan l.leader_plan) _ one.passes in
      let answer : x.answer ≡ l.answer = same_value_lem _ _ (both_first _ _ rest) in
      let moves : x.response ≡ l.follower_plan = same_list_lem _ _ (both_second (same_value x.answer l.answer) _ rest) in
      let attacked = attacked_by x one.listed l.leader_plan plan in
      let answers = answered_by x one.listed l.answer l.follower_plan answer moves in
      let has : Inflicts t l.answer l.leader_plan = record { end = x.node.state; attacks = attacked; plan = l.follower_plan; response = answers } in
      record {
        end = x.node.state;
        attacks = attacked;
        costs = eqb-true _ _ (both_first _ _ (both_second _ _ e));
        response = answers;
        least = record { has = has; least = λ q i. smallest q i (meets t attacks table q i.end i.attacks) };
      }
    where
      smallest : (q : List ℕ) (i : Inflicts t l.answer q) → Meeting t attacks table q i.end → AtMost (leader_actions t) l.leader_plan q
      smallest q i m =
          let y = m.attack in
          let there : Response t y.node.state l.answer i.plan = rw m.state i.response in
          let answer : y.answer ≡ l.answer = (response_unique (response y m.listed) there).0 in
          let acts = leader_actions t in
          let rest = both_second _ _ (both_second _ _ e) in
          let each = every_each (λ x. when (same_value x.answer l.answer) (at_most acts l.leader_plan x.node.plan)) attacks rest in
          at_most_trans acts (at_most_is acts l.leader_plan y.node.plan (when_then _ _ (each y m.listed) (value_same _ _ answer))) m.least

  line_covers : (p : List ℕ) (s : ℕ) → Meeting t attacks table p s → Covered t lines (cost (leader_actions t) p) s
  unfolding is_front covers
  line_covers p s m =
      let x = m.attack in
      let one = some_one (λ l. both (leb l.price (cost (leader_actions t) x.node.plan)) (up_to x.answer l.answer)) lines
      (every_each (covers t lines) attacks (both_second _ _ (both_second _ _ (both_second _ _ (both_second _ _ checked)))) x m.listed) in
      let l = one.it in
      record {
        line = l;
        listed = one.listed;
        answer = x.answer;
        plan = x.response;
        response = rw m.state at (response x m.listed);
        covers = (
          omega (arith, leb-true l.price (cost (leader_actions t) x.node.plan) (both_first _ _ one.passes), at_most_cost (leader_actions t) m.least),
          up_to_is _ _ (both_second (leb l.price (cost (leader_actions t) x.node.plan)) _ one.passes),
        );
      }

  -- a checked front is the front
  pub front_is : Front t lines
  unfolding is_front
  front_is = record {
    rising = rising_is lines (both_first _ _ (both_second _ _ (both_second _ _ checked)));
    each = λ l m. line_stands l (every_each (stands t attacks) lines (both_first _ _ (both_second _ _ (both_second _ _ (both_second _ _ checked)))) l m);
    covered = λ p s r. line_covers p s (meets t attacks table p s r);
  }

-- a checked list of states is the reach, each state once
module _ (t : Task) (attacks : List Attack) (states : List ℕ) (checked : is_reach t attacks states ≡ true) where
  leader_table : tabled (leader_actions t) t.initial (attack_nodes attacks) ≡ true
  unfolding is_reach
  leader_table = both_first _ _ checked

  follower_table : (x : Attack) → Memᴰ x attacks → both (tabled (follower_actions t) x.node.state x.nodes) (every (λ n. among n.state states) x.nodes) ≡ true
  unfolding is_reach
  follower_table x m =
      every_each (λ x. both (tabled (follower_actions t) x.node.state x.nodes) (every (λ n. among n.state states) x.nodes)) attacks
      (both_first _ _ (both_second _ _ checked)) x m

  among_states : (s : ℕ) → Reach t s → Memᴰ s states
  among_states s r =
      let m = meets t attacks leader_table r.leader_plan r.middle r.leader in
      let x = m.attack in
      let e = follower_table x m.listed in
      let run : Runs (follower_actions t) x.node.state r.follower_plan s = rw m.state r.follower in
      let v = every_plan (follower_actions t) x.node.state x.nodes (both_first _ _ e) run in
      let in_list = every_each (λ n. among n.state states) x.nodes (both_second (tabled (follower_actions t) x.node.state x.nodes) _ e) v.row v.listed in
      rw v.state at (among_is v.row.state states in_list)

  ending : {a b : ℕ} {p : List ℕ} (s : ℕ) → s ≡ b → Runs (follower_actions t) a p b → Runs (follower_actions t) a p s
  ending s e r = rw e r

  is_reached : (s : ℕ) → Memᴰ s states → Reach t s
  unfolding is_reach
  is_reached s m =
      let found = λ (s : ℕ) (x : Attack). some (λ n. eqb s n.state) x.nodes in
      let each = every_each (λ s. some (found s) attacks) states (both_second _ _ (both_second _ _ (both_second _ _ checked))) in
      let one = some_one (found s) attacks (each s m) in
      let x = one.it in
      let two = some_one (λ n. eqb s n.state) x.nodes one.passes in
      let n = two.it in
      let runs = node_runs (follower_actions t) x.node.state x.nodes (both_first _ _ (follower_table x one.listed)) n two.listed in
      record {
        leader_plan = x.node.plan;
        middle = x.node.state;
        follower_plan = n.plan;
        leader = attack_runs t attacks leader_table x one.listed;
        follower = ending s (eqb-true s n.state two.passes) runs;
      }

  pub reach_is : (n : ℕ) → (length states ≤ n → Fits t n) × (n < length states → Fits t n → ⊥)
  unfolding is_reach
  reach_is n = (
    λ h. record { states = states; few = h; all = among_states },
    λ h f.
        let distinct = distinct_is states (both_first _ _ (both_second _ _ (both_second _ _ checked))) in
        omega (arith, f.few, pigeonhole distinct f.states (λ s m. f.all s (is_reached s m))),
  )
