-- The stages before the front call, question by question.
use Rattle.std.specs.Prelude.{◌≡◌, refl, false, List, [], ◌∷◌, map, ℕ, ◌≤◌, ◌<◌, length, Result, Ok, Err, MatchResult}
use Rattle.std.proofs.Common.{ap, ◌∙◌, arith}
use Rattle.std.proofs.lemmas.List.{length-map}
use Rattle.strips.specs.declared.Task.{Task}
use Rattle.outcome.specs.Laws.Refusal.{number_some}
use Rattle.outcome.specs.declared.Refusal.{Refusal}
use Rattle.outcome.specs.declared.Refusal.TheVariants.{TooManyStates}
use Rattle.search.specs.Limits.{max_places}
use Rattle.search.specs.Reachable.{Fits}
use Rattle.questions.specs.Lent.{Lent}
use Rattle.questions.specs.Size.{shortest}
use Rattle.rows.specs.Laws.Cleared.{everywhere_same, zeros_same}
use Rattle.questions.specs.Memory.{is_one_of, before_use}
use Rattle.questions.specs.Asked.{no_to, yes_to, answered}
use Rattle.questions.specs.Call.{Returned, refused}
use Rattle.questions.specs.Laws.Asked.{asked_map}
use Rattle.questions.specs.Laws.Workspace.{from_to, cleared_on}
use Rattle.questions.specs.Workspace.{SameSlices, Cleared, RowsKept}
use Rattle.questions.specs.declared.workspace.Workspace.{Workspace}
use Rattle.pareto.specs.Front.{Line, Front}
use Rattle.pareto.specs.Layout.{entry_for, plans_for}
use Rattle.pareto.specs.Laws.Unique.{not_empty}
use Rattle.front_lines.specs.Lines.{lines_in, Chosen}
use Rattle.front_lines.specs.Laws.Listed.{listed_length}
use Rattle.front.specs.FrontCall.{front_call, returned}
use Rattle.front.specs.Asked.{RefusedLeft}
use Rattle.front.specs.Inner.Stages.{LinesAsked, UsedCleared, LinesListed}

-- the places of one size
pub one_size : (n : ℕ) → n ≤ max_places → shortest (n ∷ []) ≡ n
unfolding shortest
one_size n h = omega arith

module _ (t : Task) (n entries numbers : ℕ) (R : List (List ℕ)) (small : n ≤ max_places) where
  -- question 13
  pub states_refused : {r : Result ℕ Refusal} {q : Refusal} → (q ≡ TooManyStates) × (Fits t n → ⊥) → r ≡ Err q → LinesAsked t n entries numbers R (returned r)
  states_refused f e = no_to {q = 13} (λ x. f.1 (rw (one_size n small) at x)) (ap returned (e ∙ ap Err f.0))

  module _ {k : ℕ} (f : Fits t n) (c : Chosen t R k) where
    fits : Fits t (shortest (n ∷ []))
    fits = rw (one_size n small) f

    count : length (map entry_for (lines_in R k)) ≡ k
    count = length-map (lines_in R k) entry_for ∙ listed_length R k c.listed

    -- question 14
    pub entries_refused : {r : Returned ℕ} → entries < k → r ≡ refused (front_call t) 14 → LinesAsked t n entries numbers R r
    entries_refused h e = yes_to {q = 13} fits (no_to {q = 14} (record { it = lines_in R k; found = c.front; holds = λ x. omega (arith, x, count) }) e)

    -- question 15
    pub plans_refused : {r : Returned ℕ} → k ≤ entries → numbers < length (plans_for (lines_in R k)) → r ≡ refused (front_call t) 15
        → LinesAsked t n entries numbers R r
    plans_refused h l e =
        yes_to {q = 13} fits (yes_to {q = 14} (record { it = lines_in R k; found = c.front; holds = omega (arith, count) })
        (no_to {q = 15} (record { it = lines_in R k; found = c.front; holds = λ x. omega (arith, x) }) e))

    -- none is refused
    pub lines_done : {r : Returned ℕ} → k ≤ entries → length (plans_for (lines_in R k)) ≤ numbers → r ≡ record { number = 0; place = 0; values = k }
        → LinesAsked t n entries numbers R r
    lines_done h l e =
        let long = listed_length R k c.listed in
        yes_to {q = 13} fits (yes_to {q = 14} (record { it = lines_in R k; found = c.front; holds = omega (arith, count) })
        (yes_to {q = 15} (record { it = lines_in R k; found = c.front; holds = l })
        (answered (record {
          it = lines_in R k;
          found = c.front;
          holds = (rw long e, record { same = ap (lines_in R) long; listed = rw long c.listed }, omega (arith, long), l);
        }))))

-- whichever of them is the first that gets no, or none is
pub ruleset line_questions = (states_refused, entries_refused, plans_refused, lines_done)

-- a front has lines
pub some_lines : {t : Task} {lines : List Line} → Front t lines → 1 ≤ length lines
some_lines {t} {lines = []} f = absurd (not_empty t f refl)
some_lines {lines = l ∷ ls} f = omega arith

-- the number that is returned tells a refusal from success
after_refusal : (P Q : Type 0) (r : Result ℕ Refusal) → MatchResult r (λ k. P) (λ q. Q) → 1 ≤ (returned r).number → Q
after_refusal P Q (Ok k) w h = absurd (omega arith)
after_refusal P Q (Err q) w h = w

after_success : (P Q : Type 0) (r : Result ℕ Refusal) → MatchResult r (λ k. P) (λ q. Q) → (returned r).number ≡ 0 → P
after_success P Q (Ok k) w z = w
after_success P Q (Err q) w z = absurd (omega (arith, z, number_some q))

module _ (t : Task) (w : Lent Workspace) (r : Result ℕ Refusal) (w₁ : Workspace)
    (same : SameSlices (from_to w.before w₁)) (u : UsedCleared r (from_to w₁ w.after)) where
  abbrev Kept : Type 0
  Kept = RowsKept (from_to w₁ w.after)

  abbrev Clear : Type 0
  Clear = Cleared (from_to w₁ w.after)

  refused_left : (q : ℕ) → is_one_of q before_use ≡ false → 1 ≤ q → returned r ≡ refused (front_call t) q → RefusedLeft t w (returned r) q
  refused_left q b some e =
      let clear = cleared_on same (after_refusal Kept Clear r u (omega (arith, some, ap (λ (x : Returned ℕ). x.number) e))) in
      record { some = some; returns = e; slices = rw b clear.slices }

  pub listed_left : (n entries numbers : ℕ) → LinesAsked t n entries numbers w₁.rows.now (returned r) → LinesListed t n entries numbers w (returned r)
  listed_left n entries numbers = asked_map
      (refused_left 13 refl (omega arith), (refused_left 14 refl (omega arith), (refused_left 15 refl (omega arith), tt)))
      (λ d.
      let kept = after_success Kept Clear r u (ap (λ (x : Returned ℕ). x.number) d.holds.0) in
      record {
        it = d.it;
        found = d.found;
        holds = record {
          returns = d.holds.0;
          left = record {
            states = kept.states ∙ zeros_same _ _ same.state_places;
            index = kept.index ∙ everywhere_same _ _ _ same.index_places;
            links = kept.links ∙ everywhere_same _ _ _ same.link_places;
            held = rw kept.rows d.holds.1;
            size = ap length kept.rows ∙ same.row_places;
          };
          entries_fit = d.holds.2;
          plans_fit = d.holds.3;
        };
      })
