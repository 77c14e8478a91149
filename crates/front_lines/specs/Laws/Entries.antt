-- The entry of a line, by the numbers that are read.
use Rattle.std.specs.Prelude.{◌≡◌, refl, ℕ, length, Option, None, Some}
use Rattle.outcome.specs.Answer.{Value, value_of}
use Rattle.outcome.specs.declared.Minutes.{Minutes}
use Rattle.outcome.specs.declared.Price.{Price}
use Rattle.pareto.specs.Layout.{answer_for, entry_for}
use Rattle.planner.specs.Reading.{Reading}
use Rattle.front_lines.specs.Lines.{line_of}

answer_back : (a : Option Minutes) (x : Value) → value_of a ≡ x → a ≡ answer_for x
unfolding answer_for
answer_back (Some m) x e = rw (← e) refl
answer_back None x e = rw (← e) refl

pub entry_read : (r : Reading) (p : Price) (a : Option Minutes) (l f : ℕ)
    → p.0 ≡ r.price → value_of a ≡ r.answer → l ≡ length r.leader_plan → f ≡ length r.follower_plan
    → record { price = p; answer = a; leader_steps = l; follower_steps = f } ≡ entry_for (line_of r)
unfolding entry_for
entry_read r p a l f hp ha hl hf = rw (← hp, ← answer_back a r.answer ha, ← hl, ← hf) refl
