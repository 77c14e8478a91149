-- What writing a task returns, and what it leaves in the lent slice.
use Rattle.std.specs.Prelude.{◌≡◌, List, ◌++◌, ℕ, length, drop, Result, Ok, Err}
use Rattle.strips.specs.Decision.{ask}
use Rattle.outcome.specs.Refusal.{number_of, place_of}
use Rattle.outcome.specs.declared.Refusal.{Refusal}
use Rattle.strips.specs.Deciders.{dec_valid}
use Rattle.strips.specs.declared.Task.{Task}
use Rattle.task_format.specs.Render.{render}
use Rattle.task_format.specs.Deciders.{dec_at_most}

-- number and place of the question that gets no, 0 and 0 where none does, and the bytes written
pub record Answer : Type 0 where
  pub number : ℕ
  pub place : ℕ
  pub bytes : ℕ

abbrev pub refused : ℕ → Answer
refused number = record { number = number; place = 0; bytes = 0 }

abbrev pub wrote : ℕ → Answer
wrote bytes = record { number = 0; place = 0; bytes = bytes }

unfoldable pub returned : Result ℕ Refusal → Answer
returned (Ok n) = wrote n
returned (Err q) = record { number = number_of q; place = place_of q; bytes = 0 }

-- the text at the front of the slice, which keeps what is beyond
abbrev pub over : List ℕ → List ℕ → List ℕ
over text out = text ++ drop (length text) out

-- question 16
unfoldable pub answer_valid : Task → ℕ → Answer
answer_valid t size = ask (dec_at_most (length (render t)) size) (refused 16) (wrote (length (render t)))

unfoldable pub output_valid : Task → List ℕ → List ℕ
output_valid t out = ask (dec_at_most (length (render t)) (length out)) out (over (render t) out)

-- question 9 before it
unfoldable pub answer : Task → ℕ → Answer
answer t size = ask (dec_valid t) (refused 9) (answer_valid t size)

unfoldable pub output : Task → List ℕ → List ℕ
output t out = ask (dec_valid t) out (output_valid t out)

pub record WroteValid (t : Task) (before after : List ℕ) (r : Result ℕ Refusal) : Type 0 where
  pub output : after ≡ output_valid t before
  pub answer : returned r ≡ answer_valid t (length before)

pub record Wrote (t : Task) (before after : List ℕ) (r : Result ℕ Refusal) : Type 0 where
  pub output : after ≡ output t before
  pub answer : returned r ≡ answer t (length before)
