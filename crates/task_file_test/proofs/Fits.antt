-- What is written of a task fits the slice.
use Rattle.std.specs.Prelude.{List, Ok, ℕ, ◌≤◌, length}
use Rattle.std.proofs.Common.{arith, ap}
use Rattle.strips.specs.Deciders.{dec_valid}
use Rattle.strips.specs.Laws.Decision.{asked_either}
use Rattle.strips.specs.declared.Task.{Task}
use Rattle.task_format.specs.Render.{render}
use Rattle.task_format.specs.Deciders.{dec_at_most}
use Rattle.task_writer.specs.Written.{Answer, returned, answer, answer_valid, Wrote}

answer_fits : (t : Task) (size : ℕ) → (answer t size).bytes ≤ size
unfolding answer answer_valid
answer_fits t size =
    asked_either (λ (a : Answer). a.bytes ≤ size) (dec_valid t) (λ n. omega arith)
    (λ v. asked_either (λ (a : Answer). a.bytes ≤ size) (dec_at_most (length (render t)) size) (λ n. omega arith) (λ h. h))

pub wrote_fits : {t : Task} {before after : List ℕ} {n : ℕ} → Wrote t before after (Ok n) → n ≤ length before
unfolding returned
wrote_fits {t} {before} w = omega (arith, ap (λ (a : Answer). a.bytes) w.answer, answer_fits t (length before))
