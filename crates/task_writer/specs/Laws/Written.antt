-- What writing returns and leaves, from what the questions get.
use Rattle.std.specs.Prelude.{List, ℕ, ◌≤◌, ◌<◌, replicate, Result, Ok, Err}
use Rattle.std.proofs.Math.Path.{sym}
use Rattle.std.proofs.Common.{◌∙◌, subst, le_trans, arith, lit≤}
use Rattle.std.proofs.Math.ListN.{length}
use Rattle.std.proofs.lemmas.List.{length-replicate}
use Rattle.strips.specs.Task.{Valid}
use Rattle.strips.specs.Laws.Decision.{asked_yes, asked_no}
use Rattle.strips.specs.Deciders.{dec_valid}
use Rattle.outcome.specs.declared.Refusal.{Refusal}
use Rattle.outcome.specs.declared.Refusal.TheVariants.{InvalidTask, OutputTooLong}
use Rattle.strips.specs.declared.Task.{Task}
use Rattle.task_format.specs.Limits.{max_text}
use Rattle.task_format.specs.Render.{render}
use Rattle.task_format.specs.Deciders.{dec_at_most}
use Rattle.task_format.specs.Laws.Size.{render_size}
use Rattle.task_writer.specs.Written.{over, returned, answer_valid, output_valid, answer, output, WroteValid, Wrote}

-- ---- question 16

module _ (t : Task) (out : List ℕ) where
  pub wrote_no : length out < length (render t) → WroteValid t out out (Err OutputTooLong)
  unfolding output_valid answer_valid returned
  wrote_no h =
      let n : length (render t) ≤ length out → ⊥ = λ k. omega (arith, k) in
      let d = dec_at_most (length (render t)) (length out) in
      record { output = sym (asked_no d n _ _); answer = sym (asked_no d n _ _) }

  pub wrote_yes : length (render t) ≤ length out → WroteValid t out (over (render t) out) (Ok (length (render t)))
  unfolding output_valid answer_valid returned
  wrote_yes h =
      let d = dec_at_most (length (render t)) (length out) in
      record { output = sym (asked_yes d h _ _); answer = sym (asked_yes d h _ _) }

  -- ---- question 9

  pub write_invalid : (Valid t → ⊥) → Wrote t out out (Err InvalidTask)
  unfolding output answer returned
  write_invalid n = record { output = sym (asked_no (dec_valid t) n _ _); answer = sym (asked_no (dec_valid t) n _ _) }

  pub write_valid : (after : List ℕ) (r : Result ℕ Refusal) → Valid t → WroteValid t out after r → Wrote t out after r
  unfolding output answer
  write_valid after r v w = record { output = w.output ∙ sym (asked_yes (dec_valid t) v _ _); answer = w.answer ∙ sym (asked_yes (dec_valid t) v _ _) }

-- ---- the bytes in which the text is made

abbrev pub blank : List ℕ
blank = replicate {A = ℕ} max_text 0

pub roomy : (t : Task) → Valid t → length (render t) ≤ length blank
roomy t v = subst (λ (n : ℕ). length (render t) ≤ n) (sym (length-replicate {A = ℕ} max_text 0)) (le_trans (render_size t v) (lit≤ tt))
