-- What a text says: the questions 1 to 7, 17 and 18, and the record.
use Rattle.std.specs.Prelude.{List, [], ◌∷◌, ℕ, suc, ◌+◌, length, drop, replicate}
use Rattle.strips.specs.Decision.{ask}
use Rattle.strips.specs.Limits.{max_leader, max_follower}
use Rattle.strips.specs.Task.{idle}
use Rattle.strips.specs.declared.Task.{Task}
use Rattle.task_format.specs.Limits.{max_text}
use Rattle.task_format.specs.Text.{lines, begins}
use Rattle.task_format.specs.Value.{content}
use Rattle.task_format.specs.Lines.{key_of, kind_of, last_line, task_of, stored}
use Rattle.task_format.specs.Deciders.{dec_same, dec_at_most, dec_true, dec_in_form, dec_filled, dec_unpadded, dec_in_range, dec_ascending}
use Rattle.task_format.specs.declared.Kind.{Kind}

-- number and place of the first question that gets no, 0 and 0 where none does, and the record
pub record Read : Type 0 where
  pub number : ℕ
  pub place : ℕ
  pub task : Task

-- the record of zeros
unfoldable pub zeros : Task
zeros = task_of 0 0 0 0 0 (replicate max_leader idle) (replicate max_follower idle)

abbrev pub refused : ℕ → ℕ → Read
refused number place = record { number = number; place = place; task = zeros }

abbrev pub accepted : Task → Read
accepted t = record { number = 0; place = 0; task = t }

-- the number of the first question about a value that gets no, or 0
unfoldable pub fault : Kind → List ℕ → ℕ
fault kind v =
    ask (dec_in_form kind v) 4 (ask (dec_filled kind v) 17 (ask (dec_unpadded kind v) 18 (ask (dec_in_range kind v) 5 (ask (dec_ascending kind v) 6 0))))

-- the questions about the value of line n, and the rest where each gets a yes
unfoldable pub judged : Kind → List ℕ → ℕ → Read → Read
judged kind v n rest = ask (dec_same (fault kind v) 0) (refused (fault kind v) n) rest

-- the lines from line n on, read into the record t of those before; each question gets a yes before the next is asked
unfoldable pub follow : List (List ℕ) → ℕ → Task → Read
follow [] n t = ask (dec_at_most (suc (last_line t)) n) (refused 2 n) (accepted t)
follow (l ∷ ls) n t =
    let kind = kind_of t.facts n in
    let v = drop (length (key_of n)) l in
    let next = follow ls (n + 1) (stored t n (content kind v)) in
    ask (dec_at_most n (last_line t)) (refused 7 n) (ask (dec_true (begins (key_of n) l)) (refused 3 n) (judged kind v n next))

unfoldable pub parse : List ℕ → Read
parse text = ask (dec_at_most (length text) max_text) (refused 1 0) (follow (lines text) 1 zeros)
