-- Demand 2 about files: a task is written as one text, and that text, with or without its last newline, is read back as that task; no other text is.
-- `parse` is what `task_reader::read` returns, `render` what `task_writer::write` writes.
use Rattle.std.specs.Prelude.{◌≡◌, List, [], ◌∷◌, ◌++◌, ◌⊎◌, ℕ, ◌≤◌, length}
use Rattle.strips.specs.Task.{Valid}
use Rattle.strips.specs.declared.Task.{Task}
use Rattle.task_format.specs.Limits.{longest_file}
use Rattle.task_format.specs.Text.{newline}
use Rattle.task_format.specs.Parse.{accepted, parse}
use Rattle.task_format.specs.Render.{render}
use Rattle.task_format.specs.Laws.Size.{render_size}
use Rattle.round_trip.specs.Laws.Longest.{full, full_valid, full_length}
use Rattle.round_trip.specs.Laws.Reading.{whole_read, cut_read, task_valid, text_of}

-- the text of a task is read back as the task
pub written_read : (t : Task) → Valid t → parse (render t) ≡ accepted t
written_read = whole_read

-- and so is the text without its last newline
pub written_cut_read : (t : Task) → Valid t → (text : List ℕ) → text ++ (newline ∷ []) ≡ render t → parse text ≡ accepted t
written_cut_read = cut_read

-- what is read is a valid task
pub read_valid : (text : List ℕ) (t : Task) → parse text ≡ accepted t → Valid t
read_valid = task_valid

-- and the text is the task's, with or without its last newline
pub read_written : (text : List ℕ) (t : Task) → parse text ≡ accepted t → (text ≡ render t) ⊎ (text ++ (newline ∷ []) ≡ render t)
read_written = text_of

-- the text of a task is never longer than 28,150 bytes
pub longest : (t : Task) → Valid t → length (render t) ≤ longest_file
longest = render_size

-- and some task's text has that length
pub record OfLength (n : ℕ) : Type 0 where
  pub task : Task
  pub valid : Valid task
  pub long : length (render task) ≡ n

pub longest_reached : OfLength longest_file
longest_reached = record { task = full; valid = full_valid; long = full_length }
