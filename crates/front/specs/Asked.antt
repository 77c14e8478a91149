-- The questions of the front call, before entries, plans or a text are written: the lines stand in the rows then.
use Rattle.std.specs.Prelude.{◌≡◌, List, ℕ, ◌≤◌, length, replicate}
use Rattle.strips.specs.declared.Task.{Task}
use Rattle.rows.specs.Cleared.{everywhere, zeros}
use Rattle.questions.specs.Lent.{Lent, over}
use Rattle.questions.specs.Memory.{Room, slices_after}
use Rattle.questions.specs.Call.{Call, Returned, Asks, done, refused}
use Rattle.questions.specs.Workspace.{states_in, index_in, links_in, rows_in, slices_in, sizes_of}
use Rattle.questions.specs.declared.workspace.Workspace.{Workspace}
use Rattle.pareto.specs.Front.{Line}
use Rattle.pareto.specs.Layout.{plans_for}
use Rattle.front_lines.specs.Lines.{lines_in, Listed}
use Rattle.front.specs.FrontCall.{front_asks, front_call}

-- the lines stand in the rows
pub record InRows (R : List (List ℕ)) (lines : List Line) : Type 0 where
  pub same : lines_in R (length lines) ≡ lines
  pub listed : Listed R (length lines)

-- and the other working slices are cleared
pub record LinesLeft (w : Lent Workspace) (lines : List Line) : Type 0 where
  pub states : (states_in w).after ≡ zeros (states_in w).before
  pub index : (index_in w).after ≡ everywhere (replicate 4 0) (index_in w).before
  pub links : (links_in w).after ≡ everywhere (replicate 64 0) (links_in w).before
  pub held : InRows (rows_in w).after lines
  pub size : length (rows_in w).after ≡ length (rows_in w).before

-- the room in a workspace, with so many entries and plan numbers, and no text
abbrev pub room_in : Workspace → (entries numbers : ℕ) → Room
room_in w entries numbers = record { sizes = sizes_of w; entries = entries; plans = numbers; text = 0 }

-- the working slices are left as the call is to leave them
abbrev pub SlicesLeft : ℕ → Lent Workspace → Type 0
SlicesLeft q w = (slices_in w).after ≡ slices_after q (slices_in w).before

pub record RefusedLeft (t : Task) (w : Lent Workspace) (r : Returned ℕ) (q : ℕ) : Type 0 where
  pub some : 1 ≤ q
  pub returns : r ≡ refused (front_call t) q
  pub slices : SlicesLeft q w

pub record DoneLeft (t : Task) (w : Lent Workspace) (entries numbers : ℕ) (r : Returned ℕ) (lines : List Line) : Type 0 where
  pub returns : r ≡ done (front_call t) lines
  pub left : LinesLeft w lines
  pub entries_fit : length lines ≤ entries
  pub plans_fit : length (plans_for lines) ≤ numbers

abbrev pub FrontAsked : Task → Lent Workspace → (entries numbers : ℕ) → Returned ℕ → Type 0
FrontAsked t w entries numbers r = Asks (front_call t) front_asks (room_in w.before entries numbers) (RefusedLeft t w r) (DoneLeft t w entries numbers r)

-- ---- plans and a text are written too, and no entries yet

module _ {A : Type 0} (c : Call (List Line) A) (w : Lent Workspace) (plans text : Lent (List ℕ)) (entries : ℕ) (r : Returned A) where
  -- what a refusal leaves
  pub record RefusedWritten (q : ℕ) : Type 0 where
    pub some : 1 ≤ q
    pub returns : r ≡ refused c q
    pub slices : SlicesLeft q w
    pub plans_kept : plans.after ≡ plans.before
    pub text_kept : text.after ≡ text.before

  -- what success leaves
  pub record DoneWritten (lines : List Line) : Type 0 where
    pub returns : r ≡ done c lines
    pub left : LinesLeft w lines
    pub entries_fit : length lines ≤ entries
    pub plans_written : plans.after ≡ over (c.output lines).plans plans.before
    pub text_written : text.after ≡ over (c.output lines).text text.before

  -- the room in all that is lent, with so many entries
  abbrev pub room_with : Room
  room_with = record { sizes = sizes_of w.before; entries = entries; plans = length plans.before; text = length text.before }

  abbrev pub LinesWritten : Type 0
  LinesWritten = Asks c c.asks room_with RefusedWritten DoneWritten
