-- What is answered to a text: the refusal of the text, or the report of the task that it says.
use Rattle.std.specs.Prelude.{◌≡◌, List, ℕ, replicate}
use Rattle.outcome.specs.declared.Entry.{Entry}
use Rattle.task_format.specs.Parse.{Read}
use Rattle.questions.specs.Lent.{Lent, from}
use Rattle.questions.specs.Memory.{Slice, four_slices}
use Rattle.questions.specs.Call.{Returned}
use Rattle.questions.specs.Workspace.{slices_in}
use Rattle.questions.specs.declared.workspace.Workspace.{Workspace}
use Rattle.report.specs.ReportCall.{Counts, report_call, own_entries}
use Rattle.text_call.specs.OnText.{OnText}

-- in a lent workspace, with room for so many entries, which are the call's own
abbrev pub TextCall : Read → Lent Workspace → (room : ℕ) → (plans text : Lent (List ℕ)) → Returned Counts → Type 0
TextCall read w room plans text r = (left : List Entry) × OnText report_call read w (own_entries room left) plans text r

-- what the program lends: places of each working slice, entries and plan numbers
abbrev pub places : ℕ
places = 1024

abbrev pub room : ℕ
room = 128

abbrev pub plan_numbers : ℕ
plan_numbers = 4096

-- the working slices, cleared
abbrev pub program_slices : List Slice
program_slices = four_slices (replicate places 0) (replicate places (replicate 4 0)) (replicate places (replicate 64 0)) (replicate places (replicate 8 0))

-- the same with what the program lends
pub record ProgramCall (read : Read) (output output' : List ℕ) (r : Returned Counts) : Type 0 where
  pub work : Lent Workspace
  pub lends : (slices_in work).before ≡ program_slices
  pub plans : List ℕ
  pub call : TextCall read work room (from (replicate plan_numbers 0) plans) (from output output') r
