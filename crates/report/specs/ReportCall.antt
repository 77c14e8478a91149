-- What a call promises that writes the front as a text too (document 01: the report of a hall).
use Rattle.std.specs.Prelude.{List, [], ◌∷◌, ◌++◌, ℕ, length, replicate, None, Result, Ok, Err}
use Rattle.strips.specs.declared.Task.{Task}
use Rattle.outcome.specs.Refusal.{number_of, place_of}
use Rattle.outcome.specs.declared.Entry.{Entry}
use Rattle.outcome.specs.declared.Refusal.{Refusal}
use Rattle.questions.specs.Lent.{Lent}
use Rattle.questions.specs.Memory.{memory}
use Rattle.questions.specs.Record.{record_asks}
use Rattle.questions.specs.Call.{Call, Returned, Promise}
use Rattle.questions.specs.Workspace.{slices_in}
use Rattle.questions.specs.declared.workspace.Workspace.{Workspace}
use Rattle.pareto.specs.Front.{Line}
use Rattle.front.specs.FrontCall.{lines_call}
use Rattle.report_text.specs.Report.{report_text}
use Rattle.report.specs.declared.Written.{Written}

abbrev pub report_asks : List ℕ
report_asks = 8 ∷ record_asks ++ 13 ∷ 14 ∷ 15 ∷ 16 ∷ []

-- the number of entries and of bytes written
pub record Counts : Type 0 where
  pub entries : ℕ
  pub bytes : ℕ

abbrev pub counts : ℕ → ℕ → Counts
counts k b = record { entries = k; bytes = b }

-- the front with a text of its lines
abbrev pub text_call : (List Line → List ℕ) → Task → Call (List Line) Counts
text_call text_of = lines_call report_asks text_of (λ lines. counts (length lines) (length (text_of lines))) (counts 0 0)

abbrev pub report_call : Task → Call (List Line) Counts
report_call = text_call report_text

abbrev pub ReportCall : Task → Lent Workspace → Lent (List Entry) → (plans text : Lent (List ℕ)) → Returned Counts → Type 0
ReportCall t work entries plans text = Promise (report_call t) (memory (slices_in work) entries plans text)

-- an entry before it is written
abbrev pub blank : Entry
blank = record { price = record { 0 = 0 }; answer = None; leader_steps = 0; follower_steps = 0 }

-- the same where no entries are lent: so many blank ones are the call's own
abbrev pub own_entries : ℕ → List Entry → Lent (List Entry)
own_entries room left = record { before = replicate room blank; after = left }

abbrev pub PrintCall : Task → Lent Workspace → (room : ℕ) → (plans text : Lent (List ℕ)) → Returned Counts → Type 0
PrintCall t work room plans text r = (left : List Entry) × ReportCall t work (own_entries room left) plans text r

-- what is returned, as number, place and counts
abbrev pub returned : Result Written Refusal → Returned Counts
returned (Ok w) = record { number = 0; place = 0; values = counts w.entries w.bytes }
returned (Err q) = record { number = number_of q; place = place_of q; values = counts 0 0 }
