-- A call on a text: the refusal of the text, or the call on the task that the text says.
use Rattle.std.specs.Prelude.{◌≡◌, List, ℕ, ◌≤◌}
use Rattle.strips.specs.declared.Task.{Task}
use Rattle.outcome.specs.declared.Entry.{Entry}
use Rattle.task_format.specs.Parse.{Read}
use Rattle.questions.specs.Lent.{Lent}
use Rattle.questions.specs.Memory.{Memory, memory}
use Rattle.questions.specs.Workspace.{slices_in}
use Rattle.questions.specs.declared.workspace.Workspace.{Workspace}
use Rattle.questions.specs.Call.{Call, Returned, Ends, Promise}

module _ {X A : Type 0} (c : Task → Call X A) where
  -- the refusal of the text leaves all that is lent as it was
  abbrev pub TextRefused : Read → Lent Memory → Returned A → Type 0
  TextRefused read m r = Ends m r (record { number = read.number; place = read.place; values = (c read.task).zero }) m.before

  -- and of a task that is read, the call promises what it does of any task
  pub data OnText (read : Read) (w : Lent Workspace) (entries : Lent (List Entry)) (plans text : Lent (List ℕ)) (r : Returned A) : Type 0 where
    unread : 1 ≤ read.number → TextRefused read (memory (slices_in w) entries plans text) r → OnText read w entries plans text r
    read_as : read.number ≡ 0 → Promise (c read.task) (memory (slices_in w) entries plans text) r → OnText read w entries plans text r
