-- What a call on a text returns and leaves is determined by what it is given and lent.
use Rattle.std.specs.Prelude.{◌≡◌, refl, List, ℕ}
use Rattle.std.proofs.Common.{sym, ap, ◌∙◌, arith}
use Rattle.strips.specs.declared.Task.{Task}
use Rattle.outcome.specs.Refusal.{number_of, place_of}
use Rattle.outcome.specs.Laws.Refusal.{number_some}
use Rattle.outcome.specs.declared.Entry.{Entry}
use Rattle.outcome.specs.declared.Refusal.{Refusal}
use Rattle.task_format.specs.Parse.{Read, accepted, refused}
use Rattle.questions.specs.Lent.{Lent, from}
use Rattle.questions.specs.Memory.{Memory, Slice, memory}
use Rattle.questions.specs.Workspace.{slices_in}
use Rattle.questions.specs.declared.workspace.Workspace.{Workspace}
use Rattle.questions.specs.Call.{Call, Returned, Promise}
use Rattle.questions.specs.Laws.Unique.{left}
use Rattle.text_call.specs.OnText.{OnText, unread, read_as}

-- what all that is lent holds
abbrev pub held : List Slice → List Entry → (plans text : List ℕ) → Memory
held slices entries plans text = record { slices = slices; entries = entries; plans = plans; text = text }

same_held : {S S' : List Slice} (entries : List Entry) (plans text : List ℕ) → S ≡ S' → held S entries plans text ≡ held S' entries plans text
same_held entries plans text = ap (λ (s : List Slice). held s entries plans text)

module _ {X A : Type 0} (c : Task → Call X A) where
  -- what calls on one task return and leave is determined by what they are lent
  abbrev pub Determined : Task → Type 0
  Determined t = (b a₁ a₂ : Memory) (r₁ r₂ : Returned A) → Promise (c t) (left b a₁) r₁ → Promise (c t) (left b a₂) r₂ → (r₁ ≡ r₂) × (a₁ ≡ a₂)

  where_same : {t : Task} {b b' after : Memory} {r : Returned A} → b ≡ b' → Promise (c t) (left b after) r → Promise (c t) (left b' after) r
  where_same e x = rw (← e) x

  -- and so it is of calls on one text
  pub on_text_unique : ((t : Task) → Determined t) → (w₁ w₂ : Lent Workspace) → (slices_in w₁).before ≡ (slices_in w₂).before → {read : Read}
      {entries entries₁ entries₂ : List Entry} {plans plans₁ plans₂ text text₁ text₂ : List ℕ} {r₁ r₂ : Returned A}
      → OnText c read w₁ (from entries entries₁) (from plans plans₁) (from text text₁) r₁
      → OnText c read w₂ (from entries entries₂) (from plans plans₂) (from text text₂) r₂
      → (r₁ ≡ r₂) × (held (slices_in w₁).after entries₁ plans₁ text₁ ≡ held (slices_in w₂).after entries₂ plans₂ text₂)
  on_text_unique one w₁ w₂ lends {read} {entries} {plans = plans} {text = text} (unread f x) (unread g y) =
      (x.returns ∙ sym y.returns, x.leaves ∙ same_held entries plans text lends ∙ sym y.leaves)
  on_text_unique one w₁ w₂ lends (unread f x) (read_as z y) = absurd (omega arith)
  on_text_unique one w₁ w₂ lends (read_as z x) (unread f y) = absurd (omega arith)
  on_text_unique one w₁ w₂ lends {read} {entries} {plans = plans} {text = text} (read_as z x) (read_as v y) =
      one read.task _ _ _ _ _ (where_same (same_held entries plans text lends) x) y

  -- what a reading says of the text
  pub accepted_called : {read : Read} {w : Lent Workspace} {entries : Lent (List Entry)} {plans text : Lent (List ℕ)} {r : Returned A} (t : Task)
      → accepted t ≡ read → Promise (c t) (memory (slices_in w) entries plans text) r → OnText c read w entries plans text r
  accepted_called t said x = rw (← said) (read_as refl x)

  pub refused_called : {read : Read} {w : Workspace} {entries : List Entry} {plans text : List ℕ} (q : Refusal)
      → refused (number_of q) (place_of q) ≡ read → OnText c read (from w w) (from entries entries) (from plans plans) (from text text)
      (record { number = number_of q; place = place_of q; values = (c read.task).zero })
  refused_called q said = rw (← said) (unread (number_some q) (record { returns = refl; leaves = refl }))
