-- What is printed is determined by the text, by no more of it than is read, and is the report where that fits.
use Rattle.std.specs.Prelude.{◌≡◌, refl, ℕ, ◌≤◌, ◌<◌, length, take, drop, replicate, Ok, Err}
use Rattle.std.proofs.Common.{sym, ap, ◌∙◌, arith, length-append}
use mathlib.Core.List.Memᴰ
use mathlib.Core.List.{List, [], ◌∷◌, ◌++◌, map, Memᴰ}
use Rattle.std.proofs.lemmas.List.{length-replicate, length-map}
use Rattle.strips.specs.Laws.Decision.{asked_yes, asked_no}
use Rattle.strips.specs.declared.Task.{Task}
use Rattle.outcome.specs.Refusal.{number_of, place_of}
use Rattle.outcome.specs.Laws.Refusal.{number_few, number_some}
use Rattle.outcome.specs.declared.Refusal.{Refusal}
use Rattle.task_format.specs.Deciders.{dec_at_most}
use Rattle.task_format.specs.Parse.{Read, parse, accepted}
use Rattle.task_format.specs.Laws.Parse.{parse_cut}
use Rattle.task_format.proofs.Places.{parse_place, parse_accepted}
use Rattle.round_trip.specs.Theorems.{read_valid}
use Rattle.search.specs.Reachable.{Fits}
use Rattle.search.specs.Limits.{max_places}
use Rattle.questions.specs.Lent.{Lent, from, over}
use Rattle.questions.specs.Asked.{no_to, yes_to, answered}
use Rattle.questions.specs.Size.{SizesAllowed, shortest}
use Rattle.questions.specs.Memory.{Memory, Slice}
use Rattle.questions.specs.Memory as M
use Rattle.questions.specs.Call.{Returned}
use Rattle.questions.specs.Workspace.{slices_in, sizes_of}
use Rattle.questions.specs.declared.workspace.Workspace.{Workspace}
use Rattle.pareto.specs.Front.{Line, Front}
use Rattle.pareto.specs.Layout.{entry_for, plans_for}
use Rattle.pareto.specs.Laws.Unique.{front_unique}
use Rattle.outcome.specs.declared.Entry.{Entry}
use Rattle.report_text.specs.Report.{report_text, refusal_text}
use Rattle.report_text.specs.Laws.Sizes.{refusal_few}
use Rattle.report.specs.declared.Written.{Written}
use Rattle.report.specs.ReportCall.{Counts, counts, blank, ReportCall, report_call, own_entries, returned}
use Rattle.text_call.specs.OnText.{OnText, unread, read_as}
use Rattle.file_report.specs.TextCall.{places, room, plan_numbers, program_slices, ProgramCall}
use Rattle.file_report.specs.Printed.{input_bytes, output_bytes, lines_printed, Prints, text_refused, reach_refused, front_listed, AnswerPut}

-- two answers to one text are the same
pub prints_unique : {text x y : List ℕ} → Prints text x → Prints text y → x ≡ y
prints_unique (text_refused f) (text_refused g) = refl
prints_unique (text_refused f) (reach_refused z n) = absurd (omega arith)
prints_unique (text_refused f) (front_listed z h g) = absurd (omega arith)
prints_unique (reach_refused z n) (text_refused g) = absurd (omega arith)
prints_unique (reach_refused z n) (reach_refused y m) = refl
prints_unique (reach_refused z n) (front_listed y h g) = absurd (n h)
prints_unique (front_listed z h f) (text_refused g) = absurd (omega arith)
prints_unique (front_listed z h f) (reach_refused y m) = absurd (m h)
prints_unique {text} (front_listed z h f) (front_listed y k g) = ap lines_printed (front_unique (parse text).task f g)

-- and so are the output and the number of bytes that two answers leave
pub put_unique : {text output x y : List ℕ} {r u : ℕ} → AnswerPut text output x r → AnswerPut text output y u → (r ≡ u) × (x ≡ y)
put_unique {output = output} a b =
    let same = prints_unique a.prints b.prints in
    (a.bytes ∙ ap length same ∙ sym b.bytes, a.output ∙ ap (λ (p : List ℕ). p ++ drop (length p) output) same ∙ sym b.output)

-- whatever follows the bytes that are read, the answer to an input is the answer to these
pub cut_input : (input : List ℕ) {x : List ℕ} → Prints (take input_bytes input) x → Prints input x
cut_input input p = of (parse_cut input) p
  where
    of : {a b x : List ℕ} → parse a ≡ parse b → Prints a x → Prints b x
    of e (text_refused f) = rw e (text_refused (rw e at f))
    of e (reach_refused z n) = reach_refused (rw e at z) (rw e at n)
    of e (front_listed z h f) = front_listed (rw e at z) (rw e at h) (rw e at f)

-- ---- the questions about the lines

module _ (lines : List Line) where
  few_entries : room < length lines → lines_printed lines ≡ refusal_text 14 0
  unfolding lines_printed
  few_entries h = asked_no (dec_at_most (length lines) room) (λ l. omega arith) _ _

  module _ (a : length lines ≤ room) where
    few_numbers : plan_numbers < length (plans_for lines) → lines_printed lines ≡ refusal_text 15 0
    unfolding lines_printed
    few_numbers h = asked_yes (dec_at_most (length lines) room) a _ _
        ∙ asked_no (dec_at_most (length (plans_for lines)) plan_numbers) (λ l. omega arith) _ _

    module _ (b : length (plans_for lines) ≤ plan_numbers) where
      few_bytes : output_bytes < length (report_text lines) → lines_printed lines ≡ refusal_text 16 0
      unfolding lines_printed
      few_bytes h = asked_yes (dec_at_most (length lines) room) a _ _
          ∙ asked_yes (dec_at_most (length (plans_for lines)) plan_numbers) b _ _
          ∙ asked_no (dec_at_most (length (report_text lines)) output_bytes) (λ l. omega arith) _ _

      report_listed : length (report_text lines) ≤ output_bytes → lines_printed lines ≡ report_text lines
      unfolding lines_printed
      report_listed h = asked_yes (dec_at_most (length lines) room) a _ _
          ∙ asked_yes (dec_at_most (length (plans_for lines)) plan_numbers) b _ _
          ∙ asked_yes (dec_at_most (length (report_text lines)) output_bytes) h _ _

-- where reach, lines, plans and text fit what is lent, the report of the front of the task that the text says is printed
pub whole_report : {text x : List ℕ} {t : Task} {lines : List Line} → Prints text x → parse text ≡ accepted t → Fits t places → Front t lines
    → length lines ≤ room → length (plans_for lines) ≤ plan_numbers → length (report_text lines) ≤ output_bytes → x ≡ report_text lines
whole_report {text} {lines = lines} p e f g a b c =
    let task : (parse text).task ≡ _ = ap (λ (r : Read). r.task) e in
    prints_unique p (front_listed (ap (λ (r : Read). r.number) e) (rw task f) (rw task g)) ∙ report_listed lines a b c

-- ---- what the answer in lent slices comes to

-- the refusal that is printed, the output as it was; or what is printed stands in the output already
data Shown (text output output' : List ℕ) (r : Returned Counts) : Type 0 where
  shown_refusal : 1 ≤ r.number → r.place ≤ input_bytes → Prints text (refusal_text r.number r.place) → output' ≡ output → Shown text output output' r
  shown_report : r.number ≡ 0 → AnswerPut text output output' r.values.bytes → Shown text output output' r

-- question 8 gets yes
abbrev rows_of : ℕ → List (List ℕ)
rows_of width = replicate places (replicate width 0)

abbrev program_sizes : List ℕ
program_sizes = length (replicate {A = ℕ} places 0) ∷ length (rows_of 4) ∷ length (rows_of 64) ∷ length (rows_of 8) ∷ []

program_sizes_are : program_sizes ≡ places ∷ places ∷ places ∷ places ∷ []
program_sizes_are =
    let wide = λ (width : ℕ). length-replicate places (replicate {A = ℕ} width 0) in
    rw (length-replicate {A = ℕ} places 0, wide 4, wide 64, wide 8) refl

-- a workspace of what the program lends
module _ (w : Lent Workspace) (lends : (slices_in w).before ≡ program_slices) where
  sizes_are : sizes_of w.before ≡ places ∷ places ∷ places ∷ places ∷ []
  sizes_are = ap (λ (s : List Slice). map M.places s) lends ∙ program_sizes_are

  sizes_right : SizesAllowed (sizes_of w.before)
  sizes_right n m = of (rw sizes_are at m)
    where
      of : Memᴰ n (places ∷ places ∷ places ∷ places ∷ []) → (1 ≤ n) × (n ≤ max_places)
      of (Memᴰ.head e) = (omega (arith, e), omega (arith, e))
      of (Memᴰ.tail (Memᴰ.head e)) = (omega (arith, e), omega (arith, e))
      of (Memᴰ.tail (Memᴰ.tail (Memᴰ.head e))) = (omega (arith, e), omega (arith, e))
      of (Memᴰ.tail (Memᴰ.tail (Memᴰ.tail (Memᴰ.head e)))) = (omega (arith, e), omega (arith, e))
      of (Memᴰ.tail (Memᴰ.tail (Memᴰ.tail (Memᴰ.tail e)))) = absurd (Memᴰ.not-nil e)

  sizes_shortest : shortest (sizes_of w.before) ≡ places
  unfolding shortest
  sizes_shortest = ap shortest sizes_are

-- what fits one list of the front's lines fits any
entries_fit : {ls ls' : List Line} → length (map entry_for ls) ≤ length (replicate room blank) → ls ≡ ls' → length ls' ≤ room
entries_fit {ls} h e = omega (arith, h, length-map ls entry_for, length-replicate room blank, ap length e)

numbers_fit : {ls ls' : List Line} → length (plans_for ls) ≤ length (replicate {A = ℕ} plan_numbers 0) → ls ≡ ls' → length (plans_for ls') ≤ plan_numbers
numbers_fit {ls} h e = omega (arith, h, length-replicate {A = ℕ} plan_numbers 0, ap (λ (l : List Line). length (plans_for l)) e)

module _ {text output : List ℕ} (long : length output ≡ output_bytes) (z : (parse text).number ≡ 0) where
  -- a refusal without a place
  shown_no : (q : ℕ) {output' : List ℕ} {r : Returned Counts} → 1 ≤ q → r ≡ record { number = q; place = 0; values = counts 0 0 } → output' ≡ output
      → Prints text (refusal_text q 0) → Shown text output output' r
  shown_no q h e same p = rw e (shown_refusal h (omega arith) p same)

  -- the promise with what the program lends
  promise_shown : (w : Lent Workspace) → (slices_in w).before ≡ program_slices → {es : List Entry} {plans' output' : List ℕ} {r : Returned Counts}
      → ReportCall (parse text).task w (from (replicate room blank) es) (from (replicate plan_numbers 0) plans') (from output output') r
      → Shown text output output' r
  promise_shown w lends (no_to a e) = absurd (a (sizes_right w lends))
  promise_shown w lends (yes_to _ (no_to a e)) = absurd (a (read_valid text (parse text).task (parse_accepted text z)))
  promise_shown w lends (yes_to _ (yes_to _ (no_to a e))) =
      let short = sizes_shortest w lends in
      shown_no 13 (omega arith) e.returns (ap (λ (m : Memory). m.text) e.leaves) (reach_refused z (λ f. a (rw short f)))
  promise_shown w lends (yes_to _ (yes_to _ (yes_to f (no_to a e)))) =
      let ls = a.it in
      let fits = rw (sizes_shortest w lends) at f in
      let few = few_entries ls (omega (arith, a.holds, length-map ls entry_for, length-replicate room blank)) in
      shown_no 14 (omega arith) e.returns (ap (λ (m : Memory). m.text) e.leaves) (rw (← few) (front_listed z fits a.found))
  promise_shown w lends (yes_to _ (yes_to _ (yes_to f (yes_to a (no_to b e))))) =
      let ls = b.it in
      let fits = rw (sizes_shortest w lends) at f in
      let entries = entries_fit a.holds (front_unique (parse text).task a.found b.found) in
      let few = few_numbers ls entries (omega (arith, b.holds, length-replicate {A = ℕ} plan_numbers 0)) in
      shown_no 15 (omega arith) e.returns (ap (λ (m : Memory). m.text) e.leaves) (rw (← few) (front_listed z fits b.found))
  promise_shown w lends (yes_to _ (yes_to _ (yes_to f (yes_to a (yes_to b (no_to c e)))))) =
      let ls = c.it in
      let fits = rw (sizes_shortest w lends) at f in
      let entries = entries_fit a.holds (front_unique (parse text).task a.found c.found) in
      let numbers = numbers_fit b.holds (front_unique (parse text).task b.found c.found) in
      let few = few_bytes ls entries numbers (omega (arith, c.holds, long)) in
      shown_no 16 (omega arith) e.returns (ap (λ (m : Memory). m.text) e.leaves) (rw (← few) (front_listed z fits c.found))
  promise_shown w lends (yes_to _ (yes_to _ (yes_to f (yes_to a (yes_to b (yes_to c (answered d))))))) =
      let ls = d.it in
      let fits = rw (sizes_shortest w lends) at f in
      let entries = entries_fit a.holds (front_unique (parse text).task a.found d.found) in
      let numbers = numbers_fit b.holds (front_unique (parse text).task b.found d.found) in
      let same = front_unique (parse text).task c.found d.found in
      let bytes : length (report_text ls) ≤ output_bytes = omega (arith, c.holds, long, ap (λ (l : List Line). length (report_text l)) same) in
      let whole = report_listed ls entries numbers bytes in
      shown_report (ap (λ (u : Returned Counts). u.number) d.holds.returns)
      (record {
        printed = report_text ls;
        prints = rw (← whole) (front_listed z fits d.found);
        output = ap (λ (m : Memory). m.text) d.holds.leaves;
        bytes = ap (λ (u : Returned Counts). u.values.bytes) d.holds.returns;
      })

shown : {text output output' : List ℕ} {r : Returned Counts} → length output ≡ output_bytes → ProgramCall (parse text) output output' r
    → Shown text output output' r
shown {text} {output} {output'} {r} long x = of x.call.1
  where
    of : OnText report_call (parse text) x.work (own_entries room x.call.0) (from (replicate plan_numbers 0) x.plans) (from output output') r
        → Shown text output output' r
    of (unread f y) = rw y.returns (shown_refusal f (parse_place text) (text_refused f) (ap (λ (m : Memory). m.text) y.leaves))
    of (read_as z y) = promise_shown long z x.work x.lends y

pub written_put : {text output output' : List ℕ} (w : Written) → length output ≡ output_bytes → ProgramCall (parse text) output output' (returned (Ok w))
    → AnswerPut text output output' w.bytes
written_put {text} {output} {output'} w long a = of (shown {text = text} long a)
  where
    of : Shown text output output' (returned (Ok w)) → AnswerPut text output output' w.bytes
    of (shown_refusal f l x y) = absurd (omega arith)
    of (shown_report f x) = x

-- a refusal is printed, and the output is as it was
pub record Refuses (text output output' : List ℕ) (q : Refusal) : Type 0 where
  pub few : place_of q ≤ input_bytes
  pub prints : Prints text (refusal_text (number_of q) (place_of q))
  pub kept : output' ≡ output

pub refused_prints : {text output output' : List ℕ} {q : Refusal} → length output ≡ output_bytes → ProgramCall (parse text) output output' (returned (Err q))
    → Refuses text output output' q
refused_prints {text} {output} {output'} {q = q} long a = of (shown {text = text} long a)
  where
    of : Shown text output output' (returned (Err q)) → Refuses text output output' q
    of (shown_refusal f l x y) = record { few = l; prints = x; kept = y }
    of (shown_report f x) = absurd (omega (arith, number_some q))

-- the text of a refusal
module _ {text output output' : List ℕ} {q : Refusal} (long : length output ≡ output_bytes) (x : Refuses text output output' q) where
  abbrev printed : List ℕ
  printed = refusal_text (number_of q) (place_of q)

  pub refusal_fits : length printed ≤ length output'
  refusal_fits = omega (arith, refusal_few (number_of q) (place_of q) (omega (arith, number_few q)) (omega (arith, x.few)), ap length x.kept)

  pub refusal_put : {output'' : List ℕ} {r : ℕ} → r ≡ length printed → output'' ≡ over printed output' → AnswerPut text output output'' r
  refusal_put bytes put = record { printed = printed; prints = x.prints; output = rw x.kept at put; bytes = bytes }

-- what is printed fits the output
pub put_fits : {text output output' : List ℕ} {r : ℕ} → AnswerPut text output output' r → r ≤ length output'
put_fits {output = output} a = omega (arith, a.bytes, ap length a.output, length-append a.printed (drop (length a.printed) output))
