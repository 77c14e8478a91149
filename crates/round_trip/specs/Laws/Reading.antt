-- How the lines of a text are read back: what the theorems rest on.
use Rattle.std.specs.Prelude.{◌≡◌, List, [], ◌∷◌, ◌++◌, ◌⊎◌, ℕ, suc, ◌+◌, ◌*◌, ◌≤◌, leb, length}
use Rattle.std.proofs.Common.{sym, ap, ◌∙◌, inl, inr, ⊎_elim, arith, length-append, leb-true, leb-false}
use Rattle.strips.specs.Task.{Valid}
use Rattle.strips.specs.declared.Task.{Task}
use Rattle.task_format.specs.Limits.{max_text}
use Rattle.task_format.specs.Text.{newline, lines}
use Rattle.task_format.specs.Lines.{last_line}
use Rattle.task_format.specs.Parse.{Read, zeros, accepted, follow, parse}
use Rattle.task_format.specs.Render.{lines_text, render}
use Rattle.strips.specs.Laws.Choice.{either}
use Rattle.task_format.specs.Laws.Parse.{parse_long, parse_lines}
use Rattle.task_format.specs.Laws.Size.{render_size}
use Rattle.round_trip.specs.Laws.Pieces.{ended, lines_ended, cancel}
use Rattle.round_trip.specs.Laws.Pieces as pieces
use Rattle.round_trip.specs.Laws.Built.{built_zeros, valid}
use Rattle.round_trip.specs.Laws.Lines.{bodies, bodies_ended, lines_bodies, Cut, lines_cut, follow_bodies, Only, only}

-- what a text's lines say is what they say with the task's lines
reads : (t : Task) → Valid t → (text : List ℕ) → length text ≤ max_text → lines text ≡ bodies (last_line t) 1 t → parse text ≡ accepted t
reads t v text h e =
    parse_lines text h ∙ ap (λ (ls : List (List ℕ)). follow ls 1 zeros) e
    ∙ follow_bodies t v (last_line t) 1 zeros (omega arith) (omega arith) built_zeros (λ j a b. absurd (omega arith))

render_lines : (t : Task) → Valid t → lines (render t) ≡ bodies (last_line t) 1 t
unfolding render
render_lines t v = lines_bodies t v (last_line t) 1 (omega arith) (omega arith)

-- the text of a task is read back as the task
pub whole_read : (t : Task) → Valid t → parse (render t) ≡ accepted t
whole_read t v = reads t v (render t) (omega (arith, render_size t v)) (render_lines t v)

cut : (t : Task) → Valid t → Cut (render t)
unfolding render
cut t v =
    let k = 4 + 4 * (t.leader_count + t.follower_count) in
    let e : last_line t ≡ suc k = omega arith in
    rw e (lines_cut t v k 1 (omega arith) (omega arith))

-- and so is the text without its last newline
pub cut_read : (t : Task) → Valid t → (text : List ℕ) → text ++ (newline ∷ []) ≡ render t → parse text ≡ accepted t
cut_read t v text e =
    let c = cut t v in
    let l = c.last in
    let f : text ≡ c.front = cancel text c.front newline (e ∙ c.is) in
    let g : lines text ≡ lines (render t) =
    ap lines (f ∙ l.is) ∙ sym (pieces.lines_cut l.front l.byte l.plain) ∙ ap lines (ap (λ (u : List ℕ). u ++ (newline ∷ [])) (sym l.is) ∙ sym c.is) in
    reads t v text (omega (arith, render_size t v, ap length e, length-append text (newline ∷ []))) (g ∙ render_lines t v)

follows : (text : List ℕ) (t : Task) → parse text ≡ accepted t → follow (lines text) 1 zeros ≡ accepted t
follows text t e =
    either (leb (length text) max_text)
    (λ q. sym (parse_lines text (leb-true (length text) max_text q)) ∙ e)
    (λ q. absurd (let z = ap (λ (r : Read). r.number) (sym (parse_long text (leb-false (length text) max_text q)) ∙ e) in omega (arith, z)))

read_only : (text : List ℕ) (t : Task) → parse text ≡ accepted t → Only 1 zeros t (lines text)
read_only text t e = only (lines text) 1 zeros t (omega arith) (omega arith) built_zeros (follows text t e)

-- what is read is a valid task
pub task_valid : (text : List ℕ) (t : Task) → parse text ≡ accepted t → Valid t
task_valid text t e = valid t (read_only text t e).built

-- and the text is the task's, with or without its last newline
pub text_of : (text : List ℕ) (t : Task) → parse text ≡ accepted t → (text ≡ render t) ⊎ (text ++ (newline ∷ []) ≡ render t)
unfolding render
text_of text t e =
    let o = read_only text t e in
    let k : length (lines text) ≡ last_line t = omega (arith, o.sum) in
    let z : ended (lines text) ≡ lines_text (last_line t) 1 t =
    ap ended (o.lines ∙ ap (λ (n : ℕ). bodies n 1 t) k) ∙ bodies_ended (last_line t) 1 t in
    ⊎_elim (λ w. inl (w ∙ z)) (λ w. inr (w ∙ z)) (lines_ended text)
