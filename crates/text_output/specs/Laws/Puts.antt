-- Runs of bytes joined, what is left of a run, and a run at the front of a slice.
use Rattle.std.specs.Prelude.{◌≡◌, refl, List, [], ◌∷◌, ◌++◌, ℕ, suc, ◌+◌, ◌≤◌, ◌<◌, length, get_or, set, take, drop}
use Rattle.std.proofs.Common.{sym, ap, ◌∙◌, arith, add-zero, zero-add, length-append, take_all, length-set, length-take-le}
use Rattle.std.proofs.lemmas.List.{take_more}
use Rattle.std.proofs.lemmas.List.Edits.{sets, sets-eq}
use Rattle.text_output.specs.Puts.{HasRoom, Puts}
use Rattle.text_output.specs.declared.Output.{Output}

pub sets_append : (a b l : List ℕ) (i : ℕ) → sets (sets l i a) (i + length a) b ≡ sets l i (a ++ b)
sets_append [] b l i = rw (add-zero i) refl
sets_append (x ∷ a) b l i = let e : i + suc (length a) ≡ suc i + length a = omega arith in rw e (sets_append a b (set l i x) (suc i))

pub puts_append : {a b : List ℕ} {o p q : Output} → Puts a o p → Puts b p q → Puts (a ++ b) o q
puts_append {a} {b} {o} x y = record {
  same = y.same ∙ x.same;
  text = y.text ∙ rw (x.text, x.end) (sets_append a b o.bytes.now o.end);
  end = omega (arith, x.end, y.end, length-append a b);
  size = y.size ∙ x.size;
}

pub puts_length : {a : List ℕ} {o p : Output} → Puts a o p → length p.bytes.now ≡ length o.bytes.now
puts_length x = x.size

-- to put `all` into o, what is left is to put `rest` into p
pub record Left (all : List ℕ) (o : Output) (rest : List ℕ) (p : Output) : Type 0 where
  pub same : p.bytes.ghost_name ≡ o.bytes.ghost_name
  pub text : sets o.bytes.now o.end all ≡ sets p.bytes.now p.end rest
  pub end : o.end + length all ≡ p.end + length rest
  pub size : length p.bytes.now ≡ length o.bytes.now

pub left_start : (all : List ℕ) (o : Output) → Left all o all o
left_start all o = grind arith

module _ {all rest : List ℕ} {o p : Output} (l : Left all o rest p) where
  pub left_room : (b more : List ℕ) → rest ≡ b ++ more → HasRoom all o → HasRoom b p
  left_room b more e h = omega (arith, l.end, l.size, ap length e, length-append b more)

  pub left_more : (b more : List ℕ) {q : Output} → rest ≡ b ++ more → Puts b p q → Left all o more q
  left_more b more e x = record {
    same = x.same ∙ l.same;
    text = l.text ∙ ap (sets p.bytes.now p.end) e ∙ sym (rw (x.text, x.end) (sets_append b more p.bytes.now p.end));
    end = omega (arith, l.end, x.end, ap length e, length-append b more);
    size = puts_length x ∙ l.size;
  }

  pub left_none : rest ≡ [] → Puts all o p
  left_none e = grind arith

pub put_over : (text out : List ℕ) → length text ≤ length out → sets out 0 text ≡ text ++ drop (length text) out
put_over text out h = let d : 0 + length text ≤ length out = omega arith in sets-eq text out 0 d ∙ rw (zero-add (length text))

-- the first i bytes are put, and the end stays before them
pub record Putting (bytes : List ℕ) (o : Output) (i : ℕ) (p : Output) : Type 0 where
  pub same : p.bytes.ghost_name ≡ o.bytes.ghost_name
  pub text : p.bytes.now ≡ sets o.bytes.now o.end (take i bytes)
  pub end : p.end ≡ o.end
  pub size : length p.bytes.now ≡ length o.bytes.now

pub putting_start : (bytes : List ℕ) (o : Output) → Putting bytes o 0 o
putting_start bytes o = record { same = refl; text = refl; end = refl; size = refl }

module _ {bytes : List ℕ} {o : Output} {i : ℕ} {p : Output} (s : Putting bytes o i p) where
  pub putting_more : i < length bytes → let now = set p.bytes.now (p.end + i) (get_or bytes i 0) in
      Putting bytes o (i + 1) (record { bytes = record { ref_ptr = p.bytes.ref_ptr; ghost_name = p.bytes.ghost_name; now = now }; end = p.end })
  putting_more h =
      let few : length (take i bytes) ≡ i = length-take-le i bytes (omega (arith, h)) in
      let one = sets_append (take i bytes) (get_or bytes i 0 ∷ []) o.bytes.now o.end in
      record {
        same = s.same;
        text = rw (s.text, s.end, take_more bytes i 0 h) (rw few at one);
        end = s.end;
        size = length-set p.bytes.now (p.end + i) (get_or bytes i 0) ∙ s.size;
      }

  -- the end is set behind them
  pub putting_all : length bytes ≤ i → Puts bytes o (record { bytes = p.bytes; end = o.end + length bytes })
  putting_all h = record { same = s.same; text = rw (take_all i bytes h) at s.text; end = refl; size = s.size }
