-- Bytes put into a slice one run after the other.
use Rattle.std.specs.Prelude.{◌≡◌, List, ℕ, ◌+◌, ◌≤◌, length}
use Rattle.std.specs.Borrow.{MutBor}
use Rattle.std.proofs.lemmas.List.Edits.{sets}
use Rattle.text_output.specs.declared.Output.{Output}

-- the most digits of a 32-bit number
abbrev pub number_digits : ℕ
number_digits = 10

-- the bytes fit behind those that were put before
abbrev pub HasRoom : List ℕ → Output → Type 0
HasRoom bytes o = o.end + length bytes ≤ length o.bytes.now

-- nothing has been put into the lent slice
pub record Begun (s : MutBor (List ℕ)) (o : Output) : Type 0 where
  pub same : o.bytes.ghost_name ≡ s.ghost_name
  pub text : o.bytes.now ≡ s.now
  pub end : o.end ≡ 0

-- the bytes are put behind those before, into the same lent slice
pub record Puts (bytes : List ℕ) (o o' : Output) : Type 0 where
  pub same : o'.bytes.ghost_name ≡ o.bytes.ghost_name
  pub text : o'.bytes.now ≡ sets o.bytes.now o.end bytes
  pub end : o'.end ≡ o.end + length bytes
  pub size : length o'.bytes.now ≡ length o.bytes.now
