-- What a call puts into a slice from its first place on.
use Rattle.std.specs.Prelude.{◌≡◌, List, ℕ}
use Rattle.std.specs.Borrow.{MutBor}
use Rattle.std.specs.Fn.{Once, FnOnceTakesAtMut, FnOnceReturnsAtMut}
use Rattle.text_output.specs.declared.Output.{Output}

module _ {F : Type 0} (calls : Once F (MutBor Output × Unit {0}) (Unit {0} × (MutBor Output × Unit {0}))) (put : F) where
  -- it may be called with an output of these bytes, and puts into the same slice
  pub record MayPut (bytes : List ℕ) : Type 0 where
    pub may : (o : Output) → o.end ≡ 0 → o.bytes.now ≡ bytes → FnOnceTakesAtMut calls put o
    pub same : (o o' : Output) (r : Unit {0}) → FnOnceReturnsAtMut calls put o r o' → o'.bytes.ghost_name ≡ o.bytes.ghost_name

  -- it has been called with an output of these bytes, has left those, and has put up to this end
  pub record HasPut (before after : List ℕ) (end : ℕ) : Type 0 where
    pub first : Output
    pub last : Output
    pub begins : first.end ≡ 0
    pub bytes : first.bytes.now ≡ before
    pub r : Unit {0}
    pub returns : FnOnceReturnsAtMut calls put first r last
    pub left : last.bytes.now ≡ after
    pub ends : end ≡ last.end
