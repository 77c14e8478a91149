-- `c_interface::told::tell` meets its contract.
use Rattle.std.proofs.Common.{ap, ◌∙◌, List, ◌++◌, ℕ, drop}
use Rattle.c_interface.specs.Laws.Told.{first_told}
use Rattle.c_interface.proofs.told.tell.Goals as goal

pub returns : goal.returns
returns c =
    let told = c.args.told.now in
    ap (λ (l : List ℕ). l ++ drop c.min-count.result told) c.copy_from_slice.ensures.after ∙ first_told c.args.numbers.now told _ c.min-count.ensures
