-- What a replay returns in document 01's terms determines the result: no two results return the same.
use Rattle.std.specs.Prelude.{◌≡◌, Result, Ok, Err}
use Rattle.std.proofs.Common.{ap, arith}
use Rattle.outcome.specs.Laws.Refusal.{number_some, refusal_unique}
use Rattle.replay.specs.Replay.{Returned, returned}
use Rattle.outcome.specs.declared.Refusal.{Refusal}
use Rattle.replay.specs.declared.Ended.{Ended}

ran_of : Returned → Result Ended Refusal
ran_of x = Ok (record { price = record { 0 = x.price }; minutes = record { 0 = x.minutes }; state = x.state; goal = x.goal })

pub returned_unique : (r s : Result Ended Refusal) → returned r ≡ returned s → r ≡ s
unfolding returned ran_of
returned_unique (Ok a) (Ok b) e = ap ran_of e
returned_unique (Ok a) (Err q) e = absurd (omega (arith, number_some q, ap (λ (x : Returned). x.number) e))
returned_unique (Err q) (Ok b) e = absurd (omega (arith, number_some q, ap (λ (x : Returned). x.number) e))
returned_unique (Err q) (Err r) e = ap Err (refusal_unique q r (ap (λ (x : Returned). x.number) e) (ap (λ (x : Returned). x.place) e))
