-- What reading returns, as document 01 reports it: number, place and record.
use Rattle.std.specs.Prelude.{Result, Ok, Err}
use Rattle.outcome.specs.Refusal.{number_of, place_of}
use Rattle.outcome.specs.declared.Refusal.{Refusal}
use Rattle.strips.specs.declared.Task.{Task}
use Rattle.task_format.specs.Parse.{Read, refused, accepted}

-- where a text is refused, the record of zeros
abbrev pub returned : Result Task Refusal → Read
returned (Ok t) = accepted t
returned (Err q) = refused (number_of q) (place_of q)
