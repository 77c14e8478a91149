-- What every example of the table claims is so, since all pass their tests.
use mathlib.Core.List.{Memᴰ}
use Rattle.worked.specs.Examples.{Example, Claims, test, examples}
use Rattle.worked.specs.Laws.Tests.{every_each}
use Rattle.worked.specs.Laws.Examples.{all_pass, sound}

-- every example of the table is so
pub examples_hold : (e : Example) → Memᴰ e examples → Claims e
examples_hold e m = sound e (every_each test examples all_pass e m)
