-- Bytes of the text, at most.
use Rattle.std.specs.Prelude.{ℕ, ◌+◌, ◌*◌}
use Rattle.search.specs.Limits.{max_places}

-- of a line: its keys and two numbers, and two plans whose numbers have a comma and three digits at most
abbrev pub max_line_bytes : ℕ
max_line_bytes = 51 + 8 * max_places
