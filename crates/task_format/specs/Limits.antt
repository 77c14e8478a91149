-- The limits of document 01 that concern the file.
use Rattle.std.specs.Prelude.{ℕ}

-- bytes of a text
abbrev pub max_text : ℕ
max_text = 28672

-- digits of a number
abbrev pub max_digits : ℕ
max_digits = 5

-- bytes of the longest file of a task
abbrev pub longest_file : ℕ
longest_file = 28150
