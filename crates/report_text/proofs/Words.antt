-- The word of an answer that is no number.
use Rattle.std.specs.Prelude.{◌≡◌, refl, Option, None}
use Rattle.outcome.specs.Answer.{value_of}
use Rattle.outcome.specs.declared.Minutes.{Minutes}
use Rattle.report_text.specs.Report.{none_word, answer_text}

pub none_bytes : {a : Option Minutes} → a ≡ None → answer_text (value_of a) ≡ none_word
unfolding answer_text
none_bytes e = rw e refl
