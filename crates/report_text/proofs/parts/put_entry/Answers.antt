-- `report_text::parts::put_entry` meets its contract: the four printed lines, one behind the other.
use Rattle.text_output.specs.Laws.Puts.{puts_append}
use Rattle.report_text.specs.Report.{line_text}
use Rattle.report_text.specs.Entries.{line_from}
use Rattle.report_text.proofs.parts.put_entry.Goals as goal

pub returns-clause-text : goal.returns-clause-text
unfolding line_text line_from
returns-clause-text c =
    let outages = rw c.split_at.ensures.front at c.put_line-3.ensures in
    let moves = rw (c.split_at-2.ensures.front, c.split_at.ensures.back) at c.put_line-4.ensures in
    puts_append c.put_line.ensures (puts_append c.put_line-2.ensures (puts_append outages moves))
