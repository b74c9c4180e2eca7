-- `write_sound` meets its contract: the rows are counted as the definition counts them, and its tests are the definition's.
use borrow.Author.Rules.{rules}
use Rattle.writing.proofs.MarkWays.{handle_fits}
use Rattle.writing.proofs.WriteWays.{few_marked, too_many, too_short, all_writable, all_written}
use Rattle.writing.proofs.writing.write_sound.Goals as goal

pub number_rows-requires : goal.number_rows-requires
number_rows-requires c = search (rules, handle_fits)

pub count_rows-count-requires : goal.count_rows-count-requires
count_rows-count-requires c = few_marked c.requires c.mark_down.ensures c.number_rows.ensures.marks_kept c.number_rows.ensures.numbered

pub returns-then-n-gt-MOST_ROWS : goal.returns-then-n-gt-MOST_ROWS
returns-then-n-gt-MOST_ROWS c =
    too_many c.requires c.mark_down.ensures c.number_rows.ensures.marks_kept c.number_rows.ensures.numbered _ c.count_rows-count.ensures
    c.wide-n.ensures c.if-n-gt-MOST_ROWS.true

pub returns-then-out-n : goal.returns-then-out-n
returns-then-out-n c =
    too_short c.requires c.mark_down.ensures c.number_rows.ensures.marks_kept c.number_rows.ensures.numbered _ c.count_rows-count.ensures
    c.wide-n.ensures c.if-n-gt-MOST_ROWS.false c.if-out-n.true

pub write_rows-requires : goal.write_rows-requires
write_rows-requires c =
    all_writable c.requires c.mark_down.ensures c.number_rows.ensures.marks_kept c.number_rows.ensures.numbered _ c.count_rows-count.ensures
    c.wide-n.ensures c.if-n-gt-MOST_ROWS.false c.if-out-n.false

pub returns : goal.returns
returns c =
    all_written c.requires c.mark_down.ensures c.number_rows.ensures.marks_kept c.number_rows.ensures.numbered _ c.count_rows-count.ensures
    c.wide-n.ensures c.if-n-gt-MOST_ROWS.false c.if-out-n.false c.write_rows.ensures
