-- `one_case` meets its contract: it takes the first of the five answers that gives something.
use Rattle.terms.proofs.OneCase.{first_line}
use Rattle.terms.proofs.lines.one_case.Goals as goal

pub returns-in-Question : goal.returns-in-Question
returns-in-Question c =
    rw (c.in-Question.is, c.or-in-Question-3.ensures, c.or-in-Question-2.ensures, c.or-in-Question.ensures, c.or.ensures)
    (first_line _ _ _ _ _ _ c.line_1.ensures c.line_2.ensures c.line_3.ensures c.line_4.ensures c.line_5.ensures)
