-- `has_question` meets its contract: the questions are compared one by one.
use Rattle.std.proofs.Common.{rules, arith, refl, ◌-◌, ◌∙◌, ap}
use Rattle.std.proofs.lemmas.Iterator.{YieldsList-from_range}
use Rattle.std.proofs.lemmas.Iterator.Search.{any_from_yields_List}
use borrow.Author.Tests.{tests}
use Rattle.store.specs.Layout.{question}
use Rattle.tables.specs.Listed.{same_equation, on_list}
use Rattle.tables.proofs.ListWays.{list_any-questions}
use Rattle.tables.proofs.listing.Listing.has_question.Goals as goal

pub returns : goal.returns
returns c =
    let s = c.args.self.store.now in
    let n = c.wide-n.result in
    any_from_yields_List (λ k. same_equation (question s (n - k)) c.args.q) _ _ _ c.any.ensures.ran (YieldsList-from_range 0 n n refl (omega arith)) (λ x b q k. search (rules, tests))
    ∙ list_any-questions s c.args.q n 0 n (omega arith) ∙ ap (on_list s c.args.q) (c.wide-n.ensures ∙ c.question_count.ensures)
