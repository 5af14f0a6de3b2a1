use Rattle.std.proofs.Common.{rules}
use borrow.Author.Tests.{tests}
use Rattle.std.proofs.lemmas.List.Sorted.{answers_always}
use Rattle.terms.proofs.Tests.{rising_answer}
use Rattle.terms.proofs.lists.is_rising.Goals as goal

pub returns : goal.returns
returns g c =
    let lt = g.T.Ordered.precedes in
    rising_answer lt c.args.xs.now c.is_sorted_by.result (c.is_sorted_by.ensures.cases lt (answers_always _ _ _ (λ f a r f' k. search (rules, tests))))
