use Rattle.std.proofs.Common.{rules}
use Rattle.book.proofs.Offered.{call_keeps_law}
use Rattle.book.proofs.state.Book.offer.Goals as goal

pub returns-in-Axiom-clause-law : goal.returns-in-Axiom-clause-law
returns-in-Axiom-clause-law g c = call_keeps_law _ _ c.args.form.now _ _ _ (search rules) (search rules)

pub returns-in-Under-clause-law : goal.returns-in-Under-clause-law
returns-in-Under-clause-law g c = call_keeps_law _ _ c.args.form.now _ _ _ (search rules) (search rules)

pub returns-in-Close-clause-law : goal.returns-in-Close-clause-law
returns-in-Close-clause-law g c = call_keeps_law _ _ c.args.form.now _ _ _ (search rules) (search rules)

pub returns-in-Context-clause-law : goal.returns-in-Context-clause-law
returns-in-Context-clause-law g c = call_keeps_law _ _ c.args.form.now _ _ _ (search rules) (search rules)

pub returns-in-Core-clause-law : goal.returns-in-Core-clause-law
returns-in-Core-clause-law g c = call_keeps_law _ _ c.args.form.now _ _ _ (search rules) (search rules)

pub returns-in-Hyper-clause-law : goal.returns-in-Hyper-clause-law
returns-in-Hyper-clause-law g c = call_keeps_law _ _ c.args.form.now _ _ _ (search rules) (search rules)

pub returns-in-Pred-clause-law : goal.returns-in-Pred-clause-law
returns-in-Pred-clause-law g c = call_keeps_law _ _ c.args.form.now _ _ _ (search rules) (search rules)

pub returns-in-Ask-clause-law : goal.returns-in-Ask-clause-law
returns-in-Ask-clause-law g c = call_keeps_law _ _ c.args.form.now _ _ _ (search rules) (search rules)

pub returns-in-Refute-clause-law : goal.returns-in-Refute-clause-law
returns-in-Refute-clause-law g c = call_keeps_law _ _ c.args.form.now _ _ _ (search rules) (search rules)
