use Rattle.std.proofs.Common.{◌≡◌, Bool, sym, ap, rules, ◌∙◌}
use borrow.Author.Tests.{tests}
use Rattle.std.proofs.lemmas.Iterator.{YieldsList-from_slice}
use Rattle.std.proofs.lemmas.Iterator.Adapters.{position_from-zero}
use Rattle.std.proofs.lemmas.Iterator.Search.{position_from_yields_List}
use Rattle.terms.specs.Shorts.{held}
use Rattle.calculus.specs.Register.{Register}
use Rattle.calculus.specs.Replies.{covering, lowest_clause}
use Rattle.book.specs.Contents.{clause_of}
use Rattle.book.specs.declared.clauses.Clause.{Clause}
use Rattle.book.proofs.Asked.{lowest_position}
use Rattle.book.proofs.state.Book.lowest_clause.Goals as goal

pub returns-in_err-n : goal.returns-in_err-n
returns-in_err-n c =
    let R = c.args.self.now in
    let K = held c.args.asked.now.left.list in
    let M = held c.args.asked.now.right.list in
    let cs = held c.self.inside.clauses in
    let test : Clause → Bool = λ d. covering R K M (clause_of d) in
    let first : c.position.result ≡ lowest_clause R K M 0 c.args.self.now.clauses = position_from_yields_List test _ _ c.position.result c.position.ensures.ran (YieldsList-from_slice cs cc) (λ x b q k. search (rules, tests)) ∙ position_from-zero test cs ∙ lowest_position R K M 0 cs ∙ ap (λ (Q : Register). lowest_clause R K M 0 Q.clauses) c.self.view_is in
    c.from_residual.ensures ∙ sym (c.in_err-n.was) ∙ first

pub returns : goal.returns
returns c =
    let R = c.args.self.now in
    let K = held c.args.asked.now.left.list in
    let M = held c.args.asked.now.right.list in
    let cs = held c.self.inside.clauses in
    let test : Clause → Bool = λ d. covering R K M (clause_of d) in
    let first : c.position.result ≡ lowest_clause R K M 0 c.args.self.now.clauses = position_from_yields_List test _ _ c.position.result c.position.ensures.ran (YieldsList-from_slice cs cc) (λ x b q k. search (rules, tests)) ∙ position_from-zero test cs ∙ lowest_position R K M 0 cs ∙ ap (λ (Q : Register). lowest_clause R K M 0 Q.clauses) c.self.view_is in
    sym (c.in_ok-n.was) ∙ first
