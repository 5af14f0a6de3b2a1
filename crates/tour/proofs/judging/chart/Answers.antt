use Rattle.std.proofs.Common.{lit<}
use Rattle.terms.specs.Codes.{role_same}
use Rattle.terms.specs.Roles.{role_of}
use Rattle.tour.proofs.judging.chart.Goals as goal

pub returns : goal.returns
returns c =
    let zero = role_same c.in_ok-new.field-0 (role_of 0 (lit< tt)) c.in_ok-new.ensures in
    let one = role_same c.in_ok-new-2.field-0 (role_of 1 (lit< tt)) c.in_ok-new-2.ensures in
    let first = c.in_ok-first.ensures in
    let second = c.in_ok-second.ensures in
    cc
