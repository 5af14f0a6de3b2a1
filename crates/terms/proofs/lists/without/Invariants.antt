use Rattle.terms.specs.Lists.{removal}
use Rattle.terms.proofs.lists.without.Given as goal

abbrev pub ghost-write : goal.ghost-write
ghost-write g a = removal g.T.Ordered.precedes a.items.gone a.items.xs.now

abbrev pub ghost-write_out : goal.ghost-write_out
ghost-write_out g a = removal g.T.Ordered.precedes a.items.gone a.items.xs.now
