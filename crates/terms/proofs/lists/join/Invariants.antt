use Rattle.terms.specs.Lists.{union}
use Rattle.terms.proofs.lists.join.Given as goal

abbrev pub ghost-write : goal.ghost-write
ghost-write g a = union g.T.Ordered.precedes a.items.xs.now a.items.ys.now

abbrev pub ghost-count : goal.ghost-count
ghost-count g a = union g.T.Ordered.precedes a.items.xs.now a.items.ys.now

abbrev pub ghost-write_out : goal.ghost-write_out
ghost-write_out g a = union g.T.Ordered.precedes a.items.xs.now a.items.ys.now
