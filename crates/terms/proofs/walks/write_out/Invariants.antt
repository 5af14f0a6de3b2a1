use Rattle.terms.proofs.walks.write_out.Given as goal

abbrev pub ghost-write : goal.ghost-write
ghost-write g a = g.list
