use Rattle.trees.proofs.Filling.{Filled}
use Rattle.trees.proofs.tray.fill.Given as goal

abbrev pub invariant-loop-written : goal.invariant-loop-written
invariant-loop-written g l = Filled (g.met.T.Tree.laws l.tree) l.fn.after l.initial.places l.written l.places l.next
