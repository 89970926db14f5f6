use Rattle.expansion_tree.proofs.fitted.fit.Goals as goal

pub returns-clause-fits : goal.returns-clause-fits
returns-clause-fits c = rw (c.in_ok-formula.ensures, c.in_ok-tree.ensures) at c.new.ensures.fits

pub returns-clause-fault : goal.returns-clause-fault
returns-clause-fault c = rw (c.in_ok-formula.ensures, c.in_ok-tree.ensures) at c.new.ensures.fault

pub returns-clause-only : goal.returns-clause-only
returns-clause-only c = rw (c.in_ok-formula.ensures, c.in_ok-tree.ensures) at c.new.ensures.only
