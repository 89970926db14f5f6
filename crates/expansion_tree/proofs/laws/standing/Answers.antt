use Rattle.std.proofs.Common.{refl}
use Rattle.expansion_tree.proofs.Excluding.{stands-unique, tree-unique, first_fault_excludes, first_fault-unique}
use Rattle.expansion_tree.proofs.laws.standing.Goals as goal

pub returns-clause-one : goal.returns-clause-one
returns-clause-one c p a tree s r h g = stands-unique tree p a a s r refl h g

pub returns-clause-tree : goal.returns-clause-tree
returns-clause-tree c = tree-unique

pub returns-clause-fault : goal.returns-clause-fault
returns-clause-fault c formula tree fault s f h = first_fault_excludes formula tree s fault f h

pub returns-clause-first : goal.returns-clause-first
returns-clause-first c = first_fault-unique
