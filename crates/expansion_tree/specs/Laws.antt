-- Laws of expansion trees, which the layers above rest on. Each is the clause of a function of the module `laws`.
use Rattle.std.specs.Prelude.{◌≡◌, Bool}
use Rattle.hol_terms.specs.Terms.{Term}
use Rattle.expansion_tree.specs.declared.faults.FitFault.{FitFault}
use Rattle.expansion_tree.specs.Trees.{ExpansionTree}
use Rattle.expansion_tree.specs.Standing.{Standing, Stands}
use Rattle.expansion_tree.specs.Faults.{IsTree, IsFirstFault}

-- a tree stands at a formula of a polarity in one way at most
abbrev pub StandsInOneWay : Type 0
StandsInOneWay = (p : Bool) (a : Term) (tree : ExpansionTree) (s r : Standing) → Stands p a tree s → Stands p a tree r → s ≡ r

-- an expansion tree of a formula stands there in one way
abbrev pub IsTreeInOneWay : Type 0
IsTreeInOneWay = (formula : Term) (tree : ExpansionTree) (s r : Standing) → IsTree formula tree s → IsTree formula tree r → s ≡ r

-- a tree with a first fault is no expansion tree of the formula
abbrev pub FaultExcludes : Type 0
FaultExcludes = (formula : Term) (tree : ExpansionTree) (fault : FitFault) (s : Standing) → IsFirstFault formula tree fault → IsTree formula tree s → ⊥

-- there is at most one first fault
abbrev pub HasOneFirstFault : Type 0
HasOneFirstFault = (formula : Term) (tree : ExpansionTree) (e d : FitFault) → IsFirstFault formula tree e → IsFirstFault formula tree d → e ≡ d
