-- Why occurrences have no order.
use Rattle.std.specs.Prelude.{List, nat_eq}
use Rattle.std.specs.List.{IsDistinct}
use Rattle.dependency.specs.declared.faults.OrderFault.{OrderFault}
use Rattle.dependency.specs.declared.faults.OrderFault.TheVariants.{Memory, Cycle}
use Rattle.expansion_tree.specs.Occurrences.{Occurrence}
use Rattle.expansion_tree.specs.Standing.{Selection}
use Rattle.dependency.specs.Graphs.{IsClosedChain}
use Rattle.dependency.specs.Dependencies.{Before}

-- a closed chain of occurrences, each directly before the next, in which none stands twice; nothing is said of running out of memory
abbrev pub IsOrderFault : List Occurrence → List Selection → OrderFault → Type 0
IsOrderFault occurrences selections Memory = Unit {0}
IsOrderFault occurrences selections (Cycle chain) = IsClosedChain (Before occurrences selections) chain × IsDistinct nat_eq chain
