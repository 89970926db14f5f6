-- Occurrences as they are kept.
use Rattle.std.specs.Prelude.{ℕ, zero, suc, ◌+◌, ◌-◌, List, [], ◌∷◌}
use Rattle.hol_terms.specs.Terms.{Term, plain_term}
use Rattle.expansion_tree.specs.declared.occurrences.Occurrence.{Occurrence as Kept}
use Rattle.expansion_tree.specs.Trees.{ExpansionTree, node_count}
use Rattle.expansion_tree.specs.Occurrences.{Occurrence, occurrences_from}

-- the plain record of an occurrence
abbrev pub plain_occurrence : Kept → Occurrence
plain_occurrence kept = record { first = kept.node; last = kept.last; term = plain_term kept.term }

-- the occurrences of one branch, whose term is u and whose tree's root has the number at
abbrev pub branch_occurrences : ℕ → Term → ExpansionTree → List Occurrence
branch_occurrences at u t = record { first = at; last = at + node_count t - 1; term = u } ∷ occurrences_from at t

-- the occurrence at place k, from 0, gets its last node
abbrev pub closed_at : ℕ → ℕ → List Occurrence → List Occurrence
closed_at k last [] = []
closed_at zero last (o ∷ rest) = record { first = o.first; last = last; term = o.term } ∷ rest
closed_at (suc k) last (o ∷ rest) = o ∷ closed_at k last rest
