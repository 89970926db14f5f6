use Rattle.std.proofs.Common.{◌≡◌, ◌∙◌, ◌+◌, ℕ, IfOk, Ok, Err, List, length, Vec, Global}
use Rattle.std.proofs.lemmas.List.{length-map}
use Rattle.std.specs.declared.alloc.AllocError.{AllocError}
use Rattle.std.specs.declared.result.Result.{Result}
use Rattle.hol_terms.specs.Terms.{Variable}
use Rattle.expansion_tree.specs.Occurrences.{Occurrence}
use Rattle.expansion_tree.specs.Standing.{Selection}
use Rattle.expansion_tree.specs.Occurrences.{occurrences_of}
use Rattle.dependency.specs.Graphs.{row_lists}
use Rattle.dependency.specs.Nesting.{AreOwners, AreParents, AreSelections, IsDependencyGraph}
use Rattle.dependency.specs.Uses.{AreRows, variables_of}
use Rattle.dependency.proofs.Using.{graph_is}
use Rattle.dependency.proofs.uses.graph.Goals as goal

from_rows : (occurrences : List Occurrence) (selections : List Selection) (parents owners : List ℕ) (variables : List Variable) (r : Result (Vec (Vec ℕ Global) Global) AllocError)
    → AreSelections selections → length parents ≡ length occurrences + 1 → AreParents occurrences parents → length owners ≡ length selections → AreOwners occurrences selections owners
    → variables ≡ variables_of selections → IfOk r (λ rows. length rows.items ≡ length occurrences + 1) → IfOk r (λ rows. AreRows occurrences parents variables owners (row_lists rows.items))
    → IfOk r (λ rows. IsDependencyGraph occurrences selections (row_lists rows.items))
from_rows occurrences selections parents owners variables (Err e) once known are_parents many are_owners same all h = tt
from_rows occurrences selections parents owners variables (Ok rows) once known are_parents many are_owners same all h =
    graph_is occurrences selections parents owners (row_lists rows.items) once known are_parents many are_owners (length-map rows.items (λ row. row.items) ∙ all) (rw same at h)

pub returns : goal.returns
returns c =
    from_rows (occurrences_of c.args.fitted.now.tree) c.args.fitted.now.selection_list c.in_ok-parents.parents.items c.in_ok-owners.owners.items c.in_ok-variables.variables c.rows.result
    c.requires.selections c.in_ok-parents.ensures.many c.in_ok-parents.ensures.each c.in_ok-owners.ensures.many c.in_ok-owners.ensures.each c.in_ok-variables.ensures c.rows.ensures.many
    (rw (c.deref-2.ensures.value, c.deref-3.ensures.value) at c.rows.ensures.rows)
