-- What a search knows of the formula that is to be proved.
use Rattle.std.specs.Prelude.{◌≡◌, ◌↔◌, ℕ, List, Contains, map}
use Rattle.hol_terms.specs.FreeVariables.{free_variables_of}
use Rattle.hol_terms.specs.Terms.{Variable, plain_term}
use Rattle.expansion_tree.specs.Budgets.{Head, IsInSignature}
use Rattle.expansion_tree.specs.Standing.{IsNormalFormula}
use Rattle.plain_search.specs.declared.tasks.Task.{Task}

-- the names of the variables
abbrev pub names_of : List Variable → List (List ℕ)
names_of vs = map (λ (v : Variable). v.0) vs

-- the task has the formula's long normal form, its signature at the level, and the names of its free variables
pub record IsTask (task : Task) : Type 0 where
  pub normal : IsNormalFormula (plain_term task.normal) (plain_term task.formula)
  pub signature : (h : Head) → Contains task.signature h ↔ IsInSignature (plain_term task.formula) task.level h
  pub taken : task.taken ≡ names_of (free_variables_of (plain_term task.formula))
