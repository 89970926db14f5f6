-- The binders around a phrase, as plain pairs.
use Rattle.std.specs.Prelude.{ℕ, List, [], ◌∷◌}
use Rattle.type_infer.specs.declared.scopes.Scope.{Scope}
use Rattle.type_infer.specs.declared.scopes.Scope.TheVariants.{Outside, Under'}

-- the name of each binder with the number of its variable's type, from the innermost on
abbrev pub binders : Scope → List (List ℕ × ℕ)
binders Outside = []
binders (Under' name number p outer) = (name.now, number) ∷ binders outer
