-- An equation is added to those that are loaded.
use Rattle.std.specs.Prelude.{ℕ, List, [], ◌∷◌, ◌++◌}
use Rattle.type_infer.specs.Conditions.{PlainEquation, PlainCondition}
use Rattle.type_infer.specs.Loading.{IsLoaded, IsWithin}
use Rattle.type_infer.specs.declared.loading.Loading.{Loading}

-- the state says what the conditions say
abbrev pub HasLoaded : ℕ → List PlainCondition → Loading → Type 0
HasLoaded count conditions state = IsLoaded count conditions state.cells.items state.pending.items state.names state.firsts.items

-- the new state says the equation as well
pub record AddsEquation (equation : PlainEquation) (old new : Loading) : Type 0 where
  pub adds : (count : ℕ) (conditions : List PlainCondition) (place : ℕ) → HasLoaded count conditions old → IsWithin count equation
      → HasLoaded count (conditions ++ (place, equation) ∷ []) new
