use Rattle.std.proofs.Common.{◌≡◌, ◌∙◌, ◌++◌, ◌∷◌, [], sym, ap, ap₂, subst, List, ℕ, map, Result, Ok, Err, false, OnOk, is_err, Contains, arith}
use Rattle.std.proofs.lemmas.List.{map-append, length-map}
use Rattle.hol_terms.specs.Terms.{SimpleType, plain_type, plain_variable, Variable}
use Rattle.hol_terms.specs.Places.{ArePlacesIn}
use Rattle.hol_terms.proofs.Placing.{are_places_in_put, place_of_new}
use Rattle.hol_terms.proofs.variable_sets.VariableSet.put.Goals as goal

where_ok : {T E : Type 0} (r : Result T E) (P : Type 0) → is_err r ≡ false → OnOk r P → P
where_ok (Ok x) P e h = h
where_ok (Err x) P e h = cc

pub invariant_of-self-else-is_err : goal.invariant_of-self-else-is_err
invariant_of-self-else-is_err c =
    let v : Variable = (c.args.name.now, plain_type c.args.ty.now) in
    let old : List Variable = map plain_variable c.self.inside.variables.items in
    let item : Variable = plain_variable (c.in_ok-name.name, c.in_ok-ty.ty) in
    let same : item ≡ v = ap₂ (λ (n : List ℕ) (s : SimpleType). (n, s)) c.in_ok-name.ensures c.in_ok-ty.ensures in
    let list : map plain_variable c.push.new.self.items ≡ old ++ v ∷ [] =
    ap (map plain_variable) c.in_ok-push.ensures.items
    ∙ map-append plain_variable c.self.inside.variables.items ((c.in_ok-name.name, c.in_ok-ty.ty) ∷ [])
    ∙ ap (λ (w : Variable). old ++ w ∷ []) same in
    let updates = where_ok c.insert.result _ (sym c.is_err.ensures.value ∙ c.if-is_err.false) c.insert.ensures.updates in
    subst (ArePlacesIn c.insert.new.self) (sym list)
    (are_places_in_put c.self.inside.places c.insert.new.self old v c.in_ok-key.key c.len-place.result c.self.invariant
    (place_of_new v old (subst (λ (l : List Variable). Contains l v → ⊥) (sym c.self.view_is) c.requires)) c.in_ok-key.ensures (omega (arith, c.len-place.ensures, c.self.inside.variables.ok, length-map c.self.inside.variables.items plain_variable)) updates)
