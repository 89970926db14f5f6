use Rattle.std.proofs.Common.{◌≡◌, ◌∙◌, ◌++◌, ◌∷◌, [], Bool, true, false, not, subst, ap, ap₂, refl, sym, List, ℕ}
use Rattle.std.specs.List.{list_any}
use Rattle.hol_terms.specs.Computed.{same_variable}
use Rattle.hol_terms.specs.Collected.{AreKeysOf, with_variable}
use Rattle.hol_terms.specs.Terms.{SimpleType, plain_type, Variable}
use Rattle.hol_terms.proofs.Collecting.{are_keys_of_put, key_was_in, with_variable_new}
use Rattle.hol_terms.proofs.variables.collect_variable.Goals as goal

denied : (b : Bool) → not b ≡ true → b ≡ false
denied true e = cc
denied false e = refl

pub returns-in_ok-push-clause-keys : goal.returns-in_ok-push-clause-keys
returns-in_ok-push-clause-keys c =
    let v : Variable = (c.args.name.now, plain_type c.args.ty.now) in
    let keys : AreKeysOf c.args.keys.now c.args.variables.now = c.requires in
    let known = key_was_in c.args.keys.now c.args.variables.now v c.in_ok-key.key keys c.in_ok-key.ensures in
    let fresh : list_any (same_variable v) c.args.variables.now ≡ false = denied (list_any (same_variable v) c.args.variables.now) (ap not (sym known) ∙ sym c.in_ok-insert.ensures.added ∙ c.if-branch.true) in
    let list : c.push.new.self ≡ with_variable c.args.variables.now v = c.in_ok-push.ensures.ok
    ∙ ap₂ (λ (n : List ℕ) (s : SimpleType). c.args.variables.now ++ (n, s) ∷ []) c.in_ok-name.ensures c.in_ok-ty.ensures
    ∙ sym (with_variable_new c.args.variables.now v fresh) in
    subst (AreKeysOf c.insert.new.self) (sym list)
    (are_keys_of_put c.args.keys.now c.insert.new.self c.args.variables.now v c.in_ok-key.key c.requires c.in_ok-key.ensures c.in_ok-insert.ensures.updates)
