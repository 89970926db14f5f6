-- The last extension of a list.
use Rattle.std.proofs.Common.{List, [], ◌∷◌, ◌++◌, ◌≡◌, Bool, refl, sym, subst, Contains, map}
use Rattle.std.proofs.lemmas.List.Elements.{All-contains, Contains-append_right}
use Rattle.hol_terms.specs.Terms.{Term}
use Rattle.expansion_tree.specs.Standing.{Standing, Stands}
use Rattle.expansion_tree.specs.Trees.{ExpansionTree, plain_tree}
use Rattle.term_lists.proofs.Members.{contains-first, mapped-contains}
use Rattle.tree_growth.specs.declared.growths.Growth.{Growth}
use Rattle.tree_growth.specs.Growths.{Allowance, IsExtension, plain_growth}
use Rattle.tree_growth.specs.Extending.{Extend}

-- it stands at the formula
pub last_stands : (d : Allowance) (p : Bool) (a c : Term) (t : ExpansionTree) (all front : List Growth) (last : Growth) → Extend d p c t (map plain_growth all) → c ≡ a
    → (s : Standing) × Stands p a t s → all ≡ front ++ last ∷ [] → (r : Standing) × Stands p a (plain_tree last.tree) r
last_stands d p a c t all front last extended same h e =
    let extended_at : Extend d p a t (map plain_growth all) = subst (λ (x : Term). Extend d p x t (map plain_growth all)) same extended in
    let there : Contains all last = subst (λ (l : List Growth). Contains l last) (sym e) (Contains-append_right front (last ∷ []) last (contains-first last last [] refl)) in
    let each = (extended_at h.0 h.1).each in
    let x = All-contains (IsExtension d p a h.0) (map plain_growth all) (plain_growth last) each (mapped-contains plain_growth all last there) in
    (x.standing, x.stands)
