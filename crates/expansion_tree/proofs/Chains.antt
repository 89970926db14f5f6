-- Laws of branches made from a list.
use Rattle.std.proofs.Common.{◌≡◌, List, [], ◌∷◌, ◌++◌, refl, sym, ◌∙◌, ap}
use Rattle.hol_terms.specs.declared.terms.Tm.{Tm}
use Rattle.expansion_tree.specs.declared.trees.Tree.{Tree}
use Rattle.expansion_tree.specs.Trees.{ExpansionBranches, branch}
use Rattle.hol_terms.specs.Terms.{plain_term}
use Rattle.expansion_tree.specs.Trees.{plain_tree}
use Rattle.expansion_tree.specs.Copies.{branches_from}

pub branches_from-append : (xs ys : List (Tm × Tree)) (bs : ExpansionBranches) → branches_from (xs ++ ys) bs ≡ branches_from xs (branches_from ys bs)
branches_from-append [] ys bs = refl
branches_from-append (x ∷ xs) ys bs = ap (branch (plain_term x.0) (plain_tree x.1)) (branches_from-append xs ys bs)

-- one branch more, taken from the end of the list
pub chain_on : (old new : List (Tm × Tree)) (item : Tm × Tree) (bs bs' all : ExpansionBranches) → old ≡ new ++ item ∷ [] → bs' ≡ branch (plain_term item.0) (plain_tree item.1) bs → branches_from old bs ≡ all → branches_from new bs' ≡ all
chain_on old new item bs bs' all e f h = ap (branches_from new) f ∙ sym (branches_from-append new (item ∷ []) bs) ∙ ap (λ l. branches_from l bs) (sym e) ∙ h

-- one branch more, copied after the others
pub copy_on : (old new : List (Tm × Tree)) (item : Tm × Tree) (left more all : ExpansionBranches) → new ≡ old ++ item ∷ [] → left ≡ branch (plain_term item.0) (plain_tree item.1) more → branches_from old left ≡ all → branches_from new more ≡ all
copy_on old new item left more all e f h = ap (λ l. branches_from l more) e ∙ branches_from-append old (item ∷ []) more ∙ ap (branches_from old) (sym f) ∙ h
