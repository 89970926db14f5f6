-- What the steps of a check decide.
use Rattle.std.proofs.Common.{◌≡◌, ◌≢◌, ℕ, ◌-◌, ◌<◌, List, Bool, length, refl, sym, ◌∙◌, ap, ap₂, subst, arith}
use Rattle.std.specs.Prelude.{All, Option, Some, None, IsNone}
use Rattle.std.proofs.lemmas.List.Elements.{All-get_or}
use Rattle.std.proofs.lemmas.Option.{slice_get-get_or}
use Rattle.hol_terms.specs.Terms.{Term}
use Rattle.hol_terms.specs.Typing.{IsFormula}
use Rattle.expansion_tree.specs.Fitted.{FittedTree, FitsAs, IsFitted}
use Rattle.expansion_tree.specs.Occurrences.{occurrences_of}
use Rattle.expansion_tree.specs.Standing.{Standing, Selection, leaves, paths, selections}
use Rattle.expansion_tree.specs.Trees.{ExpansionTree}
use Rattle.expansion_tree.proofs.Excluding.{tree-unique, first_fault_excludes}
use Rattle.vertical_paths.specs.Matings.{IsGood, IsFirstBad, Spans, first_open}
use Rattle.vertical_paths.proofs.Closing.{none_open_iff_spans}
use Rattle.dependency.specs.Graphs.{IsClosedChain}
use Rattle.dependency.specs.Dependencies.{Before, IsAcyclic}
use Rattle.proof_text.specs.Texts.{Proof}
use Rattle.exp_check.specs.Accepted.{AcceptedProof, IsAccepted, proof_of}
use Rattle.exp_check.specs.Judged.{IsFirstFitFault, IsJudged, IsFirstJudged}
use Rattle.exp_check.specs.Proofs.{IsProof, IsFirstCheckFault}
use Rattle.exp_check.specs.declared.faults.CheckFault.{CheckFault}
use Rattle.exp_check.specs.declared.faults.CheckFault.TheVariants.{Memory, Fit, BadPair, Cycle, OpenPath}

-- the formula and the tree of a fitted tree with a mating
abbrev with_mating : FittedTree → List (ℕ × ℕ) → Proof
with_mating f mating = record { formula = f.formula; tree = f.tree; mating = mating }

-- the parts are those of the proof
same_proof : (p : Proof) (f : FittedTree) → f.formula ≡ p.formula → f.tree ≡ p.tree → with_mating f p.mating ≡ p
same_proof p f formula tree = ap₂ (λ (a : Term) (t : ExpansionTree). record { formula = a; tree = t; mating = p.mating }) formula tree

-- what was judged of a fitted tree, as the way in which it stands has it
judged_good : (f : FittedTree) (s : Standing) (mating : List (ℕ × ℕ)) → FitsAs f s → All (IsGood f.leaf_list) mating → All (IsGood (leaves s)) mating
judged_good f s mating fits h = subst (λ (ls : List (Bool × Term)). All (IsGood ls) mating) fits.leaf_list h

judged_acyclic : (f : FittedTree) (s : Standing) → FitsAs f s → IsAcyclic (occurrences_of f.tree) f.selection_list → IsAcyclic (occurrences_of f.tree) (selections s)
judged_acyclic f s fits h = subst (λ (xs : List Selection). IsAcyclic (occurrences_of f.tree) xs) fits.selection_list h

-- a fitted tree that was judged is an expansion proof
pub judged_accepted : (p : Proof) (a : AcceptedProof) → IsFormula p.formula → IsFitted a.fitted → a.fitted.formula ≡ p.formula → a.fitted.tree ≡ p.tree → a.mating ≡ p.mating
    → IsJudged a.fitted a.mating a.order → IsAccepted a × (proof_of a ≡ p)
judged_accepted p a formula fit same_formula same_tree same_mating j =
    let s = fit.0 in
    let fits = fit.1 in
    let proof : IsProof (proof_of a) = (
      s,
      record {
        formula = subst IsFormula (sym same_formula) formula;
        is_tree = fits.is_tree;
        good = judged_good a.fitted s a.mating fits j.good;
        acyclic = judged_acyclic a.fitted s fits j.acyclic;
        spans = subst (λ (ps : List (List ℕ)). Spans a.mating ps) fits.path_list j.spans;
      },
    ) in
    let same : proof_of a ≡ with_mating a.fitted p.mating = ap (λ (m : List (ℕ × ℕ)). record { formula = a.fitted.formula; tree = a.fitted.tree; mating = m }) same_mating in
    (record { fits = fit; proof = proof; ordered = j.ordered }, same ∙ same_proof p a.fitted same_formula same_tree)

-- a fault that was judged is the first one
fault_of_fitted : (f : FittedTree) (mating : List (ℕ × ℕ)) (e : CheckFault) → IsFitted f → IsFirstJudged f mating e → IsFirstCheckFault (with_mating f mating) e
fault_of_fitted f mating Memory fit h = tt
fault_of_fitted f mating (Fit fault) fit h = absurd h
fault_of_fitted f mating (BadPair k) fit h =
    (fit.0, fit.1.is_tree, subst (λ (ls : List (Bool × Term)). IsFirstBad ls mating k) fit.1.leaf_list h)
fault_of_fitted f mating (Cycle chain) fit h =
    (fit.0, (fit.1.is_tree, judged_good f fit.0 mating fit.1 h.0), subst (λ (xs : List Selection). IsClosedChain (Before (occurrences_of f.tree) xs) chain) fit.1.selection_list h.1.0, h.1.1)
fault_of_fitted f mating (OpenPath path) fit h =
    (fit.0, (fit.1.is_tree, judged_good f fit.0 mating fit.1 h.0), judged_acyclic f fit.0 fit.1 h.1, subst (λ (ps : List (List ℕ)). first_open mating ps ≡ Some path) fit.1.path_list h.2)

pub fault_found : (p : Proof) (f : FittedTree) (e : CheckFault) → IsFitted f → f.formula ≡ p.formula → f.tree ≡ p.tree → IsFirstJudged f p.mating e → IsFirstCheckFault p e
fault_found p f e fit same_formula same_tree h = subst (λ (q : Proof). IsFirstCheckFault q e) (same_proof p f same_formula same_tree) (fault_of_fitted f p.mating e fit h)

pub fit_fault_found : (p : Proof) (e : CheckFault) → IsFirstFitFault p.formula p.tree e → IsFirstCheckFault p e
fit_fault_found p Memory h = tt
fit_fault_found p (Fit fault) h = h
fit_fault_found p (BadPair k) h = absurd h
fit_fault_found p (Cycle chain) h = absurd h
fit_fault_found p (OpenPath path) h = absurd h

-- a bad pair isn't good
not_good : (ls : List (Bool × Term)) (mating : List (ℕ × ℕ)) (k : ℕ) → IsFirstBad ls mating k → All (IsGood ls) mating → ⊥
not_good ls mating k h all =
    let within : k - 1 < length mating = omega (arith, h.low, h.high) in
    h.bad _ (slice_get-get_or mating (k - 1) (0, 0) within) (All-get_or (IsGood ls) mating (k - 1) (0, 0) within all)

-- where some path is open the mating doesn't span
not_spanned : (mating : List (ℕ × ℕ)) (ps : List (List ℕ)) (path : List ℕ) → first_open mating ps ≡ Some path → Spans mating ps → ⊥
not_spanned mating ps path open_path spans = let none = (none_open_iff_spans mating ps).1 spans in go (first_open mating ps) open_path none
  where
    go : (o : Option (List ℕ)) → o ≡ Some path → IsNone o → ⊥
    go None e h = cc
    go (Some q) e h = cc

-- what has a fault is no expansion proof
pub fault_refuses : (p : Proof) (e : CheckFault) → IsFirstCheckFault p e → e ≢ Memory → IsProof p → ⊥
fault_refuses p Memory h other proof = other refl
fault_refuses p (Fit fault) h other proof = first_fault_excludes p.formula p.tree proof.0 fault h proof.1.is_tree
fault_refuses p (BadPair k) h other proof =
    let same = tree-unique p.formula p.tree h.0 proof.0 h.1 proof.1.is_tree in
    not_good (leaves proof.0) p.mating k (subst (λ (s : Standing). IsFirstBad (leaves s) p.mating k) same h.2) proof.1.good
fault_refuses p (Cycle chain) h other proof =
    let same = tree-unique p.formula p.tree h.0 proof.0 h.1.0 proof.1.is_tree in
    proof.1.acyclic chain (subst (λ (s : Standing). IsClosedChain (Before (occurrences_of p.tree) (selections s)) chain) same h.2)
fault_refuses p (OpenPath path) h other proof =
    let same = tree-unique p.formula p.tree h.0 proof.0 h.1.0 proof.1.is_tree in
    not_spanned p.mating (paths proof.0) path (subst (λ (s : Standing). first_open p.mating (paths s) ≡ Some path) same h.3) proof.1.spans
