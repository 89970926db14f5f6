-- Trees that differ in the formulas of their leaves alone: both have come to a step where one has.
use Rattle.std.proofs.Common.{◌≡◌, ◌≤◌, ℕ, List, ◌∷◌, ◌++◌, Bool, refl, sym, ap, subst, ◌∙◌, inl, inr}
use Rattle.std.specs.List.{AllByRecursion}
use Rattle.hol_terms.specs.Terms.{Term, Variable}
use Rattle.expansion_tree.specs.Standing.{Standing, at_leaf, at_constant, at_negation, at_connective, at_selection, at_expansion, StandingBranches, none_standing, branch_standing, selected_variables, branch_selected_variables}
use Rattle.dependency.specs.Stages.{StagedTree, staged_leaf, staged_constant, staged_negation, staged_connective, staged_selection, staged_expansion, StagedBranches, none_staged, branch_staged, Stage, stages, branch_stages}
use Rattle.grown_trees.specs.Growths.{AreGrown, AreBranchesGrown}
use Rattle.grown_trees.specs.Targets.{IsInserted, Matches, BranchesMatch}
use Rattle.grown_trees.proofs.Every.{every_left, every_right}
use Rattle.grown_trees.proofs.Inserted.{inserted_first}
use Rattle.grown_trees.proofs.Renaming.{NewNames, rename, renamed_variable}
use Rattle.grown_trees.proofs.Renamed.{renamed_standing, renamed_branches}
use Rattle.grown_trees.proofs.Pairing.{Paired}

abbrev mutual
  -- the trees have the same nodes, terms and selected variables
  pub Alike : Standing → Standing → Type 0
  Alike (at_leaf p a) r = (b : Term) × (r ≡ at_leaf p b)
  Alike (at_constant p v) r = (w : Bool) × (r ≡ at_constant p w)
  Alike (at_negation n) r = (m : Standing) × Alike n m × (r ≡ at_negation m)
  Alike (at_connective op p m n) r = (k : Standing) × (l : Standing) × Alike m k × Alike n l × (r ≡ at_connective op p k l)
  Alike (at_selection v n) r = (m : Standing) × Alike n m × (r ≡ at_selection v m)
  Alike (at_expansion p ns) r = (ms : StandingBranches) × AreAlike ns ms × (r ≡ at_expansion p ms)

  pub AreAlike : StandingBranches → StandingBranches → Type 0
  AreAlike none_standing ms = ms ≡ none_standing
  AreAlike (branch_standing u n ns) ms = (m : Standing) × (more : StandingBranches) × Alike n m × AreAlike ns more × (ms ≡ branch_standing u m more)

inserted_alike : (u : Term) (n : Standing) (ns ms ls : StandingBranches) → IsInserted u n ns ms → AreAlike ms ls
    → (k : Standing) × (ks : StandingBranches) × Alike n k × AreAlike ns ks × IsInserted u k ks ls
inserted_alike u n none_standing ms ls h alike =
    let a : AreAlike (branch_standing u n none_standing) ls = subst (λ (ms : StandingBranches). AreAlike ms ls) h alike in
    (a.0, none_standing, a.2, refl, a.4 ∙ ap (branch_standing u a.0) a.3)
inserted_alike u n (branch_standing w m ns) ms ls (inl h) alike =
    let a : AreAlike (branch_standing u n (branch_standing w m ns)) ls = subst (λ (ms : StandingBranches). AreAlike ms ls) h alike in
    (a.0, a.1, a.2, a.3, subst (IsInserted u a.0 a.1) (sym a.4) (inserted_first u a.0 a.1))
inserted_alike u n (branch_standing w m ns) ms ls (inr h) alike =
    let a : AreAlike (branch_standing w m h.0) ls = subst (λ (ms : StandingBranches). AreAlike ms ls) h.2 alike in
    let rest = inserted_alike u n ns h.0 a.1 h.1 a.3 in
    (rest.0, branch_standing w a.0 rest.1, rest.2, (a.0, rest.1, a.2, rest.3, refl), inr (a.1, rest.4, a.4))

mutual
  pub matches_alike : (g : StagedTree) (k : ℕ) (s r : Standing) → Matches k g s → Alike s r → Matches k g r
  matches_alike (staged_leaf p a) k s r h alike = subst (λ (s : Standing). Alike s r) h.1 alike
  matches_alike (staged_constant p v) k s r h alike = subst (λ (s : Standing). Alike s r) h.1 alike
  matches_alike (staged_negation g) k s r h alike =
      let a : Alike (at_negation h.0) r = subst (λ (s : Standing). Alike s r) h.2 alike in (a.0, matches_alike g k h.0 a.0 h.1 a.1, a.2)
  matches_alike (staged_connective op p g d) k s r h alike =
      let a : Alike (at_connective op p h.0 h.1) r = subst (λ (s : Standing). Alike s r) h.4 alike in
      (a.0, a.1, matches_alike g k h.0 a.0 h.2 a.2, matches_alike d k h.1 a.1 h.3 a.3, a.4)
  matches_alike (staged_selection v g) k s r h alike =
      let a : Alike (at_selection v h.0) r = subst (λ (s : Standing). Alike s r) h.2 alike in (a.0, matches_alike g k h.0 a.0 h.1 a.1, a.2)
  matches_alike (staged_expansion p bs) k s r h alike =
      let a : Alike (at_expansion p h.0) r = subst (λ (s : Standing). Alike s r) h.2 alike in (a.0, branches_match_alike bs k h.0 a.0 h.1 a.1, a.2)

  branches_match_alike : (bs : StagedBranches) (k : ℕ) (ms ls : StandingBranches) → BranchesMatch k bs ms → AreAlike ms ls → BranchesMatch k bs ls
  branches_match_alike none_staged k ms ls h alike = subst (λ (ms : StandingBranches). AreAlike ms ls) h alike
  branches_match_alike (branch_staged u step g bs) k ms ls (inl h) alike = inl (h.0, branches_match_alike bs k ms ls h.1 alike)
  branches_match_alike (branch_staged u step g bs) k ms ls (inr h) alike =
      let a = inserted_alike u h.1 h.2 ms ls h.5 alike in
      inr (h.0, a.0, a.1, matches_alike g k h.1 a.0 h.3 a.2, branches_match_alike bs k h.2 a.1 h.4 a.3, a.4)

-- the terms of a tree

abbrev mutual
  -- P holds of each term
  pub TermsAre : (Term → Type 0) → Standing → Type 0
  TermsAre P (at_leaf p a) = Unit {0}
  TermsAre P (at_constant p v) = Unit {0}
  TermsAre P (at_negation n) = TermsAre P n
  TermsAre P (at_connective op p m n) = TermsAre P m × TermsAre P n
  TermsAre P (at_selection v n) = TermsAre P n
  TermsAre P (at_expansion p ns) = BranchTermsAre P ns

  pub BranchTermsAre : (Term → Type 0) → StandingBranches → Type 0
  BranchTermsAre P none_standing = Unit {0}
  BranchTermsAre P (branch_standing u n ns) = P u × TermsAre P n × BranchTermsAre P ns

inserted_terms : (P : Term → Type 0) (u : Term) (n : Standing) (ns ms : StandingBranches) → IsInserted u n ns ms → P u → TermsAre P n → BranchTermsAre P ns → BranchTermsAre P ms
inserted_terms P u n none_standing ms h here there others = subst (BranchTermsAre P) (sym h) (here, there, others)
inserted_terms P u n (branch_standing w m ns) ms (inl h) here there others = subst (BranchTermsAre P) (sym h) (here, there, others)
inserted_terms P u n (branch_standing w m ns) ms (inr h) here there others =
    subst (BranchTermsAre P) (sym h.2) (others.0, others.1, inserted_terms P u n ns h.0 h.1 here there others.2)

-- P holds of the stage's term where it is added by step k
abbrev pub IsWanted : (Term → Type 0) → ℕ → Stage → Type 0
IsWanted P k x = x.step ≤ k → P x.term

mutual
  -- the terms of a tree that has come to a step are those of the stages up to it
  pub matched_terms : (g : StagedTree) (P : Term → Type 0) (above k : ℕ) (s : Standing) → AllByRecursion (IsWanted P k) (stages above g) → Matches k g s → TermsAre P s
  matched_terms (staged_leaf p a) P above k s wanted h = subst (TermsAre P) (sym h.1) tt
  matched_terms (staged_constant p v) P above k s wanted h = subst (TermsAre P) (sym h.1) tt
  matched_terms (staged_negation g) P above k s wanted h = subst (TermsAre P) (sym h.2) (matched_terms g P above k h.0 wanted h.1)
  matched_terms (staged_connective op p g d) P above k s wanted h =
      subst (TermsAre P) (sym h.4) (
        matched_terms g P above k h.0 (every_left (IsWanted P k) (stages above g) (stages above d) wanted) h.2,
        matched_terms d P above k h.1 (every_right (IsWanted P k) (stages above g) (stages above d) wanted) h.3,
      )
  matched_terms (staged_selection v g) P above k s wanted h = subst (TermsAre P) (sym h.2) (matched_terms g P above k h.0 wanted h.1)
  matched_terms (staged_expansion p bs) P above k s wanted h = subst (TermsAre P) (sym h.2) (matched_branch_terms bs P above k h.0 wanted h.1)

  matched_branch_terms : (bs : StagedBranches) (P : Term → Type 0) (above k : ℕ) (ms : StandingBranches) → AllByRecursion (IsWanted P k) (branch_stages above bs) → BranchesMatch k bs ms → BranchTermsAre P ms
  matched_branch_terms none_staged P above k ms wanted h = subst (BranchTermsAre P) (sym h) tt
  matched_branch_terms (branch_staged u step g bs) P above k ms wanted (inl h) =
      matched_branch_terms bs P above k ms (every_right (IsWanted P k) (stages step g) (branch_stages above bs) wanted.1) h.1
  matched_branch_terms (branch_staged u step g bs) P above k ms wanted (inr h) =
      inserted_terms P u h.1 h.2 ms h.5 (wanted.0 h.0) (matched_terms g P step k h.1 (every_left (IsWanted P k) (stages step g) (branch_stages above bs) wanted.1) h.3)
      (matched_branch_terms bs P above k h.2 (every_right (IsWanted P k) (stages step g) (branch_stages above bs) wanted.1) h.4)

mutual
  -- the terms of a grown tree are those before, and the new one
  pub grown_terms : (s r x : Standing) (P : Term → Type 0) (u : Term) (b b' : Standing) → AreGrown u b b' s r x → TermsAre P x → TermsAre P s × P u
  grown_terms (at_leaf p a) r x P u b b' h all = absurd h
  grown_terms (at_constant p v) r x P u b b' h all = absurd h
  grown_terms (at_negation n) r x P u b b' h all = grown_terms n h.0 h.1 P u b b' h.2 (subst (TermsAre P) h.4 all)
  grown_terms (at_connective op p m n) r x P u b b' (inl h) all =
      let all : TermsAre P (at_connective op p h.1 n) = subst (TermsAre P) h.4 all in
      let below = grown_terms m h.0 h.1 P u b b' h.2 all.0 in
      ((below.0, all.1), below.1)
  grown_terms (at_connective op p m n) r x P u b b' (inr h) all =
      let all : TermsAre P (at_connective op p m h.1) = subst (TermsAre P) h.4 all in
      let below = grown_terms n h.0 h.1 P u b b' h.2 all.1 in
      ((all.0, below.0), below.1)
  grown_terms (at_selection v n) r x P u b b' h all = grown_terms n h.0 h.1 P u b b' h.2 (subst (TermsAre P) h.4 all)
  grown_terms (at_expansion p ns) r x P u b b' h all = grown_branch_terms ns h.0 h.1 P u b b' h.2 (subst (TermsAre P) h.4 all)

  grown_branch_terms : (ns ms xs : StandingBranches) (P : Term → Type 0) (u : Term) (b b' : Standing) → AreBranchesGrown u b b' ns ms xs → BranchTermsAre P xs → BranchTermsAre P ns × P u
  grown_branch_terms none_standing ms xs P u b b' h all =
      let all : BranchTermsAre P (branch_standing u b' none_standing) = subst (BranchTermsAre P) h.1 all in (tt, all.0)
  grown_branch_terms (branch_standing w n ns) ms xs P u b b' (inl h) all =
      let all : BranchTermsAre P (branch_standing w h.1 ns) = subst (BranchTermsAre P) h.4 all in
      let below = grown_terms n h.0 h.1 P u b b' h.2 all.1 in
      ((all.0, below.0, all.2), below.1)
  grown_branch_terms (branch_standing w n ns) ms xs P u b b' (inr h) all =
      let all : BranchTermsAre P (branch_standing w n h.1) = subst (BranchTermsAre P) h.4 all in
      let below = grown_branch_terms ns h.0 h.1 P u b b' h.2 all.2 in
      ((all.0, all.1, below.0), below.1)

-- trees with other names

abbrev pub IsKept : NewNames → Variable → Type 0
IsKept f v = renamed_variable f v ≡ v

abbrev pub IsTermKept : NewNames → Term → Type 0
IsTermKept f u = rename f u ≡ u

mutual
  -- where the names of a tree are kept
  pub kept_alike : (f : NewNames) (s : Standing) → TermsAre (IsTermKept f) s → AllByRecursion (IsKept f) (selected_variables s) → Alike (renamed_standing f s) s
  kept_alike f (at_leaf p a) terms kept = (a, refl)
  kept_alike f (at_constant p v) terms kept = (v, refl)
  kept_alike f (at_negation n) terms kept = (n, kept_alike f n terms kept, refl)
  kept_alike f (at_connective op p m n) terms kept = (
    m,
    n,
    kept_alike f m terms.0 (every_left (IsKept f) (selected_variables m) (selected_variables n) kept),
    kept_alike f n terms.1 (every_right (IsKept f) (selected_variables m) (selected_variables n) kept),
    refl,
  )
  kept_alike f (at_selection v n) terms kept = (n, kept_alike f n terms kept.1, ap (λ (w : Variable). at_selection w n) (sym kept.0))
  kept_alike f (at_expansion p ns) terms kept = (ns, kept_branches_alike f ns terms kept, refl)

  kept_branches_alike : (f : NewNames) (ns : StandingBranches) → BranchTermsAre (IsTermKept f) ns → AllByRecursion (IsKept f) (branch_selected_variables ns) → AreAlike (renamed_branches f ns) ns
  kept_branches_alike f none_standing terms kept = refl
  kept_branches_alike f (branch_standing u n ns) terms kept = (
    n,
    ns,
    kept_alike f n terms.1 (every_left (IsKept f) (selected_variables n) (branch_selected_variables ns) kept),
    kept_branches_alike f ns terms.2 (every_right (IsKept f) (selected_variables n) (branch_selected_variables ns) kept),
    ap (λ (w : Term). branch_standing w n ns) (sym terms.0),
  )

abbrev pub IsSent : NewNames → Variable × Variable → Type 0
IsSent f q = renamed_variable f q.0 ≡ q.1

-- where each selected variable gets the name of its partner
pub paired_alike : (f : NewNames) (b c : Standing) (qs : List (Variable × Variable)) → Paired b c qs → AllByRecursion (IsSent f) qs → Alike (renamed_standing f b) c
paired_alike f (at_leaf p a) c qs h sent = (h.0, h.1)
paired_alike f (at_constant p v) c qs h sent = (h.0, h.1)
paired_alike f (at_negation n) c qs h sent = (h.0, paired_alike f n h.0 qs h.1 sent, h.2)
paired_alike f (at_connective op p m n) c qs h sent =
    let both : AllByRecursion (IsSent f) (h.2 ++ h.3) = subst (AllByRecursion (IsSent f)) h.7 sent in
    (h.0, h.1, paired_alike f m h.0 h.2 h.4 (every_left (IsSent f) h.2 h.3 both), paired_alike f n h.1 h.3 h.5 (every_right (IsSent f) h.2 h.3 both), h.6)
paired_alike f (at_selection v n) c qs h sent =
    let all : AllByRecursion (IsSent f) ((v, h.0) ∷ h.2) = subst (AllByRecursion (IsSent f)) h.6 sent in
    (h.1, paired_alike f n h.1 h.2 h.4 all.1, h.5 ∙ ap (λ (w : Variable). at_selection w h.1) (sym all.0))
paired_alike f (at_expansion p ns) c qs h sent = (none_standing, subst (λ (ns : StandingBranches). AreAlike (renamed_branches f ns) none_standing) (sym h.0) refl, h.1)

mutual
  -- where the names of the tree are kept, and the new branches differ in names
  pub grown_alike : (f : NewNames) (s r x : Standing) (u : Term) (b b' : Standing) → AreGrown u b b' s r x → TermsAre (IsTermKept f) s → AllByRecursion (IsKept f) (selected_variables s) → IsTermKept f u
      → Alike (renamed_standing f b') b → Alike (renamed_standing f x) r
  grown_alike f (at_leaf p a) r x u b b' h terms kept term new = absurd h
  grown_alike f (at_constant p v) r x u b b' h terms kept term new = absurd h
  grown_alike f (at_negation n) r x u b b' h terms kept term new =
      subst (λ (x : Standing). Alike (renamed_standing f x) r) (sym h.4) (h.0, grown_alike f n h.0 h.1 u b b' h.2 terms kept term new, h.3)
  grown_alike f (at_connective op p m n) r x u b b' (inl h) terms kept term new =
      let left = every_left (IsKept f) (selected_variables m) (selected_variables n) kept in
      let right = every_right (IsKept f) (selected_variables m) (selected_variables n) kept in
      subst (λ (x : Standing). Alike (renamed_standing f x) r) (sym h.4) (h.0, n, grown_alike f m h.0 h.1 u b b' h.2 terms.0 left term new, kept_alike f n terms.1 right, h.3)
  grown_alike f (at_connective op p m n) r x u b b' (inr h) terms kept term new =
      let left = every_left (IsKept f) (selected_variables m) (selected_variables n) kept in
      let right = every_right (IsKept f) (selected_variables m) (selected_variables n) kept in
      subst (λ (x : Standing). Alike (renamed_standing f x) r) (sym h.4) (m, h.0, kept_alike f m terms.0 left, grown_alike f n h.0 h.1 u b b' h.2 terms.1 right term new, h.3)
  grown_alike f (at_selection v n) r x u b b' h terms kept term new =
      subst (λ (x : Standing). Alike (renamed_standing f x) r) (sym h.4)
      (h.0, grown_alike f n h.0 h.1 u b b' h.2 terms kept.1 term new, h.3 ∙ ap (λ (w : Variable). at_selection w h.0) (sym kept.0))
  grown_alike f (at_expansion p ns) r x u b b' h terms kept term new =
      subst (λ (x : Standing). Alike (renamed_standing f x) r) (sym h.4) (h.0, grown_branches_alike f ns h.0 h.1 u b b' h.2 terms kept term new, h.3)

  grown_branches_alike : (f : NewNames) (ns ms xs : StandingBranches) (u : Term) (b b' : Standing) → AreBranchesGrown u b b' ns ms xs → BranchTermsAre (IsTermKept f) ns
      → AllByRecursion (IsKept f) (branch_selected_variables ns) → IsTermKept f u → Alike (renamed_standing f b') b → AreAlike (renamed_branches f xs) ms
  grown_branches_alike f none_standing ms xs u b b' h terms kept term new =
      subst (λ (xs : StandingBranches). AreAlike (renamed_branches f xs) ms) (sym h.1) (b, none_standing, new, refl, h.0 ∙ ap (λ (w : Term). branch_standing w b none_standing) (sym term))
  grown_branches_alike f (branch_standing w n ns) ms xs u b b' (inl h) terms kept term new =
      let here = every_left (IsKept f) (selected_variables n) (branch_selected_variables ns) kept in
      let there = every_right (IsKept f) (selected_variables n) (branch_selected_variables ns) kept in
      subst (λ (xs : StandingBranches). AreAlike (renamed_branches f xs) ms) (sym h.4)
      (h.0, ns, grown_alike f n h.0 h.1 u b b' h.2 terms.1 here term new, kept_branches_alike f ns terms.2 there, h.3 ∙ ap (λ (w : Term). branch_standing w h.0 ns) (sym terms.0))
  grown_branches_alike f (branch_standing w n ns) ms xs u b b' (inr h) terms kept term new =
      let here = every_left (IsKept f) (selected_variables n) (branch_selected_variables ns) kept in
      let there = every_right (IsKept f) (selected_variables n) (branch_selected_variables ns) kept in
      subst (λ (xs : StandingBranches). AreAlike (renamed_branches f xs) ms) (sym h.4)
      (n, h.0, kept_alike f n terms.1 here, grown_branches_alike f ns h.0 h.1 u b b' h.2 terms.2 there term new, h.3 ∙ ap (λ (w : Term). branch_standing w n h.0) (sym terms.0))
