-- Steps of the loops over the pairs of a mating and over branches.
use Rattle.std.proofs.Common.{◌≡◌, ℕ, List, [], ◌∷◌, ◌++◌, Result, Ok, Err, refl, sym, ◌∙◌, ap, subst, append_assoc}
use Rattle.core_text.specs.Placed.{Placed, PlacedAll, more_at}
use Rattle.core_text.specs.Reading.{◌>>=◌, Fails}
use Rattle.core_text.specs.declared.faults.TextFault.{TextFault}
use Rattle.core_text.specs.declared.faults.TextFault.TheVariants.{Memory, NotUtf8, BadToken, Unbalanced, TooDeep, Trailing, BadForm, IllTyped, LooseIndex}
use Rattle.hol_terms.specs.Terms.{plain_term}
use Rattle.hol_terms.specs.declared.terms.Tm.{Tm}
use Rattle.expansion_tree.specs.declared.trees.Tree.{Tree}
use Rattle.expansion_tree.specs.Trees.{ExpansionBranches, branch, plain_tree}
use Rattle.expansion_tree.specs.Copies.{branches_from}
use Rattle.expansion_tree.proofs.Chains.{branches_from-append}
use Rattle.proof_text.specs.Reading.{branch_at, branches_at, pair_at, pairs_at}
use Rattle.proof_text.specs.Views.{plain_branch}

-- a fault of a part that is read first is one of the whole
pub fails_first : {A B : Type 0} (e : TextFault) (r : Result A ℕ) (f : A → Result B ℕ) → Fails e r → Fails e (r >>= f)
fails_first Memory r f h = tt
fails_first NotUtf8 r f h = absurd h
fails_first (BadToken k) r f h = absurd h
fails_first (Unbalanced k) r f h = absurd h
fails_first (TooDeep k) r f h = absurd h
fails_first (Trailing k) r f h = absurd h
fails_first (BadForm k) r f h = ap (λ r. r >>= f) h
fails_first (IllTyped k) r f h = absurd h
fails_first (LooseIndex k) r f h = absurd h

-- the pairs after those that were read
abbrev pub behind : List (ℕ × ℕ) → Result (List (ℕ × ℕ)) ℕ → Result (List (ℕ × ℕ)) ℕ
behind front r = r >>= λ ps. Ok (front ++ ps)

-- one pair more
pub pairs_on : (old new : List (ℕ × ℕ)) (p : ℕ × ℕ) (f : Placed) (fs : PlacedAll) (whole : Result (List (ℕ × ℕ)) ℕ) → new ≡ old ++ p ∷ [] → pair_at f ≡ Ok p → behind old (pairs_at (more_at f fs)) ≡ whole → behind new (pairs_at fs) ≡ whole
pairs_on old new p f fs whole e h w = go (pairs_at fs) ∙ sym (ap (λ r. behind old (r >>= λ q. pairs_at fs >>= λ qs. Ok (q ∷ qs))) h) ∙ w
  where
    go : (r : Result (List (ℕ × ℕ)) ℕ) → behind new r ≡ behind old (r >>= λ qs. Ok (p ∷ qs))
    go (Ok ps) = let longer : new ++ ps ≡ old ++ p ∷ ps = ap (λ l. l ++ ps) e ∙ append_assoc old (p ∷ []) ps in ap (λ l. let r : Result (List (ℕ × ℕ)) ℕ = Ok l in r) longer
    go (Err k) = refl

pub pairs_failed : (e : TextFault) (front : List (ℕ × ℕ)) (f : Placed) (fs : PlacedAll) (whole : Result (List (ℕ × ℕ)) ℕ) → Fails e (pair_at f) → behind front (pairs_at (more_at f fs)) ≡ whole → Fails e whole
pairs_failed e front f fs whole h w = subst (Fails e) w (fails_first e (pairs_at (more_at f fs)) (λ ps. Ok (front ++ ps)) (fails_first e (pair_at f) (λ q. pairs_at fs >>= λ qs. Ok (q ∷ qs)) h))

-- the branches after those that were read
abbrev pub before : List (Tm × Tree) → Result ExpansionBranches ℕ → Result ExpansionBranches ℕ
before items r = r >>= λ bs. Ok (branches_from items bs)

-- one branch more
pub branches_on : (old new : List (Tm × Tree)) (item : Tm × Tree) (f : Placed) (fs : PlacedAll) (whole : Result ExpansionBranches ℕ) → new ≡ old ++ item ∷ [] → branch_at f ≡ Ok (plain_branch item) → before old (branches_at (more_at f fs)) ≡ whole → before new (branches_at fs) ≡ whole
branches_on old new item f fs whole e h w = go (branches_at fs) ∙ sym (ap (λ r. before old (r >>= λ c. branches_at fs >>= λ bs. Ok (branch c.0 c.1 bs))) h) ∙ w
  where
    go : (r : Result ExpansionBranches ℕ) → before new r ≡ before old (r >>= λ bs. Ok (branch (plain_term item.0) (plain_tree item.1) bs))
    go (Ok bs) =
        let longer : branches_from new bs ≡ branches_from old (branch (plain_term item.0) (plain_tree item.1) bs) = ap (λ l. branches_from l bs) e ∙ branches_from-append old (item ∷ []) bs in
        ap (λ l. let r : Result ExpansionBranches ℕ = Ok l in r) longer
    go (Err k) = refl

pub branches_failed : (e : TextFault) (front : List (Tm × Tree)) (f : Placed) (fs : PlacedAll) (whole : Result ExpansionBranches ℕ) → Fails e (branch_at f) → before front (branches_at (more_at f fs)) ≡ whole → Fails e whole
branches_failed e front f fs whole h w = subst (Fails e) w (fails_first e (branches_at (more_at f fs)) (λ bs. Ok (branches_from front bs)) (fails_first e (branch_at f) (λ c. branches_at fs >>= λ bs. Ok (branch c.0 c.1 bs)) h))
