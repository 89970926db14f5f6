-- Laws of joined paths.
use Rattle.std.proofs.Common.{◌≡◌, ℕ, List, [], ◌∷◌, ◌++◌, refl, sym, ◌∙◌, ap, append_assoc}
use Rattle.std.proofs.lemmas.List.{map-append, append-nil}
use Rattle.expansion_tree.specs.Matrices.{joined}
use Rattle.vertical_paths.specs.Walks.{behind}

pub behind-behind : (a b : List ℕ) (ps : List (List ℕ)) → behind a (behind b ps) ≡ behind (a ++ b) ps
behind-behind a b [] = refl
behind-behind a b (p ∷ ps) = rw (append_assoc) (ap (λ l. (a ++ (b ++ p)) ∷ l) (behind-behind a b ps))

pub behind-none : (ps : List (List ℕ)) → behind [] ps ≡ ps
behind-none [] = refl
behind-none (p ∷ ps) = ap (λ l. p ∷ l) (behind-none ps)

behind-joined : (a : List ℕ) (ps qs : List (List ℕ)) → behind a (joined ps qs) ≡ joined (behind a ps) qs
behind-joined a [] qs = refl
behind-joined a (p ∷ ps) qs =
    map-append (λ q. a ++ q) (behind p qs) (joined ps qs) ∙ ap (λ l. l ++ behind a (joined ps qs)) (behind-behind a p qs) ∙ ap (λ l. behind (a ++ p) qs ++ l) (behind-joined a ps qs)

joined-append : (ps qs rs : List (List ℕ)) → joined (ps ++ qs) rs ≡ joined ps rs ++ joined qs rs
joined-append [] qs rs = refl
joined-append (p ∷ ps) qs rs = ap (λ l. behind p rs ++ l) (joined-append ps qs rs) ∙ sym (append_assoc (behind p rs) (joined ps rs) (joined qs rs))

pub joined-joined : (ps qs rs : List (List ℕ)) → joined (joined ps qs) rs ≡ joined ps (joined qs rs)
joined-joined [] qs rs = refl
joined-joined (p ∷ ps) qs rs =
    joined-append (behind p qs) (joined ps qs) rs ∙ ap (λ l. l ++ joined (joined ps qs) rs) (sym (behind-joined p qs rs)) ∙ ap (λ l. behind p (joined qs rs) ++ l) (joined-joined ps qs rs)

-- paths that begin with one leaf
pub behind-leaf : (a : List ℕ) (n : ℕ) (rs : List (List ℕ)) → behind a (joined ((n ∷ []) ∷ []) rs) ≡ behind (a ++ n ∷ []) rs
behind-leaf a n rs = ap (behind a) (append-nil (behind (n ∷ []) rs)) ∙ behind-behind a (n ∷ []) rs

pub joined-unit : (rs : List (List ℕ)) → joined ([] ∷ []) rs ≡ rs
joined-unit rs = append-nil (behind [] rs) ∙ behind-none rs

pub joined-with_unit : (ps : List (List ℕ)) → joined ps ([] ∷ []) ≡ ps
joined-with_unit [] = refl
joined-with_unit (p ∷ ps) = rw append-nil (ap (λ l. p ∷ l) (joined-with_unit ps))

-- paths through one of two parts
pub behind-joined-append : (a : List ℕ) (ps qs rs : List (List ℕ)) → behind a (joined (ps ++ qs) rs) ≡ behind a (joined ps rs) ++ behind a (joined qs rs)
behind-joined-append a ps qs rs = ap (behind a) (joined-append ps qs rs) ∙ map-append (λ q. a ++ q) (joined ps rs) (joined qs rs)
