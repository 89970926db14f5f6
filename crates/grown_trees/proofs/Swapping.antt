-- Names are exchanged so that each variable of a list gets the name of its partner.
use Rattle.std.proofs.Common.{◌≡◌, ℕ, List, [], ◌∷◌, Bool, true, false, cond, Contains, map, refl, sym, ap, subst, ◌∙◌, inl, inr, ◌⊎◌}
use Rattle.std.specs.List.{AllByRecursion}
use Rattle.hol_terms.specs.Terms.{Variable}
use Rattle.hol_terms.specs.Computed.{same_variable}
use Rattle.hol_terms.proofs.Same.{same_variable_only, same_variable_refl}
use Rattle.dependency.proofs.Elements.{Contains-first, Contains-later, first_or_later, none_there, Contains-image}
use Rattle.grown_trees.proofs.Counted.{IsOnce}
use Rattle.grown_trees.proofs.Renaming.{NewNames, renamed_variable}
use Rattle.grown_trees.proofs.Exchanging.{Exchange, variable_forth}

-- two variables

-- the name of each of two variables is given to the other
abbrev swap : Variable → Variable → NewNames
swap v w n s = cond (same_variable v (n, s)) w.0 (cond (same_variable w (n, s)) v.0 n)

abbrev IsSwapped : Variable → Variable → Variable → Type 0
IsSwapped v w z = (v ≡ z) ⊎ ((w ≡ z) ⊎ ((v ≡ z → ⊥) × (w ≡ z → ⊥)))

is_swapped : (v w z : Variable) → IsSwapped v w z
is_swapped v w z = by_tests (same_variable v z) (same_variable w z) refl refl
  where
    by_tests : (b c : Bool) → same_variable v z ≡ b → same_variable w z ≡ c → IsSwapped v w z
    by_tests true c e f = inl (same_variable_only v z e)
    by_tests false true e f = inr (inl (same_variable_only w z f))
    by_tests false false e f = inr (inr (
      (λ same. let found : same_variable v z ≡ true = ap (same_variable v) (sym same) ∙ same_variable_refl v in cc),
      (λ same. let found : same_variable w z ≡ true = ap (same_variable w) (sym same) ∙ same_variable_refl w in cc),
    ))

swap_first : (v w : Variable) → v.1 ≡ w.1 → renamed_variable (swap v w) v ≡ w
swap_first v w ty = let name : swap v w v.0 v.1 ≡ w.0 = ap (λ (b : Bool). cond b w.0 (cond (same_variable w v) v.0 v.0)) (same_variable_refl v) in λ i. (name i, ty i)

test_false : (v z : Variable) → (v ≡ z → ⊥) → same_variable v z ≡ false
test_false v z other = go (same_variable v z) refl
  where
    go : (b : Bool) → same_variable v z ≡ b → same_variable v z ≡ false
    go true e = absurd (other (same_variable_only v z e))
    go false e = e

swap_other : (v w z : Variable) → (v ≡ z → ⊥) → (w ≡ z → ⊥) → renamed_variable (swap v w) z ≡ z
swap_other v w z f g =
    let name : swap v w z.0 z.1 ≡ z.0 = ap (λ (b : Bool). cond b w.0 (cond (same_variable w z) v.0 z.0)) (test_false v z f) ∙ ap (λ (b : Bool). cond b v.0 z.0) (test_false w z g) in
    λ i. (name i, z.1)

swap_second : (v w : Variable) → v.1 ≡ w.1 → renamed_variable (swap v w) w ≡ v
swap_second v w ty = go (same_variable v w) refl
  where
    go : (b : Bool) → same_variable v w ≡ b → renamed_variable (swap v w) w ≡ v
    go true e =
        let name : swap v w w.0 w.1 ≡ w.0 = ap (λ (b : Bool). cond b w.0 (cond (same_variable w w) v.0 w.0)) e in
        let whole : renamed_variable (swap v w) w ≡ w = λ i. (name i, w.1) in
        whole ∙ sym (same_variable_only v w e)
    go false e =
        let name : swap v w w.0 w.1 ≡ v.0 = ap (λ (b : Bool). cond b w.0 (cond (same_variable w w) v.0 w.0)) e ∙ ap (λ (b : Bool). cond b v.0 w.0) (same_variable_refl w) in
        λ i. (name i, sym ty i)

swap_twice : (v w z : Variable) → v.1 ≡ w.1 → renamed_variable (swap v w) (renamed_variable (swap v w) z) ≡ z
swap_twice v w z ty = go (is_swapped v w z)
  where
    go : IsSwapped v w z → renamed_variable (swap v w) (renamed_variable (swap v w) z) ≡ z
    go (inl e) =
        let Q : Variable → Type 0 = λ z. renamed_variable (swap v w) (renamed_variable (swap v w) z) ≡ z in
        subst Q e (ap (renamed_variable (swap v w)) (swap_first v w ty) ∙ swap_second v w ty)
    go (inr (inl e)) =
        let Q : Variable → Type 0 = λ z. renamed_variable (swap v w) (renamed_variable (swap v w) z) ≡ z in
        subst Q e (ap (renamed_variable (swap v w)) (swap_second v w ty) ∙ swap_first v w ty)
    go (inr (inr h)) = ap (renamed_variable (swap v w)) (swap_other v w z h.0 h.1) ∙ swap_other v w z h.0 h.1

-- exchanges

-- and then two variables are swapped
abbrev then_swapped : Exchange → (v w : Variable) → v.1 ≡ w.1 → Exchange
then_swapped e v w ty = record {
  to = λ n s. swap v w (e.to n s) s;
  from = λ n s. e.from (swap v w n s) s;
  forth = λ n s.
      let twice : swap v w (swap v w (e.to n s) s) s ≡ e.to n s = ap (λ (z : Variable). z.0) (swap_twice v w (e.to n s, s) ty) in
      ap (λ (m : List ℕ). e.from m s) twice ∙ e.forth n s;
  back = λ n s. ap (λ (m : List ℕ). swap v w m s) (e.back (swap v w n s) s) ∙ ap (λ (z : Variable). z.0) (swap_twice v w (n, s) ty);
}

one_name : (e : Exchange) (v w : Variable) → renamed_variable e.to v ≡ renamed_variable e.to w → v ≡ w
one_name e v w h = sym (variable_forth e v) ∙ ap (renamed_variable e.from) h ∙ variable_forth e w

-- lists

abbrev pub HaveOneType : Variable × Variable → Type 0
HaveOneType q = q.0.1 ≡ q.1.1

abbrev pub left_one : Variable × Variable → Variable
left_one q = q.0

abbrev pub right_one : Variable × Variable → Variable
right_one q = q.1

-- an exchange that sends the left one of each pair to the right one, and leaves what is in no pair
pub record Exchanged (qs : List (Variable × Variable)) : Type 0 where
  pub exchange : Exchange
  pub sends : (q : Variable × Variable) → Contains qs q → renamed_variable exchange.to q.0 ≡ q.1
  pub keeps : (z : Variable) → (Contains (map left_one qs) z → ⊥) → (Contains (map right_one qs) z → ⊥) → renamed_variable exchange.to z ≡ z

pub exchange_for : (qs : List (Variable × Variable)) → AllByRecursion HaveOneType qs → IsOnce (map left_one qs) → IsOnce (map right_one qs) → Exchanged qs
exchange_for [] types left right = record {
  exchange = record { to = λ n s. n; from = λ n s. n; forth = λ n s. refl; back = λ n s. refl };
  sends = λ q there. absurd (none_there q there);
  keeps = λ z f g. refl;
}
exchange_for (p ∷ qs) types left right = go (exchange_for qs types.1 left.1 right.1)
  where
    go : Exchanged qs → Exchanged (p ∷ qs)
    go rest =
        let v : Variable = p.0 in
        let w : Variable = p.1 in
        let y : Variable = renamed_variable rest.exchange.to v in
        record {
          exchange = then_swapped rest.exchange y w types.0;
          sends = λ q there. elim (first_or_later p qs q there) [
            | inl same ↦ (let Q : Variable × Variable → Type 0 = λ q. renamed_variable (swap y w) (renamed_variable rest.exchange.to q.0) ≡ q.1 in subst Q same (swap_first y w types.0))
            | inr later ↦ (ap (renamed_variable (swap y w)) (rest.sends q later)
                ∙ swap_other y w q.1
                (λ same. left.0 (subst (Contains (map left_one qs)) (one_name rest.exchange q.0 v (rest.sends q later ∙ sym same)) (Contains-image left_one qs q later)))
                (λ same. right.0 (subst (Contains (map right_one qs)) (sym same) (Contains-image right_one qs q later))))
          ];
          keeps = λ z f g.
              let kept : renamed_variable rest.exchange.to z ≡ z =
              rest.keeps z (λ there. f (Contains-later v (map left_one qs) z there)) (λ there. g (Contains-later w (map right_one qs) z there)) in
              ap (renamed_variable (swap y w)) kept
              ∙ swap_other y w z
              (λ same. f (subst (Contains (v ∷ map left_one qs)) (one_name rest.exchange v z (same ∙ sym kept)) (Contains-first v (map left_one qs))))
              (λ same. g (subst (Contains (w ∷ map right_one qs)) same (Contains-first w (map right_one qs))));
        }
