-- A leaf is held, or closes the case with its partner, and a constant is judged.
use Rattle.std.proofs.Common.{◌≡◌, ◌<◌, ℕ, zero, suc, ◌+◌, ◌-◌, ◌==◌, List, [], ◌∷◌, ◌++◌, length, map, Bool, true, false, not, ◌||◌, Some, None, Vec, cond, refl, sym, ◌∙◌, subst, ap, ap₂, arith, inl, inr, ◌⊎◌, slice_get, get_or}
use Rattle.std.specs.Prelude.{All, Contains}
use mathlib.Core.Bool.{beq}
use Rattle.std.specs.List.{AllByRecursion}
use Rattle.std.specs.declared.alloc.Global.{Global}
use Rattle.std.proofs.lemmas.Bool.{eqb-true, ne_eqb}
use Rattle.std.proofs.lemmas.List.Elements.{All-from_recursion, recursion_from_All, All-contains, All-contains_itself, All-weaker, Contains-append_cases}
use Rattle.std.proofs.lemmas.List.Folds.{list_any_none}
use Rattle.hol_terms.specs.Terms.{Term, constant, falsehood}
use Rattle.hol_terms.specs.Truth.{Holds, Follows}
use Rattle.expansion_tree.specs.Standing.{truth_value, leaves}
use Rattle.expansion_tree.specs.Trees.{leaf_node, constant_node, plain_tree}
use Rattle.expansion_tree.proofs.Excluding.{tree-unique}
use Rattle.vertical_paths.specs.Matings.{IsGood, leaf_at, is_on, is_closed}
use Rattle.vertical_paths.specs.Partners.{partners, partners_in, ArePartnerRows}
use Rattle.vertical_paths.proofs.Closing.{is_closed-push}
use Rattle.vertical_paths.proofs.Rows.{row_is}
use Rattle.dependency.proofs.Elements.{Contains-first, Contains-later, first_or_later, none_there}
use Rattle.exp_check.specs.Accepted.{AcceptedProof, IsAccepted}
use Rattle.nd_rules.specs.Lines.{DeductionLine}
use Rattle.nd_steps.specs.Deductions.{Proves, Derives}
use Rattle.nd_steps.specs.Premises.{not_so}
use Rattle.nd_steps.proofs.Growing.{assumptions_stay}
use Rattle.nd_steps.proofs.Deriving.{by_opposites}
use Rattle.refutations.specs.declared.nodes.Node.{Node}
use Rattle.refutations.specs.declared.nodes.Front.{Front}
use Rattle.refutations.specs.declared.cases.Case.{Case}
use Rattle.refutations.specs.declared.duties.Duty.{Duty}
use Rattle.refutations.specs.Opens.{said, Says, OpenNode, Open, plain_node, open_node, all_unwritten, HasNodeLine}
use Rattle.refutations.specs.Cases.{leaves_of, IsCase}
use Rattle.refutations.specs.Fronts.{terms_of}
use Rattle.refutations.specs.Stacks.{stacked, IsStack}
use Rattle.refutations.specs.States.{IsSplit, IsState, IsSpread, opens_of}
use Rattle.refutations.proofs.Assuming.{item_of}
use Rattle.refutations.proofs.Descending.{leaf_there, known_node, node_below}
use Rattle.refutations.proofs.Saying.{proves_says, said_read}
use Rattle.refutations.proofs.Spreading.{goes_on_freely, closed_by}
use Rattle.refutations.proofs.Stepping.{held_step, kept_step, mated_opposed, constant_step}

-- What follows by assignments

-- that a formula is true, and that it is false
pub opposites : (p : Bool) (a : Term) → Follows (said p a ∷ said (not p) a ∷ []) (constant falsehood)
opposites true a = by_opposites a
opposites false a = λ atoms h. let given = recursion_from_All (Holds atoms) (a ∷ not_so a ∷ []) h in given.1.0 given.0

-- what a line says of a constant that is as its polarity wants it
pub wanted_constant : (p : Bool) → Follows (said p (truth_value p) ∷ []) (constant falsehood)
wanted_constant true = λ atoms h. (recursion_from_All (Holds atoms) (said true (truth_value true) ∷ []) h).0 tt
wanted_constant false = λ atoms h. (recursion_from_All (Holds atoms) (said false (truth_value false) ∷ []) h).0

-- whether a constant is as its polarity wants it
pub unwanted : (v p : Bool) → not (beq v p) ≡ true → v ≡ not p
unwanted true true h = cc
unwanted true false h = refl
unwanted false true h = refl
unwanted false false h = cc

pub wanted : (v p : Bool) → not (beq v p) ≡ false → v ≡ p
wanted true true h = refl
wanted true false h = cc
wanted false true h = cc
wanted false false h = refl

-- Partners

-- each pair of an accepted proof is good
pub accepted_good : (g : AcceptedProof) → IsAccepted g → All (IsGood g.fitted.leaf_list) g.mating
accepted_good g accepted =
    let same : accepted.proof.0 ≡ accepted.fits.0 = tree-unique g.fitted.formula g.fitted.tree accepted.proof.0 accepted.fits.0 accepted.proof.1.is_tree accepted.fits.1.is_tree in
    let leaves_are : leaves accepted.proof.0 ≡ g.fitted.leaf_list = ap leaves same ∙ sym accepted.fits.1.leaf_list in
    subst (λ (l : List (Bool × Term)). All (IsGood l) g.mating) leaves_are accepted.proof.1.good

-- what is in a list that has one number, or none
one_if : (b : Bool) (x y : ℕ) → Contains (cond b (x ∷ []) []) y → (b ≡ true) × (x ≡ y)
one_if true x y there = elim (first_or_later x [] y there) [ inl same ↦ (refl, same) | inr none ↦ absurd (none_there y none) ]
one_if false x y there = absurd (none_there y there)

-- a pair joins a leaf with its partners
pub partner_paired : (pairs : List (ℕ × ℕ)) (leaf partner : ℕ) → Contains (partners pairs leaf) partner → Contains pairs (leaf, partner) ⊎ Contains pairs (partner, leaf)
partner_paired [] leaf partner there = absurd (none_there partner there)
partner_paired (pair ∷ pairs) leaf partner there = elim (Contains-append_cases (partners_in pair leaf) (partners pairs leaf) partner there) [
  | inl here ↦ elim (Contains-append_cases (cond (pair.0 == leaf) (pair.1 ∷ []) []) (cond (pair.1 == leaf) (pair.0 ∷ []) []) partner here) [
    | inl first ↦
        let both = one_if (pair.0 == leaf) pair.1 partner first in
        let same : pair ≡ (leaf, partner) = ap₂ (λ (x y : ℕ). (x, y)) (eqb-true pair.0 leaf both.0) both.1 in
        inl (subst (Contains (pair ∷ pairs)) same (Contains-first pair pairs))
    | inr second ↦
        let both = one_if (pair.1 == leaf) pair.0 partner second in
        let same : pair ≡ (partner, leaf) = ap₂ (λ (x y : ℕ). (x, y)) both.1 (eqb-true pair.1 leaf both.0) in
        inr (subst (Contains (pair ∷ pairs)) same (Contains-first pair pairs))
  ]
  | inr later ↦ elim (partner_paired pairs leaf partner later) [
    | inl first ↦ inl (Contains-later pair pairs (leaf, partner) first)
    | inr second ↦ inr (Contains-later pair pairs (partner, leaf) second)
  ]
]

not_opposite : (p : Bool) → p ≡ not p → ⊥
not_opposite true e = cc
not_opposite false e = cc

-- a leaf isn't paired with itself
not_with_itself : (leaf_list : List (Bool × Term)) (leaf : ℕ) → IsGood leaf_list (leaf, leaf) → ⊥
not_with_itself leaf_list leaf good =
    let here : Bool × Term = (good.0, good.1) in
    let there : Bool × Term = (not good.0, good.1) in
    not_opposite good.0 (ap (λ (x : Bool × Term). x.0) (item_of here there (sym good.2 ∙ good.3)))

pub not_own_partner : (leaf_list : List (Bool × Term)) (pairs : List (ℕ × ℕ)) (leaf partner : ℕ) → All (IsGood leaf_list) pairs → Contains (partners pairs leaf) partner → (partner ≡ leaf) → ⊥
not_own_partner leaf_list pairs leaf partner good there same =
    let own : Contains (partners pairs leaf) leaf = subst (Contains (partners pairs leaf)) same there in
    elim (partner_paired pairs leaf leaf own) [
      | inl pair ↦ not_with_itself leaf_list leaf (All-contains (IsGood leaf_list) pairs (leaf, leaf) good pair)
      | inr pair ↦ not_with_itself leaf_list leaf (All-contains (IsGood leaf_list) pairs (leaf, leaf) good pair)
    ]

-- a leaf that isn't among them isn't on a path
not_on : (path : List ℕ) (k : ℕ) → (Contains path k → ⊥) → is_on path k ≡ false
not_on [] k none = refl
not_on (x ∷ path) k none =
    let differs : (x == k) ≡ false = ne_eqb x k (λ same. none (subst (Contains (x ∷ path)) same (Contains-first x path))) in
    rw (differs, not_on path k (λ there. none (Contains-later x path k there))) refl

-- leaves that were open are so with a leaf none of whose partners is among them
pub stays_open : (leaf_list : List (Bool × Term)) (pairs : List (ℕ × ℕ)) (path : List ℕ) (leaf : ℕ) → All (IsGood leaf_list) pairs → is_closed pairs path ≡ false
    → AllByRecursion (λ (partner : ℕ). Contains path partner → ⊥) (partners pairs leaf) → is_closed pairs (path ++ leaf ∷ []) ≡ false
stays_open leaf_list pairs path leaf good unmated none =
    let P : ℕ → Type 0 = λ partner. Contains path partner → ⊥ in
    let Q : ℕ → Type 0 = λ partner. ((partner == leaf) || is_on path partner) ≡ false in
    let each : (partner : ℕ) → Contains (partners pairs leaf) partner → Q partner =
    λ partner there.
    let differs : (partner == leaf) ≡ false = ne_eqb partner leaf (λ same. not_own_partner leaf_list pairs leaf partner good there same) in
    let off : is_on path partner ≡ false = not_on path partner (All-contains P (partners pairs leaf) partner (All-from_recursion P (partners pairs leaf) none) there) in
    rw (differs, off) refl in
    is_closed-push pairs path leaf unmated
    ∙ list_any_none (λ partner. (partner == leaf) || is_on path partner) (partners pairs leaf) (All-weaker (Contains (partners pairs leaf)) Q each (partners pairs leaf) (All-contains_itself (partners pairs leaf)))

item_within : {A : Type 0} (xs : List A) (k : ℕ) (x : A) → slice_get xs k ≡ Some x → k < length xs
item_within [] k x there = absurd cc
item_within (y ∷ xs) zero x there = omega arith
item_within (y ∷ xs) (suc k) x there = let rest = item_within xs k x there in omega (arith, rest)

-- a leaf has a number within the list
leaf_within : (leaf_list : List (Bool × Term)) (k : ℕ) (x : Bool × Term) → leaf_at leaf_list (k + 1) ≡ Some x → k + 1 < length leaf_list + 1
leaf_within leaf_list k x there =
    let back : k + 1 - 1 ≡ k = omega arith in
    let item : slice_get leaf_list k ≡ Some x = rw (ne_eqb (k + 1) 0 (λ z. absurd (omega (arith, z))), back) at there in
    let less : k < length leaf_list = item_within leaf_list k x item in
    omega (arith, less)

-- Steps of a case

module _ (g : AcceptedProof) (lines : List DeductionLine) (case : Case) (hyps : List ℕ) (node : Node) (others : List Open) (done : ℕ) (state : IsState g lines case hyps (open_node node ∷ others) done) where
  -- a node that leaves nothing but leaves that are held
  left_with : (next : Case) → next.splits ≡ case.splits → next.fronts ≡ case.fronts → next.duties ≡ case.duties
      → IsCase g lines hyps (others ++ opens_of g.order done case) next.held.entries done → IsSpread g lines case lines next hyps (open_node node) others done None
  left_with next splits fronts duties is_case =
      let opens_are : opens_of g.order done next ≡ opens_of g.order done case =
      ap (λ s. map open_node (stacked s) ++ terms_of g.order done next.fronts.entries) splits ∙ ap (λ m. map open_node (stacked case.splits) ++ terms_of g.order done m.entries) fronts in
      let many = ap (λ (os : List Open). all_unwritten (others ++ os)) opens_are in
      goes_on_freely g lines lines case next hyps others done (all_unwritten (open_node node ∷ others ++ opens_of g.order done case)) (ap (λ (v : Vec Duty Global). v.items) duties)
      record {
        stack = subst (λ s. IsStack s) (sym splits) state.stack;
        splits = subst (λ s. AllByRecursion IsSplit (stacked s)) (sym splits) state.splits;
        keys = subst (λ m. AllByRecursion (λ (entry : ℕ × Front). entry.1.node.place.occurrences ≡ entry.0) m.entries) (sym fronts) state.keys;
        is_case = subst (λ (os : List Open). IsCase g lines hyps (others ++ os) next.held.entries done) (sym opens_are) is_case;
      }
      (omega arith) (omega (arith, many))

  -- a leaf that was held before
  pub leaf_kept : plain_tree node.tree.now ≡ leaf_node → Contains (leaves_of case.held.entries) (node.place.leaves + 1) → IsSpread g lines case lines case hyps (open_node node) others done None
  leaf_kept is there = left_with case refl refl refl (kept_step g lines hyps (plain_node node) (others ++ opens_of g.order done case) case.held.entries done state.is_case is there)

  -- a leaf that is held now
  pub leaf_held : (next : Case) → plain_tree node.tree.now ≡ leaf_node → next.splits ≡ case.splits → next.fronts ≡ case.fronts → next.duties ≡ case.duties
      → next.held.entries ≡ case.held.entries ++ (node.place.leaves + 1, node.line) ∷ [] → is_closed g.mating (leaves_of case.held.entries ++ (node.place.leaves + 1) ∷ []) ≡ false
      → IsSpread g lines case lines next hyps (open_node node) others done None
  leaf_held next is splits fronts duties held unmated =
      left_with next splits fronts duties
      (subst (λ (l : List (ℕ × ℕ)). IsCase g lines hyps (others ++ opens_of g.order done case) l done) (sym held)
      (held_step g lines hyps (plain_node node) (others ++ opens_of g.order done case) case.held.entries done state.is_case is unmated))

  -- a constant that isn't as its polarity wants it
  pub constant_left : (v : Bool) → plain_tree node.tree.now ≡ constant_node → Says lines node.line (said node.positive (truth_value v)) → v ≡ not node.positive
      → IsSpread g lines case lines case hyps (open_node node) others done None
  constant_left v is says unwanted =
      left_with case refl refl refl (constant_step g lines hyps (plain_node node) (others ++ opens_of g.order done case) case.held.entries done state.is_case is v says unwanted)

  -- a line of FALSEHOOD that was derived by one step
  pub closed_with : (new : List DeductionLine) (next : Case) (n : ℕ) (f : Term) → f ≡ constant falsehood → next.duties ≡ case.duties → Derives 1 lines new n hyps f
      → IsSpread g lines case new next hyps (open_node node) others done (Some n)
  closed_with new next n f is duties derived =
      let P : Term → Type 0 = λ t. Proves new n hyps t in
      closed_by lines new case next hyps n (all_unwritten (open_node node ∷ others ++ opens_of g.order done case)) (ap (λ (v : Vec Duty Global). v.items) duties)
      (assumptions_stay lines new hyps derived.grown state.is_case.assumptions) (omega (arith, derived.longer)) (subst P is derived.proves)

  -- its row of partners
  pub has_row : plain_tree node.tree.now ≡ leaf_node → node.place.leaves + 1 < length g.fitted.leaf_list + 1
  has_row is =
      let y : OpenNode = node_below node.positive leaf_node node.line node.place in
      let own : HasNodeLine g lines hyps y = subst (HasNodeLine g lines hyps) (known_node (plain_node node) leaf_node is) state.is_case.lines_are.0 in
      let there = leaf_there g node.positive node.line node.place own.formula own.standing own.stands_at in
      leaf_within g.fitted.leaf_list node.place.leaves (node.positive, own.formula) there

  pub row_partners : (rows : List (Vec ℕ Global)) (leaf : ℕ) (row : Vec ℕ Global) → ArePartnerRows (length g.fitted.leaf_list + 1) g.mating rows
      → plain_tree node.tree.now ≡ leaf_node → leaf ≡ node.place.leaves + 1 → row ≡ get_or rows leaf row → row.items ≡ partners g.mating (node.place.leaves + 1)
  row_partners rows leaf row are is same read =
      let less : leaf < length g.fitted.leaf_list + 1 = let own = has_row is in omega (arith, own, same) in
      row_is (length g.fitted.leaf_list + 1) g.mating rows leaf row are less read ∙ ap (partners g.mating) same

  -- of a leaf and a held partner, one line says that the formula is true, and the other that it is false
  pub partner_opposed : IsAccepted g → plain_tree node.tree.now ≡ leaf_node → (row : List ℕ) (m : ℕ) → row ≡ partners g.mating (node.place.leaves + 1)
      → (partner : ℕ) × Contains row partner × Contains case.held.entries (partner, m) → (p : Bool) × (a : Term) × Proves lines node.line hyps (said p a) × Proves lines m hyps (said (not p) a)
  partner_opposed accepted is row m row_are (partner, among, held) =
      let there : Contains (partners g.mating (node.place.leaves + 1)) partner = subst (λ (ps : List ℕ). Contains ps partner) row_are among in
      mated_opposed g lines hyps (plain_node node) (others ++ opens_of g.order done case) case.held.entries done partner m (accepted_good g accepted) state.is_case is held
      (partner_paired g.mating (node.place.leaves + 1) partner there)

  -- no pair is held with the leaf
  pub unmated_with : IsAccepted g → (row : List ℕ) → row ≡ partners g.mating (node.place.leaves + 1) → AllByRecursion (λ (partner : ℕ). Contains (leaves_of case.held.entries) partner → ⊥) row
      → is_closed g.mating (leaves_of case.held.entries ++ (node.place.leaves + 1) ∷ []) ≡ false
  unmated_with accepted row row_are none =
      stays_open g.fitted.leaf_list g.mating (leaves_of case.held.entries) (node.place.leaves + 1) (accepted_good g accepted) state.is_case.unmated
      (subst (AllByRecursion (λ (partner : ℕ). Contains (leaves_of case.held.entries) partner → ⊥)) row_are none)

  -- the constant that the line speaks of
  pub says_constant : plain_tree node.tree.now ≡ constant_node → (v : Bool) × Proves lines node.line hyps (said node.positive (truth_value v))
  says_constant is =
      let y : OpenNode = node_below node.positive constant_node node.line node.place in
      let own : HasNodeLine g lines hyps y = subst (HasNodeLine g lines hyps) (known_node (plain_node node) constant_node is) state.is_case.lines_are.0 in
      let stands = own.stands_at.stands in
      (stands.0, subst (λ (a : Term). Proves lines node.line hyps (said node.positive a)) stands.1 own.proves)

  -- the line of a constant that is as its polarity wants it
  pub wanted_proves : (v : Bool) → plain_tree node.tree.now ≡ constant_node → Says lines node.line (said node.positive (truth_value v)) → v ≡ node.positive
      → Proves lines node.line hyps (said node.positive (truth_value node.positive))
  wanted_proves v is says same =
      let own = says_constant is in
      let given : Term = said node.positive (truth_value own.0) in
      let one : truth_value own.0 ≡ truth_value v =
      said_read lines node.line node.positive (truth_value v) (truth_value own.0) says (proves_says lines node.line hyps given own.1) in
      subst (λ (a : Term). Proves lines node.line hyps (said node.positive a)) (one ∙ ap truth_value same) own.1
