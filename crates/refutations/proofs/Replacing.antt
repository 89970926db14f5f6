-- In a case, one node or term that is open may be replaced by what comes of it.
use Rattle.std.proofs.Common.{◌≡◌, ◌≤◌, ℕ, ◌+◌, List, [], ◌∷◌, ◌++◌, false, arith}
use Rattle.std.specs.Prelude.{All, Contains}
use Rattle.std.specs.List.{AllByRecursion}
use Rattle.hol_terms.specs.Terms.{Term}
use Rattle.expansion_tree.specs.Standing.{Selection, quantified, expanding}
use Rattle.vertical_paths.specs.Matings.{is_closed}
use Rattle.exp_check.specs.Accepted.{AcceptedProof}
use Rattle.nd_rules.specs.Lines.{DeductionLine}
use Rattle.nd_steps.specs.Deductions.{IsDeduction, Proves, AreAssumptions, Grows}
use Rattle.nd_steps.proofs.Growing.{proves_stays, proves_from_more}
use Rattle.refutations.specs.Opens.{said, Open, at_node, at_term, node_of, inside, times_inside, HasLine}
use Rattle.refutations.specs.Covering.{IsCovered}
use Rattle.refutations.specs.Cases.{leaves_of, HoldsLeaf, IsUnassumed, IsUnsaid, IsNew, WaitsFrom, IsCase}
use Rattle.refutations.proofs.Saying.{said_before}

-- lists

pub all_joined : {A : Type 0} (P : A → Type 0) (xs ys : List A) → AllByRecursion P xs → AllByRecursion P ys → AllByRecursion P (xs ++ ys)
all_joined P [] ys h k = k
all_joined P (x ∷ xs) ys h k = (h.0, all_joined P xs ys h.1 k)

pub all_in_front : {A : Type 0} (P : A → Type 0) (xs ys : List A) → AllByRecursion P (xs ++ ys) → AllByRecursion P xs
all_in_front P [] ys h = tt
all_in_front P (x ∷ xs) ys h = (h.0, all_in_front P xs ys h.1)

pub all_behind : {A : Type 0} (P : A → Type 0) (xs ys : List A) → AllByRecursion P (xs ++ ys) → AllByRecursion P ys
all_behind P [] ys h = h
all_behind P (x ∷ xs) ys h = all_behind P xs ys h.1

pub all_weaker : {A : Type 0} (P Q : A → Type 0) → ((x : A) → P x → Q x) → (xs : List A) → AllByRecursion P xs → AllByRecursion Q xs
all_weaker P Q f [] h = tt
all_weaker P Q f (x ∷ xs) h = (f x h.0, all_weaker P Q f xs h.1)

-- from two facts of each element
pub all_weaker_by : {A : Type 0} (R P Q : A → Type 0) → ((x : A) → R x → P x → Q x) → (xs : List A) → AllByRecursion R xs → AllByRecursion P xs → AllByRecursion Q xs
all_weaker_by R P Q f [] r h = tt
all_weaker_by R P Q f (x ∷ xs) r h = (f x r.0 h.0, all_weaker_by R P Q f xs r.1 h.1)

pub all_moved : {A : Type 0} (P : A → Type 0) (xs ys zs : List A) → AllByRecursion P (xs ++ ys ++ zs) → AllByRecursion P (ys ++ xs ++ zs)
all_moved P xs ys zs h =
    let front = all_in_front P (xs ++ ys) zs h in
    all_joined P (ys ++ xs) zs (all_joined P ys xs (all_behind P xs ys front) (all_in_front P xs ys front)) (all_behind P (xs ++ ys) zs h)

pub times_inside-append : (k : ℕ) (xs ys : List Open) → times_inside k (xs ++ ys) ≡ times_inside k xs + times_inside k ys
times_inside-append k [] ys = omega arith
times_inside-append k (x ∷ xs) ys = let rest = times_inside-append k xs ys in omega (arith, rest)

times_inside-moved : (k : ℕ) (xs ys zs : List Open) → times_inside k (ys ++ xs ++ zs) ≡ times_inside k (xs ++ ys ++ zs)
times_inside-moved k xs ys zs =
    let one = times_inside-append k (ys ++ xs) zs in
    let two = times_inside-append k ys xs in
    let three = times_inside-append k (xs ++ ys) zs in
    let four = times_inside-append k xs ys in
    omega (arith, one, two, three, four)

-- what was proved is proved as further lines and hypotheses come
pub proves_on : (old new : List DeductionLine) (n : ℕ) (hyps more : List ℕ) (a : Term) → Grows old new → All (Contains more) hyps → Proves old n hyps a → Proves new n more a
proves_on old new n hyps more a grown wider p = proves_from_more new n hyps more a wider (proves_stays old new n hyps a grown p)

module _ (g : AcceptedProof) where
  -- the line of what is open proves something
  pub line_proves : (lines : List DeductionLine) (hyps : List ℕ) (o : Open) → HasLine g lines hyps o → (a : Term) × Proves lines (node_of o).line hyps a
  line_proves lines hyps (at_node n) h = (said n.positive h.formula, h.proves)
  line_proves lines hyps (at_term u n) h = (said n.positive (quantified (expanding n.positive h.ty) h.ty h.body), h.proves)

  pub has_line_on : (old new : List DeductionLine) (hyps more : List ℕ) → Grows old new → All (Contains more) hyps → (o : Open) → HasLine g old hyps o → HasLine g new more o
  has_line_on old new hyps more grown wider (at_node n) h =
      record { formula = h.formula; standing = h.standing; stands_at = h.stands_at; proves = proves_on old new n.line hyps more (said n.positive h.formula) grown wider h.proves }
  has_line_on old new hyps more grown wider (at_term u n) h = record {
    ty = h.ty;
    body = h.body;
    lower = h.lower;
    standing = h.standing;
    stands_at = h.stands_at;
    normal = h.normal;
    long = h.long;
    typed = h.typed;
    occurs = h.occurs;
    proves = proves_on old new n.line hyps more (said n.positive (quantified (expanding n.positive h.ty) h.ty h.body)) grown wider h.proves;
  }

  pub holds_leaf_on : (old new : List DeductionLine) (hyps more : List ℕ) → Grows old new → All (Contains more) hyps → (e : ℕ × ℕ) → HoldsLeaf g old hyps e → HoldsLeaf g new more e
  holds_leaf_on old new hyps more grown wider e h =
      record { positive = h.positive; formula = h.formula; leaf = h.leaf; proves = proves_on old new e.1 hyps more (said h.positive h.formula) grown wider h.proves }

  pub unsaid_on : (old new : List DeductionLine) (hyps : List ℕ) (s : Selection) → Grows old new → (o : Open) → HasLine g old hyps o → IsUnsaid old s o → IsUnsaid new s o
  unsaid_on old new hyps s grown o h unsaid a says used =
      let p = line_proves old hyps o h in
      unsaid a (said_before old new (node_of o).line hyps p.0 a grown p.1 says) used

  -- what is covered by the lines later is so before
  pub covered_back : (old new : List DeductionLine) (hyps found : List ℕ) → Grows old new → (o : Open) → HasLine g old hyps o → IsCovered new found o → IsCovered old found o
  covered_back old new hyps found grown (at_node n) h c = record {
    formula = c.formula;
    standing = c.standing;
    stands = c.stands;
    says = said_before old new n.line hyps (said n.positive h.formula) (said n.positive c.formula) grown h.proves c.says;
    covers = c.covers;
  }
  covered_back old new hyps found grown (at_term u n) h c = record {
    ty = c.ty;
    body = c.body;
    lower = c.lower;
    standing = c.standing;
    normal = c.normal;
    stands = c.stands;
    says = said_before old new n.line hyps (said n.positive (quantified (expanding n.positive h.ty) h.ty h.body)) (said n.positive (quantified (expanding n.positive c.ty) c.ty c.body)) grown h.proves c.says;
    covers = c.covers;
  }

  -- What is open may be put in another order.
  pub moved : (lines : List DeductionLine) (hyps : List ℕ) (xs ys zs : List Open) (held : List (ℕ × ℕ)) (done : ℕ) → IsCase g lines hyps (xs ++ ys ++ zs) held done → IsCase g lines hyps (ys ++ xs ++ zs) held done
  moved lines hyps xs ys zs held done case = record {
    deduction = case.deduction;
    assumptions = case.assumptions;
    lines_are = all_moved (HasLine g lines hyps) xs ys zs case.lines_are;
    held_are = case.held_are;
    unmated = case.unmated;
    once = λ k. let same = times_inside-moved k xs ys zs in let before = case.once k in omega (arith, same, before);
    fresh = λ s among there.
        let same = times_inside-moved s.node xs ys zs in
        let before : 1 ≤ times_inside s.node (xs ++ ys ++ zs) = omega (arith, same, there) in
        let new = case.fresh s among before in
        record { unassumed = new.unassumed; unsaid = all_moved (IsUnsaid lines s) xs ys zs new.unsaid };
    waiting = all_moved (WaitsFrom g.order done) xs ys zs case.waiting;
    spanned = λ found wide covered. case.spanned found wide (all_moved (IsCovered lines found) ys xs zs covered);
  }

  -- Of what is open, one is replaced by others, and leaves may come to those that are held.
  pub replaced : (lines lines' : List DeductionLine) (hyps hyps' : List ℕ) (x : Open) (ys rest : List Open) (held held' : List (ℕ × ℕ)) (done : ℕ)
      → IsCase g lines hyps (x ∷ rest) held done → Grows lines lines' → IsDeduction lines' → AreAssumptions lines' hyps' → All (Contains hyps') hyps
      → AllByRecursion (HasLine g lines' hyps') ys → AllByRecursion (HoldsLeaf g lines' hyps') held' → is_closed g.mating (leaves_of held') ≡ false → ((k : ℕ) → times_inside k ys ≤ inside k x)
      → ((s : Selection) → Contains g.fitted.selection_list s → 1 ≤ times_inside s.node (ys ++ rest) → IsNew lines hyps (x ∷ rest) s → IsUnassumed lines' hyps' s × AllByRecursion (IsUnsaid lines' s) ys)
      → AllByRecursion (WaitsFrom g.order done) ys
      → ((found : List ℕ) → All (Contains found) (leaves_of held') → All (Contains found) (leaves_of held))
      → ((found : List ℕ) → All (Contains found) (leaves_of held') → AllByRecursion (IsCovered lines' found) ys → IsCovered lines' found x)
      → IsCase g lines' hyps' (ys ++ rest) held' done
  replaced lines lines' hyps hyps' x ys rest held held' done case grown deduction assumptions wider are held_are unmated within new waiting all_held covered =
      let more : (k : ℕ) → times_inside k (ys ++ rest) ≤ times_inside k (x ∷ rest) = λ k. let parts = times_inside-append k ys rest in let part = within k in omega (arith, parts, part) in
      record {
        deduction = deduction;
        assumptions = assumptions;
        lines_are = all_joined (HasLine g lines' hyps') ys rest are (all_weaker (HasLine g lines hyps) (HasLine g lines' hyps') (has_line_on lines lines' hyps hyps' grown wider) rest case.lines_are.1);
        held_are = held_are;
        unmated = unmated;
        once = λ k. let below = more k in let before = case.once k in omega (arith, below, before);
        fresh = λ s among there.
            let below = more s.node in
            let before = case.fresh s among (omega (arith, below, there)) in
            let now = new s among there before in
            record {
              unassumed = now.0;
              unsaid = all_joined (IsUnsaid lines' s) ys rest now.1 (all_weaker_by (HasLine g lines hyps) (IsUnsaid lines s) (IsUnsaid lines' s) (unsaid_on lines lines' hyps s grown) rest case.lines_are.1 before.unsaid.1);
            };
        waiting = all_joined (WaitsFrom g.order done) ys rest waiting case.waiting.1;
        spanned = λ found wide all.
            let back = covered_back lines lines' hyps found grown in
            let first = covered found wide (all_in_front (IsCovered lines' found) ys rest all) in
            let others = all_weaker_by (HasLine g lines hyps) (IsCovered lines' found) (IsCovered lines found) back rest case.lines_are.1 (all_behind (IsCovered lines' found) ys rest all) in
            case.spanned found (all_held found wide) (back x case.lines_are.0 first, others);
      }
