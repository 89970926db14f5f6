-- What the lines that were judged say of the whole outline.
use Rattle.std.proofs.Common.{◌≡◌, ◌≢◌, ℕ, zero, suc, ◌+◌, ◌-◌, ◌<◌, ◌≤◌, List, [], ◌∷◌, ◌++◌, length, get_or, take, drop, Some, None, refl, sym, ◌∙◌, ap, subst, arith, length-append}
use Rattle.std.specs.Prelude.{All, slice_get}
use Rattle.std.proofs.Math.Seq.{get_or-append_seam}
use Rattle.std.proofs.lemmas.List.{take_all}
use Rattle.std.proofs.lemmas.List.Elements.{All-get_or, All-more, All-weaker}
use Rattle.std.proofs.lemmas.Option.{slice_get-get_or}
use Rattle.hol_terms.specs.Terms.{Term}
use Rattle.nd_rules.specs.Lines.{planned, DeductionLine}
use Rattle.nd_rules.specs.Outlines.{IsOutline, IsDerivation}
use Rattle.nd_rules.specs.Rules.{IsJustified}
use Rattle.nd_rules.proofs.Refusals.{refusal_excludes}
use Rattle.nd_check.specs.Verifying.{IsFinished, IsLast, IsConclusion, IsLineFault, IsFirstLineFault, IsOpenAt, IsFirstFault}
use Rattle.nd_check.specs.declared.verifying.VerifyFault.{VerifyFault}
use Rattle.nd_check.specs.declared.verifying.VerifyFault.TheVariants.{Memory, BadLine, Unfinished, NotClosed}

-- a list at one of its items
split_at : (xs : List DeductionLine) (i : ℕ) (x : DeductionLine) → slice_get xs i ≡ Some x → xs ≡ take i xs ++ x ∷ drop (suc i) xs
split_at [] i x e = cc
split_at (y ∷ xs) zero x e = let here : y ≡ x = cc in ap (λ z. z ∷ xs) here
split_at (y ∷ xs) (suc i) x e = ap (λ zs. y ∷ zs) (split_at xs i x e)

within_list : (xs : List DeductionLine) (i : ℕ) (x : DeductionLine) → slice_get xs i ≡ Some x → i < length xs
within_list [] i x e = cc
within_list (y ∷ xs) zero x e = omega arith
within_list (y ∷ xs) (suc i) x e = let rest : i < length xs = within_list xs i x e in omega (arith, rest)

pub last_split : (xs : List DeductionLine) (i : ℕ) (x : DeductionLine) → suc i ≡ length xs → slice_get xs i ≡ Some x → IsLast xs x
last_split [] i x n e = cc
last_split (y ∷ []) zero x n e = let here : y ≡ x = cc in ([], ap (λ z. z ∷ []) here)
last_split (y ∷ []) (suc i) x n e = cc
last_split (y ∷ z ∷ xs) zero x n e = absurd (omega (arith, n))
last_split (y ∷ z ∷ xs) (suc i) x n e = let rest = last_split (z ∷ xs) i x (omega (arith, n)) e in (y ∷ rest.0, ap (λ zs. y ∷ zs) rest.1)

-- a list has one last item
last_one : (xs ys : List DeductionLine) (x y : DeductionLine) → xs ++ x ∷ [] ≡ ys ++ y ∷ [] → x ≡ y
last_one [] [] x y e = cc
last_one [] (b ∷ []) x y e = cc
last_one [] (b ∷ c ∷ ys) x y e = cc
last_one (a ∷ []) [] x y e = cc
last_one (a ∷ c ∷ xs) [] x y e = cc
last_one (a ∷ xs) (b ∷ ys) x y e = let rest : xs ++ x ∷ [] ≡ ys ++ y ∷ [] = cc in last_one xs ys x y rest

pub one_more : (lines : List DeductionLine) (i : ℕ) (l : DeductionLine) → slice_get lines i ≡ Some l → All (IsFinished lines) (take i lines) → IsFinished lines l → All (IsFinished lines) (take (i + 1) lines)
one_more lines i l e before here =
    let within : i < length lines = within_list lines i l e in
    let read : slice_get lines i ≡ Some (get_or lines i l) = slice_get-get_or lines i l within in
    let same : l ≡ get_or lines i l = cc in
    All-more (IsFinished lines) lines i l within before (subst (IsFinished lines) same here)

pub all_finished : (lines : List DeductionLine) (i : ℕ) → length lines ≤ i → All (IsFinished lines) (take i lines) → All (IsFinished lines) lines
all_finished lines i done h = subst (All (IsFinished lines)) (take_all i lines done) h

pub fault_at : (lines : List DeductionLine) (i : ℕ) (l : DeductionLine) (e : VerifyFault) → slice_get lines i ≡ Some l → All (IsFinished lines) (take i lines) → IsLineFault lines l e → IsFirstFault lines e
fault_at lines i l Memory read before h = tt
fault_at lines i l (BadLine n fault) read before h = record { before = take i lines; line = l; after = drop (suc i) lines; split = split_at lines i l read; finished = before; fault = h }
fault_at lines i l (Unfinished n) read before h = record { before = take i lines; line = l; after = drop (suc i) lines; split = split_at lines i l read; finished = before; fault = h }
fault_at lines i l (NotClosed n) read before h = absurd h

pub open_at : (lines : List DeductionLine) (i : ℕ) (l : DeductionLine) → suc i ≡ length lines → slice_get lines i ≡ Some l → All (IsFinished lines) lines → 0 < length l.hypotheses → IsOpenAt lines l.number
open_at lines i l n read finished some = record { finished = finished; line = l; last = last_split lines i l n read; number = refl; open_line = λ none. go l.hypotheses some none }
  where
    go : (ns : List ℕ) → 0 < length ns → ns ≡ [] → ⊥
    go [] lt e = omega (arith, lt)
    go (m ∷ ns) lt e = cc

-- what holds of all lines holds of one at a seam
at_seam : (P : DeductionLine → Type 0) (before after : List DeductionLine) (l : DeductionLine) → All P (before ++ l ∷ after) → P l
at_seam P before after l h =
    let sum : length (before ++ l ∷ after) ≡ length before + suc (length after) = length-append before (l ∷ after) in
    let within : length before < length (before ++ l ∷ after) = omega (arith, sum) in
    subst P (get_or-append_seam before l after l) (All-get_or P (before ++ l ∷ after) (length before) l within h)

-- a fault excludes that the lines are a derivation
line_fault_excludes : (lines : List DeductionLine) (l : DeductionLine) (e : VerifyFault) → e ≢ Memory → IsLineFault lines l e → IsFinished lines l → ⊥
line_fault_excludes lines l Memory other h done = other refl
line_fault_excludes lines l (BadLine n fault) other h done = refusal_excludes lines l fault h.3 h.2 done.0
line_fault_excludes lines l (Unfinished n) other h done = done.1 h.1
line_fault_excludes lines l (NotClosed n) other h done = h

derivation_finished : (lines : List DeductionLine) (formula : Term) (before after : List DeductionLine) (l : DeductionLine) → lines ≡ before ++ l ∷ after → IsDerivation lines formula → IsFinished lines l
derivation_finished lines formula before after l split d =
    (at_seam (IsJustified lines) before after l (subst (All (IsJustified lines)) split d.justified), at_seam (λ (m : DeductionLine). m.why ≢ planned) before after l (subst (All (λ (m : DeductionLine). m.why ≢ planned)) split d.finished))

first_excludes : (lines : List DeductionLine) (e : VerifyFault) (formula : Term) → e ≢ Memory → IsFirstLineFault lines e → IsDerivation lines formula → ⊥
first_excludes lines e formula other h d = line_fault_excludes lines h.line e other h.fault (derivation_finished lines formula h.before h.after h.line h.split d)

pub fault_excludes : (lines : List DeductionLine) (e : VerifyFault) → IsFirstFault lines e → e ≢ Memory → (formula : Term) → IsDerivation lines formula → ⊥
fault_excludes lines Memory h other formula d = other refl
fault_excludes lines (BadLine n fault) h other formula d = first_excludes lines (BadLine n fault) formula other h d
fault_excludes lines (Unfinished n) h other formula d = first_excludes lines (Unfinished n) formula other h d
fault_excludes lines (NotClosed n) h other formula d =
    let same : h.line ≡ d.last = last_one h.last.0 d.before h.line d.last (sym h.last.1 ∙ d.ends) in
    h.open_line (ap (λ (l : DeductionLine). l.hypotheses) same ∙ d.closed)

-- lines that are all finished, the last without hypotheses
pub derives : (lines : List DeductionLine) (i : ℕ) (l : DeductionLine) → IsOutline lines → All (IsFinished lines) lines → suc i ≡ length lines → slice_get lines i ≡ Some l → length l.hypotheses ≤ 0
    → (formula : Term) → IsConclusion lines formula → IsDerivation lines formula
derives lines i l outline finished n read closed formula h =
    let last = last_split lines i l n read in
    let same : l ≡ h.0 = last_one last.0 h.1.0 l h.0 (sym last.1 ∙ h.1.1) in
    record {
      outline = outline;
      justified = All-weaker (IsFinished lines) (IsJustified lines) (λ (m : DeductionLine) both. both.0) lines finished;
      finished = All-weaker (IsFinished lines) (λ (m : DeductionLine). m.why ≢ planned) (λ (m : DeductionLine) both. both.1) lines finished;
      before = last.0;
      last = l;
      ends = last.1;
      proves = ap (λ (m : DeductionLine). m.formula) same ∙ h.2;
      closed = go l.hypotheses closed;
    }
  where
    go : (ns : List ℕ) → length ns ≤ 0 → ns ≡ []
    go [] le = refl
    go (m ∷ ns) le = absurd (omega (arith, le))

-- the last place of lines that there are
pub last_place : (lines : List DeductionLine) (n : ℕ) → 0 < length lines → n ≡ length lines → suc (n - 1) ≡ length lines
last_place lines n some count = omega (arith, some, count)
