-- The names that an outline knows, from step to step.
use Rattle.std.proofs.Common.{ℕ, suc, ◌<◌, List, [], ◌∷◌, ◌++◌, Bool, true, false, ◌≡◌, refl, sym, ap, subst, ◌∙◌, length, arith, inl, inr, ◌⊎◌, Some, None, Result, Ok, Err, IfOk, append_assoc, ◌==◌, nat_lt}
use Rattle.std.specs.Prelude.{IsSome, if◌then◌else◌}
use Rattle.std.specs.declared.option.Option.{Option}
use Rattle.std.proofs.lemmas.List.{append-nil}
use Rattle.hol_terms.specs.FreeVariables.{IsFree}
use Rattle.hol_terms.specs.Terms.{SimpleType, Variable}
use Rattle.nd_rules.specs.Lines.{DeductionLine, Justification, line_of}
use Rattle.nd_rules.specs.Outlines.{with_line, with_why}
use Rattle.etps_session.specs.Commands.{number_of, why_of}
use Rattle.etps_session.specs.Replays.{put_at}
use Rattle.etps_session.specs.Tables.{table_line}
use Rattle.etps_session.proofs.Undone.{found_put, taken_there}
use Rattle.etps_script.specs.Known.{AreKnown, IsFreeIn}
use Rattle.etps_script.specs.Names.{AreCollected, AreNamesOf, IsStepAfter}
use Rattle.etps_script.specs.Tallies.{AreAtOneType, AreFreeIn, AreTallied, AreUnshared, GainsFree, IsBeginning}
use Rattle.etps_script.specs.declared.known.KnownNames.{KnownNames}

-- variables at one type only

-- they are those whose names aren't shared
pub unshared_at_one_type : (variables names shared known : List Variable) → AreTallied variables names shared → AreUnshared shared variables known → AreAtOneType variables known
unshared_at_one_type variables names shared known t u = record {
  there = λ m s h. u.there (m, s) h;
  only = λ m s r h k. t.one_type m (u.apart (m, s) h) r s k (u.there (m, s) h);
  all = λ m s h one. u.all (m, s) h (λ shared_name. let two = t.two_types m shared_name in two.4 (one two.0 two.2 ∙ sym (one two.1 two.3)));
}

-- the known ones, where the variables are those of the lines
known_at_one_type : (lines : List DeductionLine) (variables known : List Variable) → AreFreeIn lines variables → AreAtOneType variables known → AreKnown lines known
known_at_one_type lines variables known f k = record {
  free = λ m s h. f.free m s (k.there m s h);
  only = λ m s h r free. k.only m s r h (f.all m r free);
  all = λ m s free one. k.all m s (f.all m s free) (λ r h. one r (f.free m r h));
}

pub names_known : (lines : List DeductionLine) (names : KnownNames) → AreNamesOf lines names → AreKnown lines names.known
names_known lines names n = known_at_one_type lines names.tally.variables names.known n.free n.collected.known

-- beginnings

pub begins_itself : (l : List Variable) → IsBeginning l l
begins_itself l = ([], sym (append-nil l))

pub begins_twice : (first middle last : List Variable) → IsBeginning first middle → IsBeginning middle last → IsBeginning first last
begins_twice first middle last h k =
    (h.0 ++ k.0, k.1 ∙ ap (λ (l : List Variable). l ++ k.0) h.1 ∙ append_assoc first h.0 k.0)

pub begins_put : (first whole : List Variable) (v : Variable) → whole ≡ first ++ v ∷ [] → IsBeginning first whole
begins_put first whole v e = (v ∷ [], e)

length_more : (first : List Variable) (v : Variable) (more : List Variable) → length first < length (first ++ v ∷ more)
length_more [] v more = omega arith
length_more (x ∷ first) v more = let rest = length_more first v more in omega (arith, rest)

-- a list that is no longer than its beginning is that
pub begins_same : (first whole : List Variable) → IsBeginning first whole → length whole ≡ length first → whole ≡ first
begins_same first whole h e = go h.0 h.1
  where
    go : (more : List Variable) → whole ≡ first ++ more → whole ≡ first
    go [] same = same ∙ append-nil first
    go (v ∷ more) same =
        let longer = length_more first v more in
        let counted : length whole ≡ length (first ++ v ∷ more) = ap (λ (l : List Variable). length l) same in
        absurd (omega (arith, longer, counted, e))

-- one line more

free_put_in : (lines : List DeductionLine) (l : DeductionLine) (m : List ℕ) (s : SimpleType) → IsFreeIn (with_line lines l) m s → IsFree m s l.formula ⊎ IsFreeIn lines m s
free_put_in [] l m s h = h
free_put_in (x ∷ xs) l m s h = go (nat_lt x.number l.number) (free_put_in xs l m s) h
  where
    go : (b : Bool) → (IsFreeIn (with_line xs l) m s → IsFree m s l.formula ⊎ IsFreeIn xs m s)
        → IsFreeIn (if b then x ∷ with_line xs l else l ∷ x ∷ xs) m s → IsFree m s l.formula ⊎ IsFreeIn (x ∷ xs) m s
    go true rest (inl p) = inr (inl p)
    go true rest (inr p) = elim (rest p) [ inl q ↦ inl q | inr q ↦ inr (inr q) ]
    go false rest h = h

free_kept_in : (lines : List DeductionLine) (l : DeductionLine) (m : List ℕ) (s : SimpleType) → IsFreeIn lines m s → IsFreeIn (with_line lines l) m s
free_kept_in [] l m s h = absurd h
free_kept_in (x ∷ xs) l m s h = go (nat_lt x.number l.number) (free_kept_in xs l m s) h
  where
    go : (b : Bool) → (IsFreeIn xs m s → IsFreeIn (with_line xs l) m s)
        → IsFreeIn (x ∷ xs) m s → IsFreeIn (if b then x ∷ with_line xs l else l ∷ x ∷ xs) m s
    go true rest (inl p) = inl p
    go true rest (inr p) = inr (rest p)
    go false rest h = inr h

free_new_in : (lines : List DeductionLine) (l : DeductionLine) (m : List ℕ) (s : SimpleType) → IsFree m s l.formula → IsFreeIn (with_line lines l) m s
free_new_in [] l m s h = inl h
free_new_in (x ∷ xs) l m s h = go (nat_lt x.number l.number) (free_new_in xs l m s h)
  where
    go : (b : Bool) → IsFreeIn (with_line xs l) m s → IsFreeIn (if b then x ∷ with_line xs l else l ∷ x ∷ xs) m s
    go true rest = inr rest
    go false rest = inl h

length_put : (lines : List DeductionLine) (l : DeductionLine) → length (with_line lines l) ≡ suc (length lines)
length_put [] l = refl
length_put (x ∷ xs) l = go (nat_lt x.number l.number) (length_put xs l)
  where
    go : (b : Bool) → length (with_line xs l) ≡ suc (length xs) → length (if b then x ∷ with_line xs l else l ∷ x ∷ xs) ≡ suc (suc (length xs))
    go true rest = ap suc rest
    go false rest = refl

-- another justification

free_before_why : (lines : List DeductionLine) (n : ℕ) (w : Justification) (m : List ℕ) (s : SimpleType) → IsFreeIn (with_why lines n w) m s → IsFreeIn lines m s
free_before_why [] n w m s h = h
free_before_why (x ∷ xs) n w m s h = go (x.number == n) (free_before_why xs n w m s) h
  where
    go : (b : Bool) → (IsFreeIn (with_why xs n w) m s → IsFreeIn xs m s)
        → IsFreeIn ((if b then record x { why = w } else x) ∷ with_why xs n w) m s → IsFreeIn (x ∷ xs) m s
    go true rest (inl p) = inl p
    go true rest (inr p) = inr (rest p)
    go false rest (inl p) = inl p
    go false rest (inr p) = inr (rest p)

free_after_why : (lines : List DeductionLine) (n : ℕ) (w : Justification) (m : List ℕ) (s : SimpleType) → IsFreeIn lines m s → IsFreeIn (with_why lines n w) m s
free_after_why [] n w m s h = h
free_after_why (x ∷ xs) n w m s h = go (x.number == n) (free_after_why xs n w m s) h
  where
    go : (b : Bool) → (IsFreeIn xs m s → IsFreeIn (with_why xs n w) m s)
        → IsFreeIn (x ∷ xs) m s → IsFreeIn ((if b then record x { why = w } else x) ∷ with_why xs n w) m s
    go true rest (inl p) = inl p
    go true rest (inr p) = inr (rest p)
    go false rest (inl p) = inl p
    go false rest (inr p) = inr (rest p)

length_why : (lines : List DeductionLine) (n : ℕ) (w : Justification) → length (with_why lines n w) ≡ length lines
length_why [] n w = refl
length_why (x ∷ xs) n w = ap suc (length_why xs n w)

-- the lines after a step

-- those that are free in the lines and in one more
free_with_line : (lines : List DeductionLine) (l : DeductionLine) (old new : List Variable) → AreFreeIn lines old → GainsFree old new l.formula → AreFreeIn (with_line lines l) new
free_with_line lines l old new f g = record {
  free = λ m s h. elim (g.only m s h) [ inl p ↦ free_kept_in lines l m s (f.free m s p) | inr p ↦ free_new_in lines l m s p ];
  all = λ m s h. elim (free_put_in lines l m s h) [ inl p ↦ g.gained m s p | inr p ↦ g.kept m s (f.all m s p) ];
}

free_with_why : (lines : List DeductionLine) (n : ℕ) (w : Justification) (variables : List Variable) → AreFreeIn lines variables → AreFreeIn (with_why lines n w) variables
free_with_why lines n w variables f = record {
  free = λ m s h. free_after_why lines n w m s (f.free m s h);
  all = λ m s h. f.all m s (free_before_why lines n w m s h);
}

-- where no line came, the names are the same
pub names_same : (names : KnownNames) (count n : ℕ) (lines : List DeductionLine) → IsStepAfter names count n lines → length lines ≡ count → AreNamesOf lines names
names_same names count n lines a e = record { collected = a.names_before.collected; free = go (line_of a.before (number_of a.request)) a.step }
  where
    go : (o : Option DeductionLine) → lines ≡ put_at o a.before (table_line a.before a.request) → AreFreeIn lines names.tally.variables
    go None f =
        let counted : length lines ≡ suc (length a.before) = ap (λ (l : List DeductionLine). length l) f ∙ length_put a.before (table_line a.before a.request) in
        let before : count ≡ length a.before = a.counted in
        absurd (omega (arith, counted, before, e))
    go (Some m) f =
        subst (λ (l : List DeductionLine). AreFreeIn l names.tally.variables) (sym f)
        (free_with_why a.before (number_of a.request) (why_of a.request) names.tally.variables a.names_before.free)

-- the line of the step is there
pub step_there : (names : KnownNames) (count n : ℕ) (lines : List DeductionLine) → IsStepAfter names count n lines → IsSome (line_of lines n)
step_there names count n lines a =
    subst (λ (k : ℕ). IsSome (line_of lines k)) (sym a.numbered)
    (subst (λ (l : List DeductionLine). IsSome (line_of l (number_of a.request))) (sym a.step) (taken_there a.before a.request))

-- where a line came, its variables did
pub names_more : (names : KnownNames) (count n : ℕ) (lines : List DeductionLine) → IsStepAfter names count n lines → (length lines ≡ count → ⊥)
    → (m : DeductionLine) → line_of lines n ≡ Some m
    → (new : KnownNames) → AreCollected new → GainsFree names.tally.variables new.tally.variables m.formula → AreNamesOf lines new
names_more names count n lines a longer m found new collected gain = record { collected = collected; free = go (line_of a.before (number_of a.request)) refl a.step }
  where
    line : DeductionLine
    line = table_line a.before a.request

    go : (o : Option DeductionLine) → line_of a.before (number_of a.request) ≡ o → lines ≡ put_at o a.before line → AreFreeIn lines new.tally.variables
    go None absent f =
        let there : line_of lines (number_of a.request) ≡ Some line =
        ap (λ (l : List DeductionLine). line_of l (number_of a.request)) f ∙ found_put a.before line absent in
        let both : Some m ≡ Some line = sym found ∙ ap (λ (k : ℕ). line_of lines k) a.numbered ∙ there in
        let same : m ≡ line = cc in
        subst (λ (l : List DeductionLine). AreFreeIn l new.tally.variables) (sym f)
        (free_with_line a.before line names.tally.variables new.tally.variables a.names_before.free
        (subst (λ (k : DeductionLine). GainsFree names.tally.variables new.tally.variables k.formula) same gain))
    go (Some k) there f =
        absurd (longer (ap (λ (l : List DeductionLine). length l) f ∙ length_why a.before (number_of a.request) (why_of a.request) ∙ sym a.counted))

pub names_more_ok : {E : Type 0} (names : KnownNames) (count n : ℕ) (lines : List DeductionLine) → IsStepAfter names count n lines → (length lines ≡ count → ⊥)
    → (m : DeductionLine) → line_of lines n ≡ Some m → (r : Result KnownNames E)
    → IfOk r AreCollected → IfOk r (λ new. GainsFree names.tally.variables new.tally.variables m.formula) → IfOk r (λ new. AreNamesOf lines new)
names_more_ok names count n lines a longer m found (Ok new) collected gain = names_more names count n lines a longer m found new collected gain
names_more_ok names count n lines a longer m found (Err e) collected gain = collected

-- no line is there where none is found
pub none_there : (o : Option DeductionLine) → None ≡ o → IsSome o → ⊥
none_there None e h = cc
none_there (Some l) e h = cc
