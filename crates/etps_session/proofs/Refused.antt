-- Refusals where beside the form of a rule something else is asked.
use Rattle.std.proofs.Common.{◌≡◌, ◌≢◌, ◌∙◌, ℕ, List, Bool, true, false, refl, sym, ap, subst}
use Rattle.std.specs.Prelude.{◌↔◌, IsTrue, Option, Some, None}
use Rattle.nd_rules.specs.Lines.{DeductionLine, line_of}
use Rattle.nd_rules.specs.Rules.{IsFirstRefusal, IsJustified}
use Rattle.nd_rules.specs.declared.faults.RuleFault.{RuleFault}
use Rattle.nd_rules.specs.declared.faults.RuleFault.TheVariants.{Memory, NoLine, NotEarlier, Shape, Hyps, VariableFree, NotFollows, NotConvertible, WrongType}
use Rattle.hol_terms.specs.Terms.{Term}
use Rattle.nd_rules.proofs.Refusals.{refusal_excludes}
use Rattle.etps_session.specs.Answers.{FitsTable, IsAccepted, IsFirstAnswer, IsRefusal, IsRefusalBeside, judged_line, line_at}
use Rattle.etps_session.specs.Commands.{Request, number_of, why_of}
use Rattle.etps_session.specs.Replays.{SessionState, replay}
use Rattle.etps_session.specs.declared.faults.SessionFault.{SessionFault}
use Rattle.etps_session.specs.declared.faults.SessionFault.TheVariants as session
use Rattle.etps_session.specs.Tables.{or_truth, table_formula, table_line}

-- a refusal stays where what is asked holds
pub refused_beside : (lines : List DeductionLine) (l : DeductionLine) (fault : RuleFault) (Fits : Type 0) → Fits → IsFirstRefusal lines l fault → IsRefusalBeside Fits lines l fault
refused_beside lines l Memory Fits f h = tt
refused_beside lines l (NoLine k) Fits f h = h
refused_beside lines l (NotEarlier k) Fits f h = h
refused_beside lines l Shape Fits f h = (h.0, λ both. h.1 both.0)
refused_beside lines l Hyps Fits f h = (f, h)
refused_beside lines l (VariableFree k) Fits f h = (f, h)
refused_beside lines l (NotFollows true_atoms) Fits f h = (f, h)
refused_beside lines l (NotConvertible s t) Fits f h = (f, h)
refused_beside lines l WrongType Fits f h = (f, h)

-- and else the form is refused, where no line is missing or late
pub shape_beside : (lines : List DeductionLine) (l : DeductionLine) (fault : RuleFault) (Fits : Type 0) → (Fits → ⊥) → fault ≢ Memory → ((k : ℕ) → fault ≢ NoLine k) → ((k : ℕ) → fault ≢ NotEarlier k)
    → IsFirstRefusal lines l fault → IsRefusalBeside Fits lines l Shape
shape_beside lines l Memory Fits f m n e h = absurd (m refl)
shape_beside lines l (NoLine k) Fits f m n e h = absurd (n k refl)
shape_beside lines l (NotEarlier k) Fits f m n e h = absurd (e k refl)
shape_beside lines l Shape Fits f m n e h = (h.0, λ both. h.1 both.0)
shape_beside lines l Hyps Fits f m n e h = (h.0, λ both. f both.1)
shape_beside lines l (VariableFree k) Fits f m n e h = (h.0.0, λ both. f both.1)
shape_beside lines l (NotFollows true_atoms) Fits f m n e h = (h.0.0, λ both. f both.1)
shape_beside lines l (NotConvertible s t) Fits f m n e h = (h.0.0, λ both. f both.1)
shape_beside lines l WrongType Fits f m n e h = (h.0.0, λ both. f both.1)

pub shape_of_justified : (lines : List DeductionLine) (l : DeductionLine) (Fits : Type 0) → (Fits → ⊥) → IsJustified lines l → IsRefusalBeside Fits lines l Shape
shape_of_justified lines l Fits f j = ((j.there, j.earlier), λ both. f both.1)

-- the same is asked in other words
pub beside_same : (lines : List DeductionLine) (l : DeductionLine) (fault : RuleFault) (A B : Type 0) → (A → B) → (B → A) → IsRefusalBeside A lines l fault → IsRefusalBeside B lines l fault
beside_same lines l Memory A B f g h = tt
beside_same lines l (NoLine k) A B f g h = h
beside_same lines l (NotEarlier k) A B f g h = h
beside_same lines l Shape A B f g h = (h.0, λ both. h.1 (both.0, g both.1))
beside_same lines l Hyps A B f g h = (f h.0, h.1)
beside_same lines l (VariableFree k) A B f g h = (f h.0, h.1)
beside_same lines l (NotFollows true_atoms) A B f g h = (f h.0, h.1)
beside_same lines l (NotConvertible s t) A B f g h = (f h.0, h.1)
beside_same lines l WrongType A B f g h = (f h.0, h.1)

-- whether a formula is that of the table
pub fits_iff : (b : Bool) (x w : Term) → (IsTrue b ↔ (x ≡ w)) → IsTrue b ↔ ((a : Term) → Some w ≡ Some a → x ≡ a)
fits_iff b x w h = (λ t a e. let same : w ≡ a = cc in h.0 t ∙ same, λ f. h.1 (f w refl))

-- The lines judged

planned_is : (lines : List DeductionLine) (r : Request) (m : DeductionLine) → line_of lines (number_of r) ≡ Some m → judged_line lines r ≡ record m { why = why_of r }
planned_is lines r m e = ap (λ (o : Option DeductionLine). line_at o (table_line lines r)) e

pub planned_refused : (lines : List DeductionLine) (r : Request) (m l : DeductionLine) (fault : RuleFault) (fits : Bool) → line_of lines (number_of r) ≡ Some m → l ≡ record m { why = why_of r }
    → (IsTrue fits ↔ ((a : Term) → table_formula lines r ≡ Some a → m.formula ≡ a)) → IsRefusalBeside (fits ≡ true) lines l fault → IsRefusal lines r fault
planned_refused lines r m l fault fits e f iff h =
    let same : judged_line lines r ≡ l = planned_is lines r m e ∙ sym f in
    let P : DeductionLine → Type 0 = λ k. IsRefusalBeside (fits ≡ true) lines k fault in
    beside_same lines (judged_line lines r) fault (fits ≡ true) (FitsTable lines r)
    (λ t a g. ap (λ (k : DeductionLine). k.formula) (planned_is lines r m e) ∙ iff.0 t a g)
    (λ fit. iff.1 (λ a g. sym (ap (λ (k : DeductionLine). k.formula) (planned_is lines r m e)) ∙ fit a g))
    (subst P (sym same) h)

absent_is : (lines : List DeductionLine) (r : Request) → line_of lines (number_of r) ≡ None → judged_line lines r ≡ table_line lines r
absent_is lines r e = ap (λ (o : Option DeductionLine). line_at o (table_line lines r)) e

pub absent_fits : (lines : List DeductionLine) (r : Request) → line_of lines (number_of r) ≡ None → FitsTable lines r
absent_fits lines r e a f = ap (λ (k : DeductionLine). k.formula) (absent_is lines r e) ∙ ap or_truth f

pub absent_refused : (lines : List DeductionLine) (r : Request) (l : DeductionLine) (fault : RuleFault) → line_of lines (number_of r) ≡ None → l ≡ table_line lines r
    → IsRefusalBeside (true ≡ true) lines l fault → IsRefusal lines r fault
absent_refused lines r l fault e f h =
    let same : judged_line lines r ≡ l = absent_is lines r e ∙ sym f in
    let P : DeductionLine → Type 0 = λ k. IsRefusalBeside (true ≡ true) lines k fault in
    beside_same lines (judged_line lines r) fault (true ≡ true) (FitsTable lines r) (λ t. absent_fits lines r e) (λ fit. refl) (subst P (sym same) h)

-- What is refused isn't accepted

beside_excludes : (lines : List DeductionLine) (l : DeductionLine) (fault : RuleFault) (Fits : Type 0) → IsRefusalBeside Fits lines l fault → fault ≢ Memory → Fits → IsJustified lines l → ⊥
beside_excludes lines l Memory Fits h m f j = m refl
beside_excludes lines l (NoLine k) Fits h m f j = refusal_excludes lines l (NoLine k) h m j
beside_excludes lines l (NotEarlier k) Fits h m f j = refusal_excludes lines l (NotEarlier k) h m j
beside_excludes lines l Shape Fits h m f j = h.1 (j.shape, f)
beside_excludes lines l Hyps Fits h m f j = refusal_excludes lines l Hyps h.1 m j
beside_excludes lines l (VariableFree k) Fits h m f j = refusal_excludes lines l (VariableFree k) h.1 m j
beside_excludes lines l (NotFollows true_atoms) Fits h m f j = refusal_excludes lines l (NotFollows true_atoms) h.1 m j
beside_excludes lines l (NotConvertible s t) Fits h m f j = refusal_excludes lines l (NotConvertible s t) h.1 m j
beside_excludes lines l WrongType Fits h m f j = refusal_excludes lines l WrongType h.1 m j

pub answer_excludes : (s : SessionState) (r : Request) (fault : SessionFault) → IsFirstAnswer s r fault → fault ≢ session.Memory → IsAccepted s r → ⊥
answer_excludes s r session.NoGoal h m a = let same : false ≡ true = sym h ∙ a.0 in cc
answer_excludes s r session.NumberTaken h m a = let same : false ≡ true = sym a.1.free ∙ h.1 in cc
answer_excludes s r (session.Rule fault) h m a =
    beside_excludes (replay s) (judged_line (replay s) r) fault (FitsTable (replay s) r) h.3 h.2 a.1.fits a.1.justified
answer_excludes s r session.Memory h m a = m refl
