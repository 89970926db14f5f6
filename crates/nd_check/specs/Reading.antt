-- What a form stands for as a justification, a line or a derivation, or the place of the first form, a list before its members, that
-- has no place in the table; and then the first fault of the formulas and terms.
use Rattle.std.specs.Prelude.{◌==◌, ℕ, nat_lt, if◌then◌else◌, codes, List, [], ◌∷◌, Option, Some, None, Result, Ok, Err, ◌⊎◌}
use Rattle.hol_terms.specs.Terms.{SimpleType, truth_type}
use Rattle.hol_terms.specs.Computed.{same_type}
use Rattle.core_text.specs.Faults.{IsFaultUnlessMemory, form_fault}
use Rattle.core_text.specs.Judged.{fault_in, judged_at, with_fault}
use Rattle.core_text.specs.Placed.{IsPlacedText, Placed, word_at, number_at, list_at, PlacedAll, none_at, more_at, place_of, third_of}
use Rattle.core_text.specs.Reading.{◌>>=◌, name_at, number_in, term_at}
use Rattle.core_text.specs.Words.{same_bytes}
use Rattle.core_text.specs.declared.faults.TextFault.{TextFault}
use Rattle.core_text.specs.declared.faults.TextFault.TheVariants.{BadForm, IllTyped}
use Rattle.nd_rules.specs.Lines.{Justification, hypothesis, deduction, universal_instance, generalization, existential, choice, conversion, assignments, planned, DeductionLine}

abbrev pub numbers_at : PlacedAll → Result (List ℕ) ℕ
numbers_at none_at = Ok []
numbers_at (more_at p ps) = number_in p >>= λ n. numbers_at ps >>= λ ns. Ok (n ∷ ns)

-- the justifications, by the word and what follows it

-- (P), (PLANNED)
abbrev pub bare_in : List ℕ → ℕ → Result Justification ℕ
bare_in w k = if same_bytes w (codes "P") then Ok hypothesis else (if same_bytes w (codes "PLANNED") then Ok planned else Err k)

-- (LAMBDA d)
abbrev pub conversion_at : List ℕ → Placed → ℕ → Result Justification ℕ
conversion_at w x k = if same_bytes w (codes "LAMBDA") then (number_in x >>= λ d. Ok (conversion d)) else Err k

-- (DEDUCT d h), (UI d term), (EGEN d term), (UGEN d name)
abbrev pub two_at : List ℕ → Placed → Placed → ℕ → Result Justification ℕ
two_at w x y k =
    if same_bytes w (codes "DEDUCT") then (number_in x >>= λ d. number_in y >>= λ h. Ok (deduction d h))
    else (if same_bytes w (codes "UI") then (number_in x >>= λ d. term_at y >>= λ t. Ok (universal_instance d t))
    else (if same_bytes w (codes "EGEN") then (number_in x >>= λ d. term_at y >>= λ t. Ok (existential d t))
    else (if same_bytes w (codes "UGEN") then (number_in x >>= λ d. name_at y >>= λ a. Ok (generalization d a))
    else Err k)))

-- (RULEC e h d name)
abbrev pub choice_at : List ℕ → Placed → Placed → Placed → Placed → ℕ → Result Justification ℕ
choice_at w x y z a k =
    if same_bytes w (codes "RULEC") then (number_in x >>= λ e. number_in y >>= λ h. number_in z >>= λ d. name_at a >>= λ name. Ok (choice e h d name)) else Err k

-- all but (RULEP d1 d2 ..)
abbrev pub rule_at : List ℕ → PlacedAll → ℕ → Result Justification ℕ
rule_at w none_at k = bare_in w k
rule_at w (more_at x none_at) k = conversion_at w x k
rule_at w (more_at x (more_at y none_at)) k = two_at w x y k
rule_at w (more_at x (more_at y (more_at z (more_at a none_at)))) k = choice_at w x y z a k
rule_at w ps k = Err k

abbrev pub why_at : Placed → Result Justification ℕ
why_at (list_at (more_at (word_at w j) ps) k) = if same_bytes w (codes "RULEP") then (numbers_at ps >>= λ ds. Ok (assignments ds)) else rule_at w ps k
why_at p = Err (place_of p)

-- a number above the one before it, where there is one
abbrev pub above_in : Option ℕ → Placed → Result ℕ ℕ
above_in None p = number_in p
above_in (Some m) p = number_in p >>= λ n. if nat_lt m n then Ok n else Err (place_of p)

-- numbers each of which is above the one before it
abbrev pub rising_at : Option ℕ → PlacedAll → Result (List ℕ) ℕ
rising_at last none_at = Ok []
rising_at last (more_at p ps) = above_in last p >>= λ n. rising_at (Some n) ps >>= λ ns. Ok (n ∷ ns)

-- (h1 h2 ..)
abbrev pub hypotheses_at : Placed → Result (List ℕ) ℕ
hypotheses_at (list_at ps k) = rising_at None ps
hypotheses_at p = Err (place_of p)

-- (n (h1 h2 ..) formula why), by the members
abbrev pub line_in : Option ℕ → Placed → Placed → Placed → Placed → Result DeductionLine ℕ
line_in last n hs f w =
    above_in last n >>= λ number. hypotheses_at hs >>= λ hypotheses. term_at f >>= λ formula. why_at w >>= λ why. Ok (record { number = number; hypotheses = hypotheses; formula = formula; why = why })

abbrev pub line_at : Option ℕ → Placed → Result DeductionLine ℕ
line_at last (list_at (more_at n (more_at hs (more_at f (more_at w none_at)))) k) = line_in last n hs f w
line_at last p = Err (place_of p)

-- lines, each with a number above that of the line before it
abbrev pub lines_at : Option ℕ → PlacedAll → Result (List DeductionLine) ℕ
lines_at last none_at = Ok []
lines_at last (more_at p ps) = line_at last p >>= λ l. lines_at (Some l.number) ps >>= λ ls. Ok (l ∷ ls)

-- the members of the form of a derivation after its first word
pub record Parts : Type 0 where
  pub version : Placed
  pub lines : PlacedAll

-- (DERIVATION version l1 l2 ..), of at least one line
abbrev pub parts_at : Placed → Result Parts ℕ
parts_at (list_at (more_at (word_at w j) (more_at v (more_at l ls))) k) = if same_bytes w (codes "DERIVATION") then Ok (record { version = v; lines = more_at l ls }) else Err k
parts_at p = Err (place_of p)

abbrev pub version_at : Placed → Result (Unit {0}) ℕ
version_at (number_at n k) = if n == 1 then Ok tt else Err k
version_at p = Err (place_of p)

abbrev pub lines_in : Parts → Result (List DeductionLine) ℕ
lines_in q = version_at q.version >>= λ one. lines_at None q.lines

-- the fourth member of a list; any other form stands for itself
abbrev pub fourth_of : Placed → Placed
fourth_of (list_at (more_at x (more_at y (more_at z (more_at a ps)))) k) = a
fourth_of p = p

-- the first fault of the term of a justification
abbrev pub why_judged : Justification → Placed → Result (Unit {0}) TextFault
why_judged hypothesis p = Ok tt
why_judged (deduction d h) p = Ok tt
why_judged (universal_instance d t) p = judged_at t (third_of p) >>= λ s. Ok tt
why_judged (generalization d a) p = Ok tt
why_judged (existential d t) p = judged_at t (third_of p) >>= λ s. Ok tt
why_judged (choice e h d a) p = Ok tt
why_judged (conversion d) p = Ok tt
why_judged (assignments ds) p = Ok tt
why_judged planned p = Ok tt

-- the type of a line's formula, or the first fault of the formula and of the term of the justification
abbrev pub line_judged : DeductionLine → Placed → Result SimpleType TextFault
line_judged l p = judged_at l.formula (third_of p) >>= λ s. why_judged l.why (fourth_of p) >>= λ done. Ok s

-- the first fault of the formulas and terms, in the order of the text
abbrev pub terms_judged : List DeductionLine → PlacedAll → Result (Unit {0}) TextFault
terms_judged (l ∷ ls) (more_at p ps) = line_judged l p >>= λ s. terms_judged ls ps
terms_judged ls ps = Ok tt

-- the place of a formula of this type, where it isn't O
abbrev pub other_at : SimpleType → ℕ → Option ℕ
other_at s k = if same_type s truth_type then None else Some k

abbrev pub unless_other : Option ℕ → Result (Unit {0}) TextFault
unless_other None = Ok tt
unless_other (Some k) = Err (IllTyped k)

-- the first formula of another type
abbrev pub formulas_judged : List DeductionLine → PlacedAll → Result (Unit {0}) TextFault
formulas_judged (l ∷ ls) (more_at p ps) = judged_at l.formula (third_of p) >>= λ s. unless_other (other_at s (place_of (third_of p))) >>= λ done. formulas_judged ls ps
formulas_judged ls ps = Ok tt

-- the first fault of the formulas and terms, and then a formula of another type
abbrev pub lines_judged : List DeductionLine → PlacedAll → Result (Unit {0}) TextFault
lines_judged ls ps = terms_judged ls ps >>= λ done. formulas_judged ls ps

-- the lines of a form, or its first fault
abbrev pub derivation_at : Placed → Result (List DeductionLine) TextFault
derivation_at f = with_fault (λ k. BadForm k) (parts_at f) >>= λ q. with_fault (λ k. BadForm k) (lines_in q) >>= λ ls. lines_judged ls q.lines >>= λ done. Ok ls

-- the fault is running out of memory, or the first one of the bytes: what keeps them from being a text of one form, or the first fault of
-- that form
abbrev pub IsFirstFault : List ℕ → TextFault → Type 0
IsFirstFault bytes e = IsFaultUnlessMemory e (form_fault bytes) ⊎ ((f : Placed) × IsPlacedText bytes f × IsFaultUnlessMemory e (fault_in (derivation_at f)))
