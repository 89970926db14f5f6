-- What a step of a script asks of the session.
use Rattle.std.specs.Prelude.{◌≡◌, ◌≢◌, ◌⊎◌, ℕ, ◌<◌, ◌≤◌, List, Bool, true, false, not, ◌||◌, Option, Some, None, IsSome}
use Rattle.hol_terms.specs.Terms.{SimpleType, Term, Variable, free, truth_type}
use Rattle.tps_reader.specs.Raws.{RawFormula}
use Rattle.nd_rules.specs.Lines.{DeductionLine, line_of}
use Rattle.nd_rules.specs.Rules.{existence, universal}
use Rattle.nd_rules.specs.declared.faults.RuleFault.TheVariants as rule
use Rattle.etps_session.specs.Answers.{is_planned}
use Rattle.etps_session.specs.Commands.{Request, suppose, plan, deduce, instantiate, generalize, witness, choose, convert, follow}
use Rattle.script_text.specs.Commands.{ScriptRequest, say_plan, say_suppose, say_deduce, say_instantiate, say_generalize, say_witness, say_choose, say_convert, say_follow}
use Rattle.etps_script.specs.Phrases.{IsMeaningless, Means}
use Rattle.etps_script.specs.declared.refusals.Refusal.{Refusal}
use Rattle.etps_script.specs.declared.refusals.Refusal.TheVariants as refusal

-- The number

-- the number of the line that a step makes; the other commands are no steps
abbrev pub line_number : ScriptRequest → Option ℕ
line_number (say_plan n hs a) = Some n
line_number (say_suppose n a) = Some n
line_number (say_deduce n d h) = Some n
line_number (say_instantiate n d t) = Some n
line_number (say_generalize n d a) = Some n
line_number (say_witness n d t a) = Some n
line_number (say_choose n e h d a) = Some n
line_number (say_convert n d a) = Some n
line_number (say_follow n ds a) = Some n
line_number c = None

abbrev pub is_plan : ScriptRequest → Bool
is_plan (say_plan n hs a) = true
is_plan c = false

-- the line is finished, or is there where a line is to be planned
abbrev pub is_in_the_way : Option DeductionLine → Bool → Bool
is_in_the_way None plans = false
is_in_the_way (Some m) plans = plans || not (is_planned m.why)

abbrev pub is_taken_at : List DeductionLine → Option ℕ → Bool → Bool
is_taken_at lines None plans = false
is_taken_at lines (Some n) plans = is_in_the_way (line_of lines n) plans

-- the number of the step is taken
abbrev pub is_taken : List DeductionLine → ScriptRequest → Bool
is_taken lines c = is_taken_at lines (line_number c) (is_plan c)

-- The source of UI, whose quantifier tells the type of the term

-- line d is before line n and universal, at this type
abbrev pub IsUniversalBefore : List DeductionLine → ℕ → ℕ → SimpleType → Type 0
IsUniversalBefore lines n d s =
    (d < n) × (l : DeductionLine) × (line_of lines d ≡ Some l) × ((b : Term) × (l.formula ≡ universal s b))

-- line d is before line n, and isn't universal
abbrev pub IsOtherBefore : List DeductionLine → ℕ → ℕ → Type 0
IsOtherBefore lines n d =
    (d < n) × (l : DeductionLine) × (line_of lines d ≡ Some l) × ((s : SimpleType) (b : Term) → l.formula ≡ universal s b → ⊥)

-- why line d is no source of line n, which itself counts as a line. Want of memory is free.
abbrev pub IsNoSource : List DeductionLine → ℕ → ℕ → Refusal → Type 0
IsNoSource lines n d refusal.Memory = Unit {0}
IsNoSource lines n d (refusal.Rule (rule.NoLine k)) = (k ≡ d) × (d ≢ n) × (line_of lines d ≡ None)
IsNoSource lines n d (refusal.Rule (rule.NotEarlier k)) = (k ≡ d) × (n ≤ d) × (d ≢ n → IsSome (line_of lines d))
IsNoSource lines n d (refusal.Rule rule.Shape) = IsOtherBefore lines n d
IsNoSource lines n d e = ⊥

-- Other forms

-- it is refused as not of the wanted form
abbrev pub IsShape : Refusal → Type 0
IsShape e = e ≡ refusal.Rule rule.Shape

-- The phrase stands for a term that is no variable. In a line of a script the phrase of UGEN is always a variable; a command that was
-- made otherwise is refused so.
abbrev pub IsNoVariable : List DeductionLine → RawFormula → Type 0
IsNoVariable lines raw = (t : Term) × Means lines raw None t × ((v : Variable) → t ≡ free v.0 v.1 → ⊥)

-- the phrase stands for a formula that isn't existential
abbrev pub IsNotExistential : List DeductionLine → RawFormula → Type 0
IsNotExistential lines raw =
    (t : Term) × Means lines raw (Some truth_type) t × ((s : SimpleType) (b : Term) → t ≡ existence s b → ⊥)

-- the phrase stands for an existential formula at this type
abbrev pub IsExistentialAt : List DeductionLine → RawFormula → SimpleType → Type 0
IsExistentialAt lines raw s = (t : Term) × Means lines raw (Some truth_type) t × ((b : Term) × (t ≡ existence s b))

-- The request

-- Beside the lines, the command is this request to the session. A formula is wanted to have type O, the term of UI the type of the
-- quantifier of its source, that of EGEN the type of the quantifier of its formula.
abbrev pub Asks : List DeductionLine → ScriptRequest → Request → Type 0
Asks lines (say_plan n hs a) (plan m gs t) = (m ≡ n) × (gs ≡ hs) × Means lines a (Some truth_type) t
Asks lines (say_suppose n a) (suppose m t) = (m ≡ n) × Means lines a (Some truth_type) t
Asks lines (say_deduce n d h) (deduce m e g) = (m ≡ n) × (e ≡ d) × (g ≡ h)
Asks lines (say_instantiate n d a) (instantiate m e t) =
    (m ≡ n) × (e ≡ d) × ((s : SimpleType) × IsUniversalBefore lines n d s × Means lines a (Some s) t)
Asks lines (say_generalize n d a) (generalize m e v) = (m ≡ n) × (e ≡ d) × Means lines a None (free v.0 v.1)
Asks lines (say_witness n d a f) (witness m e t u) =
    (m ≡ n) × (e ≡ d) × Means lines f (Some truth_type) u × ((s : SimpleType) × (b : Term) × (u ≡ existence s b) × Means lines a (Some s) t)
Asks lines (say_choose n e h d a) (choose m f g c b) = (m ≡ n) × (f ≡ e) × (g ≡ h) × (c ≡ d) × (b ≡ a)
Asks lines (say_convert n d a) (convert m e t) = (m ≡ n) × (e ≡ d) × Means lines a (Some truth_type) t
Asks lines (say_follow n ds a) (follow m es t) = (m ≡ n) × (es ≡ ds) × Means lines a (Some truth_type) t
Asks lines c r = ⊥

-- Why there is no request: UI looks at its source before its term; EGEN at its formula, then at the form of this, then at its term.
abbrev pub AsksNothing : List DeductionLine → ScriptRequest → Refusal → Type 0
AsksNothing lines (say_plan n hs a) e = IsMeaningless lines a (Some truth_type) e
AsksNothing lines (say_suppose n a) e = IsMeaningless lines a (Some truth_type) e
AsksNothing lines (say_deduce n d h) e = e ≡ refusal.Memory
AsksNothing lines (say_instantiate n d a) e =
    IsNoSource lines n d e ⊎ ((s : SimpleType) × IsUniversalBefore lines n d s × IsMeaningless lines a (Some s) e)
AsksNothing lines (say_generalize n d a) e = IsMeaningless lines a None e ⊎ (IsShape e × IsNoVariable lines a)
AsksNothing lines (say_witness n d a f) e =
    IsMeaningless lines f (Some truth_type) e ⊎ (IsShape e × IsNotExistential lines f)
    ⊎ ((s : SimpleType) × IsExistentialAt lines f s × IsMeaningless lines a (Some s) e)
AsksNothing lines (say_choose n m h d a) e = e ≡ refusal.Memory
AsksNothing lines (say_convert n d a) e = IsMeaningless lines a (Some truth_type) e
AsksNothing lines (say_follow n ds a) e = IsMeaningless lines a (Some truth_type) e
AsksNothing lines c e = ⊥
