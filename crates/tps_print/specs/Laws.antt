-- Laws of printed texts. Each is the clause of a function of the module `laws`.
use Rattle.std.specs.Prelude.{◌≡◌, ℕ, ◌+◌, ◌^◌, ◌<◌, ◌≤◌, false, List, [], ◌∷◌, All, length, map, Some, None}
use Rattle.std.specs.List.{list_any}
use Rattle.hol_terms.specs.Computed.{same_name}
use Rattle.hol_terms.specs.Names.{IsName}
use Rattle.hol_terms.specs.FreeVariables.{IsFree}
use Rattle.hol_terms.specs.Terms.{SimpleType, Term}
use Rattle.hol_terms.specs.Typing.{Typed}
use Rattle.core_text.specs.CoreForms.{HasNames}
use Rattle.tps_reader.specs.Grammar.{IsFormula}
use Rattle.tps_reader.specs.Raws.{RawFormula}
use Rattle.tps_reader.specs.Tokens.{AreTokensOf, Token, sign_of}
use Rattle.tps_reader.specs.Faults.{IsFormulaText}
use Rattle.tps_reader.specs.Groups.{IsWithinDepth}
use Rattle.type_infer.specs.Faults.{IsOnlyAnnotation}
use Rattle.tps_print.specs.BoundNames.{binder_depth, bound_names, free_names}
use Rattle.tps_print.specs.Layouts.{Layout, SaysTerm}
use Rattle.tps_print.specs.Printed.{names_beside, printed_formula}
use Rattle.tps_print.specs.ShortWords.{HasShortWords}
use Rattle.tps_print.specs.Signs.{term_signs}
use Rattle.tps_print.specs.declared.levels.Level.TheVariants as level

-- no name stands twice in the list
abbrev pub AreDifferent : List (List ℕ) → Type 0
AreDifferent [] = Unit {0}
AreDifferent (name ∷ names) = (list_any (same_name name) names ≡ false) × AreDifferent names

-- the names are enough for binders inside each other, as many as the depth; none is taken, and no two are equal
pub record AreNamesFor (taken : List (List ℕ)) (depth : ℕ) (names : List (List ℕ)) : Type 0 where
  pub enough : depth ≤ length names
  pub named : All IsName names
  pub untaken : All (λ (name : List ℕ). list_any (same_name name) taken ≡ false) names
  pub different : AreDifferent names

-- the names of binders are such
abbrev pub HasBoundNames : Type 0
HasBoundNames = (taken : List (List ℕ)) (depth : ℕ) → depth + length taken < 2 ^ 64 → AreNamesFor taken depth (bound_names taken depth)

-- no name is free at two types
abbrev pub HasOneTypeEach : Term → Type 0
HasOneTypeEach t = (n : List ℕ) (r s : SimpleType) → IsFree n r t → IsFree n s t → r ≡ s

-- a raw formula that says a printed term has the term as its only annotation of the term's type, where no name is free at two types
abbrev pub HasOnlyAnnotation : Type 0
HasOnlyAnnotation =
    (t : Term) (s : SimpleType) (l : Layout t) (v : RawFormula) → Typed [] t s → HasOneTypeEach t → binder_depth t + length (free_names t) < 2 ^ 64
    → SaysTerm (names_beside t None) 0 [] t l v → IsOnlyAnnotation v (Some s) [] t

-- each term has a layout
abbrev pub HasLayout : Type 0
HasLayout = (t : Term) → Layout t

-- Tokens that have the signs of a printed term are one phrase, which has the term as its only annotation of the term's type, where no
-- name is free at two types.
abbrev pub HasPhrase : Type 0
HasPhrase =
    (t : Term) (s : SimpleType) (l : Layout t) (ts : List Token) → HasNames t → Typed [] t s → HasOneTypeEach t → binder_depth t + length (free_names t) < 2 ^ 64
    → map sign_of ts ≡ term_signs (names_beside t None) 0 level.Top [] t l []
    → (v : RawFormula) × IsFormula ts v × IsOnlyAnnotation v (Some s) [] t

-- the printed text of a term with short words is cut into tokens with the term's signs
abbrev pub HasTokensOfSigns : Type 0
HasTokensOfSigns =
    (t : Term) (s : SimpleType) (l : Layout t) → HasNames t → Typed [] t s → HasShortWords t → binder_depth t + length (free_names t) < 2 ^ 64
    → (ts : List Token) × AreTokensOf (printed_formula t) ts × (map sign_of ts ≡ term_signs (names_beside t None) 0 level.Top [] t l [])

-- The text is a formula text, which has the term as its only annotation of the term's type, where no name is free at two types, no word
-- is longer than 64 characters, and the depth is at most 1,000.
abbrev pub IsReadBack : Term → List ℕ → Type 0
IsReadBack t text =
    (s : SimpleType) → Typed [] t s → HasOneTypeEach t → HasShortWords t → ((ts : List Token) → AreTokensOf text ts → IsWithinDepth ts 1000)
    → (v : RawFormula) × IsFormulaText text v × IsOnlyAnnotation v (Some s) [] t

-- the printed text of a term is read back
abbrev pub HasFormulaText : Type 0
HasFormulaText = (t : Term) → HasNames t → binder_depth t + length (free_names t) < 2 ^ 64 → IsReadBack t (printed_formula t)
