-- Laws of texts, which readers above rest on. Each is the clause of a function of the module `laws`.
use Rattle.std.specs.Prelude.{◌≡◌, ◌↔◌, ℕ, ◌≤◌, None, List, [], ◌∷◌, ◌++◌}
use Rattle.hol_terms.specs.Terms.{SimpleType, Term}
use Rattle.hol_terms.specs.Typing.{Typed}
use Rattle.core_text.specs.Tokens.{Token, depth_of}
use Rattle.core_text.specs.Forms.{Form, IsTextOf, IsWellSpelled, nesting, spelling}
use Rattle.core_text.specs.Placed.{IsPlacedText, Placed}
use Rattle.core_text.specs.CoreForms.{HasLetters, HasNames, IsFormOfTerm, IsFormOfType, term_form, type_form}
use Rattle.core_text.specs.Faults.{form_fault}
use Rattle.core_text.specs.Written.{written}

-- a text is read in one way at most

-- a text has one form, at one place each
abbrev pub HasOneForm : Type 0
HasOneForm = (bytes : List ℕ) (f g : Form) → IsTextOf bytes f → IsTextOf bytes g → f ≡ g

abbrev pub HasOnePlacedForm : Type 0
HasOnePlacedForm = (bytes : List ℕ) (f g : Placed) → IsPlacedText bytes f → IsPlacedText bytes g → f ≡ g

-- a form stands for one type, and for one term
abbrev pub HasOneType : Type 0
HasOneType = (f : Form) (s t : SimpleType) → IsFormOfType f s → IsFormOfType f t → s ≡ t

abbrev pub HasOneTerm : Type 0
HasOneTerm = (f : Form) (s t : Term) → IsFormOfTerm f s → IsFormOfTerm f t → s ≡ t

-- what was written is read again

-- what is written for a form, within the limits of reading, is a text of it, and so it is with LF after it
abbrev pub WrittenIsText : Type 0
WrittenIsText = (f : Form) → IsWellSpelled f → nesting f ≤ 5000 → IsTextOf (written f) f × IsTextOf (written f ++ 10 ∷ []) f

-- what is written for a form is nested as deep as the form, and so it is with LF after it
abbrev pub WrittenHasDepth : Type 0
WrittenHasDepth = (f : Form) → IsWellSpelled f → (depth_of (written f) ≡ nesting f) × (depth_of (written f ++ 10 ∷ []) ≡ nesting f)

-- what is written for a type is a text of that type alone
abbrev pub WrittenTypeIsRead : Type 0
WrittenTypeIsRead =
    (s : SimpleType) → HasLetters s → nesting (type_form s) ≤ 5000
    → IsTextOf (written (type_form s)) (type_form s) × ((f : Form) (t : SimpleType) → IsTextOf (written (type_form s)) f → IsFormOfType f t → t ≡ s)

-- what is written for a term that has a type is a text of that term alone
abbrev pub WrittenTermIsRead : Type 0
WrittenTermIsRead =
    (t : Term) (s : SimpleType) → HasNames t → Typed [] t s → nesting (term_form t) ≤ 5000
    → IsTextOf (written (term_form t)) (term_form t) × ((f : Form) (u : Term) → IsTextOf (written (term_form t)) f → IsFormOfTerm f u → u ≡ t)

-- a term that has a type, within the limits of reading, is well spelled
abbrev pub TypedIsWellSpelled : Type 0
TypedIsWellSpelled = (t : Term) (s : SimpleType) → HasNames t → Typed [] t s → nesting (term_form t) ≤ 5000 → IsWellSpelled (term_form t)

-- a prefix of a text is no text

-- a form is never a proper prefix of another form
abbrev pub HasNoProperFront : Type 0
HasNoProperFront = (f g : Form) (rest : List Token) → IsWellSpelled f → IsWellSpelled g → spelling f ++ rest ≡ spelling g → (f ≡ g) × (rest ≡ [])

-- a text that is cut at any byte before a closing bracket, the last one among them, is the text of no form; the cut may stand in the
-- midst of a word or of a character
abbrev pub CutIsNoText : Type 0
CutIsNoText = (front middle back : List ℕ) (f g : Form) → IsTextOf (front ++ (middle ++ 41 ∷ back)) f → IsTextOf front g → ⊥

-- the fault of a text

-- nothing is wrong with the bytes exactly where they are the text of some form, within the limits of reading
abbrev pub IsTextWithoutFault : Type 0
IsTextWithoutFault = (bytes : List ℕ) → (form_fault bytes ≡ None) ↔ ((f : Form) × IsTextOf bytes f)
