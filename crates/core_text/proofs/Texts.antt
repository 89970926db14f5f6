-- What is read is a text of the form, and a text of a form is read.
use Rattle.std.proofs.Common.{◌≡◌, ◌≢◌, ℕ, ◌+◌, ◌&&◌, IfErr, IfOk, Result, Ok, Err, nat_le, true, false, IsUtf8, List, [], map, length, Option, Some, None, is_none, refl, sym, ◌∙◌, ap, arith, append-nil}
use Rattle.std.proofs.lemmas.Bool.{and_parts, leb-true, le-leb, false_from_ne_true}
use Rattle.std.proofs.lemmas.Str.{IsUtf8-from_is_utf8, is_utf8-from_IsUtf8}
use Rattle.core_text.specs.Tokens.{token, tokens, pieces}
use Rattle.core_text.specs.Forms.{Form, IsTextOf, IsWellSpelled, nesting, spelling}
use Rattle.core_text.specs.Placed.{Placed, form, form_of, kept, layout, placed}
use Rattle.core_text.specs.declared.sexps.Sexp.{Sexp}
use Rattle.core_text.specs.Faults.{IsFaultUnlessMemory, first_fault, form_fault}
use Rattle.core_text.specs.declared.faults.TextFault.{TextFault}
use Rattle.core_text.specs.declared.faults.TextFault.TheVariants.{Memory, NotUtf8}
use Rattle.core_text.proofs.Results.{fault_was_found}
use Rattle.core_text.proofs.Balance.{balanced, balanced-spelling, none-first_fault}
use Rattle.core_text.proofs.Spellings.{same_form, token-kept, token-layout}

none_is : {A : Type 0} (o : Option A) → is_none o ≡ true → o ≡ None
none_is (Some x) h = cc
none_is None h = refl

is_none_of : {A : Type 0} (o : Option A) → o ≡ None → is_none o ≡ true
is_none_of (Some x) h = cc
is_none_of None h = refl

-- the whole text's tokens have no fault exactly where no more than 5,000 brackets are open at once
pub whole_balance : (bytes : List ℕ) (f : Form) → IsWellSpelled f → tokens bytes ≡ spelling f → is_none (first_fault 0 false (pieces 0 bytes) (length bytes)) ≡ (nat_le (nesting f) 5000 && true)
whole_balance bytes f words h =
    let zero : 0 + nesting f ≡ nesting f = omega arith in
    none-first_fault 0 false (pieces 0 bytes) (length bytes)
    ∙ ap (balanced 0 false) (h ∙ sym (append-nil (spelling f)))
    ∙ balanced-spelling f 0 false [] words refl (omega arith) ∙ ap (λ n. nat_le n 5000 && true) zero

pub no_fault : (bytes : List ℕ) (f : Form) → IsTextOf bytes f → form_fault bytes ≡ None
no_fault bytes f h =
    rw (is_utf8-from_IsUtf8 bytes h.utf8) (none_is (first_fault 0 false (pieces 0 bytes) (length bytes)) (whole_balance bytes f h.words h.spelled ∙ rw (le-leb (nesting f) 5000 h.depth) refl))

-- what was laid out is a text of its form
pub text_of : (bytes : List ℕ) (f : Placed) → IsUtf8 bytes → IsWellSpelled (form f) → layout f ≡ map kept (pieces 0 bytes) → first_fault 0 false (pieces 0 bytes) (length bytes) ≡ None → IsTextOf bytes (form f)
text_of bytes f utf8 words h clean =
    let spelled : tokens bytes ≡ spelling (form f) = sym (token-kept (pieces 0 bytes)) ∙ ap (map token) (sym h) ∙ token-layout f in
    let shallow = and_parts _ _ (sym (whole_balance bytes (form f) words spelled) ∙ is_none_of _ clean) in
    record { utf8 = utf8; spelled = spelled; words = words; depth = leb-true (nesting (form f)) 5000 shallow.0 }

-- from the pieces' reader to the text's, at UTF-8
module _ (bytes : List ℕ) (utf8 : IsUtf8 bytes) where
  pub IsTextOf-read : (r : Result Sexp TextFault) → IfOk r (λ s. layout (placed s) ≡ map kept (pieces 0 bytes)) → IfOk r (λ s. IsWellSpelled (form_of s)) → IfOk r (λ _. first_fault 0 false (pieces 0 bytes) (length bytes) ≡ None) → IfOk r (λ s. IsTextOf bytes (form_of s))
  IsTextOf-read (Ok s) h words clean = text_of bytes (placed s) utf8 words h clean
  IsTextOf-read (Err e) h words clean = tt

  pub form_fault-read : (r : Result Sexp TextFault) → IfErr r (λ e. IsFaultUnlessMemory e (first_fault 0 false (pieces 0 bytes) (length bytes))) → IfErr r (λ e. IsFaultUnlessMemory e (form_fault bytes))
  form_fault-read (Ok s) h = tt
  form_fault-read (Err e) h = rw (is_utf8-from_IsUtf8 bytes utf8) h

  pub no_text-read : (r : Result Sexp TextFault) → IfErr r (λ e. IsFaultUnlessMemory e (form_fault bytes)) → IfErr r (λ e. e ≢ Memory → (f : Form) → IsTextOf bytes f → ⊥)
  no_text-read (Ok s) h = tt
  no_text-read (Err e) h = λ other f t. fault_was_found e (form_fault bytes) h other (no_fault bytes f t)

pub form_fault-not_utf8 : (bytes : List ℕ) → (IsUtf8 bytes → ⊥) → form_fault bytes ≡ Some NotUtf8
form_fault-not_utf8 bytes h = rw (false_from_ne_true _ (λ e. h (IsUtf8-from_is_utf8 bytes e))) refl

-- a text has one form at most
pub one_form : (bytes : List ℕ) (f g : Form) → IsTextOf bytes f → IsTextOf bytes g → f ≡ g
one_form bytes f g s t =
    (same_form f g [] [] s.words t.words (append-nil (spelling f) ∙ sym s.spelled ∙ t.spelled ∙ sym (append-nil (spelling g)))).0
