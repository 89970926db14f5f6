-- What is written for a form: one space between two members of a list, none after an opening bracket or before a closing one.
use Rattle.std.specs.Prelude.{ℕ, List, [], ◌∷◌, ◌++◌, decimal}
use Rattle.core_text.specs.Forms.{Form, word_form, number_form, list_form, Forms, no_forms, more_forms}

abbrev mutual
  pub written : Form → List ℕ
  written (word_form w) = w
  written (number_form n) = decimal n
  written (list_form fs) = 40 ∷ written_members fs ++ 41 ∷ []

  pub written_members : Forms → List ℕ
  written_members no_forms = []
  written_members (more_forms f fs) = written f ++ written_others fs

  -- each after a space
  pub written_others : Forms → List ℕ
  written_others no_forms = []
  written_others (more_forms f fs) = 32 ∷ written f ++ written_others fs
