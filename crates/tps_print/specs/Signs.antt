-- The signs of the tokens of a printed term, in their order.
use Rattle.std.specs.Prelude.{ℕ, ◌+◌, ◌-◌, Bool, true, false, cond, List, [], ◌∷◌, codes}
use Rattle.std.specs.List.{list_any}
use Rattle.hol_terms.specs.Terms.{SimpleType, base_type, function_type, Constant, negation, conjunction, disjunction, implication, truth, falsehood, forall, exists, Term, Variable}
use Rattle.hol_terms.specs.Collected.{with_variables}
use Rattle.hol_terms.specs.Computed.{same_variable}
use Rattle.hol_terms.specs.FreeVariables.{occurrences}
use Rattle.tps_reader.specs.Tokens.{Sign, open_square, close_square, open_round, close_round, dot, tilde, word}
use Rattle.tps_print.specs.Layouts.{Layout, a_variable, an_index, a_constant, a_negation, a_universal, an_existential, a_conjunction, a_disjunction, an_implication, an_application, an_abstraction}
use Rattle.tps_print.specs.Pieces.{brackets_application, brackets_compound, brackets_negation, name_at}
use Rattle.tps_print.specs.declared.levels.Level.{Level}
use Rattle.tps_print.specs.declared.levels.Level.TheVariants as level

-- Types. Letters that stand side by side are one word.

-- a word of letters before signs, where there are letters
abbrev pub letters_before : List ℕ → List Sign → List Sign
letters_before [] signs = signs
letters_before (l ∷ ls) signs = word (l ∷ ls) ∷ signs

-- the letters after the result of a function type with this argument
abbrev pub letters_behind : SimpleType → List ℕ → List ℕ
letters_behind (base_type l) ls = l ∷ ls
letters_behind (function_type r s) ls = []

-- the signs after them; those of an argument in parentheses are the last
abbrev pub signs_behind : SimpleType → List Sign → List Sign → List Sign
signs_behind (base_type l) signs inner = signs
signs_behind (function_type r s) signs inner = open_round ∷ inner

-- a type, the letters that stand directly after it, and then more signs
abbrev pub type_signs : SimpleType → List ℕ → List Sign → List Sign
type_signs (base_type l) ls signs = word (l ∷ ls) ∷ signs
type_signs (function_type r s) ls signs =
    type_signs r (letters_behind s ls) (signs_behind s signs (type_signs s [] (close_round ∷ letters_before ls signs)))

-- a type in parentheses before more signs
abbrev pub round_signs : SimpleType → List Sign → List Sign
round_signs s more = open_round ∷ type_signs s [] (close_round ∷ more)

-- a constant alone before more signs
abbrev pub constant_signs : Constant → List Sign → List Sign
constant_signs negation more = open_square ∷ tilde ∷ close_square ∷ more
constant_signs conjunction more = open_square ∷ word (codes "AND") ∷ close_square ∷ more
constant_signs disjunction more = open_square ∷ word (codes "OR") ∷ close_square ∷ more
constant_signs implication more = open_square ∷ word (codes "IMPLIES") ∷ close_square ∷ more
constant_signs truth more = word (codes "TRUTH") ∷ more
constant_signs falsehood more = word (codes "FALSEHOOD") ∷ more
constant_signs (forall s) more = open_square ∷ word (codes "FORALL") ∷ round_signs s (close_square ∷ more)
constant_signs (exists s) more = open_square ∷ word (codes "EXISTS") ∷ round_signs s (close_square ∷ more)

-- what stands before more signs, in brackets where they are wanted
abbrev pub bracket_signs : Bool → (List Sign → List Sign) → List Sign → List Sign
bracket_signs false inner more = inner more
bracket_signs true inner more = open_square ∷ inner (close_square ∷ more)

-- a term before more signs, at a level, where the binders around it have the first d of the names and these variables stand earlier
abbrev pub term_signs : List (List ℕ) → ℕ → Level → List Variable → (t : Term) → Layout t → List Sign → List Sign
term_signs names d l earlier _ (a_variable n s) more = word n ∷ cond (list_any (same_variable (n, s)) earlier) more (round_signs s more)
term_signs names d l earlier _ (an_index i) more = word (name_at names (d - i - 1)) ∷ more
term_signs names d l earlier _ (a_constant c) more = constant_signs c more
term_signs names d l earlier _ (a_negation s k) more =
    bracket_signs (brackets_negation l) (λ (more : List Sign). tilde ∷ term_signs names d level.Operand earlier s k more) more
term_signs names d l earlier _ (a_universal q s b k) more =
    bracket_signs (brackets_compound l) (λ (more : List Sign). word (codes "FORALL") ∷ word (name_at names d) ∷ round_signs s (dot ∷ term_signs names (d + 1) level.Top earlier b k more)) more
term_signs names d l earlier _ (an_existential q s b k) more =
    bracket_signs (brackets_compound l) (λ (more : List Sign). word (codes "EXISTS") ∷ word (name_at names d) ∷ round_signs s (dot ∷ term_signs names (d + 1) level.Top earlier b k more)) more
term_signs names d l earlier _ (a_conjunction s t k m) more =
    bracket_signs (brackets_compound l) (λ (more : List Sign). term_signs names d level.Operand earlier s k (word (codes "AND") ∷ term_signs names d level.Operand (with_variables earlier (occurrences s)) t m more)) more
term_signs names d l earlier _ (a_disjunction s t k m) more =
    bracket_signs (brackets_compound l) (λ (more : List Sign). term_signs names d level.Operand earlier s k (word (codes "OR") ∷ term_signs names d level.Operand (with_variables earlier (occurrences s)) t m more)) more
term_signs names d l earlier _ (an_implication s t k m) more =
    bracket_signs (brackets_compound l) (λ (more : List Sign). term_signs names d level.Operand earlier s k (word (codes "IMPLIES") ∷ term_signs names d level.Operand (with_variables earlier (occurrences s)) t m more)) more
term_signs names d l earlier _ (an_application f a plain k m) more =
    bracket_signs (brackets_application l) (λ (more : List Sign). term_signs names d level.Function earlier f k (term_signs names d level.Argument (with_variables earlier (occurrences f)) a m more)) more
term_signs names d l earlier _ (an_abstraction s b k) more =
    bracket_signs (brackets_compound l) (λ (more : List Sign). word (codes "LAMBDA") ∷ word (name_at names d) ∷ round_signs s (dot ∷ term_signs names (d + 1) level.Top earlier b k more)) more
