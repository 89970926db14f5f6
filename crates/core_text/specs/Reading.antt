-- What a form stands for, or the place of the first form, a list before its members, that has no place in the table.
use Rattle.std.specs.Prelude.{◌≡◌, ℕ, if◌then◌else◌, List, [], ◌∷◌, Result, Ok, Err, codes}
use Rattle.std.specs.Str.{chars}
use Rattle.hol_terms.specs.Terms.{SimpleType, base_type, function_type, negation, conjunction, disjunction, implication, truth, falsehood, forall, exists, Term, free, bound, constant, application, abstraction}
use Rattle.core_text.specs.Words.{is_letter, is_name, same_bytes}
use Rattle.core_text.specs.Placed.{Placed, word_at, number_at, list_at, none_at, more_at}
use Rattle.core_text.specs.declared.faults.TextFault.{TextFault}
use Rattle.core_text.specs.declared.faults.TextFault.TheVariants.{Memory, NotUtf8, BadToken, Unbalanced, TooDeep, Trailing, BadForm, IllTyped, LooseIndex}

infixl 10 ◌>>=◌
abbrev pub ◌>>=◌ : {A B E : Type 0} → Result A E → (A → Result B E) → Result B E
(Ok x) >>= f = f x
(Err k) >>= f = Err k

abbrev pub letter_in : List ℕ → ℕ → Result SimpleType ℕ
letter_in [] k = Err k
letter_in (b ∷ bs) k = if is_letter (b ∷ bs) then Ok (base_type b) else Err k

abbrev pub type_at : Placed → Result SimpleType ℕ
type_at (word_at w k) = letter_in w k
type_at (number_at n k) = Err k
type_at (list_at (more_at r (more_at s none_at)) k) = type_at r >>= λ p. type_at s >>= λ q. Ok (function_type p q)
type_at (list_at fs k) = Err k

-- a name's characters
abbrev pub name_at : Placed → Result (List ℕ) ℕ
name_at (word_at w k) = if is_name w then Ok (chars w) else Err k
name_at (number_at n k) = Err k
name_at (list_at fs k) = Err k

abbrev pub number_in : Placed → Result ℕ ℕ
number_in (word_at w k) = Err k
number_in (number_at n k) = Ok n
number_in (list_at fs k) = Err k

-- the constant that a word names
abbrev pub constant_in : List ℕ → ℕ → Result Term ℕ
constant_in w k =
    if same_bytes w (codes "NOT") then Ok (constant negation)
    else (if same_bytes w (codes "AND") then Ok (constant conjunction)
    else (if same_bytes w (codes "OR") then Ok (constant disjunction)
    else (if same_bytes w (codes "IMPLIES") then Ok (constant implication)
    else (if same_bytes w (codes "TRUTH") then Ok (constant truth)
    else (if same_bytes w (codes "FALSEHOOD") then Ok (constant falsehood)
    else Err k)))))

-- (B n), (ALL T) or (SOME T), by the first word
abbrev pub pair_at : List ℕ → Placed → ℕ → Result Term ℕ
pair_at w x k =
    if same_bytes w (codes "B") then (number_in x >>= λ n. Ok (bound n))
    else (if same_bytes w (codes "ALL") then (type_at x >>= λ s. Ok (constant (forall s)))
    else (if same_bytes w (codes "SOME") then (type_at x >>= λ s. Ok (constant (exists s)))
    else Err k))

abbrev pub variable_at : Placed → Placed → Result Term ℕ
variable_at x y = name_at x >>= λ name. type_at y >>= λ s. Ok (free name s)

abbrev pub term_at : Placed → Result Term ℕ
term_at (word_at w k) = constant_in w k
term_at (number_at n k) = Err k
term_at (list_at (more_at (word_at w j) (more_at x none_at)) k) = pair_at w x k
term_at (list_at (more_at (word_at w j) (more_at x (more_at y none_at))) k) =
    if same_bytes w (codes "V") then variable_at x y
    else (if same_bytes w (codes "A") then (term_at x >>= λ f. term_at y >>= λ a. Ok (application f a))
    else (if same_bytes w (codes "L") then (type_at x >>= λ s. term_at y >>= λ b. Ok (abstraction s b))
    else Err k))
term_at (list_at fs k) = Err k

-- the fault is running out of memory, or BadForm at the place that reading answers
abbrev pub Fails : {A : Type 0} → TextFault → Result A ℕ → Type 0
Fails Memory read = Unit {0}
Fails NotUtf8 read = ⊥
Fails (BadToken k) read = ⊥
Fails (Unbalanced k) read = ⊥
Fails (TooDeep k) read = ⊥
Fails (Trailing k) read = ⊥
Fails (BadForm k) read = read ≡ Err k
Fails (IllTyped k) read = ⊥
Fails (LooseIndex k) read = ⊥

-- what the program answers, seen by view, is what reading answers, unless memory ran out
abbrev pub Gives : {X A : Type 0} → (X → A) → Result X TextFault → Result A ℕ → Type 0
Gives view (Ok x) read = read ≡ Ok (view x)
Gives view (Err e) read = Fails e read
