-- The printed text of a term is cut into the tokens of its signs.
use Rattle.std.proofs.Common.{ℕ, zero, suc, ◌+◌, ◌-◌, ◌^◌, ◌<◌, ◌≤◌, List, [], ◌∷◌, ◌++◌, Bool, true, false, cond, not, map, ◌≡◌, refl, sym, ap, subst, ◌∙◌, length, arith, append_assoc, codes, None, All}
use Rattle.std.specs.Prelude.{encode_utf8_all}
use Rattle.std.specs.List.{list_any, list_all, range_with_len}
use Rattle.std.proofs.lemmas.List.Elements.{All-nil, All-cons, All-get_or, All-filter}
use Rattle.hol_terms.specs.Names.{IsName}
use Rattle.hol_terms.specs.Terms.{SimpleType, Constant, negation, conjunction, disjunction, implication, truth, falsehood, forall, exists, Term, application, Variable}
use Rattle.hol_terms.specs.Collected.{with_variables}
use Rattle.hol_terms.specs.Computed.{same_name, same_variable}
use Rattle.hol_terms.specs.FreeVariables.{occurrences}
use Rattle.hol_terms.specs.Indices.{IsClosedBelow}
use Rattle.hol_terms.proofs.Collecting.{with_variables_append}
use Rattle.hol_terms.proofs.TypingLaws.{typed_is_closed}
use Rattle.core_text.specs.CoreForms.{ConstantHasLetters, HasLetters, HasNames}
use Rattle.tps_reader.specs.Grammar.{is_letter}
use Rattle.tps_reader.specs.Tokens.{Sign, close_square, dot, tilde, word}
use Rattle.tps_print.specs.BoundNames.{binder_depth, free_names, numbered_name}
use Rattle.tps_print.specs.Laws.{AreNamesFor, HasTokensOfSigns, HasFormulaText}
use Rattle.tps_print.specs.Layouts.{Layout, a_variable, an_index, a_constant, a_negation, a_universal, an_existential, a_conjunction, a_disjunction, an_implication, an_application, an_abstraction}
use Rattle.tps_print.specs.Pieces.{Piece, fixed, pieces, written, bracketed, brackets_application, brackets_compound, brackets_negation, name_at, binder_text, in_parentheses, constant_text}
use Rattle.tps_print.specs.Printed.{names_beside}
use Rattle.tps_print.specs.ShortWords.{ConstantHasShortRuns, HasShortRuns, HasShortWords}
use Rattle.tps_print.specs.Signs.{bracket_signs, constant_signs, round_signs, term_signs}
use Rattle.tps_print.specs.declared.levels.Level.{Level}
use Rattle.tps_print.specs.declared.levels.Level.TheVariants as level
use Rattle.tps_print.proofs.Annotated.{deep_below, deep_scope, deep_sides, deep_parts, deep_body}
use Rattle.tps_print.proofs.Applied.{plainly_applied}
use Rattle.tps_print.proofs.Binders.{bound_names_are, numbered_named}
use Rattle.tps_print.proofs.LaidOut.{layout_of}
use Rattle.tps_print.proofs.Phrased.{tokens_read}
use Rattle.tps_print.proofs.Lexed.{Prints, Halts, prints_end, space, a_word, a_letters, opens, closes, a_dot, a_tilde, prints_round, tokens_of_prints}
use Rattle.tps_print.proofs.Taken.{plainly}

-- names whose bytes are their characters
abbrev pub IsPlain : List ℕ → Type 0
IsPlain n = IsName n × (encode_utf8_all n ≡ n)

plain_word : (n bytes : List ℕ) (signs : List Sign) → IsPlain n → Halts bytes signs → Prints (n ++ bytes) (word n ∷ signs)
plain_word n bytes signs plain p = subst (λ (w : List ℕ). Prints (w ++ bytes) (word n ∷ signs)) plain.1 (a_word n bytes signs plain.0.0 p)

prints_constant : (c : Constant) (bytes : List ℕ) (signs : List Sign) → ConstantHasLetters c → ConstantHasShortRuns c → Halts bytes signs → Prints (constant_text c ++ bytes) (constant_signs c signs)
prints_constant negation bytes signs h short p = (opens _ _ (a_tilde _ _ (closes _ _ p.prints).prints).prints).prints
prints_constant conjunction bytes signs h short p = (opens _ _ (a_letters 65 (codes "ND") _ _ refl (omega arith) (closes _ _ p.prints))).prints
prints_constant disjunction bytes signs h short p = (opens _ _ (a_letters 79 (codes "R") _ _ refl (omega arith) (closes _ _ p.prints))).prints
prints_constant implication bytes signs h short p = (opens _ _ (a_letters 73 (codes "MPLIES") _ _ refl (omega arith) (closes _ _ p.prints))).prints
prints_constant truth bytes signs h short p = a_letters 84 (codes "RUTH") bytes signs refl (omega arith) p
prints_constant falsehood bytes signs h short p = a_letters 70 (codes "ALSEHOOD") bytes signs refl (omega arith) p
prints_constant (forall s) bytes signs h short p =
    subst (λ (x : List ℕ). Prints (codes "[FORALL" ++ x) (constant_signs (forall s) signs)) (sym (append_assoc (in_parentheses s) (codes "]") bytes))
    (opens _ _ (a_letters 70 (codes "ORALL") _ _ refl (omega arith) (prints_round s (93 ∷ bytes) (close_square ∷ signs) h short (closes bytes signs p.prints)))).prints
prints_constant (exists s) bytes signs h short p =
    subst (λ (x : List ℕ). Prints (codes "[EXISTS" ++ x) (constant_signs (exists s) signs)) (sym (append_assoc (in_parentheses s) (codes "]") bytes))
    (opens _ _ (a_letters 69 (codes "XISTS") _ _ refl (omega arith) (prints_round s (93 ∷ bytes) (close_square ∷ signs) h short (closes bytes signs p.prints)))).prints

-- pieces that are printed where these variables stand earlier, and after which those stand earlier
abbrev Follows : List Variable → List Variable → List Piece → (List Sign → List Sign) → Type 0
Follows before after ps inner = (qs : List Piece) (signs : List Sign) → Halts (written after qs) signs → Prints (written before (ps ++ qs)) (inner signs)

in_brackets : (b : Bool) (before after : List Variable) (ps : List Piece) (inner : List Sign → List Sign) → Follows before after ps inner → Follows before after (bracketed b ps) (bracket_signs b inner)
in_brackets false before after ps inner f qs signs p = f qs signs p
in_brackets true before after ps inner f qs signs p =
    (opens _ _ (subst (λ (x : List Piece). Prints (written before x) (inner (close_square ∷ signs))) (sym (append_assoc ps (fixed (codes "]") ∷ []) qs))
    (f (fixed (codes "]") ∷ qs) (close_square ∷ signs) (closes _ _ p.prints)))).prints

-- a binder's text
binder_prints : (l : ℕ) (ls : List ℕ) (n : List ℕ) (s : SimpleType) (bytes : List ℕ) (signs : List Sign) → list_all is_letter (l ∷ ls) ≡ true → length (l ∷ ls) ≤ 64 → IsPlain n → HasLetters s → HasShortRuns s 0
    → Prints bytes signs → Prints (binder_text (l ∷ ls) n s ++ bytes) (word (l ∷ ls) ∷ word n ∷ round_signs s (dot ∷ signs))
binder_prints l ls n s bytes signs all short plain letters runs p =
    let end : Halts (in_parentheses s ++ (46 ∷ 32 ∷ bytes)) (round_signs s (dot ∷ signs)) = prints_round s (46 ∷ 32 ∷ bytes) (dot ∷ signs) letters runs (a_dot _ _ (space _ _ p).prints) in
    let whole : Prints (l ∷ (ls ++ (32 ∷ (n ++ (in_parentheses s ++ (46 ∷ 32 ∷ bytes)))))) (word (l ∷ ls) ∷ word n ∷ round_signs s (dot ∷ signs)) =
    a_letters l ls _ _ all short (space _ _ (plain_word n _ _ plain end)) in
    subst (λ (x : List ℕ). Prints (l ∷ x) (word (l ∷ ls) ∷ word n ∷ round_signs s (dot ∷ signs)))
    (sym (append_assoc ls (32 ∷ (n ++ (in_parentheses s ++ codes ". "))) bytes
    ∙ ap (λ (x : List ℕ). ls ++ (32 ∷ x)) (append_assoc n (in_parentheses s ++ codes ". ") bytes ∙ ap (λ (x : List ℕ). n ++ x) (append_assoc (in_parentheses s) (codes ". ") bytes))))
    whole

pub prints_term : (names : List (List ℕ)) (d : ℕ) (l : Level) (earlier : List Variable) (t : Term) (k : Layout t) → All IsPlain names → d + binder_depth t ≤ length names → IsClosedBelow d t → HasNames t → HasShortWords t
    → Follows earlier (with_variables earlier (occurrences t)) (pieces names d l t) (term_signs names d l earlier t k)
prints_term names d l earlier _ (a_variable n s) all deep closed named short qs signs p = go (list_any (same_variable (n, s)) earlier)
  where
    go : (b : Bool) → Prints (encode_utf8_all n ++ (cond b [] (in_parentheses s) ++ written (with_variables earlier ((n, s) ∷ [])) qs)) (word n ∷ cond b signs (round_signs s signs))
    go true = a_word n _ _ named.0.0 p
    go false = a_word n _ _ named.0.0 (prints_round s _ signs named.1 short p)
prints_term names d l earlier _ (an_index i) all deep closed named short qs signs p =
    let inside : i < d = closed in
    let low : d + 0 ≤ length names = deep in
    let within : d - i - 1 < length names = omega (arith, inside, low) in
    plain_word (name_at names (d - i - 1)) _ _ (All-get_or IsPlain names (d - i - 1) [] within all) p
prints_term names d l earlier _ (a_constant c) all deep closed named short qs signs p = prints_constant c _ _ named short p
prints_term names d l earlier _ (a_negation s k) all deep closed named short qs signs p =
    in_brackets (brackets_negation l) earlier (with_variables earlier (occurrences s)) (fixed (codes "~ ") ∷ pieces names d level.Operand s) (λ (more : List Sign). tilde ∷ term_signs names d level.Operand earlier s k more)
    (λ rs more q. (a_tilde _ _ (space _ _ (prints_term names d level.Operand earlier s k all (deep_below d (binder_depth s) (length names) deep) closed.1 named.1 short.1 rs more q)).prints).prints)
    qs signs p
prints_term names d l earlier _ (a_universal q s b k) all deep closed named short qs signs p =
    let inner = deep_scope d (binder_depth b) (length names) deep in
    in_brackets (brackets_compound l) earlier (with_variables earlier (occurrences b)) (fixed (binder_text (codes "FORALL") (name_at names d) s) ∷ pieces names (d + 1) level.Top b)
    (λ (more : List Sign). word (codes "FORALL") ∷ word (name_at names d) ∷ round_signs s (dot ∷ term_signs names (d + 1) level.Top earlier b k more))
    (λ rs more q. binder_prints 70 (codes "ORALL") (name_at names d) s _ _ refl (omega arith) (All-get_or IsPlain names d [] inner.1 all) named.1.0 short.1.0
    (prints_term names (d + 1) level.Top earlier b k all inner.0 closed.1 named.1.1 short.1.1 rs more q))
    qs signs p
prints_term names d l earlier _ (an_existential q s b k) all deep closed named short qs signs p =
    let inner = deep_scope d (binder_depth b) (length names) deep in
    in_brackets (brackets_compound l) earlier (with_variables earlier (occurrences b)) (fixed (binder_text (codes "EXISTS") (name_at names d) s) ∷ pieces names (d + 1) level.Top b)
    (λ (more : List Sign). word (codes "EXISTS") ∷ word (name_at names d) ∷ round_signs s (dot ∷ term_signs names (d + 1) level.Top earlier b k more))
    (λ rs more q. binder_prints 69 (codes "XISTS") (name_at names d) s _ _ refl (omega arith) (All-get_or IsPlain names d [] inner.1 all) named.1.0 short.1.0
    (prints_term names (d + 1) level.Top earlier b k all inner.0 closed.1 named.1.1 short.1.1 rs more q))
    qs signs p
prints_term names d l earlier _ (a_conjunction s t k m) all deep closed named short qs signs p =
    let parts = deep_sides d (binder_depth s) (binder_depth t) (length names) deep in
    in_brackets (brackets_compound l) earlier (with_variables earlier (occurrences s ++ occurrences t)) (pieces names d level.Operand s ++ (fixed (codes " AND ") ∷ pieces names d level.Operand t))
    (λ (more : List Sign). term_signs names d level.Operand earlier s k (word (codes "AND") ∷ term_signs names d level.Operand (with_variables earlier (occurrences s)) t m more))
    (λ rs more q.
    subst (λ (x : List Piece). Prints (written earlier x) (term_signs names d level.Operand earlier s k (word (codes "AND") ∷ term_signs names d level.Operand (with_variables earlier (occurrences s)) t m more)))
    (sym (append_assoc (pieces names d level.Operand s) (fixed (codes " AND ") ∷ pieces names d level.Operand t) rs))
    (prints_term names d level.Operand earlier s k all parts.0 closed.0.1 named.0.1 short.0.1 (fixed (codes " AND ") ∷ (pieces names d level.Operand t ++ rs)) (word (codes "AND") ∷ term_signs names d level.Operand (with_variables earlier (occurrences s)) t m more)
    (space _ _ (a_letters 65 (codes "ND") _ _ refl (omega arith)
    (space _ _ (prints_term names d level.Operand (with_variables earlier (occurrences s)) t m all parts.1 closed.1 named.1 short.1 rs more
    (subst (λ (e : List Variable). Halts (written e rs) more) (with_variables_append earlier (occurrences s) (occurrences t)) q)))))))
    qs signs p
prints_term names d l earlier _ (a_disjunction s t k m) all deep closed named short qs signs p =
    let parts = deep_sides d (binder_depth s) (binder_depth t) (length names) deep in
    in_brackets (brackets_compound l) earlier (with_variables earlier (occurrences s ++ occurrences t)) (pieces names d level.Operand s ++ (fixed (codes " OR ") ∷ pieces names d level.Operand t))
    (λ (more : List Sign). term_signs names d level.Operand earlier s k (word (codes "OR") ∷ term_signs names d level.Operand (with_variables earlier (occurrences s)) t m more))
    (λ rs more q.
    subst (λ (x : List Piece). Prints (written earlier x) (term_signs names d level.Operand earlier s k (word (codes "OR") ∷ term_signs names d level.Operand (with_variables earlier (occurrences s)) t m more)))
    (sym (append_assoc (pieces names d level.Operand s) (fixed (codes " OR ") ∷ pieces names d level.Operand t) rs))
    (prints_term names d level.Operand earlier s k all parts.0 closed.0.1 named.0.1 short.0.1 (fixed (codes " OR ") ∷ (pieces names d level.Operand t ++ rs)) (word (codes "OR") ∷ term_signs names d level.Operand (with_variables earlier (occurrences s)) t m more)
    (space _ _ (a_letters 79 (codes "R") _ _ refl (omega arith)
    (space _ _ (prints_term names d level.Operand (with_variables earlier (occurrences s)) t m all parts.1 closed.1 named.1 short.1 rs more
    (subst (λ (e : List Variable). Halts (written e rs) more) (with_variables_append earlier (occurrences s) (occurrences t)) q)))))))
    qs signs p
prints_term names d l earlier _ (an_implication s t k m) all deep closed named short qs signs p =
    let parts = deep_sides d (binder_depth s) (binder_depth t) (length names) deep in
    in_brackets (brackets_compound l) earlier (with_variables earlier (occurrences s ++ occurrences t)) (pieces names d level.Operand s ++ (fixed (codes " IMPLIES ") ∷ pieces names d level.Operand t))
    (λ (more : List Sign). term_signs names d level.Operand earlier s k (word (codes "IMPLIES") ∷ term_signs names d level.Operand (with_variables earlier (occurrences s)) t m more))
    (λ rs more q.
    subst (λ (x : List Piece). Prints (written earlier x) (term_signs names d level.Operand earlier s k (word (codes "IMPLIES") ∷ term_signs names d level.Operand (with_variables earlier (occurrences s)) t m more)))
    (sym (append_assoc (pieces names d level.Operand s) (fixed (codes " IMPLIES ") ∷ pieces names d level.Operand t) rs))
    (prints_term names d level.Operand earlier s k all parts.0 closed.0.1 named.0.1 short.0.1 (fixed (codes " IMPLIES ") ∷ (pieces names d level.Operand t ++ rs)) (word (codes "IMPLIES") ∷ term_signs names d level.Operand (with_variables earlier (occurrences s)) t m more)
    (space _ _ (a_letters 73 (codes "MPLIES") _ _ refl (omega arith)
    (space _ _ (prints_term names d level.Operand (with_variables earlier (occurrences s)) t m all parts.1 closed.1 named.1 short.1 rs more
    (subst (λ (e : List Variable). Halts (written e rs) more) (with_variables_append earlier (occurrences s) (occurrences t)) q)))))))
    qs signs p
prints_term names d l earlier _ (an_application g a plain k m) all deep closed named short qs signs p =
    let parts = deep_parts d (binder_depth g) (binder_depth a) (length names) deep in
    subst (λ (x : List Piece). Prints (written earlier (x ++ qs)) (term_signs names d l earlier (application g a) (an_application g a plain k m) signs)) (sym (plainly_applied names d l g a plain))
    (in_brackets (brackets_application l) earlier (with_variables earlier (occurrences g ++ occurrences a)) (pieces names d level.Function g ++ (fixed (codes " ") ∷ pieces names d level.Argument a))
    (λ (more : List Sign). term_signs names d level.Function earlier g k (term_signs names d level.Argument (with_variables earlier (occurrences g)) a m more))
    (λ rs more q.
    subst (λ (x : List Piece). Prints (written earlier x) (term_signs names d level.Function earlier g k (term_signs names d level.Argument (with_variables earlier (occurrences g)) a m more)))
    (sym (append_assoc (pieces names d level.Function g) (fixed (codes " ") ∷ pieces names d level.Argument a) rs))
    (prints_term names d level.Function earlier g k all parts.0 closed.0 named.0 short.0 (fixed (codes " ") ∷ (pieces names d level.Argument a ++ rs)) (term_signs names d level.Argument (with_variables earlier (occurrences g)) a m more)
    (space _ _ (prints_term names d level.Argument (with_variables earlier (occurrences g)) a m all parts.1 closed.1 named.1 short.1 rs more
    (subst (λ (e : List Variable). Halts (written e rs) more) (with_variables_append earlier (occurrences g) (occurrences a)) q)))))
    qs signs p)
prints_term names d l earlier _ (an_abstraction s b k) all deep closed named short qs signs p =
    let inner = deep_body d (binder_depth b) (length names) deep in
    in_brackets (brackets_compound l) earlier (with_variables earlier (occurrences b)) (fixed (binder_text (codes "LAMBDA") (name_at names d) s) ∷ pieces names (d + 1) level.Top b)
    (λ (more : List Sign). word (codes "LAMBDA") ∷ word (name_at names d) ∷ round_signs s (dot ∷ term_signs names (d + 1) level.Top earlier b k more))
    (λ rs more q. binder_prints 76 (codes "AMBDA") (name_at names d) s _ _ refl (omega arith) (All-get_or IsPlain names d [] inner.1 all) named.0 short.0
    (prints_term names (d + 1) level.Top earlier b k all inner.0 closed named.1 short.1 rs more q))
    qs signs p

-- the whole

all_plain : (first count : ℕ) → first + count ≤ 2 ^ 64 → All IsPlain (map numbered_name (range_with_len first count))
all_plain first zero small = All-nil IsPlain
all_plain first (suc count) small =
    All-cons IsPlain (numbered_name first) (map numbered_name (range_with_len (first + 1) count)) (numbered_named first (omega arith), plainly first (omega arith)) (all_plain (first + 1) count (omega arith))

no_more : (ps : List Piece) → ps ++ [] ≡ ps
no_more [] = refl
no_more (p ∷ ps) = ap (λ (l : List Piece). p ∷ l) (no_more ps)

pub has_tokens : HasTokensOfSigns
has_tokens t s l named has short small =
    let are : AreNamesFor (free_names t) (binder_depth t) (names_beside t None) = bound_names_are (free_names t) (binder_depth t) small in
    let enough : binder_depth t ≤ length (names_beside t None) = are.enough in
    let low : 1 + (binder_depth t + length (free_names t)) ≤ 2 ^ 64 = omega (arith, small) in
    let plain : All IsPlain (names_beside t None) =
    All-filter (λ (name : List ℕ). not (list_any (same_name name) (free_names t))) IsPlain (map numbered_name (range_with_len 1 (binder_depth t + length (free_names t)))) (all_plain 1 (binder_depth t + length (free_names t)) low) in
    let p = prints_term (names_beside t None) 0 level.Top [] t l plain (omega (arith, enough)) (typed_is_closed t s has) named short [] [] prints_end in
    tokens_of_prints (written [] (pieces (names_beside t None) 0 level.Top t)) (term_signs (names_beside t None) 0 level.Top [] t l [])
    (subst (λ (x : List Piece). Prints (written [] x) (term_signs (names_beside t None) 0 level.Top [] t l [])) (no_more (pieces (names_beside t None) 0 level.Top t)) p)

-- the text is a formula text
pub has_formula_text : HasFormulaText
has_formula_text t named small s has one short shallow =
    let found = has_tokens t s (layout_of t) named has short small in
    let read = tokens_read t s (layout_of t) found.0 named has one small found.2 in
    (read.0, (found.0, found.1, shallow found.0 found.1, read.1), read.2)
