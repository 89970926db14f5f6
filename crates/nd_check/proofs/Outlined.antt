-- Lines with rising numbers, put into an outline one after the other.
use Rattle.std.proofs.Common.{◌≡◌, ℕ, ◌<◌, ◌==◌, List, [], ◌∷◌, ◌++◌, true, false, cond, if◌then◌else◌, Some, None, refl, sym, ◌∙◌, ap, subst, append_assoc, arith}
use Rattle.std.specs.Prelude.{nat_lt}
use Rattle.std.specs.List.{AllByRecursion}
use Rattle.std.proofs.lemmas.Bool.{lt-ltb, ne_eqb}
use Rattle.std.proofs.lemmas.List.Elements.{recursion_from_All}
use Rattle.nd_rules.specs.Lines.{DeductionLine, line_of, numbers_of}
use Rattle.nd_rules.specs.Outlines.{IsOutline, IsWellFormed, with_line}
use Rattle.nd_rules.proofs.Edits.{Rises, rises}

-- what holds of all lines holds of each
at_line : (P : DeductionLine → Type 0) (front rest : List DeductionLine) (l : DeductionLine) → AllByRecursion P (front ++ l ∷ rest) → P l
at_line P [] rest l h = h.0
at_line P (m ∷ front) rest l h = at_line P front rest l h.1

at_number : (P : ℕ → Type 0) (front rest : List DeductionLine) (l : DeductionLine) → AllByRecursion P (numbers_of (front ++ l ∷ rest)) → P l.number
at_number P [] rest l h = h.0
at_number P (m ∷ front) rest l h = at_number P front rest l h.1

-- a line above all others goes to the end
put_last : (front rest : List DeductionLine) (l : DeductionLine) → Rises (numbers_of (front ++ l ∷ rest)) → with_line front l ≡ front ++ l ∷ []
put_last [] rest l h = refl
put_last (m ∷ front) rest l h =
    let below : m.number < l.number = at_number (λ n. m.number < n) front rest l h.0 in
    let test : nat_lt m.number l.number ≡ true = lt-ltb m.number l.number below in
    ap (λ b. if b then (m ∷ with_line front l) else (l ∷ m ∷ front)) test ∙ ap (λ ls. m ∷ ls) (put_last front rest l h.1)

-- and its number is free
last_free : (front rest : List DeductionLine) (l : DeductionLine) → Rises (numbers_of (front ++ l ∷ rest)) → line_of front l.number ≡ None
last_free [] rest l h = refl
last_free (m ∷ front) rest l h =
    let below : m.number < l.number = at_number (λ n. m.number < n) front rest l h.0 in
    let test : (m.number == l.number) ≡ false = ne_eqb m.number l.number (λ e. omega arith) in
    ap (λ b. cond b (Some m) (line_of front l.number)) test ∙ last_free front rest l h.1

module _ (front rest whole : List DeductionLine) (l : DeductionLine) (is : front ++ l ∷ rest ≡ whole) (outline : IsOutline whole) where
  pub next_formed : IsWellFormed l
  next_formed = at_line IsWellFormed front rest l (subst (AllByRecursion IsWellFormed) (sym is) (recursion_from_All IsWellFormed whole outline.formed))

  next_rises : Rises (numbers_of (front ++ l ∷ rest))
  next_rises = subst (λ (ls : List DeductionLine). Rises (numbers_of ls)) (sym is) (rises (numbers_of whole) outline.rising)

  pub next_put : with_line front l ≡ front ++ l ∷ []
  next_put = put_last front rest l next_rises

  pub next_free : line_of front l.number ≡ None
  next_free = last_free front rest l next_rises

  -- what is left, where the line was put in
  pub one_more : (new : List DeductionLine) → new ≡ with_line front l → new ++ rest ≡ whole
  one_more new e = ap (λ ls. ls ++ rest) (e ∙ next_put) ∙ append_assoc front (l ∷ []) rest ∙ is
