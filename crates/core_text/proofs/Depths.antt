-- How deep texts are nested.
use Rattle.std.proofs.Common.{◌≡◌, ℕ, ◌+◌, ◌-◌, ◌≤◌, max, List, [], ◌∷◌, ◌++◌, length, sym, ◌∙◌, ap, append_assoc, append-nil, arith, length-append}
use Rattle.core_text.specs.Tokens.{Token, opening, closing, word, depth_of, most_open}
use Rattle.core_text.specs.Forms.{Form, word_form, number_form, list_form, Forms, no_forms, more_forms, spelling, spelling_of_all, nesting, nesting_of_all, IsWellSpelled}
use Rattle.core_text.specs.Written.{written, written_members, written_others}
use Rattle.core_text.proofs.Kept.{tokens-line}
use Rattle.core_text.proofs.Writing.{tokens-written}

-- it is no less than where it began
most_open-low : (d : ℕ) (ts : List Token) → d ≤ most_open d ts
most_open-low d [] = omega arith
most_open-low d (word w ∷ ts) = most_open-low d ts
most_open-low d (opening ∷ ts) = omega (arith, most_open-low (d + 1) ts)
most_open-low d (closing ∷ ts) = omega arith

max_low : (a b : ℕ) → a ≤ b → b ≡ max (a + 0) b
max_low a b h = omega arith

max_list : (d n m : ℕ) → max (d + 1 + n) (max (d + 1) m) ≡ max (d + (n + 1)) m
max_list d n m = omega arith

max_more : (d n m k : ℕ) → max (d + n) (max (d + m) k) ≡ max (d + max n m) k
max_more d n m k = omega arith

mutual
  most_open-spelling : (f : Form) (d : ℕ) (ts : List Token) → most_open d (spelling f ++ ts) ≡ max (d + nesting f) (most_open d ts)
  most_open-spelling (word_form w) d ts = max_low d (most_open d ts) (most_open-low d ts)
  most_open-spelling (number_form n) d ts = max_low d (most_open d ts) (most_open-low d ts)
  most_open-spelling (list_form fs) d ts =
      let back : d + 1 - 1 ≡ d = omega arith in
      ap (most_open (d + 1)) (append_assoc (spelling_of_all fs) (closing ∷ []) ts)
      ∙ most_open-spelling_of_all fs (d + 1) (closing ∷ ts)
      ∙ ap (λ k. max (d + 1 + nesting_of_all fs) (max (d + 1) (most_open k ts))) back
      ∙ max_list d (nesting_of_all fs) (most_open d ts)

  most_open-spelling_of_all : (fs : Forms) (d : ℕ) (ts : List Token) → most_open d (spelling_of_all fs ++ ts) ≡ max (d + nesting_of_all fs) (most_open d ts)
  most_open-spelling_of_all no_forms d ts = max_low d (most_open d ts) (most_open-low d ts)
  most_open-spelling_of_all (more_forms f fs) d ts =
      ap (most_open d) (append_assoc (spelling f) (spelling_of_all fs) ts)
      ∙ most_open-spelling f d (spelling_of_all fs ++ ts)
      ∙ ap (max (d + nesting f)) (most_open-spelling_of_all fs d ts)
      ∙ max_more d (nesting f) (nesting_of_all fs) (most_open d ts)

depth_spelled : (f : Form) → most_open 0 (spelling f) ≡ nesting f
depth_spelled f =
    let e = most_open-spelling f 0 [] in
    ap (most_open 0) (sym (append-nil (spelling f))) ∙ e ∙ (let z : max (0 + nesting f) 0 ≡ nesting f = omega arith in z)

pub written_depth : (f : Form) → IsWellSpelled f → (depth_of (written f) ≡ nesting f) × (depth_of (written f ++ 10 ∷ []) ≡ nesting f)
written_depth f h = (ap (most_open 0) (tokens-written f h) ∙ depth_spelled f, ap (most_open 0) (tokens-line f h) ∙ depth_spelled f)

-- a form is nested no deeper than its text is long
mutual
  pub nesting_short : (f : Form) → nesting f ≤ length (written f)
  nesting_short (word_form w) = omega arith
  nesting_short (number_form n) = omega arith
  nesting_short (list_form fs) = omega (arith, members_short fs, length-append (written_members fs) (41 ∷ []))

  members_short : (fs : Forms) → nesting_of_all fs ≤ length (written_members fs)
  members_short no_forms = omega arith
  members_short (more_forms f fs) = omega (arith, nesting_short f, others_short fs, length-append (written f) (written_others fs))

  others_short : (fs : Forms) → nesting_of_all fs ≤ length (written_others fs)
  others_short no_forms = omega arith
  others_short (more_forms f fs) = omega (arith, nesting_short f, others_short fs, length-append (written f) (written_others fs))
