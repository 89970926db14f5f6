-- The replies to the lines of a script, as they are written one after the other.
use Rattle.std.proofs.Common.{ℕ, suc, List, [], ◌∷◌, ◌++◌, true, length, ◌==◌, ◌≡◌, refl, sym, ap, subst, ◌∙◌, append_assoc, arith}
use Rattle.std.proofs.lemmas.Bool.Decides.{nat_tests}
use Rattle.std.proofs.lemmas.List.{append-nil}
use Rattle.etps_session.specs.Replays.{SessionState}
use Rattle.etps_script.specs.Lines.{script_lines}
use Rattle.etps_script.specs.Scripts.{AreReplies, HasReply, empty_session}

-- what is written, and then the replies to the lines that are left, are the replies to all
abbrev pub Continues : SessionState → List (List ℕ) → List (List ℕ) → List ℕ → Type 0
Continues s left all written = (more : List ℕ) → AreReplies s left more → AreReplies empty_session all (written ++ more)

-- one reply more
pub replies_more : (s new : SessionState) (line : List ℕ) (left lines all : List (List ℕ)) (before after : List ℕ)
    → Continues s left all before → left ≡ line ∷ lines → HasReply s line new before after → Continues new lines all after
replies_more s new line left lines all before after written e h more r =
    let whole : AreReplies s left (h.0 ++ 10 ∷ more) =
    subst (λ (ls : List (List ℕ)). AreReplies s ls (h.0 ++ 10 ∷ more)) (sym e) (new, h.0, more, h.1, r, refl) in
    let text : before ++ (h.0 ++ 10 ∷ more) ≡ after ++ more =
    sym (ap (λ (l : List ℕ). l ++ more) h.2 ∙ append_assoc (before ++ h.0) (10 ∷ []) more ∙ append_assoc before h.0 (10 ∷ more)) in
    subst (AreReplies empty_session all) text (written (h.0 ++ 10 ∷ more) whole)

-- a list without items
empty_of : (l : List ℕ) → true ≡ (length l == 0) → l ≡ []
empty_of [] e = refl
empty_of (b ∷ bs) e = let none : suc (length bs) ≡ 0 = no_items (suc (length bs)) e in absurd (omega (arith, none))
  where
    no_items : (n : ℕ) → true ≡ (n == 0) → n ≡ 0
    no_items n e = grind (arith, nat_tests)

-- where no line is left
pub replies_all : (s : SessionState) (rest : List ℕ) (all : List (List ℕ)) (written : List ℕ) → Continues s (script_lines rest) all written → true ≡ (length rest == 0) → AreReplies empty_session all written
replies_all s rest all written continues is_end =
    let none = empty_of rest is_end in
    subst (AreReplies empty_session all) (append-nil written)
    (continues [] (subst (λ (l : List ℕ). AreReplies s (script_lines l) []) (sym none) refl))
