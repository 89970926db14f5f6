-- Which words are those of commands.
use Rattle.std.proofs.Common.{◌≡◌, ℕ, Bool, true, false, cond, List, ◌∷◌, Option, Some, None, refl, sym, ◌∙◌, ap, subst}
use Rattle.core_text.specs.Words.{same_bytes}
use Rattle.core_text.proofs.NameLaws.{same_bytes-only}
use Rattle.tps_reader.specs.Tokens.{Sign, open_square, close_square, open_round, close_round, dot, tilde, semicolon, number, word, Token, sign_of}
use Rattle.script_text.specs.Grammar.{IsUnknown}
use Rattle.script_text.specs.Words.{command_word, word_of, word_text}
use Rattle.script_text.specs.declared.words.CommandWord.{CommandWord}
use Rattle.script_text.specs.declared.words.CommandWord.TheVariants as verb

-- each word is found
pub word_found : (k : CommandWord) → command_word (word (word_text k)) ≡ Some k
word_found verb.Prove = refl
word_found verb.Plan = refl
word_found verb.P = refl
word_found verb.Deduct = refl
word_found verb.Ui = refl
word_found verb.Ugen = refl
word_found verb.Egen = refl
word_found verb.Rulec = refl
word_found verb.Lambda = refl
word_found verb.Rulep = refl
word_found verb.Undo = refl
word_found verb.Done = refl

-- two commands with one word are one
pub one_word : (j k : CommandWord) → word (word_text j) ≡ word (word_text k) → j ≡ k
one_word j k e = let same : Some j ≡ Some k = sym (word_found j) ∙ ap command_word e ∙ word_found k in cc

-- what a test of a word says
Means : List ℕ → Option CommandWord → Type 0
Means w None = Unit {0}
Means w (Some k) = w ≡ word_text k

test : (w : List ℕ) (k : CommandWord) (other : Option CommandWord) → Means w other → Means w (cond (same_bytes w (word_text k)) (Some k) other)
unfolding Means
test w k other g = go (same_bytes w (word_text k)) refl
  where
    go : (b : Bool) → same_bytes w (word_text k) ≡ b → Means w (cond b (Some k) other)
    go true e = same_bytes-only w (word_text k) e
    go false e = g

word_means : (w : List ℕ) → Means w (word_of w)
unfolding Means
word_means w =
    test w verb.Prove _ (test w verb.Plan _ (test w verb.P _ (test w verb.Deduct _ (test w verb.Ui _ (test w verb.Ugen _
    (test w verb.Egen _ (test w verb.Rulec _ (test w verb.Lambda _ (test w verb.Rulep _ (test w verb.Undo _ (test w verb.Done None tt)))))))))))

-- what is found is a word
found_word : (w : List ℕ) (k : CommandWord) → word_of w ≡ Some k → w ≡ word_text k
unfolding Means
found_word w k e = let means : Means w (Some k) = subst (Means w) e (word_means w) in means

pub word_is : (s : Sign) (k : CommandWord) → command_word s ≡ Some k → s ≡ word (word_text k)
word_is open_square k e = cc
word_is close_square k e = cc
word_is open_round k e = cc
word_is close_round k e = cc
word_is dot k e = cc
word_is tilde k e = cc
word_is semicolon k e = cc
word_is (number n) k e = cc
word_is (word w) k e = ap word (found_word w k e)

-- a first token that is no command's word
pub unknown_first : (t : Token) (ts : List Token) → command_word (sign_of t) ≡ None → IsUnknown (t ∷ ts)
unknown_first t ts e k h = let clash : Some k ≡ None = sym (word_found k) ∙ ap command_word (sym h) ∙ e in cc
