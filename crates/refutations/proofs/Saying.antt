-- What lines say, and go on saying as further lines come.
use Rattle.std.proofs.Common.{◌≡◌, ℕ, List, Bool, true, false, Some, sym, ◌∙◌, subst, ap}
use Rattle.std.specs.Option.{option_map}
use Rattle.hol_terms.specs.Terms.{Term}
use Rattle.nd_rules.specs.Lines.{DeductionLine}
use Rattle.nd_steps.specs.Deductions.{Assumes, Proves, Grows}
use Rattle.nd_steps.proofs.Growing.{proves_stays}
use Rattle.refutations.specs.Opens.{said, Says}

-- a line that proves or assumes a formula says it

pub proves_says : (lines : List DeductionLine) (n : ℕ) (hyps : List ℕ) (a : Term) → Proves lines n hyps a → Says lines n a
proves_says lines n hyps a p = ap (option_map (λ (l : DeductionLine). l.formula)) p.found ∙ ap Some p.says

pub assumes_says : (lines : List DeductionLine) (n : ℕ) (a : Term) → Assumes lines n a → Says lines n a
assumes_says lines n a p = ap (option_map (λ (l : DeductionLine). l.formula)) p.found ∙ ap Some p.says

pub says_one : (lines : List DeductionLine) (n : ℕ) (a b : Term) → Says lines n a → Says lines n b → a ≡ b
says_one lines n a b p q = let both : Some a ≡ Some b = sym p ∙ q in cc

-- what a line says of a formula is said of no other
said_one : (p : Bool) (a b : Term) → said p a ≡ said p b → a ≡ b
said_one true a b e = cc
said_one false a b e = e

-- the formula of which a line says so
pub said_read : (lines : List DeductionLine) (n : ℕ) (p : Bool) (a t : Term) → Says lines n (said p a) → Says lines n (said p t) → t ≡ a
said_read lines n p a t says read = said_one p t a (says_one lines n (said p t) (said p a) read says)

-- a line that there was says what it said
pub said_before : (lines lines' : List DeductionLine) (n : ℕ) (hyps : List ℕ) (a b : Term) → Grows lines lines' → Proves lines n hyps a → Says lines' n b → Says lines n b
said_before lines lines' n hyps a b grown p says =
    let same : a ≡ b = says_one lines' n a b (proves_says lines' n hyps a (proves_stays lines lines' n hyps a grown p)) says in
    subst (Says lines n) same (proves_says lines n hyps a p)
