-- What the steps of a command decide.
use Rattle.std.proofs.Common.{◌≡◌, ◌∙◌, ◌∷◌, [], ℕ, List, Some, ap, codes, refl, subst, sym}
use native.Mathlib.Omega.{arith}
use Rattle.proof_text.specs.Texts.{Proof, IsProofText}
use Rattle.exp_check.specs.Proofs.{IsProof}
use Rattle.core_text.specs.Words.{numeral_of}
use Rattle.tps_cli.specs.Options.{AreOptions}
use Rattle.tps_cli.specs.Proofs.{HoldsProof}
use Rattle.tps_cli.specs.Words.{AreWordsOf}
use Rattle.tps_cli.proofs.Budgets.{options_one}
use Rattle.tps_cli.specs.declared.command.Command.{Command}
use Rattle.tps_cli.specs.declared.options.Budget.{Budget}
use Rattle.tps_cli.specs.declared.command.Command.TheVariants.{Prove, Check, Translate, Verify, Show, Etps, Generate}

-- a proof text that isn't a proof holds none
pub holds_none : (bytes : List ℕ) (p : Proof) → (IsProof p → ⊥) → ((q : Proof) → IsProofText bytes q → q ≡ p) → HoldsProof bytes → ⊥
holds_none bytes p isnt only held =
    let same : held.0 ≡ p = only held.0 held.1 in
    isnt (subst (λ (q : Proof). IsProof q) same held.2)

-- the first character of the first word
abbrev first_code : List (List ℕ) → ℕ
first_code [] = 0
first_code ([] ∷ ws) = 0
first_code ((c ∷ cs) ∷ ws) = c

-- p isn't c
prove_or_check : (options : List (List ℕ)) → codes "prove" ∷ options ≡ codes "check" ∷ [] → ⊥
prove_or_check options e =
    let same : 112 ≡ 99 = ap first_code e in omega (arith, same)

-- s isn't e
show_or_etps : codes "show" ∷ [] ≡ codes "etps" ∷ [] → ⊥
show_or_etps e =
    let same : 115 ≡ 101 = ap first_code e in omega (arith, same)

-- words ask for one command
pub words_one : (c d : Command) (words : List (List ℕ)) → AreWordsOf c words → AreWordsOf d words → c ≡ d
words_one (Prove b) (Prove c) words (os, e, options, within) (ps, f, options', within') =
    let same : os ≡ ps = cc in
    let budgets : b ≡ c = options_one b c ps (subst (λ (ws : List (List ℕ)). AreOptions b ws) same options) options' in ap Prove budgets
words_one (Prove b) Check words (os, e, set, within) f = absurd (prove_or_check os (sym e ∙ f))
words_one (Prove b) Translate words e f = cc
words_one (Prove b) Verify words e f = cc
words_one (Prove b) Show words e f = cc
words_one (Prove b) Etps words e f = cc
words_one (Prove b) (Generate n) words e f = cc
words_one Check (Prove b) words f (os, e, set, within) = absurd (prove_or_check os (sym e ∙ f))
words_one Translate (Prove b) words e f = cc
words_one Verify (Prove b) words e f = cc
words_one Show (Prove b) words e f = cc
words_one (Generate n) (Prove b) words e f = cc
words_one Check Check words e f = refl
words_one Check Translate words e f = cc
words_one Check Verify words e f = cc
words_one Check Show words e f = cc
words_one Check Etps words e f = cc
words_one Check (Generate n) words e f = cc
words_one Translate Check words e f = cc
words_one Translate Translate words e f = refl
words_one Translate Verify words e f = cc
words_one Translate Show words e f = cc
words_one Translate Etps words e f = cc
words_one Translate (Generate n) words e f = cc
words_one Verify Check words e f = cc
words_one Verify Translate words e f = cc
words_one Verify Verify words e f = refl
words_one Verify Show words e f = cc
words_one Verify Etps words e f = cc
words_one Verify (Generate n) words e f = cc
words_one Show Check words e f = cc
words_one Show Translate words e f = cc
words_one Show Verify words e f = cc
words_one Show Show words e f = refl
words_one Show Etps words e f = absurd (show_or_etps (sym e ∙ f))
words_one Show (Generate n) words e f = cc
words_one Etps (Prove b) words e f = cc
words_one Etps Check words e f = cc
words_one Etps Translate words e f = cc
words_one Etps Verify words e f = cc
words_one Etps Show words e f = absurd (show_or_etps (sym f ∙ e))
words_one Etps Etps words e f = refl
words_one Etps (Generate n) words e f = cc
words_one (Generate n) Etps words e f = cc
words_one (Generate n) Check words e f = cc
words_one (Generate n) Translate words e f = cc
words_one (Generate n) Verify words e f = cc
words_one (Generate n) Show words e f = cc
words_one (Generate n) (Generate m) words (w, e, number, within) (v, f, number', within') =
    let same : w ≡ v = cc in
    let numbers : Some n ≡ Some m = sym number ∙ ap numeral_of same ∙ number' in cc

-- words after `prove` that set no budget are those of no command
pub no_budget :
    (options : List (List ℕ)) → ((b : Budget) → AreOptions b options → ⊥) → (c : Command) → AreWordsOf c (codes "prove" ∷ options) → ⊥
no_budget options none (Prove b) (os, e, set, within) =
    let same : os ≡ options = cc in none b (subst (λ (ws : List (List ℕ)). AreOptions b ws) same set)
no_budget options none Check words = prove_or_check options words
no_budget options none Translate words = cc
no_budget options none Verify words = cc
no_budget options none Show words = cc
no_budget options none Etps words = cc
no_budget options none (Generate n) words = cc
