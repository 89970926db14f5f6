use Rattle.std.proofs.Common.{◌≡◌, ◌<◌, ◌∷◌, ◌∙◌, ℕ, List, ap, drop, length, map, subst, sym}
use Rattle.std.proofs.lemmas.Result.{err_from_is_err_and}
use Rattle.tps_reader.proofs.Results.{if_err, if_ok}
use Rattle.tps_reader.specs.Tokens.{Token, number, sign_of, word}
use Rattle.tps_reader.specs.Views.{plain_sign, plain_token, plain_tokens}
use Rattle.tps_reader.specs.declared.lexemes.Lexeme.{Lexeme}
use Rattle.script_text.specs.Commands.{plain_script}
use Rattle.script_text.specs.Grammar.{Asks, IsCommand, Leads}
use Rattle.script_text.specs.Lines.{IsTokensFault}
use Rattle.script_text.specs.Tails.{HasBody, HasTail, IsFaultIn, Rises, tail_of}
use Rattle.script_text.specs.Words.{command_word, numeral_count, word_text}
use Rattle.script_text.proofs.Answering.{numerals_missing, tail_missing, whole_command}
use Rattle.script_text.proofs.Rising.{rises_drop}
use Rattle.script_text.proofs.Slicing.{drop_tokens, first_lexeme, not_empty}
use Rattle.script_text.proofs.Wording.{word_is}
use Rattle.script_text.proofs.readers.command_of.Goals as goal

pub returns-in_err-numbers-clause-fault : goal.returns-in_err-numbers-clause-fault
returns-in_err-numbers-clause-fault c =
    let ls = c.args.lexemes.now in
    let ts = plain_tokens ls in
    let lexeme = c.index-lexemes-0.result in
    let t = plain_token lexeme in
    let rest = plain_tokens c.behind-rest.result.now in
    let k = c.in-Some.word in
    let some : 0 < length ls = not_empty ls c.if-is_empty.ensures in
    let parts : ts ≡ t ∷ rest = first_lexeme ls lexeme some c.index-lexemes-0.is ∙ ap (λ (l : List Token). t ∷ l) (drop_tokens 1 ls ∙ sym c.behind-rest.ensures) in
    let is : sign_of t ≡ word (word_text k) = word_is (plain_sign lexeme.symbol) k (ap (λ (l : Lexeme). command_word (plain_sign l.symbol)) c.index-lexemes-0.is ∙ sym c.in-Some.ensures) in
    let last = c.args.end in
    let fault = c.in_err-numbers.field-0.0 in
    let p = err_from_is_err_and c.from_residual.result c.from_residual.ensures.1 in
    rw (p.1, p.2) (numerals_missing k ts t rest last fault parts is (λ tail. subst (λ (n : ℕ). IsFaultIn (HasBody n tail) rest last fault) c.numerals-count.ensures (c.in_err-numbers.ensures.fault tail)))

pub arguments-requires-clause-rises : goal.arguments-requires-clause-rises
arguments-requires-clause-rises c =
    let ts = plain_tokens c.args.lexemes.now in
    let last = c.args.end in
    let rest = plain_tokens c.behind-rest.result.now in
    let first : Rises 0 rest last = subst (λ (l : List Token). Rises 0 l last) (sym c.behind-rest.ensures) (rises_drop 1 ts last c.requires) in
    subst (λ (l : List Token). Rises 0 l last) (sym c.behind.ensures) (rises_drop c.numerals-count.result rest last first)

pub returns-clause-command : goal.returns-clause-command
returns-clause-command c =
    let ls = c.args.lexemes.now in
    let ts = plain_tokens ls in
    let lexeme = c.index-lexemes-0.result in
    let t = plain_token lexeme in
    let rest = plain_tokens c.behind-rest.result.now in
    let k = c.in-Some.word in
    let some : 0 < length ls = not_empty ls c.if-is_empty.ensures in
    let parts : ts ≡ t ∷ rest = first_lexeme ls lexeme some c.index-lexemes-0.is ∙ ap (λ (l : List Token). t ∷ l) (drop_tokens 1 ls ∙ sym c.behind-rest.ensures) in
    let is : sign_of t ≡ word (word_text k) = word_is (plain_sign lexeme.symbol) k (ap (λ (l : Lexeme). command_word (plain_sign l.symbol)) c.index-lexemes-0.is ∙ sym c.in-Some.ensures) in
    let ns = c.deref.result.now in
    let back = plain_tokens c.behind.result.now in
    let leads : Leads (map number ns) back rest =
    subst (λ (l : List Token). Leads (map number ns) l rest) (sym c.behind.ensures) (subst (λ (l : List ℕ). Leads (map number l) (drop c.numerals-count.result rest) rest) (sym c.deref.ensures.value) c.in_ok-numbers.ensures.leads) in
    if_ok (λ v. Asks k ns back (plain_script v)) (λ v. IsCommand ts (plain_script v)) (λ v h. whole_command k ts t ns rest back (plain_script v) parts is leads h) c.arguments.result c.arguments.ensures.command

pub returns-clause-fault : goal.returns-clause-fault
returns-clause-fault c =
    let ls = c.args.lexemes.now in
    let ts = plain_tokens ls in
    let lexeme = c.index-lexemes-0.result in
    let t = plain_token lexeme in
    let rest = plain_tokens c.behind-rest.result.now in
    let k = c.in-Some.word in
    let some : 0 < length ls = not_empty ls c.if-is_empty.ensures in
    let parts : ts ≡ t ∷ rest = first_lexeme ls lexeme some c.index-lexemes-0.is ∙ ap (λ (l : List Token). t ∷ l) (drop_tokens 1 ls ∙ sym c.behind-rest.ensures) in
    let is : sign_of t ≡ word (word_text k) = word_is (plain_sign lexeme.symbol) k (ap (λ (l : Lexeme). command_word (plain_sign l.symbol)) c.index-lexemes-0.is ∙ sym c.in-Some.ensures) in
    let ns = c.deref.result.now in
    let back = plain_tokens c.behind.result.now in
    let leads : Leads (map number ns) back rest =
    subst (λ (l : List Token). Leads (map number ns) l rest) (sym c.behind.ensures) (subst (λ (l : List ℕ). Leads (map number l) (drop c.numerals-count.result rest) rest) (sym c.deref.ensures.value) c.in_ok-numbers.ensures.leads) in
    let last = c.args.end in
    let long : length ns ≡ numeral_count k = c.deref.ensures.len ∙ c.in_ok-numbers.ensures.count ∙ c.numerals-count.ensures in
    if_err (IsFaultIn (HasTail (tail_of k)) back last) (IsTokensFault ts last) (λ fault h. tail_missing k ts t ns rest back last fault parts is leads long h) c.arguments.result c.arguments.ensures.fault
