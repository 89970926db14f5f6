use Rattle.std.proofs.Common.{◌≡◌, ◌∙◌, ℕ, List, true, ap, drop, length, map, subst, sym}
use Rattle.std.proofs.lemmas.Result.{err_from_is_err_and}
use Rattle.tps_reader.specs.Tokens.{Token, number}
use Rattle.tps_reader.specs.Views.{plain_tokens}
use Rattle.script_text.specs.Grammar.{Leads}
use Rattle.script_text.specs.Tails.{BeginsNoNumber, Rises}
use Rattle.script_text.proofs.Rising.{rises_drop}
use Rattle.script_text.proofs.Tailing.{numbered_fails}
use Rattle.script_text.proofs.tails.read_rising.Goals as goal

pub returns-in_err-numbers-clause-fault : goal.returns-in_err-numbers-clause-fault
returns-in_err-numbers-clause-fault c =
    let p = err_from_is_err_and c.from_residual.result c.from_residual.ensures.1 in
    rw (p.1, p.2) (c.in_err-numbers.ensures.fault c.args.end)

pub read_one-requires : goal.read_one-requires
read_one-requires c =
    let ts = plain_tokens c.args.lexemes.now in
    let same : plain_tokens c.behind.result.now ≡ drop (length c.in_ok-numbers.numbers) ts = c.behind.ensures ∙ ap (λ (n : ℕ). drop n ts) c.len-at.ensures in
    subst (λ (l : List Token). Rises 0 l c.args.end) (sym same) (rises_drop (length c.in_ok-numbers.numbers) ts c.args.end c.requires)

pub returns-in_err-phrase-clause-fault : goal.returns-in_err-phrase-clause-fault
returns-in_err-phrase-clause-fault c =
    let ts = plain_tokens c.args.lexemes.now in
    let ns = c.in_ok-numbers.numbers in
    let back = plain_tokens c.behind.result.now in
    let same : back ≡ drop (length ns) ts = c.behind.ensures ∙ ap (λ (n : ℕ). drop n ts) c.len-at.ensures in
    let leads = subst (λ (l : List Token). Leads (map number ns) l ts) (sym same) c.in_ok-numbers.ensures.leads in
    let none = subst BeginsNoNumber (sym same) c.in_ok-numbers.ensures.all in
    let p = err_from_is_err_and c.from_residual-in_err-phrase.result c.from_residual-in_err-phrase.ensures.1 in
    rw (p.1, p.2) (numbered_fails true ns back ts c.args.end c.in_err-phrase.field-0.0 leads c.in_ok-numbers.ensures.rising none c.in_err-phrase.ensures.fault)

pub returns-clause-parts : goal.returns-clause-parts
returns-clause-parts c =
    let ts = plain_tokens c.args.lexemes.now in
    let ns = c.in_ok-numbers.numbers in
    let back = plain_tokens c.behind.result.now in
    let same : back ≡ drop (length ns) ts = c.behind.ensures ∙ ap (λ (n : ℕ). drop n ts) c.len-at.ensures in
    (back, subst (λ (l : List Token). Leads (map number ns) l ts) (sym same) c.in_ok-numbers.ensures.leads, c.in_ok-numbers.ensures.rising, c.in_ok-phrase.ensures.phrase)
