use Rattle.std.proofs.Common.{◌≡◌, ◌<◌, ◌≤◌, ◌+◌, ◌∙◌, ℕ, List, arith, drop, length, subst, sym, take}
use Rattle.std.proofs.lemmas.Result.{err_from_is_err_and}
use Rattle.tps_reader.specs.Raws.{plain_raw}
use Rattle.tps_reader.specs.Tokens.{Token, semicolon, sign_of}
use Rattle.tps_reader.specs.Views.{plain_tokens}
use Rattle.std.proofs.lemmas.List.{take-append-drop, take_all}
use Rattle.script_text.specs.Grammar.{IsPhraseOf}
use Rattle.script_text.specs.Tails.{HasTail, IsFaultIn, NoSemicolon, Rises, SemicolonFirst, one_phrase, two_phrases}
use Rattle.script_text.proofs.Rising.{rises_drop}
use Rattle.script_text.proofs.Slicing.{token_count, unexpected_at}
use Rattle.script_text.proofs.Tailing.{front_fails, front_rises, lone_ends, second_fails, two_parts}
use Rattle.script_text.proofs.tails.read_two.Goals as goal

pub read_one-requires : goal.read_one-requires
read_one-requires c =
    let ts = plain_tokens c.args.lexemes.now in
    let at = c.semicolon_at-at.result in
    let h = front_rises (take at ts) (drop at ts) ts c.args.end (sym (take-append-drop at ts)) c.requires in
    subst (λ (l : List Token). Rises 0 l c.place_at.result) (sym c.before-2.ensures) (subst (λ (n : ℕ). Rises 0 (take at ts) n) (sym c.place_at.ensures) h)

pub returns-in_err-first-clause-fault : goal.returns-in_err-first-clause-fault
returns-in_err-first-clause-fault c =
    let ts = plain_tokens c.args.lexemes.now in
    let at = c.semicolon_at-at.result in
    let fault = c.in_err-first.field-0.0 in
    let f = subst (λ (l : List Token). IsFaultIn (HasTail one_phrase) l c.place_at.result fault) c.before-2.ensures c.in_err-first.ensures.fault in
    let g = subst (λ (n : ℕ). IsFaultIn (HasTail one_phrase) (take at ts) n fault) c.place_at.ensures f in
    let p = err_from_is_err_and c.from_residual.result c.from_residual.ensures.1 in
    rw (p.1, p.2) (front_fails (take at ts) (drop at ts) ts c.args.end fault (sym (take-append-drop at ts)) c.semicolon_at-at.ensures.before c.semicolon_at-at.ensures.found g)

pub returns-then-at-lexemes-clause-fault : goal.returns-then-at-lexemes-clause-fault
returns-then-at-lexemes-clause-fault c =
    let ls = c.args.lexemes.now in
    let ts = plain_tokens ls in
    let at = c.semicolon_at-at.result in
    let last = c.args.end in
    let past : length ts ≤ at = omega (arith, token_count ls, c.if-at-lexemes.true) in
    let all : take at ts ≡ ts = take_all at ts past in
    let free : NoSemicolon ts = subst NoSemicolon all c.semicolon_at-at.ensures.before in
    let v = plain_raw c.in_ok-first.first in
    let read : IsPhraseOf ts v = subst (λ (l : List Token). IsPhraseOf l v) (c.before-2.ensures ∙ all) c.in_ok-first.ensures.phrase in
    unexpected_at (HasTail two_phrases) ts last last c.unexpected.result c.unexpected.ensures (lone_ends ts v last free read)

pub read_one-requires-2 : goal.read_one-requires-2
read_one-requires-2 c =
    let ts = plain_tokens c.args.lexemes.now in
    subst (λ (l : List Token). Rises 0 l c.args.end) (sym c.behind.ensures) (rises_drop (c.semicolon_at-at.result + 1) ts c.args.end c.requires)

pub returns-in_err-second-clause-fault : goal.returns-in_err-second-clause-fault
returns-in_err-second-clause-fault c =
    let ls = c.args.lexemes.now in
    let ts = plain_tokens ls in
    let at = c.semicolon_at-at.result in
    let v = plain_raw c.in_ok-first.first in
    let low : at < length ts = omega (arith, token_count ls, c.semicolon_at-at.ensures.within, c.if-at-lexemes.false) in
    let read : IsPhraseOf (take at ts) v = subst (λ (l : List Token). IsPhraseOf l v) c.before-2.ensures c.in_ok-first.ensures.phrase in
    let fault = c.in_err-second.field-0.0 in
    let f = subst (λ (l : List Token). IsFaultIn (HasTail one_phrase) l c.args.end fault) c.behind.ensures c.in_err-second.ensures.fault in
    let p = err_from_is_err_and c.from_residual-in_err-second.result c.from_residual-in_err-second.ensures.1 in
    rw (p.1, p.2) (second_fails at ts v c.args.end fault low c.semicolon_at-at.ensures.before c.semicolon_at-at.ensures.found read f)

pub returns-clause-parts : goal.returns-clause-parts
returns-clause-parts c =
    let ls = c.args.lexemes.now in
    let ts = plain_tokens ls in
    let at = c.semicolon_at-at.result in
    let v = plain_raw c.in_ok-first.first in
    let w = plain_raw c.in_ok-second.second in
    let low : at < length ts = omega (arith, token_count ls, c.semicolon_at-at.ensures.within, c.if-at-lexemes.false) in
    let p = two_parts at ts low in
    let is : sign_of p.0 ≡ semicolon = subst SemicolonFirst p.1 c.semicolon_at-at.ensures.found in
    let first : IsPhraseOf (take at ts) v = subst (λ (l : List Token). IsPhraseOf l v) c.before-2.ensures c.in_ok-first.ensures.phrase in
    let second : IsPhraseOf (drop (at + 1) ts) w = subst (λ (l : List Token). IsPhraseOf l w) c.behind.ensures c.in_ok-second.ensures.phrase in
    (take at ts, p.0, drop (at + 1) ts, p.2, is, first, second)
