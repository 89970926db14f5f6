use Rattle.std.proofs.Common.{◌≡◌, ◌+◌, ◌++◌, ◌∷◌, ◌∙◌, List, [], ap, arith, drop, false, length, map, refl, subst, sym, true, ℕ}
use Rattle.std.specs.List.Sorted.{IsStrictlyIncreasing}
use Rattle.std.proofs.lemmas.List.{length-append}
use Rattle.hol_terms.specs.Lists.{IsAboveLast}
use Rattle.tps_reader.specs.Tokens.{number}
use Rattle.tps_reader.specs.Views.{plain_token, plain_tokens}
use Rattle.tps_reader.specs.declared.faults.RawFault.TheVariants.{Unexpected}
use Rattle.tps_reader.specs.declared.lexemes.Lexeme.{Lexeme}
use Rattle.script_text.specs.Grammar.{Leads}
use Rattle.script_text.specs.Tails.{HasTail, numbered}
use Rattle.script_text.specs.declared.faults.CommandFault.TheVariants.{Raw}
use Rattle.script_text.proofs.Slicing.{lead_step, lexeme_at, unexpected_at}
use Rattle.script_text.proofs.Tailing.{above_next, rising_at}
use Rattle.script_text.proofs.numerals.rising_numerals.Goals as goal

pub returns-then-not-may_push-clause-fault : goal.returns-then-not-may_push-clause-fault
returns-then-not-may_push-clause-fault c = λ last.
    let ls = c.args.lexemes.now in
    let ts = plain_tokens ls in
    let lexeme = c.index-lexemes-at.result in
    let e = lexeme_at ls c.loop-at.at lexeme c.loop-at-test.true c.index-lexemes-at.is in
    let place = c.unexpected.ensures ∙ ap (λ (l : Lexeme). Raw (Unexpected l.place)) (sym c.index-lexemes-at.is) in
    let low : IsAboveLast c.loop-at.numbers c.in-Some.n → ⊥ = λ h. let none : false ≡ true = c.if-not-may_push.ensures.1 h in cc in
    unexpected_at (HasTail (numbered true)) ts last lexeme.place c.unexpected.result place
    (rising_at c.loop-at.numbers c.in-Some.n c.loop-at.at ts (plain_token lexeme) (drop (c.loop-at.at + 1) ts) last c.loop-at.invariant.leads e (sym c.in-Some.ensures) c.loop-at.invariant.rising low)

pub loop-at-preserved : goal.loop-at-preserved
loop-at-preserved c =
    let ts = plain_tokens c.args.lexemes.now in
    let ns = c.loop-at.numbers in
    let n = c.in-Some.n in
    let step = lead_step ns c.loop-at.at n ts c.loop-at.invariant.leads (sym c.in-Some.ensures) in
    let pushed : c.push.new.self ≡ ns ++ n ∷ [] = c.in_ok-push.ensures.ok in
    let above : IsAboveLast ns n = c.if-not-may_push.ensures.0 refl in
    record {
      leads = subst (λ (l : List ℕ). Leads (map number l) (drop (c.loop-at.at + 1) ts) ts) (sym pushed) step.0;
      count = let long : length c.push.new.self ≡ length (ns ++ n ∷ []) = ap length pushed in omega (arith, long, length-append ns (n ∷ []), c.loop-at.invariant.count);
      rising = subst IsStrictlyIncreasing (sym pushed) (above_next ns n c.loop-at.invariant.rising above);
    }
