use Rattle.std.proofs.Common.{◌≡◌, ◌<◌, ◌+◌, ◌++◌, ◌∷◌, ◌∙◌, List, [], ap, arith, drop, length, map, subst, sym, ℕ}
use Rattle.std.proofs.lemmas.List.{length-append}
use Rattle.tps_reader.specs.Tokens.{number}
use Rattle.tps_reader.specs.Views.{plain_tokens}
use Rattle.tps_reader.specs.declared.faults.RawFault.TheVariants.{Unexpected}
use Rattle.script_text.specs.Grammar.{Leads}
use Rattle.script_text.specs.Tails.{HasBody, first_or}
use Rattle.script_text.specs.declared.faults.CommandFault.TheVariants.{Raw}
use Rattle.script_text.proofs.Leading.{first_none}
use Rattle.script_text.proofs.Slicing.{lead_step, token_count, unexpected_at}
use Rattle.script_text.proofs.Tailing.{fewer_fault}
use Rattle.script_text.proofs.numerals.numerals.Goals as goal

pub returns-in-None-clause-fault : goal.returns-in-None-clause-fault
returns-in-None-clause-fault c = λ tail.
    let ts = plain_tokens c.args.lexemes.now in
    let rest = drop c.loop-at.at ts in
    let low : length c.loop-at.numbers.items < c.args.count = omega (arith, c.loop-at.invariant.count, c.loop-at-test.true) in
    unexpected_at (HasBody c.args.count tail) ts c.args.end (first_or rest c.args.end) c.unexpected.result (c.unexpected.ensures ∙ ap (λ (n : ℕ). Raw (Unexpected n)) c.place_at.ensures)
    (fewer_fault tail c.args.count c.args.end c.loop-at.numbers.items rest ts c.loop-at.invariant.leads low (first_none rest (sym c.in-None.ensures)))

pub loop-at-preserved : goal.loop-at-preserved
loop-at-preserved c =
    let ts = plain_tokens c.args.lexemes.now in
    let ns = c.loop-at.numbers.items in
    let n = c.in-Some.n in
    let step = lead_step ns c.loop-at.at n ts c.loop-at.invariant.leads (sym c.in-Some.ensures) in
    let pushed : c.push.new.self.items ≡ ns ++ n ∷ [] = c.in_ok-push-in-Some.ensures.items in
    record {
      leads = subst (λ (l : List ℕ). Leads (map number l) (drop (c.loop-at.at + 1) ts) ts) (sym pushed) step.0;
      count = let long : length c.push.new.self.items ≡ length (ns ++ n ∷ []) = ap length pushed in omega (arith, long, length-append ns (n ∷ []), c.loop-at.invariant.count);
      within = let low = step.1 in omega (arith, low, token_count c.args.lexemes.now);
    }
