use Rattle.std.proofs.Common.{◌≡◌, ◌+◌, ◌++◌, ◌∷◌, List, [], ap, arith, drop, length, map, subst, sym, ℕ}
use Rattle.std.proofs.lemmas.List.{length-append}
use Rattle.tps_reader.specs.Tokens.{number}
use Rattle.tps_reader.specs.Views.{plain_tokens}
use Rattle.script_text.specs.Grammar.{Leads}
use Rattle.script_text.proofs.Slicing.{lead_step}
use Rattle.script_text.proofs.numerals.all_numerals.Goals as goal

pub loop-at-preserved : goal.loop-at-preserved
loop-at-preserved c =
    let ts = plain_tokens c.args.lexemes.now in
    let ns = c.loop-at.numbers in
    let n = c.in-Some.n in
    let step = lead_step ns c.loop-at.at n ts c.loop-at.invariant.leads (sym c.in-Some.ensures) in
    let pushed : c.push.new.self ≡ ns ++ n ∷ [] = c.in_ok-push.ensures.ok in
    record {
      leads = subst (λ (l : List ℕ). Leads (map number l) (drop (c.loop-at.at + 1) ts) ts) (sym pushed) step.0;
      count = let long : length c.push.new.self ≡ length (ns ++ n ∷ []) = ap length pushed in omega (arith, long, length-append ns (n ∷ []), c.loop-at.invariant.count);
    }
