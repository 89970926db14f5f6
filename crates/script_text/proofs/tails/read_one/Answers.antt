use Rattle.std.proofs.Common.{◌≡◌, ◌-◌, ◌∙◌, ℕ, ap, arith, subst, sym}
use Rattle.tps_reader.specs.Faults.{IsPhraseFault}
use Rattle.tps_reader.specs.Tokens.{tokens_from}
use Rattle.tps_reader.specs.Views.{plain_tokens}
use Rattle.script_text.specs.Grammar.{first_place}
use Rattle.script_text.specs.Tails.{HasTail, IsFaultIn, FitsBehind, moved_fault, one_phrase}
use Rattle.script_text.specs.declared.faults.CommandFault.{CommandFault}
use Rattle.script_text.proofs.Phrasing.{first_start, phrase_fault, phrase_fits}
use Rattle.script_text.proofs.Rising.{first_low}
use Rattle.script_text.proofs.tails.read_one.Goals as goal

pub overflow_sub-end : goal.overflow_sub-end
overflow_sub-end c =
    let ts = plain_tokens c.args.lexemes.now in
    let low = first_low ts c.args.end c.requires in
    let e : c.place_at-origin.result ≡ first_place ts = c.place_at-origin.ensures ∙ first_start ts in
    omega (arith, low, e)

pub moved-requires : goal.moved-requires
moved-requires c =
    let ts = plain_tokens c.args.lexemes.now in
    let last = c.args.end in
    let e : c.place_at-origin.result ≡ first_place ts = c.place_at-origin.ensures ∙ first_start ts in
    let h = subst (λ (k : ℕ). IsPhraseFault (tokens_from k ts) (last - k) c.in-Err.fault) e c.in-Err.ensures.fault in
    subst (λ (k : ℕ). FitsBehind k c.in-Err.fault) (sym e) (phrase_fits ts last c.in-Err.fault c.ranges.end.fits c.requires h)

pub returns-in-Err-clause-fault : goal.returns-in-Err-clause-fault
returns-in-Err-clause-fault c =
    let ts = plain_tokens c.args.lexemes.now in
    let last = c.args.end in
    let e : c.place_at-origin.result ≡ first_place ts = c.place_at-origin.ensures ∙ first_start ts in
    let h = subst (λ (k : ℕ). IsPhraseFault (tokens_from k ts) (last - k) c.in-Err.fault) e c.in-Err.ensures.fault in
    let same : c.moved.result ≡ moved_fault (first_place ts) c.in-Err.fault = c.moved.ensures ∙ ap (λ (k : ℕ). moved_fault k c.in-Err.fault) e in
    subst (λ (f : CommandFault). IsFaultIn (HasTail one_phrase) ts last f) (sym same) (phrase_fault ts last c.in-Err.fault c.requires h)
