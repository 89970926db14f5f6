use Rattle.std.proofs.Common.{[]}
use Rattle.hol_terms.specs.Terms.{plain_term, plain_type}
use Rattle.hol_terms.specs.Typing.{Typed}
use Rattle.core_text.specs.Judged.{judged_at}
use Rattle.core_text.specs.Placed.{placed}
use Rattle.core_text.proofs.Judgements.{judged_typed, typed_judged}
use Rattle.core_text.proofs.Results.{answer_read, answer_refused}
use Rattle.core_text.proofs.typings.judge.Goals as goal

pub returns-clause-typed : goal.returns-clause-typed
returns-clause-typed c =
    let t = plain_term c.args.t.now in
    let p = placed c.args.s.now in
    answer_read plain_type c.judged.result (judged_at t p) c.judged.ensures (Typed [] t) (judged_typed t p)

pub returns-clause-untyped : goal.returns-clause-untyped
returns-clause-untyped c =
    let t = plain_term c.args.t.now in
    let p = placed c.args.s.now in
    answer_refused plain_type c.judged.result (judged_at t p) c.judged.ensures (Typed [] t) (typed_judged t p)
