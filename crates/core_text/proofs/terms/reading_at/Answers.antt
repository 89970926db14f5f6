use Rattle.std.proofs.Common.{Ok}
use Rattle.hol_terms.specs.Terms.{plain_term}
use Rattle.core_text.specs.Judged.{judged_at}
use Rattle.core_text.specs.Placed.{placed}
use Rattle.core_text.proofs.Results.{fault_first}
use Rattle.core_text.proofs.terms.reading_at.Goals as goal

pub returns-in-Err : goal.returns-in-Err
returns-in-Err c =
    let t = plain_term c.in_ok-t.t in
    rw c.in_ok-t.ensures (fault_first c.in-Err.fault (judged_at t (placed c.args.s.now)) (λ s. Ok t) c.in-Err.ensures.answer)
