use Rattle.std.proofs.lemmas.Result.{IfOk-weaker}
use Rattle.hol_terms.specs.Terms.{plain_term}
use Rattle.tps_reader.specs.Raws.{plain_raw}
use Rattle.etps_script.proofs.Meanings.{term_typed}
use Rattle.etps_script.proofs.phrases.term.Goals as goal

pub returns-clause-typed : goal.returns-clause-typed
returns-clause-typed c =
    IfOk-weaker c.typed.result _ _
    (λ t h. term_typed c.annotations.ensures.typed (plain_raw c.args.raw.now) _ _ (plain_term t) h.annotates) c.typed.ensures.only
