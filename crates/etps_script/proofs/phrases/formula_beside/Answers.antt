use Rattle.std.proofs.lemmas.Result.{IfOk-weaker}
use Rattle.hol_terms.specs.Terms.{plain_term}
use Rattle.tps_reader.specs.Raws.{plain_raw}
use Rattle.etps_script.proofs.Meanings.{formula_typed}
use Rattle.etps_script.proofs.phrases.formula_beside.Goals as goal

pub returns-clause-formula : goal.returns-clause-formula
returns-clause-formula c =
    IfOk-weaker c.typed.result _ _
    (λ t h. formula_typed c.annotations.ensures.typed (plain_raw c.args.raw.now) c.args.known.now _ (plain_term t) c.truth-truth.ensures h.annotates) c.typed.ensures.only
