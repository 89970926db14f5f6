use Rattle.std.proofs.Common.{◌≡◌, ◌∙◌, [], Some, subst}
use Rattle.hol_terms.specs.Terms.{SimpleType, plain_term, plain_type}
use Rattle.hol_terms.specs.Typing.{Typed}
use Rattle.tps_reader.specs.Raws.{plain_raw}
use Rattle.tps_cli.proofs.Formulas.{fails, no_formula}
use Rattle.tps_cli.proofs.prove.typed.Goals as goal

pub returns-in-Ok-clause-formula : goal.returns-in-Ok-clause-formula
returns-in-Ok-clause-formula c =
    let typed = c.annotations.ensures.typed (plain_raw c.args.raw.now) (Some (plain_type c.truth-wanted.result)) c.new.result (plain_term c.in-Ok.formula) c.in-Ok.ensures.only.annotates in
    subst (λ (s : SimpleType). Typed [] (plain_term c.in-Ok.formula) s) (typed.2 ∙ c.truth-wanted.ensures) typed.1

pub returns-clause-found : goal.returns-clause-found
returns-clause-found c =
    no_formula _ _ _ c.in-Err.fault (fails c.wants_memory.result c.if-wants_memory.false c.wants_memory.ensures)
    (rw (c.truth-wanted.ensures, c.new.ensures) at c.in-Err.ensures.fault)
