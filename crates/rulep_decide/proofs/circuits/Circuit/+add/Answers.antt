use Rattle.std.proofs.lemmas.Result.{on_ok_weaker}
use Rattle.hol_terms.specs.Terms.{plain_term}
use Rattle.rulep_decide.specs.Circuits.{nodes_of}
use Rattle.rulep_decide.proofs.Bringing.{brings_negation}
use Rattle.rulep_decide.proofs.circuits.Circuit.+add.Goals as goal

pub returns-in_ok-i-in-Negation-clause-brings : goal.returns-in_ok-i-in-Negation-clause-brings
returns-in_ok-i-in-Negation-clause-brings t c =
    on_ok_weaker c.negation.result
    (λ h. brings_negation (nodes_of c.args.self.now) (nodes_of c.add.new.self) (nodes_of c.negation.new.self) (plain_term c.args.t.now)
    (plain_term c.in-Negation.part.now) c.in-Negation.ensures c.in_ok-i-in-Negation.ensures.brings h)
    c.negation.ensures.brings
