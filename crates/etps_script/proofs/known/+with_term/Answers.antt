use Rattle.std.proofs.lemmas.Result.{IfOk-weaker}
use Rattle.hol_terms.specs.Terms.{plain_type}
use Rattle.etps_script.proofs.Naming.{begins_twice}
use Rattle.etps_script.proofs.Tallying.{gains_body, gains_both, gains_variable}
use Rattle.etps_script.proofs.known.+with_term.Goals as goal

pub returns-in-Free-clause-gained : goal.returns-in-Free-clause-gained
returns-in-Free-clause-gained t c =
    rw c.in-Free.is (IfOk-weaker c.with_variable.result _ _
    (λ new h. gains_variable c.args.tally.variables new.variables c.in-Free.name (plain_type c.in-Free.ty) h) c.with_variable.ensures.gained)

pub returns-in_ok-tally-in-App-clause-gained : goal.returns-in_ok-tally-in-App-clause-gained
returns-in_ok-tally-in-App-clause-gained t c =
    rw (c.in-App.is, ← c.deref.ensures, ← c.deref-in-App.ensures) (IfOk-weaker c.with_term-in-App.result _ _
    (λ new h. gains_both c.args.tally.variables c.in_ok-tally-in-App.tally.variables new.variables _ _ c.in_ok-tally-in-App.ensures.gained h) c.with_term-in-App.ensures.gained)

pub returns-in-Lam-clause-gained : goal.returns-in-Lam-clause-gained
returns-in-Lam-clause-gained t c =
    rw c.in-Lam.is (rw (← c.deref-in-Lam.ensures) (IfOk-weaker c.with_term-in-Lam.result _ _
    (λ new h. gains_body c.args.tally.variables new.variables _ _ h) c.with_term-in-Lam.ensures.gained))

pub returns-in_ok-tally-in-App-clause-longer : goal.returns-in_ok-tally-in-App-clause-longer
returns-in_ok-tally-in-App-clause-longer t c =
    IfOk-weaker c.with_term-in-App.result _ _
    (λ new h. begins_twice c.args.tally.variables c.in_ok-tally-in-App.tally.variables new.variables c.in_ok-tally-in-App.ensures.longer h) c.with_term-in-App.ensures.longer
