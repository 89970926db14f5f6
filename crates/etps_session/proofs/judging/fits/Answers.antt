use Rattle.hol_terms.specs.Terms.{plain_term}
use Rattle.etps_session.proofs.Refused.{fits_iff}
use Rattle.etps_session.proofs.judging.fits.Goals as goal

pub returns-in-Some : goal.returns-in-Some
returns-in-Some c = rw c.in-Some.is (fits_iff c.same.result (plain_term c.args.formula.now) (plain_term c.in-Some.wanted) c.same.ensures)
