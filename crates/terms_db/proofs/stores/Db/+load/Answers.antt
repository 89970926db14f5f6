-- The function's term stays as the argument is put in.
use Rattle.std.proofs.Common.{◌≡◌, arith}
use Rattle.std.proofs.lemmas.Grind.{common_steps}
use Rattle.terms_db.specs.Stores.{term_at}
use Rattle.terms_db.proofs.StoreLaws.{grown_term}
use Rattle.terms_db.proofs.stores.Db.+load.Goals as goal

pub returns-in_ok-argument-in-App-clause-term : goal.returns-in_ok-argument-in-App-clause-term
returns-in_ok-argument-in-App-clause-term t c =
    let i = c.in_ok-function-in-App.function.place in
    let moved : term_at c.load-in-App.new.self i ≡ term_at c.load.new.self i =
    (grown_term c.load.new.self c.load-in-App.new.self i c.in_ok-argument-in-App.ensures.kept c.in_ok-function-in-App.ensures.live).1 in
    grind (arith, common_steps, moved)
