-- The measures of hereditary substitution: twice the heights of its calls, so that a term is looked up before its parts are.
use Rattle.std.proofs.Common.{◌+◌, ◌*◌, []}
use Rattle.hol_terms.specs.Terms.{plain_type}
use Rattle.hol_terms.specs.Indices.{raise}
use Rattle.hol_conv.specs.NormalForms.{apply_long}
use Rattle.hol_conv.proofs.Heights.{put_long_height, apply_long_height}
use Rattle.terms_db.specs.Stores.{term_at}
use Rattle.beta_eta.specs.Listed.{terms_at}
use Rattle.beta_eta.proofs.hereditary.+put.Given as goal

abbrev pub decreases-put_in_long : goal.decreases-put_in_long
decreases-put_in_long l =
    2 * put_long_height (apply_long (plain_type l.ty.now)) (apply_long_height (plain_type l.ty.now)) l.at (term_at l.db.now l.by.place) (term_at l.db.now l.t.place) [] + 1

abbrev pub decreases-put_applied : goal.decreases-put_applied
decreases-put_applied l =
    2 * put_long_height (apply_long (plain_type l.ty.now)) (apply_long_height (plain_type l.ty.now)) l.at (term_at l.db.now l.by.place) (term_at l.db.now l.t.place) (terms_at l.db.now l.arguments)

abbrev pub decreases-long_applied : goal.decreases-long_applied
decreases-long_applied l = 2 * apply_long_height (plain_type l.ty.now) (term_at l.db.now l.function.place) (terms_at l.db.now l.arguments)

abbrev pub decreases-instance_of_long : goal.decreases-instance_of_long
decreases-instance_of_long l =
    2 * put_long_height (apply_long (plain_type l.ty.now)) (apply_long_height (plain_type l.ty.now)) 0 (term_at l.db.now l.argument.place) (term_at l.db.now l.body.place) [] + 2

abbrev pub decreases-put_for_index : goal.decreases-put_for_index
decreases-put_for_index l = 2 * apply_long_height (plain_type l.ty.now) (raise l.at 0 (term_at l.db.now l.by.place)) (terms_at l.db.now l.arguments) + 2
