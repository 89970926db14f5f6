use Rattle.std.proofs.Common.{◌≡◌, ◌∷◌, ◌∙◌, ◌==◌, ℕ, false, List, subst, sym}
use Rattle.std.specs.List.{list_any}
use Rattle.refutations.proofs.Resting.{proves_from_own, rests_within}
use Rattle.refutations.proofs.Uniting.{none_is}
use Rattle.refutations.proofs.exact.rests_on.Goals as goal

pub returns : goal.returns
returns c =
    λ hyps a no p.
    let lines = c.args.deduction.now in
    let own = c.hyps_of.result.now in
    let P : List ℕ → Type 0 = λ xs. list_any (λ n. n == c.args.hyp) xs ≡ false in
    let none = subst P c.as_slice.ensures.all (sym c.contains.ensures.value ∙ no) in
    proves_from_own lines c.args.number own hyps (c.args.hyp ∷ hyps) a c.hyps_of.ensures (none_is c.args.hyp own hyps none (rests_within lines c.args.number own (c.args.hyp ∷ hyps) a c.hyps_of.ensures p)) p
