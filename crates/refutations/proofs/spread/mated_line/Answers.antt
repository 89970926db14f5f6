use Rattle.std.proofs.Common.{ℕ, Contains, option_copied, sym, ◌∙◌, ap, subst, slice_index_or, take_all}
use Rattle.std.specs.List.{AllByRecursion}
use Rattle.std.proofs.lemmas.List.Elements.{Contains-get_or}
use Rattle.refutations.specs.Cases.{leaves_of}
use Rattle.refutations.proofs.Entries.{found_there, key_not_there, one_more_of}
use Rattle.refutations.proofs.spread.mated_line.Goals as goal

pub loop-partner-init : goal.loop-partner-init
loop-partner-init c = tt

pub returns-in-Some-clause-some : goal.returns-in-Some-clause-some
returns-in-Some-clause-some c =
    let partner : ℕ = slice_index_or c.args.partners.now c.loop-partner.partner-index 0 in (
      partner,
      Contains-get_or c.args.partners.now c.loop-partner.partner-index 0 c.loop-partner-test.true,
      found_there partner c.in-Some.line.now c.args.held.now.entries (sym c.get.ensures.value ∙ ap option_copied c.in-Some.is),
    )

pub loop-partner-preserved : goal.loop-partner-preserved
loop-partner-preserved c =
    let partner : ℕ = slice_index_or c.args.partners.now c.loop-partner.partner-index 0 in
    one_more_of (λ (k : ℕ). Contains (leaves_of c.args.held.now.entries) k → ⊥) c.args.partners.now c.loop-partner.partner-index 0 c.loop-partner-test.true c.loop-partner.invariant
    (key_not_there partner c.args.held.now.entries (sym c.get.ensures.value ∙ ap option_copied c.in_default.is))

pub returns-clause-none : goal.returns-clause-none
returns-clause-none c =
    subst (AllByRecursion (λ (k : ℕ). Contains (leaves_of c.args.held.now.entries) k → ⊥)) (take_all c.loop-partner.partner-index c.args.partners.now c.loop-partner-test.false) c.loop-partner.invariant
