use Rattle.std.proofs.Common.{refl, sym, subst}
use Rattle.hol_terms.specs.Terms.{Term, plain_term, truth_type}
use Rattle.hol_terms.specs.Typing.{IsFormula}
use Rattle.expansion_tree.proofs.Formulas.{normal_formula}
use Rattle.nd_steps.specs.Deductions.{Assumes}
use Rattle.nd_steps.proofs.Growing.{assumes_stays, grows_on}
use Rattle.refutations.proofs.refute.refute.Goals as goal

pub assume-requires : goal.assume-requires
assume-requires c = subst IsFormula (sym c.in_ok-denied.ensures) (truth_type, refl, normal_formula (plain_term c.args.normal.now) c.args.accepted.now.fitted.formula c.requires)

pub returns-clause-contradicts : goal.returns-clause-contradicts
returns-clause-contradicts c =
    let A : Term → Type 0 = λ a. Assumes c.refute_denial.new.deduction c.in_ok-hyp.hyp a in
    record {
      assumed = subst A c.in_ok-denied.ensures (assumes_stays c.assume.new.self c.refute_denial.new.deduction c.in_ok-hyp.hyp (plain_term c.in_ok-denied.denied) c.in_ok-source.ensures.reaches.grown c.in_ok-hyp.ensures.assumes);
      proved = c.in_ok-source.ensures.reaches.proves;
    }

pub returns-clause-grown : goal.returns-clause-grown
returns-clause-grown c =
    grows_on c.args.deduction.now c.assume.new.self c.refute_denial.new.deduction c.in_ok-hyp.ensures.derives.grown c.in_ok-source.ensures.reaches.grown
