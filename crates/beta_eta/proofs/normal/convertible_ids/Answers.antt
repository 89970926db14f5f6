-- Two terms are convertible exactly where their long normal forms are equal.
use Rattle.std.proofs.Common.{[], sym, subst}
use Rattle.hol_terms.specs.Terms.{Term}
use Rattle.hol_terms.specs.Typing.{Typed}
use Rattle.hol_conv.specs.Conversion.{IsNormalOf}
use Rattle.hol_conv.proofs.Uniqueness.{equal_normals}
use Rattle.terms_db.specs.Stores.{term_at}
use Rattle.terms_db.proofs.StoreLaws.{grown_term}
use Rattle.beta_eta.proofs.normal.convertible_ids.Goals as goal

pub normal_id-requires-2-clause-typed : goal.normal_id-requires-2-clause-typed
normal_id-requires-2-clause-typed c =
    let typed = c.requires.typed in
    let moved = grown_term c.args.db.now c.normal_id.new.db c.args.t.place c.in_ok-n.ensures.kept c.requires.second in
    let P : Term → Type 0 = λ x. Typed [] x typed.0 in (typed.0, subst P (sym moved.1) typed.2)

pub returns-clause-convertible : goal.returns-clause-convertible
returns-clause-convertible c = λ q first second.
    let old = c.args.db.now in let middle = c.normal_id.new.db in let new = c.normal_id-2.new.db in
    let s = term_at old c.args.s.place in let t = term_at old c.args.t.place in
    let n = term_at new c.in_ok-n.n.place in let m = term_at new c.in_ok-m.m.place in
    let kept = grown_term middle new c.in_ok-n.n.place c.in_ok-m.ensures.kept c.in_ok-n.ensures.live in
    let moved = grown_term old middle c.args.t.place c.in_ok-n.ensures.kept c.requires.second in
    let N : Term → Type 0 = λ x. IsNormalOf [] q x s in
    let P : Term → Type 0 = λ x. Typed [] x q in
    let M : Term → Type 0 = λ x. IsNormalOf [] q m x in
    let left = subst N (sym kept.1) (c.in_ok-n.ensures.normal q first) in
    let right = subst M moved.1 (c.in_ok-m.ensures.normal q (subst P (sym moved.1) second)) in
    let equal = equal_normals q s t n m left right in
    let same = c.same_term.ensures in
    ((λ b. equal.0 (same.0 b)), (λ converts. same.1 (equal.1 converts)))
