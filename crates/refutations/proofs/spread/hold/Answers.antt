use Rattle.std.proofs.Common.{◌≡◌, ◌+◌, ℕ, [], ◌∷◌, ◌++◌, Bool, not, None, Contains, refl, sym, ◌∙◌, ap, subst, arith, option_copied, append-nil, nat_eq}
use Rattle.std.specs.Map.{lookup}
use Rattle.indexmap.proofs.CallerLemmas.{insert_entry-new}
use Rattle.hol_terms.specs.Terms.{Term, plain_term}
use Rattle.hol_terms.specs.Truth.{Follows}
use Rattle.refutations.specs.Opens.{said}
use Rattle.refutations.specs.Cases.{leaves_of}
use Rattle.refutations.proofs.Entries.{key_there, copied_there, copied_not_there}
use Rattle.refutations.proofs.Holding.{leaf_kept, leaf_held, closed_with, has_row, row_partners, partner_opposed, unmated_with, opposites}
use Rattle.refutations.proofs.spread.hold.Goals as goal

pub returns-then-is_some-clause-spread : goal.returns-then-is_some-clause-spread
returns-then-is_some-clause-spread c = λ hyps others done state.
    let g = c.args.reading.now.accepted.now in
    let lines = c.args.deduction.now in
    let case = c.args.case.now in
    let node = c.args.node in
    let there : Contains (leaves_of case.held.entries) c.in_ok-leaf.leaf =
    key_there c.in_ok-leaf.leaf case.held.entries (option_copied c.get.result) (sym c.get.ensures.value) (copied_there c.get.result (sym c.is_some.ensures ∙ c.if-is_some.true)) in
    leaf_kept g lines case hyps node others done state c.requires.leaf (subst (Contains (leaves_of case.held.entries)) c.in_ok-leaf.ensures there)

pub index-requires : goal.index-requires
index-requires c =
    let g = c.args.reading.now.accepted.now in
    let lines = c.args.deduction.now in
    let case = c.args.case.now in
    let node = c.args.node in
    let hyps = c.requires.is_open.0 in
    let others = c.requires.is_open.1 in
    let done = c.requires.is_open.2 in
    let state = c.requires.is_open.3 in
    let less = has_row g lines case hyps node others done state c.requires.leaf in
    let many = c.requires.read.partners.many in
    let leaf : c.in_ok-leaf.leaf ≡ node.place.leaves + 1 = c.in_ok-leaf.ensures in
    omega (arith, less, many, leaf)

pub conclude_two-requires-clause-premises : goal.conclude_two-requires-clause-premises
conclude_two-requires-clause-premises c =
    let g = c.args.reading.now.accepted.now in
    let lines = c.args.deduction.now in
    let case = c.args.case.now in
    let node = c.args.node in
    let hyps = c.requires.is_open.0 in
    let others = c.requires.is_open.1 in
    let done = c.requires.is_open.2 in
    let state = c.requires.is_open.3 in
    let row = c.deref.ensures.value
    ∙ row_partners g lines case hyps node others done state c.args.reading.now.partners.items c.in_ok-leaf.leaf c.index.result.now c.requires.read.partners c.requires.leaf c.in_ok-leaf.ensures c.index.ensures in
    let opposed = partner_opposed g lines case hyps node others done state c.requires.read.accepted c.requires.leaf c.deref.result.now c.in-Some.line row c.in-Some.ensures.some in
    let p : Bool = opposed.0 in
    let a : Term = opposed.1 in
    let follows = subst (Follows (said p a ∷ said (not p) a ∷ [])) (sym c.falsehood.ensures) (opposites p a) in
    (hyps, said p a, said (not p) a, state.is_case.assumptions, opposed.2, opposed.3, follows)

pub returns-in_ok-closed-in-Some-clause-spread : goal.returns-in_ok-closed-in-Some-clause-spread
returns-in_ok-closed-in-Some-clause-spread c = λ hyps others done state.
    let g = c.args.reading.now.accepted.now in
    let lines = c.args.deduction.now in
    let case = c.args.case.now in
    let node = c.args.node in
    let row = c.deref.ensures.value
    ∙ row_partners g lines case hyps node others done state c.args.reading.now.partners.items c.in_ok-leaf.leaf c.index.result.now c.requires.read.partners c.requires.leaf c.in_ok-leaf.ensures c.index.ensures in
    let opposed = partner_opposed g lines case hyps node others done state c.requires.read.accepted c.requires.leaf c.deref.result.now c.in-Some.line row c.in-Some.ensures.some in
    let p : Bool = opposed.0 in
    let a : Term = opposed.1 in
    let derived = c.in_ok-closed-in-Some.ensures.derives hyps (said p a) (said (not p) a) state.is_case.assumptions opposed.2 opposed.3 in
    closed_with g lines case hyps node others done state c.conclude_two.new.deduction case c.in_ok-closed-in-Some.closed (plain_term c.falsehood.result) c.falsehood.ensures refl derived

pub returns-in_ok-closed-in-Some-clause-grown : goal.returns-in_ok-closed-in-Some-clause-grown
returns-in_ok-closed-in-Some-clause-grown c =
    let g = c.args.reading.now.accepted.now in
    let lines = c.args.deduction.now in
    let case = c.args.case.now in
    let node = c.args.node in
    let hyps = c.requires.is_open.0 in
    let others = c.requires.is_open.1 in
    let done = c.requires.is_open.2 in
    let state = c.requires.is_open.3 in
    let row = c.deref.ensures.value
    ∙ row_partners g lines case hyps node others done state c.args.reading.now.partners.items c.in_ok-leaf.leaf c.index.result.now c.requires.read.partners c.requires.leaf c.in_ok-leaf.ensures c.index.ensures in
    let opposed = partner_opposed g lines case hyps node others done state c.requires.read.accepted c.requires.leaf c.deref.result.now c.in-Some.line row c.in-Some.ensures.some in
    let p : Bool = opposed.0 in
    let a : Term = opposed.1 in
    (c.in_ok-closed-in-Some.ensures.derives hyps (said p a) (said (not p) a) state.is_case.assumptions opposed.2 opposed.3).grown

pub returns-in_ok-insert-in-None-clause-spread : goal.returns-in_ok-insert-in-None-clause-spread
returns-in_ok-insert-in-None-clause-spread c = λ hyps others done state.
    let g = c.args.reading.now.accepted.now in
    let lines = c.args.deduction.now in
    let case = c.args.case.now in
    let node = c.args.node in
    let absent : lookup (nat_eq c.in_ok-leaf.leaf) case.held.entries ≡ None = sym c.get.ensures.value ∙ copied_not_there c.get.result (sym c.is_some.ensures ∙ c.if-is_some.false) in
    let added : c.insert.new.self.entries ≡ case.held.entries ++ (c.in_ok-leaf.leaf, node.line) ∷ [] =
    c.in_ok-insert-in-None.ensures.entries ∙ insert_entry-new nat_eq case.held c.in_ok-leaf.leaf node.line absent in
    let row = c.deref.ensures.value
    ∙ row_partners g lines case hyps node others done state c.args.reading.now.partners.items c.in_ok-leaf.leaf c.index.result.now c.requires.read.partners c.requires.leaf c.in_ok-leaf.ensures c.index.ensures in
    let unmated = unmated_with g lines case hyps node others done state c.requires.read.accepted c.deref.result.now row c.in-None.ensures.none in
    leaf_held g lines case hyps node others done state (record { splits = case.splits; fronts = case.fronts; held = c.insert.new.self; duties = case.duties }) c.requires.leaf refl refl refl
    (added ∙ ap (λ (k : ℕ). case.held.entries ++ (k, node.line) ∷ []) c.in_ok-leaf.ensures) unmated

pub returns-in_ok-insert-in-None-clause-more : goal.returns-in_ok-insert-in-None-clause-more
returns-in_ok-insert-in-None-clause-more c =
    let case = c.args.case.now in
    let node = c.args.node in
    let absent : lookup (nat_eq c.in_ok-leaf.leaf) case.held.entries ≡ None = sym c.get.ensures.value ∙ copied_not_there c.get.result (sym c.is_some.ensures ∙ c.if-is_some.false) in
    let added : c.insert.new.self.entries ≡ case.held.entries ++ (c.in_ok-leaf.leaf, node.line) ∷ [] =
    c.in_ok-insert-in-None.ensures.entries ∙ insert_entry-new nat_eq case.held c.in_ok-leaf.leaf node.line absent in
    record {
      splits = ([], sym (append-nil case.splits.cells.items));
      fronts = ([], sym (append-nil case.fronts.entries));
      held = ((c.in_ok-leaf.leaf, node.line) ∷ [], added);
    }
