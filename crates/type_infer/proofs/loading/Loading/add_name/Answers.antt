use Rattle.std.proofs.Common.{refl}
use Rattle.hol_terms.specs.Terms.{truth_type}
use Rattle.type_infer.proofs.Loads.{adds_new_name, inserted_new}
use Rattle.type_infer.proofs.loading.Loading.add_name.Goals as goal

pub returns : goal.returns
returns c =
    let told = rw (c.in-None.is, c.truth.ensures) at c.in_ok-place.ensures.none in
    let none = told.0 refl in
    adds_new_name c.args.self.now record { cells = c.args.self.now.cells; pending = c.args.self.now.pending; names = c.insert.new.self; firsts = c.push.new.self }
    c.args.number c.args.name.now none refl refl
    (inserted_new c.args.self.now.names c.insert.new.self (c.args.name.now, truth_type) c.in_ok-insert-in-None.field-0
    (rw (c.truth-in-None.ensures) at c.in_ok-insert-in-None.ensures.put) (rw (c.truth-in-None.ensures) at c.in_ok-insert-in-None.ensures.known) none)
    c.in_ok-push-in-None.ensures.items
