use Rattle.std.proofs.Common.{sym, subst, ◌↔◌, IsNone}
use Rattle.vertical_paths.specs.Matings.{Spans}
use Rattle.vertical_paths.proofs.Closing.{none_open_iff_spans}
use Rattle.vertical_paths.proofs.matings.open_path.Goals as goal

pub returns-in_ok-numbers_of-in-Some-clause-spans : goal.returns-in_ok-numbers_of-in-Some-clause-spans
returns-in_ok-numbers_of-in-Some-clause-spans c =
    let pairs = c.args.mating.now in
    let paths = c.args.fitted.now.path_list in
    let first = rw (c.pairs.ensures, c.matrix.ensures.paths, c.in-Some.is) at c.in_ok-path.ensures in
    subst (λ path. IsNone path ↔ Spans pairs paths) (sym first) (none_open_iff_spans pairs paths)

pub returns-in-None-clause-spans : goal.returns-in-None-clause-spans
returns-in-None-clause-spans c =
    let pairs = c.args.mating.now in
    let paths = c.args.fitted.now.path_list in
    let first = rw (c.pairs.ensures, c.matrix.ensures.paths, c.in-None.is) at c.in_ok-path.ensures in
    subst (λ path. IsNone path ↔ Spans pairs paths) (sym first) (none_open_iff_spans pairs paths)
