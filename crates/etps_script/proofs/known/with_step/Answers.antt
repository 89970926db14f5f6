use Rattle.std.proofs.Common.{◌∙◌, sym}
use Rattle.nd_rules.specs.Lines.{line_of, plain_line}
use Rattle.etps_script.proofs.Naming.{names_more_ok, names_same, none_there, step_there}
use Rattle.etps_script.proofs.known.with_step.Goals as goal

pub returns-then-len-count : goal.returns-then-len-count
returns-then-len-count c =
    names_same c.args.names c.args.count c.args.number c.args.outline.now c.requires (sym c.len.ensures.count ∙ c.if-len-count.true)

pub unreachable-requires : goal.unreachable-requires
unreachable-requires c =
    none_there (line_of c.args.outline.now c.args.number) (rw c.in-None.is at c.find.ensures.line)
    (step_there c.args.names c.args.count c.args.number c.args.outline.now c.requires)

pub returns : goal.returns
returns c =
    names_more_ok c.args.names c.args.count c.args.number c.args.outline.now c.requires (λ e. c.if-len-count.false (c.len.ensures.count ∙ e))
    (plain_line c.in-Some.line.now) (sym (rw c.in-Some.is at c.find.ensures.line)) c.with_formula.result c.with_formula.ensures.collected c.with_formula.ensures.gained
