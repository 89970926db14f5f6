use Rattle.nd_rules.specs.Lines.{plain_line}
use Rattle.nd_check.proofs.Written.{line_written}
use Rattle.nd_check.proofs.writers.append_line.Goals as goal

pub returns-clause-text : goal.returns-clause-text
returns-clause-text c =
    line_written (plain_line c.args.line.now) c.args.out.now c.push.new.self c.append_number.new.out c.push-2.new.self c.append_hypotheses.new.out c.push-3.new.self c.append_term.new.out c.push-4.new.self c.append_why.new.out c.push-5.new.self
    c.in_ok-push.ensures.ok c.in_ok-append_number.ensures c.in_ok-push-2.ensures.ok c.in_ok-append_hypotheses.ensures.text c.in_ok-push-3.ensures.ok c.in_ok-append_term.ensures.text c.in_ok-push-4.ensures.ok c.in_ok-append_why.ensures.text c.in_ok-push-5.ensures.ok
