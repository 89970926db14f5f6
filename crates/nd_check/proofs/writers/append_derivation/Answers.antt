use Rattle.std.proofs.Common.{map}
use Rattle.nd_rules.specs.Lines.{plain_line}
use Rattle.nd_check.proofs.Written.{derivation_written}
use Rattle.nd_check.proofs.writers.append_derivation.Goals as goal

pub returns-clause-text : goal.returns-clause-text
returns-clause-text c =
    derivation_written (map plain_line c.args.lines.now) c.args.out.now c.append.new.self c.append_number.new.out c.append_lines.new.out c.push.new.self
    c.in_ok-append.ensures.ok c.in_ok-append_number.ensures c.in_ok-append_lines.ensures.text c.in_ok-push.ensures.ok
