use Rattle.hol_terms.specs.Terms.{plain_term}
use Rattle.nd_check.proofs.Written.{with_term_written}
use Rattle.nd_check.proofs.writers.append_with_term.Goals as goal

pub returns-clause-text : goal.returns-clause-text
returns-clause-text c =
    with_term_written c.args.out.now c.args.word.now c.push.new.self c.append.new.self c.push-2.new.self c.append_number.new.out c.push-3.new.self c.append_term.new.out c.push-4.new.self c.args.src (plain_term c.args.term.now)
    c.in_ok-push.ensures.ok c.in_ok-append.ensures.ok c.in_ok-push-2.ensures.ok c.in_ok-append_number.ensures c.in_ok-push-3.ensures.ok c.in_ok-append_term.ensures.text c.in_ok-push-4.ensures.ok
