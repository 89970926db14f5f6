use Rattle.proof_text.specs.Texts.{plain_proof}
use Rattle.proof_text.proofs.Written.{proof_written}
use Rattle.proof_text.proofs.writers.append_proof.Goals as goal

pub returns-clause-text : goal.returns-clause-text
returns-clause-text c =
    proof_written (plain_proof c.args.proof.now) c.args.out.now c.append.new.self c.append_number.new.out c.push.new.self c.append_term.new.out c.push-2.new.self c.append_tree.new.out c.push-3.new.self c.append_mating.new.out c.push-4.new.self
    c.in_ok-append.ensures.ok c.in_ok-append_number.ensures c.in_ok-push.ensures.ok c.in_ok-append_term.ensures.text c.in_ok-push-2.ensures.ok c.in_ok-append_tree.ensures.text c.in_ok-push-3.ensures.ok c.in_ok-append_mating.ensures.text c.in_ok-push-4.ensures.ok
