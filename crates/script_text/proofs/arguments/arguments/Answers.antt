use Rattle.std.proofs.Common.{ℕ}
use Rattle.tps_reader.proofs.Results.{if_err}
use Rattle.tps_reader.specs.Views.{plain_tokens}
use Rattle.script_text.specs.Tails.{HasTail, IsFaultIn, no_more}
use Rattle.script_text.proofs.arguments.arguments.Goals as goal

pub returns-in-Deduct-clause-fault : goal.returns-in-Deduct-clause-fault
returns-in-Deduct-clause-fault c =
    let ts = plain_tokens c.args.lexemes.now in
    rw c.in-Deduct.is (if_err (λ e. (last : ℕ) → IsFaultIn (HasTail no_more) ts last e) (IsFaultIn (HasTail no_more) ts c.args.end) (λ e h. h c.args.end) c.deduct.result c.deduct.ensures.fault)

pub returns-in-Undo-clause-fault : goal.returns-in-Undo-clause-fault
returns-in-Undo-clause-fault c =
    let ts = plain_tokens c.args.lexemes.now in
    rw c.in-Undo.is (if_err (λ e. (last : ℕ) → IsFaultIn (HasTail no_more) ts last e) (IsFaultIn (HasTail no_more) ts c.args.end) (λ e h. h c.args.end) c.undo.result c.undo.ensures.fault)

pub returns-in-Done-clause-fault : goal.returns-in-Done-clause-fault
returns-in-Done-clause-fault c =
    let ts = plain_tokens c.args.lexemes.now in
    rw c.in-Done.is (if_err (λ e. (last : ℕ) → IsFaultIn (HasTail no_more) ts last e) (IsFaultIn (HasTail no_more) ts c.args.end) (λ e h. h c.args.end) c.done.result c.done.ensures.fault)
