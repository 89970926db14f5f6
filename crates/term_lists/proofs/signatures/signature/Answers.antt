use Rattle.std.proofs.Common.{[], ◌≡◌, ◌∙◌, ap, map}
use Rattle.hol_terms.specs.Terms.{plain_term}
use Rattle.hol_conv.specs.NormalForms.{normal_form}
use Rattle.term_lists.specs.Heads.{plain_head}
use Rattle.term_lists.specs.Signatures.{signature_list}
use Rattle.term_lists.proofs.Signing.{collected, signature-listed, signature-members, signature-distinct}
use Rattle.term_lists.proofs.signatures.signature.Goals as goal

whole : (c : goal.After-of) → c.of.result ≡ signature_list (plain_term c.args.formula.now) (normal_form [] (plain_term c.args.formula.now)) c.args.level
whole c =
    c.of.ensures
    ∙ collected (plain_term c.args.formula.now) c.args.level (map plain_head c.new-heads.result.items) (map plain_head c.add_variables.new.heads.items)
    (map plain_head c.add_fills.new.heads.items) (map plain_head c.add_constants.new.heads.items) (ap (map plain_head) c.new-heads.ensures.items)
    c.in_ok-add_variables.ensures c.in_ok-add_fills.ensures c.in_ok-add_constants.ensures

pub returns-clause-listed : goal.returns-clause-listed
returns-clause-listed c = signature-listed (plain_term c.args.formula.now) c.args.level c.of.result c.requires.formula (whole c)

pub returns-clause-members : goal.returns-clause-members
returns-clause-members c = signature-members (plain_term c.args.formula.now) c.args.level c.of.result c.requires.formula (whole c)

pub returns-clause-once : goal.returns-clause-once
returns-clause-once c = signature-distinct (plain_term c.args.formula.now) c.args.level c.of.result (whole c)
