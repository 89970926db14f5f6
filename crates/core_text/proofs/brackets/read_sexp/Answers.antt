use Rattle.core_text.proofs.Texts.{IsTextOf-read, form_fault-not_utf8, form_fault-read, no_text-read}
use Rattle.core_text.proofs.brackets.read_sexp.Goals as goal

pub returns-in-Ok-clause-text : goal.returns-in-Ok-clause-text
returns-in-Ok-clause-text c = IsTextOf-read c.args.bytes.now c.in-Ok.ensures.cases.1 c.read_pieces.result c.read_pieces.ensures.spelled c.read_pieces.ensures.good c.read_pieces.ensures.clean

pub returns-in-Ok-clause-fault : goal.returns-in-Ok-clause-fault
returns-in-Ok-clause-fault c = form_fault-read c.args.bytes.now c.in-Ok.ensures.cases.1 c.read_pieces.result c.read_pieces.ensures.fault

pub returns-in-Ok-clause-no_text : goal.returns-in-Ok-clause-no_text
returns-in-Ok-clause-no_text c =
    let utf8 = c.in-Ok.ensures.cases.1 in
    no_text-read c.args.bytes.now utf8 c.read_pieces.result (form_fault-read c.args.bytes.now utf8 c.read_pieces.result c.read_pieces.ensures.fault)

pub returns-in-Err-clause-fault : goal.returns-in-Err-clause-fault
returns-in-Err-clause-fault c = form_fault-not_utf8 c.args.bytes.now c.in-Err.ensures.cases.0
