use Rattle.std.proofs.Common.{◌≡◌, ◌≢◌, ◌≤◌, ◌∙◌, List, ap, arith, length, subst, sym}
use Rattle.tps_reader.proofs.Results.{if_err, if_ok}
use Rattle.tps_reader.specs.Depth.{depth_of}
use Rattle.tps_reader.specs.Tokens.{Token}
use Rattle.tps_reader.specs.Views.{plain_tokens}
use Rattle.tps_reader.specs.declared.faults.RawFault.TheVariants as raw_fault
use Rattle.script_text.specs.Commands.{ScriptRequest, plain_script}
use Rattle.script_text.specs.Grammar.{IsCommand}
use Rattle.script_text.specs.Lines.{IsCommandFault, IsCommandLine, IsTokensFault}
use Rattle.script_text.specs.Tails.{Rises, of_text}
use Rattle.script_text.specs.declared.faults.CommandFault.TheVariants.{Raw, Memory}
use Rattle.script_text.proofs.Answering.{line_command, line_deep, line_fault_of, line_none, line_only, text_memory, token_fault, tokens_memory}
use Rattle.script_text.proofs.Rising.{text_rises}
use Rattle.script_text.proofs.readers.read_command.Goals as goal

pub returns-in-Err-clause-none : goal.returns-in-Err-clause-none
returns-in-Err-clause-none c = λ real other h. c.in-Err.ensures.none (λ e. real (c.of_text.ensures ∙ ap of_text e)) h.0 h.1

pub returns-in-Err-clause-no_memory : goal.returns-in-Err-clause-no_memory
returns-in-Err-clause-no_memory c = text_memory c.in-Err.fault c.of_text.result c.of_text.ensures

pub returns-in-Err-clause-fault : goal.returns-in-Err-clause-fault
returns-in-Err-clause-fault c = subst (IsCommandFault c.args.line.now) (sym c.of_text.ensures) (token_fault c.args.line.now c.in-Err.fault c.in-Err.ensures.fault)

pub returns-then-depth-gt-DEEPEST-clause-none : goal.returns-then-depth-gt-DEEPEST-clause-none
returns-then-depth-gt-DEEPEST-clause-none c = λ real other h.
    line_deep c.args.line.now c.in-Ok.tokens c.depth-depth.result c.in-Ok.ensures.only c.depth-depth.ensures.counted c.if-depth-gt-DEEPEST.true other h

pub command_of-requires : goal.command_of-requires
command_of-requires c = subst (λ (l : List Token). Rises 0 l (length c.args.line.now)) (sym c.as_slice.ensures) (text_rises c.args.line.now c.in-Ok.tokens c.in-Ok.ensures.tokens)

pub returns-clause-command : goal.returns-clause-command
returns-clause-command c =
    let line = c.args.line.now in
    let ts = plain_tokens c.as_slice.result.now in
    let low : depth_of c.in-Ok.tokens ≤ 1000 = omega (arith, c.if-depth-gt-DEEPEST.false, c.depth-depth.ensures.counted) in
    if_ok (λ v. IsCommand ts (plain_script v)) (λ v. IsCommandLine line (plain_script v)) (λ v h. line_command line c.in-Ok.tokens ts (plain_script v) c.in-Ok.ensures.tokens low c.as_slice.ensures h) c.command_of.result c.command_of.ensures.command

pub returns-clause-only : goal.returns-clause-only
returns-clause-only c =
    let line = c.args.line.now in
    let ts = plain_tokens c.as_slice.result.now in
    if_ok (λ v. IsCommand ts (plain_script v)) (λ v. (q : ScriptRequest) → IsCommandLine line q → q ≡ plain_script v)
    (λ v h q g. line_only line c.in-Ok.tokens ts (plain_script v) c.in-Ok.ensures.only c.as_slice.ensures h q g) c.command_of.result c.command_of.ensures.command

pub returns-clause-fault : goal.returns-clause-fault
returns-clause-fault c =
    let line = c.args.line.now in
    let ts = plain_tokens c.as_slice.result.now in
    let low : depth_of c.in-Ok.tokens ≤ 1000 = omega (arith, c.if-depth-gt-DEEPEST.false, c.depth-depth.ensures.counted) in
    if_err (IsTokensFault ts (length line)) (IsCommandFault line) (λ fault h. line_fault_of line c.in-Ok.tokens ts fault c.in-Ok.ensures.tokens low c.as_slice.ensures h) c.command_of.result c.command_of.ensures.fault

pub returns-clause-none : goal.returns-clause-none
returns-clause-none c =
    let line = c.args.line.now in
    let ts = plain_tokens c.as_slice.result.now in
    if_err (IsTokensFault ts (length line)) (λ fault. fault ≢ Memory → (q : ScriptRequest) → IsCommandLine line q → ⊥)
    (λ fault h real q g. line_none line c.in-Ok.tokens ts (length line) fault c.in-Ok.ensures.only c.as_slice.ensures h real q g) c.command_of.result c.command_of.ensures.fault

pub returns-clause-no_memory : goal.returns-clause-no_memory
returns-clause-no_memory c =
    let ts = plain_tokens c.as_slice.result.now in
    let last = length c.args.line.now in
    if_err (IsTokensFault ts last) (λ fault. fault ≢ Raw raw_fault.Memory) (λ fault h. tokens_memory ts last fault h) c.command_of.result c.command_of.ensures.fault
