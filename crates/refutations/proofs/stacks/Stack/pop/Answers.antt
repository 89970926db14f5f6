use Rattle.std.proofs.Common.{◌∙◌, arith, ap}
use Rattle.refutations.proofs.Stacking.{chain, chain-none, cell_read}
use Rattle.refutations.proofs.stacks.Stack.pop.Goals as goal

pub returns-then-self-eq0-clause-none : goal.returns-then-self-eq0-clause-none
returns-then-self-eq0-clause-none c = ap (chain c.args.self.now.cells.items) c.if-self-eq0.true ∙ chain-none c.args.self.now.cells.items

pub returns-clause-some : goal.returns-clause-some
returns-clause-some c =
    let stack = c.args.self.now in
    (cell_read stack.cells.items stack.top c.index-cell.result.now c.requires.cells c.if-self-eq0.false c.requires.within c.index-cell.ensures).goes_on

pub returns-clause-stack : goal.returns-clause-stack
returns-clause-stack c =
    let stack = c.args.self.now in
    let older = (cell_read stack.cells.items stack.top c.index-cell.result.now c.requires.cells c.if-self-eq0.false c.requires.within c.index-cell.ensures).older in
    record { cells = c.requires.cells; within = omega (arith, older, c.requires.within) }
