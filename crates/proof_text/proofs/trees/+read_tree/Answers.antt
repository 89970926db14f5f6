use Rattle.std.proofs.Common.{◌≡◌, codes, ◌+◌, sym, ◌∙◌, ap, refl, arith}
use Rattle.hol_terms.specs.Terms.{plain_term}
use Rattle.core_text.specs.Placed.{more_at, placed, placed_all}
use Rattle.core_text.specs.Words.{same_bytes}
use Rattle.expansion_tree.specs.Trees.{plain_tree}
use Rattle.proof_text.specs.Reading.{branches_at}
use Rattle.proof_text.proofs.Counts.{form_count, all_count}
use Rattle.proof_text.proofs.Equations.{branch_failed_at, branch_read_at, gives_connective, gives_expansion, gives_negation, gives_node, gives_selection}
use Rattle.proof_text.proofs.Steps.{before, branches_on}
use Rattle.proof_text.proofs.trees.+read_tree.Goals as goal

pub read_branch-returns-in-Ok : goal.read_branch-returns-in-Ok
read_branch-returns-in-Ok t c =
    branch_read_at (placed c.args.form.now) (placed c.deref-3.result.now) (placed c.deref-4.result.now) c.in-List.place (plain_term c.in_ok-term.term) (plain_tree c.in-Ok.tree)
    (rw (c.in-List.is, c.in-More.is, c.deref-3.ensures, c.deref-4.ensures, sym c.deref.ensures ∙ c.in-More-deref.is, sym c.deref-2.ensures ∙ c.in-End.is) refl) c.in_ok-term.ensures.answer c.in-Ok.ensures

pub read_branch-returns-in-Err : goal.read_branch-returns-in-Err
read_branch-returns-in-Err t c =
    branch_failed_at c.in-Err.fault (placed c.args.form.now) (placed c.deref-3.result.now) (placed c.deref-4.result.now) c.in-List.place (plain_term c.in_ok-term.term)
    (rw (c.in-List.is, c.in-More.is, c.deref-3.ensures, c.deref-4.ensures, sym c.deref.ensures ∙ c.in-More-deref.is, sym c.deref-2.ensures ∙ c.in-End.is) refl) c.in_ok-term.ensures.answer c.in-Err.ensures

pub read_branches-loop-rest-preserved : goal.read_branches-loop-rest-preserved
read_branches-loop-rest-preserved t c =
    let f = placed c.deref.result.now in
    let fs = placed_all c.deref-rest.result.now in
    let parts : placed_all c.loop-rest.rest.now ≡ more_at f fs = rw (c.in-More.is, c.deref.ensures, c.deref-rest.ensures) refl in
    let count : all_count (placed_all c.loop-rest.rest.now) ≡ form_count f + all_count fs = ap all_count parts in record {
      same =
          branches_on c.loop-rest.items.items c.push.new.self.items c.in-Ok.item f fs (branches_at (placed_all c.args.members.now)) c.in_ok-push.ensures.items c.in-Ok.ensures
          (ap (λ x. before c.loop-rest.items.items (branches_at x)) (sym parts) ∙ c.loop-rest.invariant.same);
      smaller = omega (arith, count, c.loop-rest.invariant.smaller);
    }

pub read_node-returns-in_default-deref : goal.read_node-returns-in_default-deref
read_node-returns-in_default-deref t c =
    gives_negation c.read_negation.result c.args.word.now c.args.place (placed_all c.args.members.now) (placed c.deref-in_default-deref.result.now)
    (rw (c.in-More.is, c.deref-in_default-deref.ensures, sym c.deref.ensures ∙ c.in_default-deref.is) refl) c.read_negation.ensures

pub read_node-returns-then-is_keyword : goal.read_node-returns-then-is_keyword
read_node-returns-then-is_keyword t c =
    gives_selection c.read_selection.result c.args.word.now c.args.place (placed_all c.args.members.now) (placed c.deref-then-is_keyword.result.now) (placed c.deref-then-is_keyword-2.result.now)
    (rw (c.in-More.is, c.deref-then-is_keyword.ensures, c.deref-then-is_keyword-2.ensures, sym c.deref.ensures ∙ c.in-More-deref.is, sym c.deref-2.ensures ∙ c.in-End.is) refl)
    (sym c.is_keyword.ensures ∙ c.if-is_keyword.true) c.read_selection.ensures

pub read_node-returns-else-is_keyword : goal.read_node-returns-else-is_keyword
read_node-returns-else-is_keyword t c =
    gives_connective c.read_connective.result c.args.word.now c.args.place (placed_all c.args.members.now) (placed c.deref-else-is_keyword.result.now) (placed c.deref-else-is_keyword-2.result.now)
    (rw (c.in-More.is, c.deref-else-is_keyword.ensures, c.deref-else-is_keyword-2.ensures, sym c.deref.ensures ∙ c.in-More-deref.is, sym c.deref-2.ensures ∙ c.in-End.is) refl)
    (sym c.is_keyword.ensures ∙ c.if-is_keyword.false) c.read_connective.ensures

pub read_tree-returns-then-is_keyword : goal.read_tree-returns-then-is_keyword
read_tree-returns-then-is_keyword t c =
    gives_expansion c.read_expansion.result c.as_slice-in-List.result.now c.in-List.place (placed c.args.form.now) c.in-Word-deref.field-1 (placed_all c.deref-then-is_keyword.result.now)
    (rw (c.in-List.is, c.in-More.is, c.deref-then-is_keyword.ensures, c.as_slice-in-List.ensures, sym c.deref.ensures ∙ c.in-Word-deref.is) refl) (sym c.is_keyword.ensures ∙ c.if-is_keyword.true) c.read_expansion.ensures

pub read_tree-returns-else-is_keyword : goal.read_tree-returns-else-is_keyword
read_tree-returns-else-is_keyword t c =
    gives_node c.read_node.result c.as_slice-else-is_keyword.result.now c.in-List.place (placed c.args.form.now) c.in-Word-deref.field-1 (placed_all c.deref-else-is_keyword.result.now)
    (rw (c.in-List.is, c.in-More.is, c.deref-else-is_keyword.ensures, c.as_slice-else-is_keyword.ensures, sym c.deref.ensures ∙ c.in-Word-deref.is) refl)
    (ap (λ w. same_bytes w (codes "EXP")) (c.as_slice-else-is_keyword.ensures ∙ sym c.as_slice-in-List.ensures) ∙ sym c.is_keyword.ensures ∙ c.if-is_keyword.false) c.read_node.ensures
