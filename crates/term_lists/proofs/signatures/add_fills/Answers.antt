use Rattle.std.proofs.Common.{List, [], ◌∷◌, ◌++◌, ◌≤◌, ◌-◌, ◌≡◌, ◌∙◌, ap, sym, map, append_assoc, ℕ, arith}
use Rattle.std.specs.List.{range_with_len}
use Rattle.hol_terms.specs.Terms.{Variable, plain_term}
use Rattle.hol_terms.specs.FreeVariables.{free_variables_of}
use Rattle.expansion_tree.specs.Budgets.{Head, variable_head}
use Rattle.term_lists.specs.Heads.{plain_head}
use Rattle.term_lists.specs.Signatures.{fill_at, new_variables}
use Rattle.term_lists.proofs.Filling.{fills_more}
use Rattle.term_lists.proofs.signatures.add_fills.Goals as goal

pub loop-byte-preserved : goal.loop-byte-preserved
loop-byte-preserved c =
    let known : List Variable = free_variables_of (plain_term c.args.formula.now) in
    let old : List Head = map plain_head c.args.heads.now.items in
    let before : List Head = map variable_head (new_variables known (map fill_at (range_with_len 65 (c.loop-byte.byte - 65)))) in
    let at : ℕ → List Head = λ byte. map variable_head (new_variables known (fill_at byte ∷ [])) in
    c.in_ok-add_fill.ensures
    ∙ ap (λ (byte : ℕ). map plain_head c.loop-byte.heads.items ++ at byte) c.in-Some.ensures
    ∙ ap (λ (l : List Head). l ++ at c.loop-byte.byte) c.loop-byte.invariant
    ∙ append_assoc old before (at c.loop-byte.byte)
    ∙ ap (λ (l : List Head). old ++ l) (sym (fills_more known c.loop-byte.byte c.loop-byte.auto.byte))

pub returns : goal.returns
returns c =
    let known : List Variable = free_variables_of (plain_term c.args.formula.now) in
    let old : List Head = map plain_head c.args.heads.now.items in
    let end : c.loop-byte.byte ≤ 91 = c.loop-byte.auto.byte-end (omega arith) in
    let past : 91 ≤ c.loop-byte.byte = c.loop-byte-test.false in
    let all : c.loop-byte.byte - 65 ≡ 26 = omega arith in
    c.loop-byte.invariant ∙ ap (λ (n : ℕ). old ++ map variable_head (new_variables known (map fill_at (range_with_len 65 n)))) all
