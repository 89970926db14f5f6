use Rattle.std.proofs.Common.{List, [], ◌∷◌, ◌++◌, ◌≡◌, ◌∙◌, ap, sym, refl, map, append-nil, true, false}
use Rattle.std.proofs.lemmas.List.{map-append}
use Rattle.hol_terms.specs.Terms.{Variable, base_type, plain_term}
use Rattle.expansion_tree.specs.Budgets.{Head, variable_head}
use Rattle.term_lists.specs.Heads.{plain_head}
use Rattle.term_lists.specs.declared.heads.Head.TheVariants.{Free}
use Rattle.hol_terms.specs.declared.types.Ty.TheVariants.{Base}
use Rattle.term_lists.proofs.Filling.{fill_known, fill_new}
use Rattle.term_lists.proofs.signatures.add_fill.Goals as goal

pub returns-then-is_free : goal.returns-then-is_free
returns-then-is_free c =
    let old : List Head = map plain_head c.args.heads.now.items in
    let letter = c.args.letter.byte in
    let known = fill_known (plain_term c.args.formula.now) letter c.in_ok-name.name (base_type letter) c.in_ok-name.ensures refl (c.is_free.ensures.0 c.if-is_free.true) in
    sym (ap (λ (l : List Variable). old ++ map variable_head l) known ∙ append-nil old)

pub returns : goal.returns
returns c =
    let old : List Head = map plain_head c.args.heads.now.items in
    let letter = c.args.letter.byte in
    let new =
    fill_new (plain_term c.args.formula.now) letter c.in_ok-name.name (base_type letter) c.in_ok-name.ensures refl
    (λ h. let yes : c.is_free.result ≡ true = c.is_free.ensures.1 h in let never : c.is_free.result ≡ false = c.if-is_free.false in absurd (cc))
    in
    ap (map plain_head) c.in_ok-push.ensures.items
    ∙ map-append plain_head c.args.heads.now.items (Free c.in_ok-name.name (Base c.args.letter) ∷ [])
    ∙ sym (ap (λ (l : List Variable). old ++ map variable_head l) new)
