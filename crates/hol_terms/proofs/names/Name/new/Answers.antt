use Rattle.std.proofs.Common.{◌∙◌, ◌≡◌, true, false, sym, subst}
use Rattle.std.proofs.lemmas.Str.{encodes_same}
use Rattle.hol_terms.specs.Names.{IsName}
use Rattle.hol_terms.proofs.names.Name.new.Goals as goal

pub returns-else-is_name-clause-not_a_name : goal.returns-else-is_name-clause-not_a_name
returns-else-is_name-clause-not_a_name c = λ _ name spells named.
    let same = encodes_same name c.in_ok-characters.characters.items (spells ∙ sym c.in_ok-characters.ensures.bytes) ∙ sym c.deref.ensures.value in
    let yes : c.is_name.result ≡ true = c.is_name.ensures.1 (subst IsName same named) in
    let no : c.is_name.result ≡ false = c.if-is_name.false in
    absurd (cc)
