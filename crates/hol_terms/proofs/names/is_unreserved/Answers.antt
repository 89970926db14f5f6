use Rattle.std.proofs.Common.{◌≡◌, Bool, true, false, not, refl}
use Rattle.std.specs.Prelude.{IsTrue}
use Rattle.hol_terms.specs.Names.{IsReserved}
use Rattle.hol_terms.proofs.Naming.{reserved_text, reserved_characters}
use Rattle.hol_terms.proofs.names.is_unreserved.Goals as goal

-- the test's denial is the denial of what it tests
denied : (b : Bool) (P Q : Type 0) → (IsTrue b → P) → (P → IsTrue b) → (P → Q) → (Q → P) → (IsTrue (not b) → Q → ⊥) × ((Q → ⊥) → IsTrue (not b))
denied true P Q tested holds forth back = ((λ e _. absurd (cc)), (λ none. absurd (none (forth (tested refl)))))
denied false P Q tested holds forth back = ((λ _ q. let e : false ≡ true = holds (back q) in absurd (cc)), (λ _. refl))

pub returns : goal.returns
returns c =
    denied c.is_reserved.result (IsReserved c.args.text.now) (IsReserved c.args.characters.now) c.is_reserved.ensures.0 c.is_reserved.ensures.1
    (reserved_characters c.args.characters.now c.args.text.now c.requires)
    (reserved_text c.args.characters.now c.args.text.now c.requires)
