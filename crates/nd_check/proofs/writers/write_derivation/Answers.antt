use Rattle.std.proofs.Common.{ℕ, List, [], ◌∷◌, ◌++◌, sym, ◌∙◌, ap, subst}
use Rattle.core_text.specs.Written.{written}
use Rattle.nd_check.specs.Forms.{derivation_form}
use Rattle.nd_check.specs.Texts.{IsDerivationText, IsWrittenDerivation}
use Rattle.nd_check.proofs.Kept.{written_is_text}
use Rattle.nd_check.proofs.writers.write_derivation.Goals as goal

pub returns-clause-written : goal.returns-clause-written
returns-clause-written c =
    let ls = c.args.outline.now in
    let written_form = rw c.as_slice.ensures.all at c.in_ok-append_derivation.ensures.text in
    record {
      same = c.in_ok-push.ensures.ok ∙ ap (λ l. l ++ 10 ∷ []) (written_form ∙ ap (λ l. l ++ written (derivation_form ls)) c.new-out.ensures);
      some = c.requires;
      outline = c.as_slice.ensures.outline;
      names = rw c.as_slice.ensures.all at c.in_ok-append_derivation.ensures.names;
      numbers = rw c.as_slice.ensures.all at c.in_ok-append_derivation.ensures.numerals;
    }

pub returns-clause-read : goal.returns-clause-read
returns-clause-read c = λ low.
    let ls = c.args.outline.now in
    let all : IsWrittenDerivation c.push.new.self ls = returns-clause-written c in
    subst (λ (l : List ℕ). IsDerivationText l ls) (sym all.same) (written_is_text ls all.some all.names all.numbers all.outline low)
