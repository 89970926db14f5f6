use Rattle.std.proofs.Common.{◌≡◌, ℕ}
use Rattle.core_text.specs.Forms.{number_form}
use Rattle.core_text.specs.Placed.{form_of, placed}
use Rattle.core_text.specs.Reading.{number_in}
use Rattle.core_text.proofs.Results.{surely, value_refused}
use Rattle.core_text.proofs.Table.{number_spelled}
use Rattle.core_text.proofs.terms.read_number.Goals as goal

pub returns-clause-no_number : goal.returns-clause-no_number
returns-clause-no_number c =
    let f = form_of c.args.s.now in
    let refused = value_refused (λ n. n) c.number_in.result (number_in (placed c.args.s.now)) c.number_in.ensures.number (λ n. f ≡ number_form n) (λ n h. number_spelled n (placed c.args.s.now) h) in
    surely c.number_in.result (λ e. (n : ℕ) → f ≡ number_form n → ⊥) c.number_in.ensures.no_memory refused
