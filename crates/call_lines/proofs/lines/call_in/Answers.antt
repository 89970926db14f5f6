use Rattle.std.proofs.Common.{◌≡◌, List, ℕ, ◌∷◌, None, rules, arith}
use Rattle.std.proofs.lemmas.Grind.{common_steps}
use Rattle.call_lines.proofs.Spaces.{no_call}
use Rattle.call_lines.proofs.lines.call_in.Goals as goal

pub returns-clause-none : goal.returns-clause-none
returns-clause-none c =
    let heading : (rest : List ℕ) → c.args.line.now ≡ 35 ∷ rest → c.split_once.result ≡ None = λ rest e. first_of (search rules, grind (arith, common_steps)) in
    no_call c.args.line.now c.split_once.result heading c.split_once.ensures.cases
