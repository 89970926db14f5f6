use Rattle.vertical_paths.proofs.Spanning.{spanned_gives, spanned_decides, ok_weaker}
use Rattle.vertical_paths.proofs.matings.first_open.Goals as goal

pub returns-clause-tautology : goal.returns-clause-tautology
returns-clause-tautology c =
    ok_weaker (λ path tells. spanned_gives c.args.fitted.now c.args.mating.now path tells) c.open_path.result c.open_path.ensures.spans

pub returns-clause-decides : goal.returns-clause-decides
returns-clause-decides c =
    ok_weaker (λ path tells. spanned_decides c.args.fitted.now c.args.mating.now path c.tree.ensures.stands tells) c.open_path.result c.open_path.ensures.spans
