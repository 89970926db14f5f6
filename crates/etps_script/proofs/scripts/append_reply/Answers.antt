use Rattle.std.proofs.Common.{List, ℕ, [], ◌∷◌, ◌++◌, ◌∙◌, ap}
use Rattle.etps_script.proofs.scripts.append_reply.Goals as goal

pub returns-clause-reply : goal.returns-clause-reply
returns-clause-reply c =
    let before = rw c.as_slice.ensures at c.in_ok-append.ensures.ok in
    (c.in_ok-reply.reply, c.in_ok-reply.ensures.reply, c.in_ok-push.ensures.ok ∙ ap (λ (l : List ℕ). l ++ 10 ∷ []) before)
