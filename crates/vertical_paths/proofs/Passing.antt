-- The next task of a walk, and what is still to be tried once the walk went on through two parts.
use Rattle.std.proofs.Common.{◌≡◌, ◌<◌, ◌-◌, get_or, length, subst, ℕ, List, ◌∷◌, ◌++◌, Result, Ok, Err, OnOk, sym, ◌∙◌, ap, append_assoc}
use Rattle.expansion_tree.specs.declared.matrices.Matrix.{Matrix}
use Rattle.expansion_tree.specs.Matrices.{joined, matrix_paths}
use Rattle.vertical_paths.specs.declared.walk.Task.{Task}
use Rattle.vertical_paths.specs.declared.walk.Walk.{Walk}
use Rattle.vertical_paths.specs.Walks.{IsWalk, behind, chain, paths_via, choice_paths, untried, untried_by}
use Rattle.vertical_paths.proofs.Chains.{IsTaskAt, task_at}
use Rattle.vertical_paths.proofs.Joined.{joined-joined, behind-joined-append}

-- the next task, read from among the others
pub next_task : (walk : Walk) (task : Task) → IsWalk walk → 0 < walk.at → task ≡ get_or walk.tasks.items (walk.at - 1) task → IsTaskAt (length walk.prefix.counts.items - 1) walk.tasks.items walk.at task
next_task walk task h more e =
    let n = length walk.prefix.counts.items - 1 in
    subst (λ t. IsTaskAt n walk.tasks.items walk.at t) (sym e) (task_at n walk.tasks.items walk.at task h.tasks more h.next)

pub on_ok_both : {T E P Q S : Type 0} (r : Result T E) → (P → Q → S) → OnOk r P → OnOk r Q → OnOk r S
on_ok_both (Ok x) f p q = f p q
on_ok_both (Err e) f p q = tt

-- through both: the second was put first, and then the first before it
pub untried-both : (old mid new : Walk) (rest : ℕ) (a b : Matrix) → mid.prefix ≡ old.prefix → chain mid.tasks.items mid.at ≡ b ∷ chain old.tasks.items rest → choice_paths mid ≡ choice_paths old → new.prefix ≡ mid.prefix → chain new.tasks.items new.at ≡ a ∷ chain mid.tasks.items mid.at → choice_paths new ≡ choice_paths mid → untried new ≡ untried_by old (joined (joined (matrix_paths a) (matrix_paths b)) (paths_via old rest))
untried-both old mid new rest a b mp mc mq np nc nq =
    rw (nq, mq, nc, mc, np, mp) (ap (λ paths. behind old.prefix.leaves.items paths ++ choice_paths old) (sym (joined-joined (matrix_paths a) (matrix_paths b) (paths_via old rest))))

-- through one of them: the second was put and left as a choice, and then the first was put
pub untried-either : (old mid left new : Walk) (rest : ℕ) (a b : Matrix) → mid.prefix ≡ old.prefix → chain mid.tasks.items mid.at ≡ b ∷ chain old.tasks.items rest → choice_paths mid ≡ choice_paths old → choice_paths left ≡ untried mid → left.prefix ≡ mid.prefix → new.prefix ≡ left.prefix → chain new.tasks.items new.at ≡ a ∷ chain old.tasks.items rest → choice_paths new ≡ choice_paths left → untried new ≡ untried_by old (joined (matrix_paths a ++ matrix_paths b) (paths_via old rest))
untried-either old mid left new rest a b mp mc mq lq lp np nc nq =
    let leaves : List ℕ = old.prefix.leaves.items in
    let first : List (List ℕ) = behind leaves (joined (matrix_paths a) (paths_via old rest)) in
    let second : List (List ℕ) = behind leaves (joined (matrix_paths b) (paths_via old rest)) in
    rw (nq, lq, mq, nc, mc, np, lp, mp) (
    sym (append_assoc first second (choice_paths old))
    ∙ ap (λ paths. paths ++ choice_paths old) (sym (behind-joined-append leaves (matrix_paths a) (matrix_paths b) (paths_via old rest)))
    )
