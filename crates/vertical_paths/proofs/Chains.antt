-- Laws of tasks and of choices.
use Rattle.std.proofs.Common.{◌≡◌, ℕ, ◌+◌, ◌-◌, ◌<◌, ◌≤◌, ◌==◌, List, [], ◌∷◌, ◌++◌, length, reverse, take, drop, get_or, refl, sym, ◌∙◌, ap, arith, false}
use Rattle.std.proofs.lemmas.Bool.{eq-eqb, ne_eqb}
use Rattle.std.proofs.lemmas.List.{reverse-append, length-reverse, take-append-drop, take-append-le, take_more, length-append, length-take-le}
use Rattle.std.proofs.Math.Seq.{take-length}
use Rattle.expansion_tree.specs.Matrices.{IsNumberedTo}
use Rattle.vertical_paths.specs.declared.walk.Task.{Task}
use Rattle.vertical_paths.specs.declared.walk.Choice.{Choice}
use Rattle.vertical_paths.specs.Walks.{chain_in, chain, AreTasks, behind, paths_through, paths_left, steps_through, steps_left, AreChoices}

pub reverse-push : {A : Type 0} → (xs : List A) (x : A) → reverse (xs ++ x ∷ []) ≡ x ∷ reverse xs
reverse-push xs x = reverse-append xs (x ∷ [])

-- what older tasks say stays as newer ones come
chain_in-older : (newer older : List Task) (at : ℕ) → at ≤ length older → chain_in (newer ++ older) at ≡ chain_in older at
chain_in-older [] older at h = refl
chain_in-older (t ∷ newer) older at h =
    let other : (at == length (newer ++ older) + 1) ≡ false = ne_eqb at (length (newer ++ older) + 1) (λ e. absurd (omega (arith, e, h, length-append newer older))) in
    rw other (chain_in-older newer older at h)

chain_in-top : (task : Task) (older : List Task) (at : ℕ) → at ≡ length older + 1 → chain_in (task ∷ older) at ≡ task.matrix.now ∷ chain_in older task.rest
chain_in-top task older at h = rw (eq-eqb at (length older + 1) h) refl

pub chain-more : (tasks more : List Task) (at : ℕ) → at ≤ length tasks → chain (tasks ++ more) at ≡ chain tasks at
chain-more tasks more at h =
    ap (λ ts. chain_in ts at) (reverse-append tasks more) ∙ chain_in-older (reverse more) (reverse tasks) at (rw (length-reverse tasks) h)

pub chain-push : (tasks : List Task) (task : Task) (at : ℕ) → at ≡ length tasks + 1 → chain (tasks ++ task ∷ []) at ≡ task.matrix.now ∷ chain tasks task.rest
chain-push tasks task at h = ap (λ ts. chain_in ts at) (reverse-push tasks task) ∙ chain_in-top task (reverse tasks) at (rw (length-reverse tasks) h)

pub chain-take : (tasks : List Task) (k at : ℕ) → at ≤ k → k ≤ length tasks → chain (take k tasks) at ≡ chain tasks at
chain-take tasks k at h within =
    let less : at ≤ length (take k tasks) = rw (length-take-le k tasks within) h in
    sym (chain-more (take k tasks) (drop k tasks) at less) ∙ ap (λ ts. chain ts at) (take-append-drop k tasks)

chain_in-none : (tasks : List Task) → chain_in tasks 0 ≡ []
chain_in-none [] = refl
chain_in-none (task ∷ older) = rw (ne_eqb 0 (length older + 1) (λ e. absurd (omega (arith, e)))) (chain_in-none older)

pub chain-none : (tasks : List Task) → chain tasks 0 ≡ []
chain-none tasks = chain_in-none (reverse tasks)

pub AreTasks-push : (n : ℕ) (tasks : List Task) (task : Task) → AreTasks n (reverse tasks) → IsNumberedTo n task.matrix.now → task.rest ≤ length tasks → AreTasks n (reverse (tasks ++ task ∷ []))
AreTasks-push n tasks task h numbered rest = rw (reverse-push tasks task) (numbered, rw (length-reverse tasks) rest, h)

AreTasks-older : (n : ℕ) (newer older : List Task) → AreTasks n (newer ++ older) → AreTasks n older
AreTasks-older n [] older h = h
AreTasks-older n (t ∷ newer) older h = AreTasks-older n newer older h.2

AreTasks-front : (n : ℕ) (tasks more : List Task) → AreTasks n (reverse (tasks ++ more)) → AreTasks n (reverse tasks)
AreTasks-front n tasks more h = AreTasks-older n (reverse more) (reverse tasks) (rw reverse-append at h)

pub AreTasks-take : (n : ℕ) (tasks : List Task) (k : ℕ) → AreTasks n (reverse tasks) → AreTasks n (reverse (take k tasks))
AreTasks-take n tasks k h = AreTasks-front n (take k tasks) (drop k tasks) (rw (take-append-drop k tasks) h)

-- a task as it stands among the others
pub record IsTaskAt (n : ℕ) (tasks : List Task) (at : ℕ) (task : Task) : Type 0 where
  pub numbered : IsNumberedTo n task.matrix.now
  pub older : task.rest < at
  pub goes_on : chain tasks at ≡ task.matrix.now ∷ chain tasks task.rest

split_at : (tasks : List Task) (k : ℕ) (d : Task) → k < length tasks → (take k tasks ++ get_or tasks k d ∷ []) ++ drop (k + 1) tasks ≡ tasks
split_at tasks k d h = ap (λ l. l ++ drop (k + 1) tasks) (sym (take_more tasks k d h)) ∙ take-append-drop (k + 1) tasks

pub task_at : (n : ℕ) (tasks : List Task) (at : ℕ) (d : Task) → AreTasks n (reverse tasks) → 0 < at → at ≤ length tasks → IsTaskAt n tasks at (get_or tasks (at - 1) d)
task_at n tasks at d h some within =
    let k : ℕ = at - 1 in
    let less : k < length tasks = omega arith in
    let task : Task = get_or tasks k d in
    let front : List Task = take k tasks in
    let many : length front ≡ k = length-take-le k tasks (omega (arith, less)) in
    let top : AreTasks n (task ∷ reverse front) = rw (reverse-push front task) at (AreTasks-front n (front ++ task ∷ []) (drop (k + 1) tasks) (rw (split_at tasks k d less) h)) in
    let older : task.rest ≤ k = rw (length-reverse front, many) at top.1 in
    let last : at ≡ length front + 1 = omega (arith, many, some) in
    let most : at ≤ length (front ++ task ∷ []) = omega (arith, length-append front (task ∷ []), last) in
    record {
      numbered = top.0;
      older = omega (arith, older, some);
      goes_on = ap (λ ts. chain ts at) (sym (split_at tasks k d less)) ∙ chain-more (front ++ task ∷ []) (drop (k + 1) tasks) at most
          ∙ chain-push front task at last ∙ ap (λ l. task.matrix.now ∷ l) (chain-take tasks k task.rest older (omega (arith, less)));
    }

-- choices stay as tasks are put after the others
pub paths_left-tasks : (tasks more : List Task) (leaves : List ℕ) (choices : List Choice) → AreChoices (length tasks) (length leaves) choices → paths_left (tasks ++ more) leaves choices ≡ paths_left tasks leaves choices
paths_left-tasks tasks more leaves [] h = refl
paths_left-tasks tasks more leaves (choice ∷ older) h = rw (take-append-le choice.at tasks more h.0) refl

pub steps_left-tasks : (tasks more : List Task) (leaves : ℕ) (choices : List Choice) → AreChoices (length tasks) leaves choices → steps_left (tasks ++ more) choices ≡ steps_left tasks choices
steps_left-tasks tasks more leaves [] h = refl
steps_left-tasks tasks more leaves (choice ∷ older) h = rw (take-append-le choice.at tasks more h.0) refl

-- and as leaves are
pub paths_left-leaves : (tasks : List Task) (leaves more : List ℕ) (choices : List Choice) → AreChoices (length tasks) (length leaves) choices → paths_left tasks (leaves ++ more) choices ≡ paths_left tasks leaves choices
paths_left-leaves tasks leaves more [] h = refl
paths_left-leaves tasks leaves more (choice ∷ older) h = rw (take-append-le choice.leaves leaves more h.1) refl

pub AreChoices-more : (tasks leaves tasks' leaves' : ℕ) (choices : List Choice) → tasks ≤ tasks' → leaves ≤ leaves' → AreChoices tasks leaves choices → AreChoices tasks' leaves' choices
AreChoices-more tasks leaves tasks' leaves' [] t l h = tt
AreChoices-more tasks leaves tasks' leaves' (choice ∷ older) t l h = (omega (arith, t, h.0), omega (arith, l, h.1), h.2)

-- a choice that was made here
pub paths_left-here : (tasks : List Task) (leaves : List ℕ) (choice : Choice) (older : List Choice) → choice.at ≡ length tasks → choice.leaves ≡ length leaves → paths_left tasks leaves (choice ∷ older) ≡ behind leaves (paths_through (chain tasks choice.at)) ++ paths_left tasks leaves older
paths_left-here tasks leaves choice older t l =
    let all_tasks : take choice.at tasks ≡ tasks = rw t (take-length tasks) in
    let all_leaves : take choice.leaves leaves ≡ leaves = rw l (take-length leaves) in
    rw (all_tasks, all_leaves) refl

pub steps_left-here : (tasks : List Task) (choice : Choice) (older : List Choice) → choice.at ≡ length tasks → steps_left tasks (choice ∷ older) ≡ steps_through (chain tasks choice.at) + steps_left tasks older
steps_left-here tasks choice older t =
    let all_tasks : take choice.at tasks ≡ tasks = rw t (take-length tasks) in
    rw all_tasks refl
