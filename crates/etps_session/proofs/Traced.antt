-- A session with one request more, and with one less.
use Rattle.std.proofs.Common.{◌≡◌, ◌∙◌, List, [], ◌∷◌, ◌++◌, map, Bool, true, refl, sym, ap, ap₂, subst}
use Rattle.std.specs.Prelude.{IsSome, Option, Some, None, is_some}
use Rattle.std.proofs.lemmas.List.{map-append}
use Rattle.nd_rules.specs.Lines.{DeductionLine, line_of}
use Rattle.nd_rules.specs.Outlines.{IsOutline}
use Rattle.std.specs.Option.{option_map}
use Rattle.etps_session.specs.Answers.{Accepts, IsAnswer, IsFirstAnswer}
use Rattle.etps_session.specs.Commands.{Request, number_of}
use Rattle.etps_session.specs.Replays.{Goal, SessionState, first_lines, replay_from, taken}
use Rattle.etps_session.specs.Traces.{AreTraced, IsSession, Trace, change_of, plain_goal, plain_step, requests_of, taken_back}
use Rattle.etps_session.specs.declared.faults.SessionFault.{SessionFault}
use Rattle.etps_session.specs.declared.steps.Change.{Change}
use Rattle.etps_session.specs.declared.steps.GoalLine.{GoalLine}
use Rattle.etps_session.specs.declared.steps.Step.{Step}
use Rattle.etps_session.proofs.Undone.{taken_then_back, taken_there}

requests-push : (steps : List Trace) (s : Trace) → requests_of (steps ++ s ∷ []) ≡ requests_of steps ++ s.0 ∷ []
requests-push [] s = refl
requests-push (x ∷ steps) s = ap (λ rs. x.0 ∷ rs) (requests-push steps s)

replay-push : (lines : List DeductionLine) (rs : List Request) (r : Request) → replay_from lines (rs ++ r ∷ []) ≡ taken (replay_from lines rs) r
replay-push lines [] r = refl
replay-push lines (q ∷ rs) r = replay-push (taken lines q) rs r

-- what is traced last
record IsLast (lines : List DeductionLine) (s : Trace) : Type 0 where
  accepted : Accepts lines s.0
  change : s.1 ≡ change_of (line_of lines (number_of s.0))

traced_push : (lines : List DeductionLine) (steps : List Trace) (s : Trace) → AreTraced lines steps → IsLast (replay_from lines (requests_of steps)) s → AreTraced lines (steps ++ s ∷ [])
traced_push lines [] s h last = (last.accepted, last.change, tt)
traced_push lines (x ∷ steps) s h last = (h.0, h.1, traced_push (taken lines x.0) steps s h.2 last)

traced_front : (lines : List DeductionLine) (steps : List Trace) (s : Trace) → AreTraced lines (steps ++ s ∷ []) → AreTraced lines steps
traced_front lines [] s h = tt
traced_front lines (x ∷ steps) s h = (h.0, h.1, traced_front (taken lines x.0) steps s h.2)

traced_last : (lines : List DeductionLine) (steps : List Trace) (s : Trace) → AreTraced lines (steps ++ s ∷ []) → IsLast (replay_from lines (requests_of steps)) s
traced_last lines [] s h = record { accepted = h.0; change = h.1 }
traced_last lines (x ∷ steps) s h = traced_last (taken lines x.0) steps s h.2

-- a goal that was started
not_started : {A : Type 0} (o : Option A) → o ≡ None → is_some o ≡ true → ⊥
not_started None e h = cc
not_started (Some a) e h = cc

not_empty : {A : Type 0} (xs : List A) (x : A) → xs ++ x ∷ [] ≡ [] → ⊥
not_empty [] x e = cc
not_empty (y ∷ xs) x e = cc

-- one request more
pub session_more : (goal : Option Goal) (steps more : List Trace) (lines new : List DeductionLine) (r : Request) → is_some goal ≡ true → IsSession goal steps lines → Accepts lines r
    → more ≡ steps ++ (r, change_of (line_of lines (number_of r))) ∷ [] → new ≡ taken lines r → IsSession goal more new
session_more goal steps more lines new r started s a e f =
    subst (λ (m : List Trace). IsSession goal m new) (sym e) (record {
      outline =
          f ∙ ap (λ (l : List DeductionLine). taken l r) s.outline ∙ sym (replay-push (first_lines goal) (requests_of steps) r)
          ∙ ap (replay_from (first_lines goal)) (sym (requests-push steps (r, change_of (line_of lines (number_of r)))));
      traced =
          traced_push (first_lines goal) steps (r, change_of (line_of lines (number_of r))) s.traced
          (subst (λ (l : List DeductionLine). IsLast l (r, change_of (line_of lines (number_of r)))) s.outline (record { accepted = a; change = refl }));
      idle = λ none. absurd (not_started goal none started);
    })

pub requests_more : (steps more : List Trace) (s : Trace) → more ≡ steps ++ s ∷ [] → requests_of more ≡ requests_of steps ++ s.0 ∷ []
requests_more steps more s e = ap requests_of e ∙ requests-push steps s

-- the lines before the last request
before_last : (goal : Option Goal) (steps more : List Trace) (lines : List DeductionLine) (s : Trace) → more ≡ steps ++ s ∷ [] → IsSession goal more lines
    → lines ≡ taken (replay_from (first_lines goal) (requests_of steps)) s.0
before_last goal steps more lines s e h =
    h.outline ∙ ap (replay_from (first_lines goal)) (requests_more steps more s e) ∙ replay-push (first_lines goal) (requests_of steps) s.0

pub last_there : (goal : Option Goal) (steps more : List Trace) (lines : List DeductionLine) (s : Trace) → more ≡ steps ++ s ∷ [] → IsSession goal more lines
    → IsSome (line_of lines (number_of s.0))
last_there goal steps more lines s e h =
    subst (λ (l : List DeductionLine). IsSome (line_of l (number_of s.0))) (sym (before_last goal steps more lines s e h))
    (taken_there (replay_from (first_lines goal) (requests_of steps)) s.0)

-- one request less
pub session_less : (goal : Option Goal) (steps more : List Trace) (lines new : List DeductionLine) (s : Trace) → IsOutline lines → more ≡ steps ++ s ∷ [] → IsSession goal more lines
    → new ≡ taken_back s.1 lines (number_of s.0) → IsSession goal steps new
session_less goal steps more lines new s outline e h f = record {
  outline =
      f ∙ ap₂ (λ (c : Change) (l : List DeductionLine). taken_back c l (number_of s.0)) last.change (before_last goal steps more lines s e h)
      ∙ taken_then_back (replay_from (first_lines goal) (requests_of steps)) s.0 (subst IsOutline (before_last goal steps more lines s e h) outline) last.accepted.free;
  traced = traced_front (first_lines goal) steps s (subst (AreTraced (first_lines goal)) e h.traced);
  idle = λ none. absurd (not_empty steps s (sym e ∙ h.idle none));
}
  where
    last : IsLast (replay_from (first_lines goal) (requests_of steps)) s
    last = traced_last (first_lines goal) steps s (subst (AreTraced (first_lines goal)) e h.traced)

-- the steps as they are kept
pub steps_popped : (old new : List Step) (step : Step) → old ≡ new ++ step ∷ [] → map plain_step old ≡ map plain_step new ++ plain_step step ∷ []
steps_popped old new step e = ap (map plain_step) e ∙ map-append plain_step new (step ∷ [])

-- nothing is changed
pub session_same : (goal : Option Goal) (steps more : List Trace) (lines new : List DeductionLine) → IsSession goal steps lines → more ≡ steps → new ≡ lines → IsSession goal more new
session_same goal steps more lines new h e f =
    subst (λ (m : List Trace). IsSession goal m new) (sym e) (subst (λ (l : List DeductionLine). IsSession goal steps l) (sym f) h)

pub some_kept : (goal : Option GoalLine) → is_some goal ≡ is_some (option_map plain_goal goal)
some_kept None = refl
some_kept (Some g) = refl

-- what is answered by what is kept
pub answer_for : (s : SessionState) (goal : Option Goal) (steps : List Trace) (lines : List DeductionLine) (r : Request) (fault : SessionFault) (b : Bool) → record { goal = goal; requests = requests_of steps } ≡ s
    → IsSession goal steps lines → b ≡ is_some goal → IsAnswer b lines r fault → IsFirstAnswer s r fault
answer_for s goal steps lines r fault b view h e answer =
    subst (λ (t : SessionState). IsFirstAnswer t r fault) view
    (
    subst (λ (l : List DeductionLine). IsAnswer (is_some goal) l r fault) h.outline
    (subst (λ (c : Bool). IsAnswer c lines r fault) e answer)
    )
