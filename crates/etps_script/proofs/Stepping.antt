-- Steps that are taken, and steps that are refused.
use Rattle.std.proofs.Common.{ℕ, List, [], ◌∷◌, ◌++◌, ◌≡◌, ◌≢◌, refl, sym, ap, subst, ◌∙◌, ◌⊎◌, inr, length}
use Rattle.std.specs.Prelude.{IsSome}
use Rattle.nd_rules.specs.Lines.{DeductionLine, line_of}
use Rattle.etps_session.specs.Commands.{Request, number_of}
use Rattle.etps_session.specs.Replays.{SessionState, first_lines, replay, replay_from, taken}
use Rattle.etps_session.proofs.Undone.{taken_there}
use Rattle.script_text.specs.Commands.{ScriptRequest}
use Rattle.etps_script.specs.Names.{AreNamesOf, IsStepAfter}
use Rattle.etps_script.specs.Refusals.{refused_reply}
use Rattle.etps_script.specs.Replies.{IsNoStep, IsRefused, IsStep, IsTaken}
use Rattle.etps_script.specs.declared.known.KnownNames.{KnownNames}
use Rattle.etps_script.specs.declared.refusals.Refusal.{Refusal}
use Rattle.etps_script.specs.declared.refusals.Refusal.TheVariants as refusal

replay_more : (lines : List DeductionLine) (rs : List Request) (r : Request) → replay_from lines (rs ++ r ∷ []) ≡ taken (replay_from lines rs) r
replay_more lines [] r = refl
replay_more lines (q ∷ rs) r = replay_more (taken lines q) rs r

-- the line of a step that was taken is there
pub line_there : (s : SessionState) (c : ScriptRequest) (new : SessionState) (n : ℕ) → IsTaken s c new n → IsSome (line_of (replay new) n)
line_there s c new n h =
    let e : replay new ≡ taken (replay s) h.request = ap replay h.taken ∙ replay_more (first_lines s.goal) s.requests h.request in
    subst (λ (m : ℕ). IsSome (line_of (replay new) m)) (sym h.number)
    (subst (λ (lines : List DeductionLine). IsSome (line_of lines (number_of h.request))) (sym e) (taken_there (replay s) h.request))

-- the reply to a step that is refused
pub no_step : (s : SessionState) (c : ScriptRequest) (new : SessionState) (e : Refusal) (out : List ℕ)
    → IsRefused s c e → new ≡ s → e ≢ refusal.Memory → out ≡ refused_reply e → IsStep s c new out ⊎ IsNoStep s c new out
no_step s c new e out h kept told text = inr (record { fault = e; told = told; refused = h; kept = kept; reply = text })

-- the outline after a step that was taken
pub step_after : (s : SessionState) (c : ScriptRequest) (new : SessionState) (n : ℕ) (names : KnownNames) (count : ℕ) (lines : List DeductionLine)
    → IsTaken s c new n → AreNamesOf (replay s) names → count ≡ length (replay s) → lines ≡ replay new → IsStepAfter names count n lines
step_after s c new n names count lines h before counted after = record {
  before = replay s;
  request = h.request;
  names_before = before;
  counted = counted;
  numbered = h.number;
  step = after ∙ ap replay h.taken ∙ replay_more (first_lines s.goal) s.requests h.request;
}
