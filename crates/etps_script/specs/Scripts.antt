-- Scripts, and the replies to them.
use Rattle.std.specs.Prelude.{◌≡◌, ◌≢◌, ◌⊎◌, ℕ, List, [], ◌∷◌, ◌++◌, None}
use Rattle.etps_session.specs.Replays.{SessionState}
use Rattle.script_text.specs.Commands.{ScriptRequest}
use Rattle.script_text.specs.Lines.{IsCommandFault, IsCommandLine}
use Rattle.script_text.specs.declared.faults.CommandFault.{CommandFault}
use Rattle.script_text.specs.declared.faults.CommandFault.TheVariants as line_fault
use Rattle.etps_script.specs.Lines.{script_lines}
use Rattle.etps_script.specs.Refusals.{refused_line}
use Rattle.etps_script.specs.Replies.{Replied}

-- the line is that of a command, which is replied to
abbrev pub IsCommandReply : SessionState → List ℕ → SessionState → List ℕ → Type 0
IsCommandReply s line new out = (c : ScriptRequest) × IsCommandLine line c × Replied s c new out

-- the line is that of none, which is told by its first fault, and changes nothing
pub record IsFaultReply (s : SessionState) (line : List ℕ) (new : SessionState) (out : List ℕ) : Type 0 where
  pub fault : CommandFault
  pub told : fault ≢ line_fault.Memory
  pub first : IsCommandFault line fault
  pub kept : new ≡ s
  pub reply : out ≡ refused_line fault

abbrev pub IsLineReply : SessionState → List ℕ → SessionState → List ℕ → Type 0
IsLineReply s line new out = IsCommandReply s line new out ⊎ IsFaultReply s line new out

-- the new text is the old one, the reply to the line, and LF
abbrev pub HasReply : SessionState → List ℕ → SessionState → List ℕ → List ℕ → Type 0
HasReply s line new before after = (reply : List ℕ) × IsLineReply s line new reply × (after ≡ before ++ reply ++ 10 ∷ [])

-- the lines from a session on are replied to, each reply followed by LF
abbrev pub AreReplies : SessionState → List (List ℕ) → List ℕ → Type 0
AreReplies s [] out = out ≡ []
AreReplies s (line ∷ lines) out =
    (new : SessionState) × (reply : List ℕ) × (others : List ℕ)
    × IsLineReply s line new reply × AreReplies new lines others × (out ≡ reply ++ 10 ∷ others)

-- the session without a goal
abbrev pub empty_session : SessionState
empty_session = record { goal = None; requests = [] }

-- the replies to a script, from the session without a goal on
abbrev pub Replies : List ℕ → List ℕ → Type 0
Replies bytes out = AreReplies empty_session (script_lines bytes) out
