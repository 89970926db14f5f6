-- The first fault of a text as a bracketed form.
use Rattle.std.specs.Prelude.{◌≡◌, ℕ, ◌+◌, ◌-◌, ◌==◌, ◌&&◌, Bool, true, false, if◌then◌else◌, List, [], ◌∷◌, length, Option, Some, None}
use Rattle.std.specs.Str.{is_utf8}
use Rattle.core_text.specs.Tokens.{Piece, piece, opening, closing, word, pieces}
use Rattle.core_text.specs.Words.{is_good}
use Rattle.core_text.specs.declared.faults.TextFault.{TextFault}
use Rattle.core_text.specs.declared.faults.TextFault.TheVariants.{Memory, NotUtf8, BadToken, Unbalanced, TooDeep, Trailing, BadForm, IllTyped, LooseIndex}

-- what is wrong with a piece after others (started), where this many brackets are open
abbrev pub cause : ℕ → Bool → Piece → Option TextFault
cause depth started (piece (word w) k) = if is_good w then (if started && depth == 0 then Some (Trailing k) else None) else Some (BadToken k)
cause depth started (piece opening k) = if started && depth == 0 then Some (Trailing k) else (if depth == 5000 then Some (TooDeep k) else None)
cause depth started (piece closing k) = if depth == 0 then Some (Unbalanced k) else None

-- how many brackets are open after a piece
abbrev pub depth_after : ℕ → Piece → ℕ
depth_after depth (piece (word w) k) = depth
depth_after depth (piece opening k) = depth + 1
depth_after depth (piece closing k) = depth - 1

abbrev pub or_else : {A : Type 0} → Option A → Option A → Option A
or_else (Some x) other = Some x
or_else None other = other

-- the fault at the least place, for a text that ends at the last place
abbrev pub first_fault : ℕ → Bool → List Piece → ℕ → Option TextFault
first_fault depth started [] last = if started && depth == 0 then None else Some (Unbalanced last)
first_fault depth started (p ∷ ps) last = or_else (cause depth started p) (first_fault (depth_after depth p) true ps last)

-- what keeps the bytes from being a text of one form
abbrev pub form_fault : List ℕ → Option TextFault
form_fault bytes = if is_utf8 bytes then first_fault 0 false (pieces 0 bytes) (length bytes) else Some NotUtf8

-- a fault other than running out of memory is the one that was found
abbrev pub IsFaultUnlessMemory : TextFault → Option TextFault → Type 0
IsFaultUnlessMemory Memory found = Unit {0}
IsFaultUnlessMemory NotUtf8 found = found ≡ Some NotUtf8
IsFaultUnlessMemory (BadToken k) found = found ≡ Some (BadToken k)
IsFaultUnlessMemory (Unbalanced k) found = found ≡ Some (Unbalanced k)
IsFaultUnlessMemory (TooDeep k) found = found ≡ Some (TooDeep k)
IsFaultUnlessMemory (Trailing k) found = found ≡ Some (Trailing k)
IsFaultUnlessMemory (BadForm k) found = found ≡ Some (BadForm k)
IsFaultUnlessMemory (IllTyped k) found = found ≡ Some (IllTyped k)
IsFaultUnlessMemory (LooseIndex k) found = found ≡ Some (LooseIndex k)
