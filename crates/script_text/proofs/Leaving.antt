-- Laws of where tokens leave a language.
use Rattle.std.proofs.Common.{◌≡◌, ◌≢◌, ℕ, List, [], ◌∷◌, ◌++◌, refl, sym, ◌∙◌, ap, subst, append_assoc, inl, inr}
use Rattle.tps_reader.specs.Tokens.{Token, token_place}
use Rattle.tps_reader.specs.declared.faults.RawFault.TheVariants as raw_fault
use Rattle.script_text.specs.Languages.{Begins, LeavesFirst, Stops}
use Rattle.script_text.specs.Tails.{IsFaultIn}
use Rattle.script_text.specs.declared.faults.CommandFault.{CommandFault}
use Rattle.script_text.specs.declared.faults.CommandFault.TheVariants.{Raw as InPhrase, Unknown, Memory}

-- tokens that leave a language don't belong to it
pub leaves_none : (L : List Token → Type 0) (ts : List Token) (last place : ℕ) → LeavesFirst L ts last place → L ts → ⊥
leaves_none L ts last place (inl h) m = h.stops (h.after, subst L (h.parts ∙ sym (append_assoc h.before (h.t ∷ []) h.after)) m)
leaves_none L ts last place (inr h) m = h.1.none m

pub fault_none : (L : List Token → Type 0) (ts : List Token) (last : ℕ) (fault : CommandFault) → IsFaultIn L ts last fault → fault ≢ Memory → L ts → ⊥
fault_none L ts last (InPhrase raw_fault.NotUtf8) h real m = h
fault_none L ts last (InPhrase (raw_fault.BadCharacter place)) h real m = h
fault_none L ts last (InPhrase (raw_fault.TooDeep depth)) h real m = h
fault_none L ts last (InPhrase (raw_fault.Unexpected place)) h real m = leaves_none L ts last place h m
fault_none L ts last (InPhrase raw_fault.Memory) h real m = h
fault_none L ts last Unknown h real m = h
fault_none L ts last Memory h real m = real refl

-- a fault in one language is one in another, where each place is
pub fault_map : (K L : List Token → Type 0) (xs ts : List Token) (last end : ℕ) → ((place : ℕ) → LeavesFirst K xs last place → LeavesFirst L ts end place) → (fault : CommandFault) → IsFaultIn K xs last fault → IsFaultIn L ts end fault
fault_map K L xs ts last end f (InPhrase raw_fault.NotUtf8) h = h
fault_map K L xs ts last end f (InPhrase (raw_fault.BadCharacter place)) h = h
fault_map K L xs ts last end f (InPhrase (raw_fault.TooDeep depth)) h = h
fault_map K L xs ts last end f (InPhrase (raw_fault.Unexpected place)) h = f place h
fault_map K L xs ts last end f (InPhrase raw_fault.Memory) h = h
fault_map K L xs ts last end f Unknown h = h
fault_map K L xs ts last end f Memory h = h

-- After these tokens, the one language has what the other has, among the lists that begin as the rest does.
pub record Follows (L K : List Token → Type 0) (front rest : List Token) : Type 0 where
  pub to : (ts : List Token) → K ts → L (front ++ ts)
  pub from : L (front ++ rest) → K rest
  pub from_part : (b a m : List Token) (t : Token) → rest ≡ b ++ (t ∷ a) → L (front ++ (b ++ (t ∷ m))) → K (b ++ (t ∷ m))

pub begins_behind : (L K : List Token → Type 0) (front ts : List Token) → ((xs : List Token) → K xs → L (front ++ xs)) → Begins K ts → Begins L (front ++ ts)
begins_behind L K front ts to h = (h.0, subst L (sym (append_assoc front ts h.0)) (to (ts ++ h.0) h.1))

-- leaving after these tokens is leaving
pub leaves_behind : (L K : List Token → Type 0) (front rest : List Token) → Follows L K front rest → (last place : ℕ) → LeavesFirst K rest last place → LeavesFirst L (front ++ rest) last place
leaves_behind L K front rest f last place (inl h) = inl (record {
  before = front ++ h.before;
  t = h.t;
  after = h.after;
  parts = ap (λ l. front ++ l) h.parts ∙ sym (append_assoc front h.before (h.t ∷ h.after));
  at = h.at;
  begins = begins_behind L K front h.before f.to h.begins;
  stops = λ m.
      let whole : ((front ++ h.before) ++ (h.t ∷ [])) ++ m.0 ≡ front ++ (h.before ++ (h.t ∷ m.0)) =
      append_assoc (front ++ h.before) (h.t ∷ []) m.0 ∙ append_assoc front h.before (h.t ∷ m.0) in
      h.stops (m.0, subst K (sym (append_assoc h.before (h.t ∷ []) m.0)) (f.from_part h.before h.after m.0 h.t h.parts (subst L whole m.1)));
})
leaves_behind L K front rest f last place (inr h) = inr (h.0, record { begins = begins_behind L K front rest f.to h.1.begins; none = λ m. h.1.none (f.from m) })

-- a first token that none may be
pub stops_first : (L : List Token → Type 0) (t : Token) (rest : List Token) → Begins L [] → ((more : List Token) → L (t ∷ more) → ⊥) → Stops L (t ∷ rest) (token_place t)
stops_first L t rest b s = record { before = []; t = t; after = rest; parts = refl; at = refl; begins = b; stops = λ m. s m.0 m.1 }

-- a token that none may be after others
pub stops_behind : (L : List Token → Type 0) (front rest : List Token) (t : Token) → Begins L front → ((more : List Token) → L (front ++ (t ∷ more)) → ⊥) → Stops L (front ++ (t ∷ rest)) (token_place t)
stops_behind L front rest t b s = record { before = front; t = t; after = rest; parts = refl; at = refl; begins = b; stops = λ m. s m.0 (subst L (append_assoc front (t ∷ []) m.0) m.1) }
