-- From what reading answers to what the program answers.
use Rattle.std.proofs.Common.{◌≡◌, ◌≢◌, ℕ, Option, None, IfErr, IfOk, Result, Ok, Err, refl, ap}
use Rattle.core_text.specs.Faults.{IsFaultUnlessMemory}
use Rattle.core_text.specs.Judged.{Answers, fault_in}
use Rattle.core_text.specs.Reading.{◌>>=◌, Fails, Gives}
use Rattle.core_text.specs.declared.faults.TextFault.{TextFault}
use Rattle.core_text.specs.declared.faults.TextFault.TheVariants.{Memory, NotUtf8, BadToken, Unbalanced, TooDeep, Trailing, BadForm, IllTyped, LooseIndex}

no_value : {A : Type 0} (read : Result A ℕ) (k : ℕ) (a : A) → read ≡ Err k → read ≡ Ok a → ⊥
no_value read k a e h = cc

refused : {A : Type 0} (e : TextFault) (read : Result A ℕ) (a : A) → e ≢ Memory → Fails e read → read ≡ Ok a → ⊥
refused Memory read a other h value = other refl
refused NotUtf8 read a other h value = h
refused (BadToken k) read a other h value = h
refused (Unbalanced k) read a other h value = h
refused (TooDeep k) read a other h value = h
refused (Trailing k) read a other h value = h
refused (BadForm k) read a other h value = no_value read k a h value
refused (IllTyped k) read a other h value = h
refused (LooseIndex k) read a other h value = h

-- P says which values the table gives
module _ {X A : Type 0} (view : X → A) (r : Result X TextFault) (read : Result A ℕ) (gives : Gives view r read) (P : A → Type 0) where
  pub value_read : ((a : A) → read ≡ Ok a → P a) → IfOk r (λ x. P (view x))
  value_read all = go r gives
    where
      go : (r : Result X TextFault) → Gives view r read → IfOk r (λ x. P (view x))
      go (Ok x) h = all (view x) h
      go (Err e) h = tt

  pub value_refused : ((a : A) → P a → read ≡ Ok a) → IfErr r (λ e. e ≢ Memory → (a : A) → P a → ⊥)
  value_refused all = go r gives
    where
      go : (r : Result X TextFault) → Gives view r read → IfErr r (λ e. e ≢ Memory → (a : A) → P a → ⊥)
      go (Ok x) h = tt
      go (Err e) h = λ other a p. refused e read a other h (all a p)

-- a fault other than running out of memory was found
pub fault_was_found : (e : TextFault) (found : Option TextFault) → IsFaultUnlessMemory e found → e ≢ Memory → found ≡ None → ⊥
fault_was_found Memory found h other none = other refl
fault_was_found NotUtf8 found h other none = cc
fault_was_found (BadToken k) found h other none = cc
fault_was_found (Unbalanced k) found h other none = cc
fault_was_found (TooDeep k) found h other none = cc
fault_was_found (Trailing k) found h other none = cc
fault_was_found (BadForm k) found h other none = cc
fault_was_found (IllTyped k) found h other none = cc
fault_was_found (LooseIndex k) found h other none = cc

none_found : (e : TextFault) (found : Option TextFault) → IsFaultUnlessMemory e None → IsFaultUnlessMemory e found
none_found Memory found h = tt
none_found NotUtf8 found h = cc
none_found (BadToken k) found h = cc
none_found (Unbalanced k) found h = cc
none_found (TooDeep k) found h = cc
none_found (Trailing k) found h = cc
none_found (BadForm k) found h = cc
none_found (IllTyped k) found h = cc
none_found (LooseIndex k) found h = cc

-- a fault of a part that is read first is one of the whole
pub fault_first : {A B : Type 0} (e : TextFault) (r : Result A TextFault) (f : A → Result B TextFault) → IsFaultUnlessMemory e (fault_in r) → IsFaultUnlessMemory e (fault_in (r >>= f))
fault_first e (Ok x) f h = none_found e (fault_in (f x)) h
fault_first e (Err k) f h = h

answer_refused_at : {A : Type 0} (e : TextFault) (read : Result A TextFault) (a : A) → e ≢ Memory → IsFaultUnlessMemory e (fault_in read) → read ≡ Ok a → ⊥
answer_refused_at e read a other h value = fault_was_found e (fault_in read) h other (ap fault_in value)

-- the same, where reading answers faults
module _ {X A : Type 0} (view : X → A) (r : Result X TextFault) (read : Result A TextFault) (answers : Answers view r read) (P : A → Type 0) where
  pub answer_read : ((a : A) → read ≡ Ok a → P a) → IfOk r (λ x. P (view x))
  answer_read all = go r answers
    where
      go : (r : Result X TextFault) → Answers view r read → IfOk r (λ x. P (view x))
      go (Ok x) h = all (view x) h
      go (Err e) h = tt

  pub answer_refused : ((a : A) → P a → read ≡ Ok a) → IfErr r (λ e. e ≢ Memory → (a : A) → P a → ⊥)
  answer_refused all = go r answers
    where
      go : (r : Result X TextFault) → Answers view r read → IfErr r (λ e. e ≢ Memory → (a : A) → P a → ⊥)
      go (Ok x) h = tt
      go (Err e) h = λ other a p. answer_refused_at e read a other h (all a p)

-- where no memory is taken
pub surely : {X : Type 0} (r : Result X TextFault) (Q : TextFault → Type 0) → IfErr r (λ e. e ≢ Memory) → IfErr r (λ e. e ≢ Memory → Q e) → IfErr r Q
surely (Ok x) Q other h = tt
surely (Err e) Q other h = h other
