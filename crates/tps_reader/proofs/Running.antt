-- Laws of reading token by token.
use Rattle.std.proofs.Common.{◌≡◌, ℕ, ◌<◌, ◌≤◌, nat_lt, Bool, true, false, cond, List, [], ◌∷◌, ◌++◌, Option, Some, None, refl, sym, ◌∙◌, arith}
use Rattle.std.proofs.lemmas.Bool.{ltb-true, lt-ltb, le-ltb, ltb-false}
use Rattle.tps_reader.specs.Raws.{RawFormula}
use Rattle.tps_reader.specs.Tokens.{Token}
use Rattle.tps_reader.specs.Machine.{Frame, State, filled, run, settled, step, wanted_rank}

-- nothing follows where reading has stopped
pub run_none : (ts : List Token) → run ts None ≡ None
run_none [] = refl
run_none (t ∷ ts) = refl

-- tokens and then more
pub run_append : (xs ys : List Token) (state : Option State) → run (xs ++ ys) state ≡ run ys (run xs state)
run_append [] ys state = refl
run_append (t ∷ xs) ys (Some state) = run_append xs ys (step state t)
run_append (t ∷ xs) ys None = sym (run_none ys)

-- how tightly what stands on frames has to bind
abbrev pub top_rank : List Frame → ℕ
top_rank [] = 0
top_rank (f ∷ fs) = wanted_rank f

-- nothing settles
pub settled_none : (fs : List Frame) (v : RawFormula) (m : ℕ) → top_rank fs ≤ m → settled m fs v ≡ (fs, v)
settled_none [] v m h = refl
settled_none (f ∷ fs) v m h = rw (le-ltb m (wanted_rank f) h) refl

-- one frame settles
pub settled_one : (f : Frame) (fs : List Frame) (v : RawFormula) (m : ℕ) → m < wanted_rank f → settled m (f ∷ fs) v ≡ settled m fs (filled f v)
settled_one f fs v m h = rw (lt-ltb m (wanted_rank f) h) refl

-- settling less and then more
pub settled_twice : (fs : List Frame) (v : RawFormula) (m n : ℕ) → m ≤ n → settled m (settled n fs v).0 (settled n fs v).1 ≡ settled m fs v
settled_twice [] v m n h = refl
settled_twice (f ∷ fs) v m n h = go (settled_twice fs (filled f v) m n h) (nat_lt n (wanted_rank f)) refl
  where
    Both : List Frame × RawFormula → Type 0
    Both r = settled m r.0 r.1 ≡ settled m (f ∷ fs) v

    go : settled m (settled n fs (filled f v)).0 (settled n fs (filled f v)).1 ≡ settled m fs (filled f v) → (b : Bool) → nat_lt n (wanted_rank f) ≡ b → Both (cond b (settled n fs (filled f v)) (f ∷ fs, v))
    go more true e = more ∙ sym (settled_one f fs v m (omega (arith, h, ltb-true n (wanted_rank f) e)))
    go more false e = refl

-- what is left wants no more
pub settled_top : (fs : List Frame) (v : RawFormula) (m : ℕ) → top_rank (settled m fs v).0 ≤ m
settled_top [] v m = omega arith
settled_top (f ∷ fs) v m = go (settled_top fs (filled f v) m) (nat_lt m (wanted_rank f)) refl
  where
    go : top_rank (settled m fs (filled f v)).0 ≤ m → (b : Bool) → nat_lt m (wanted_rank f) ≡ b → top_rank (cond b (settled m fs (filled f v)) (f ∷ fs, v)).0 ≤ m
    go more true e = more
    go more false e = ltb-false m (wanted_rank f) e
