-- Where a script is cut.
use Rattle.std.proofs.Common.{ℕ, suc, ◌+◌, ◌-◌, List, [], ◌∷◌, Bool, true, false, cond, ◌≡◌, refl, sym, ap, subst, ◌∙◌, length, take, drop, arith, Some, None}
use Rattle.std.specs.Prelude.{◌==◌}
use Rattle.std.specs.List.{position_from}
use Rattle.std.proofs.lemmas.List.{length-drop}
use Rattle.std.proofs.Math.Seq.{take-length}
use Rattle.etps_script.specs.Lines.{script_lines, with_front}

-- the lines where the first ends at i, some places from here
record IsCutAt (at : ℕ) (bytes : List ℕ) (i : ℕ) : Type 0 where
  length_of_first : ℕ
  place : i ≡ at + length_of_first
  cut : script_lines bytes ≡ take length_of_first bytes ∷ script_lines (drop (length_of_first + 1) bytes)

cut_from : (at : ℕ) (bytes : List ℕ) (i : ℕ) → position_from (λ b. b == 10) at bytes ≡ Some i → IsCutAt at bytes i
cut_from at [] i e = absurd (let no : None ≡ Some i = e in cc)
cut_from at (b ∷ bytes) i e = by_test (b == 10) refl e (cut_from (at + 1) bytes i)
  where
    by_test : (t : Bool) → (b == 10) ≡ t → cond t (Some at) (position_from (λ b. b == 10) (at + 1) bytes) ≡ Some i
        → (position_from (λ b. b == 10) (at + 1) bytes ≡ Some i → IsCutAt (at + 1) bytes i) → IsCutAt at (b ∷ bytes) i
    by_test true f e rest =
        let same : at ≡ i = cc in
        record { length_of_first = 0; place = omega (arith, same); cut = ap (λ (t : Bool). cond t ([] ∷ script_lines bytes) (with_front b (script_lines bytes))) f }
    by_test false f e rest =
        let r = rest e in
        let k = r.length_of_first in
        let more : suc (k + 1) ≡ suc k + 1 = omega arith in
        record {
          length_of_first = suc k;
          place = omega (arith, r.place);
          cut = ap (λ (t : Bool). cond t ([] ∷ script_lines bytes) (with_front b (script_lines bytes))) f
              ∙ ap (with_front b) r.cut ∙ ap (λ (n : ℕ). (b ∷ take k bytes) ∷ script_lines (drop n (b ∷ bytes))) more;
        }

last_by_test : (at b : ℕ) (bytes : List ℕ) (t : Bool) → (b == 10) ≡ t → cond t (Some at) (position_from (λ b. b == 10) (at + 1) bytes) ≡ None
    → (position_from (λ b. b == 10) (at + 1) bytes ≡ None → with_front b (script_lines bytes) ≡ (b ∷ bytes) ∷ []) → script_lines (b ∷ bytes) ≡ (b ∷ bytes) ∷ []
last_by_test at b bytes true f e rest = absurd (let no : Some at ≡ None = e in cc)
last_by_test at b bytes false f e rest = ap (λ (t : Bool). cond t ([] ∷ script_lines bytes) (with_front b (script_lines bytes))) f ∙ rest e

last_from : (at : ℕ) (b : ℕ) (bytes : List ℕ) → position_from (λ b. b == 10) at (b ∷ bytes) ≡ None → script_lines (b ∷ bytes) ≡ (b ∷ bytes) ∷ []
last_from at b [] e = last_by_test at b [] (b == 10) refl e (λ _. refl)
last_from at b (c ∷ cs) e = last_by_test at b (c ∷ cs) (b == 10) refl e (λ h. ap (with_front b) (last_from (at + 1) c cs h))

-- the first line, and those after its end
pub cut_rest : (bytes : List ℕ) (i : ℕ) → Some i ≡ position_from (λ b. b == 10) 0 bytes → script_lines bytes ≡ take i bytes ∷ script_lines (take (length bytes - (i + 1)) (drop (i + 1) bytes))
cut_rest bytes i e =
    let c = cut_from 0 bytes i (sym e) in
    let same : c.length_of_first ≡ i = omega (arith, c.place) in
    let whole : take (length bytes - (i + 1)) (drop (i + 1) bytes) ≡ drop (i + 1) bytes =
    ap (λ (n : ℕ). take n (drop (i + 1) bytes)) (sym (length-drop (i + 1) bytes)) ∙ take-length (drop (i + 1) bytes) in
    subst (λ (k : ℕ). script_lines bytes ≡ take k bytes ∷ script_lines (drop (k + 1) bytes)) same c.cut ∙ ap (λ (l : List ℕ). take i bytes ∷ script_lines l) (sym whole)

-- the only line
pub cut_last : (bytes : List ℕ) → (bytes ≡ [] → ⊥) → None ≡ position_from (λ b. b == 10) 0 bytes
    → script_lines bytes ≡ bytes ∷ script_lines (take (length bytes - length bytes) (drop (length bytes) bytes))
cut_last [] some e = absurd (some refl)
cut_last (b ∷ bytes) some e =
    let none : take (length (b ∷ bytes) - length (b ∷ bytes)) (drop (length (b ∷ bytes)) (b ∷ bytes)) ≡ [] =
    ap (λ (n : ℕ). take n (drop (length (b ∷ bytes)) (b ∷ bytes))) (let zero_left : length (b ∷ bytes) - length (b ∷ bytes) ≡ 0 = omega arith in zero_left) in
    last_from 0 b bytes (sym e) ∙ ap (λ (l : List ℕ). (b ∷ bytes) ∷ script_lines l) (sym none)
