-- The faults of the walk as its calls return.
use Rattle.std.proofs.Common.{◌≡◌, ℕ, ◌+◌, List, ◌++◌, Bool, not, ap, subst, inl, inr, Result, Ok, Err, IfOk, IfErr}
use Rattle.hol_terms.specs.Terms.{Term, Variable}
use Rattle.expansion_tree.specs.declared.faults.FitFault.{FitFault}
use Rattle.expansion_tree.specs.declared.faults.FitFault.TheVariants.{Memory, Misfit, BadTerm, BadVariable}
use Rattle.expansion_tree.specs.declared.matrices.Matrix.{Matrix}
use Rattle.expansion_tree.specs.declared.trees.Op.{Op}
use Rattle.expansion_tree.specs.Trees.{ExpansionTree, constant_node, negation_node, connective_node, node_count}
use Rattle.expansion_tree.specs.Standing.{negation_of, compound_of, left_polarity, selected_variables}
use Rattle.expansion_tree.specs.Faults.{FirstFault}
use Rattle.expansion_tree.specs.Stood.{Findings, Stood, UnlessMemory}

-- running out of memory alone
pub memory_alone : (P : FitFault → Type 0) (r : Result (Matrix × ℕ) FitFault) → IfErr r (λ e. e ≡ Memory) → IfErr r (λ e. UnlessMemory e (P e))
memory_alone P (Ok x) h = tt
memory_alone P (Err e) h = rw h tt

-- a constant's node finds nothing
pub constant_result : (p : Bool) (a : Term) (node : ℕ) (found : Findings) (r : Result (Matrix × ℕ) FitFault)
    → IfOk r (λ x. (every : Findings) → Stood p a constant_node node every every x.0 x.1) → IfOk r (λ x. Stood p a constant_node node found found x.0 x.1)
constant_result p a node found (Ok x) h = h found
constant_result p a node found (Err e) h = tt

pub negation_fault : (t : ExpansionTree) (p : Bool) (a b : Term) (node : ℕ) (taken : List Variable) (r : Result (Matrix × ℕ) FitFault)
    → a ≡ negation_of b → IfErr r (λ e. UnlessMemory e (FirstFault taken (not p) b t (node + 1) e)) → IfErr r (λ e. UnlessMemory e (FirstFault taken p a (negation_node t) node e))
negation_fault t p a b node taken (Ok x) e h = tt
negation_fault t p a b node taken (Err Memory) e h = tt
negation_fault t p a b node taken (Err (Misfit k)) e h = inr (b, e, h)
negation_fault t p a b node taken (Err (BadTerm k)) e h = inr (b, e, h)
negation_fault t p a b node taken (Err (BadVariable k)) e h = inr (b, e, h)

pub left_fault : (op : Op) (t u : ExpansionTree) (p : Bool) (a b c : Term) (node : ℕ) (taken : List Variable) (e : FitFault)
    → a ≡ compound_of op b c → UnlessMemory e (FirstFault taken (left_polarity op p) b t (node + 1) e) → UnlessMemory e (FirstFault taken p a (connective_node op t u) node e)
left_fault op t u p a b c node taken Memory f h = tt
left_fault op t u p a b c node taken (Misfit k) f h = inr (b, c, f, inl h)
left_fault op t u p a b c node taken (BadTerm k) f h = inr (b, c, f, inl h)
left_fault op t u p a b c node taken (BadVariable k) f h = inr (b, c, f, inl h)

right_below : (op : Op) (t u : ExpansionTree) (p : Bool) (a b c : Term) (node middle : ℕ) (old new : Findings) (m : Matrix) (e : FitFault)
    → a ≡ compound_of op b c → Stood (left_polarity op p) b t (node + 1) old new m middle → FirstFault new.taken p c u middle e → FirstFault old.taken p a (connective_node op t u) node e
right_below op t u p a b c node middle old new m e f x h =
    let taken : new.taken ≡ old.taken ++ selected_variables x.standing = ap (λ (g : Findings). g.taken) x.added in
    let placed = subst (λ (n : ℕ). FirstFault new.taken p c u n e) x.counted h in
    inr (b, c, f, inr (x.standing, (x.stands, x.fresh), subst (λ (l : List Variable). FirstFault l p c u (node + 1 + node_count t) e) taken placed))

pub right_fault : (op : Op) (t u : ExpansionTree) (p : Bool) (a b c : Term) (node middle : ℕ) (old new : Findings) (m : Matrix) (e : FitFault)
    → a ≡ compound_of op b c → Stood (left_polarity op p) b t (node + 1) old new m middle → UnlessMemory e (FirstFault new.taken p c u middle e)
    → UnlessMemory e (FirstFault old.taken p a (connective_node op t u) node e)
right_fault op t u p a b c node middle old new m Memory f x h = tt
right_fault op t u p a b c node middle old new m (Misfit k) f x h = right_below op t u p a b c node middle old new m (Misfit k) f x h
right_fault op t u p a b c node middle old new m (BadTerm k) f x h = right_below op t u p a b c node middle old new m (BadTerm k) f x h
right_fault op t u p a b c node middle old new m (BadVariable k) f x h = right_below op t u p a b c node middle old new m (BadVariable k) f x h
