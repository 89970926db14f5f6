-- Laws of stacks.
use Rattle.std.proofs.Common.{◌≡◌, ℕ, ◌+◌, ◌-◌, ◌<◌, ◌≤◌, ◌==◌, List, [], ◌∷◌, ◌++◌, length, reverse, take, drop, get_or, refl, sym, ◌∙◌, ap, subst, arith, false}
use Rattle.std.proofs.lemmas.Bool.{eq-eqb, ne_eqb}
use Rattle.std.proofs.lemmas.List.{reverse-append, length-reverse, take-append-drop, take_more, length-append, length-take-le}
use Rattle.vertical_paths.proofs.Chains.{reverse-push}
use Rattle.refutations.specs.declared.nodes.Node.{Node}
use Rattle.refutations.specs.declared.stacks.Cell.{Cell}
use Rattle.refutations.specs.Stacks.{chain_in, AreCells}

-- the nodes from the cell of a number on, of cells in the order in which they came
abbrev pub chain : List Cell → ℕ → List Node
chain cells at = chain_in (reverse cells) at

-- what older cells say stays as newer ones come
chain_in-older : (newer older : List Cell) (at : ℕ) → at ≤ length older → chain_in (newer ++ older) at ≡ chain_in older at
chain_in-older [] older at h = refl
chain_in-older (cell ∷ newer) older at h =
    let other : (at == length (newer ++ older) + 1) ≡ false = ne_eqb at (length (newer ++ older) + 1) (λ e. absurd (omega (arith, e, h, length-append newer older))) in
    rw other (chain_in-older newer older at h)

chain_in-top : (cell : Cell) (older : List Cell) (at : ℕ) → at ≡ length older + 1 → chain_in (cell ∷ older) at ≡ cell.node ∷ chain_in older cell.rest
chain_in-top cell older at h = rw (eq-eqb at (length older + 1) h) refl

pub chain-more : (cells more : List Cell) (at : ℕ) → at ≤ length cells → chain (cells ++ more) at ≡ chain cells at
chain-more cells more at h =
    ap (λ cs. chain_in cs at) (reverse-append cells more) ∙ chain_in-older (reverse more) (reverse cells) at (rw (length-reverse cells) h)

pub chain-push : (cells : List Cell) (cell : Cell) (at : ℕ) → at ≡ length cells + 1 → chain (cells ++ cell ∷ []) at ≡ cell.node ∷ chain cells cell.rest
chain-push cells cell at h = ap (λ cs. chain_in cs at) (reverse-push cells cell) ∙ chain_in-top cell (reverse cells) at (rw (length-reverse cells) h)

pub chain-take : (cells : List Cell) (k at : ℕ) → at ≤ k → k ≤ length cells → chain (take k cells) at ≡ chain cells at
chain-take cells k at h within =
    let less : at ≤ length (take k cells) = rw (length-take-le k cells within) h in
    sym (chain-more (take k cells) (drop k cells) at less) ∙ ap (λ cs. chain cs at) (take-append-drop k cells)

-- below the oldest there is none
chain_in-none : (cells : List Cell) → chain_in cells 0 ≡ []
chain_in-none [] = refl
chain_in-none (cell ∷ older) = rw (ne_eqb 0 (length older + 1) (λ e. absurd (omega (arith, e)))) (chain_in-none older)

pub chain-none : (cells : List Cell) → chain cells 0 ≡ []
chain-none cells = chain_in-none (reverse cells)

AreCells-older : (newer older : List Cell) → AreCells (newer ++ older) → AreCells older
AreCells-older [] older h = h
AreCells-older (cell ∷ newer) older h = AreCells-older newer older h.1

AreCells-front : (cells more : List Cell) → AreCells (reverse (cells ++ more)) → AreCells (reverse cells)
AreCells-front cells more h = AreCells-older (reverse more) (reverse cells) (rw reverse-append at h)

-- a cell as it stands among the others
pub record IsCellAt (cells : List Cell) (at : ℕ) (cell : Cell) : Type 0 where
  pub older : cell.rest < at
  pub goes_on : chain cells at ≡ cell.node ∷ chain cells cell.rest

split_at : (cells : List Cell) (k : ℕ) (d : Cell) → k < length cells → (take k cells ++ get_or cells k d ∷ []) ++ drop (k + 1) cells ≡ cells
split_at cells k d h = ap (λ l. l ++ drop (k + 1) cells) (sym (take_more cells k d h)) ∙ take-append-drop (k + 1) cells

pub cell_at : (cells : List Cell) (at : ℕ) (d : Cell) → AreCells (reverse cells) → 0 < at → at ≤ length cells → IsCellAt cells at (get_or cells (at - 1) d)
cell_at cells at d h some within =
    let k : ℕ = at - 1 in
    let less : k < length cells = omega arith in
    let cell : Cell = get_or cells k d in
    let front : List Cell = take k cells in
    let many : length front ≡ k = length-take-le k cells (omega (arith, less)) in
    let top : AreCells (cell ∷ reverse front) = rw (reverse-push front cell) at (AreCells-front (front ++ cell ∷ []) (drop (k + 1) cells) (rw (split_at cells k d less) h)) in
    let older : cell.rest ≤ k = rw (length-reverse front, many) at top.0 in
    let last : at ≡ length front + 1 = omega (arith, many, some) in
    let most : at ≤ length (front ++ cell ∷ []) = omega (arith, length-append front (cell ∷ []), last) in
    record {
      older = omega (arith, older, some);
      goes_on = ap (λ cs. chain cs at) (sym (split_at cells k d less)) ∙ chain-more (front ++ cell ∷ []) (drop (k + 1) cells) at most
          ∙ chain-push front cell at last ∙ ap (λ l. cell.node ∷ l) (chain-take cells k cell.rest older (omega (arith, less)));
    }

-- the cell that was read
pub cell_read : (cells : List Cell) (at : ℕ) (cell : Cell) → AreCells (reverse cells) → (at ≡ 0 → ⊥) → at ≤ length cells → cell ≡ get_or cells (at - 1) cell → IsCellAt cells at cell
cell_read cells at cell h some within is = subst (λ (x : Cell). IsCellAt cells at x) (sym is) (cell_at cells at cell h (omega (arith, some)) within)
