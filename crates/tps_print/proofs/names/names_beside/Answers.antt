use Rattle.std.proofs.Common.{◌≡◌, ◌∙◌, ◌++◌, ◌+◌, ap, ap₂, sym, subst, map, max, List, ℕ, length, length-append, None, Some}
use Rattle.std.specs.Result.{IfOk}
use Rattle.std.specs.String.{string_bytes}
use Rattle.hol_terms.specs.Terms.{Term, plain_term}
use Rattle.tps_print.specs.BoundNames.{binder_depth, free_names, names_outside, names_without}
use Rattle.tps_print.specs.Printed.{names_beside}
use Rattle.tps_print.proofs.Taken.{outside_is_without, takes_both}
use Rattle.tps_print.proofs.names.names_beside.Goals as goal

pub returns-in-None-clause-names : goal.returns-in-None-clause-names
returns-in-None-clause-names c =
    let t : Term = plain_term c.args.t.now in
    let last : c.in_ok-last-in-None.last ≡ binder_depth t + length (free_names t) = c.in_ok-last-in-None.ensures.sum ∙ ap₂ (λ (m n : ℕ). m + n) c.in_ok-depth.ensures c.in_ok-count.ensures.count in
    let names : names_outside c.take_names.new.taken c.in_ok-last-in-None.last ≡ names_beside t None =
    outside_is_without c.new-taken.result c.take_names.new.taken (free_names t) c.in_ok-last-in-None.last c.new-taken.ensures.empty c.in_ok-count.ensures.names c.in_ok-last-in-None.ensures.fits
    ∙ ap (names_without (free_names t)) last in
    let P : List (List ℕ) → Type 0 = λ l. IfOk c.names_outside_of.result (λ names. map string_bytes names.items ≡ l) in
    rw (c.in-None.is) (subst P names c.names_outside_of.ensures)

pub returns-clause-names : goal.returns-clause-names
returns-clause-names c =
    let t : Term = plain_term c.args.t.now in
    let u : Term = plain_term c.in-Some.other.now in
    let count : c.in_ok-count-in-Some.count ≡ length (free_names t ++ free_names u) =
    c.in_ok-count-in-Some.ensures.sum ∙ ap₂ (λ (m n : ℕ). m + n) c.in_ok-count.ensures.count c.in_ok-take_names-in-Some.ensures.count ∙ sym (length-append (free_names t) (free_names u)) in
    let last : c.in_ok-last-in-Some.last ≡ max (binder_depth t) (binder_depth u) + length (free_names t ++ free_names u) =
    c.in_ok-last-in-Some.ensures.sum ∙ ap₂ (λ (m n : ℕ). m + n) (c.max-depth.ensures ∙ ap₂ max c.in_ok-depth.ensures c.in_ok-binder_depth-in-Some.ensures) count in
    let both = takes_both c.new-taken.result c.take_names.new.taken c.take_names-in-Some.new.taken (free_names t) (free_names u) c.in_ok-count.ensures.names c.in_ok-take_names-in-Some.ensures.names in
    let names : names_outside c.take_names-in-Some.new.taken c.in_ok-last-in-Some.last ≡ names_beside t (Some u) =
    outside_is_without c.new-taken.result c.take_names-in-Some.new.taken (free_names t ++ free_names u) c.in_ok-last-in-Some.last c.new-taken.ensures.empty both c.in_ok-last-in-Some.ensures.fits
    ∙ ap (names_without (free_names t ++ free_names u)) last in
    let P : List (List ℕ) → Type 0 = λ l. IfOk c.names_outside_of-in-Some.result (λ names. map string_bytes names.items ≡ l) in
    rw (c.in-Some.is) (subst P names c.names_outside_of-in-Some.ensures)
