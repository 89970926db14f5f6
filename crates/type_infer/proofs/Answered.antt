-- What the solution of all conditions of a phrase says of its annotations.
use Rattle.std.proofs.Common.{ℕ, ◌+◌, ◌<◌, ◌≤◌, List, [], ◌∷◌, ◌≡◌, refl, sym, ap, ap₂, ◌∙◌, subst, arith}
use Rattle.std.specs.declared.option.Option.{Option}
use Rattle.hol_terms.specs.Terms.{SimpleType, Term, Variable, negation, constant, application}
use Rattle.tps_reader.specs.Raws.{RawFormula, raw_variable, raw_constant, raw_application, raw_binding, raw_connective, raw_negation}
use Rattle.type_infer.specs.declared.cells.Cell.{Cell}
use Rattle.type_infer.specs.declared.ordering.Mark.{Mark}
use Rattle.type_infer.specs.Annotations.{innermost, connected, Annotates}
use Rattle.type_infer.specs.Assignments.{occurrence, bound_over, annotated}
use Rattle.type_infer.specs.Cells.{AgreeBelow}
use Rattle.type_infer.specs.Conditions.{PlainCondition, own_type, all_conditions, CanBeMet}
use Rattle.type_infer.specs.Faults.{IsOnlyAnnotation, AreOpenAnnotations}
use Rattle.type_infer.specs.Loading.{AreWithin}
use Rattle.type_infer.specs.Ordering.{placed, number_of, mark_at}
use Rattle.type_infer.specs.Solutions.{Solves, filled, filled_types}
use Rattle.type_infer.specs.Spans.{TermSpans}
use Rattle.type_infer.proofs.Completeness.{first_own, assignment_of_annotation}
use Rattle.type_infer.proofs.Fillings.{filled_models, filled_spans}
use Rattle.type_infer.proofs.Numbers.{all_within}
use Rattle.type_infer.proofs.Soundness.{annotates_of}
use Rattle.type_infer.proofs.Spanning.{annotated_spans, term_spans_same}

-- the term speaks of the phrase's own numbers alone
annotated_agree : (n : ℕ) (u v : ℕ → SimpleType) (around : List (List ℕ × ℕ)) (first : ℕ) (raw : RawFormula) → own_type first raw < n → AgreeBelow n u v
    → annotated u around first raw ≡ annotated v around first raw
annotated_agree n u v around first (raw_variable name written place) l agree = ap (occurrence (innermost name around) name) (agree first l)
annotated_agree n u v around first (raw_constant c place) l agree = refl
annotated_agree n u v around first (raw_application f a place) l agree =
    let i : ℕ = own_type first f in
    let m : i + 1 ≤ own_type (i + 1) a = first_own (i + 1) a in
    ap₂ application (annotated_agree n u v around first f (omega arith) agree) (annotated_agree n u v around (i + 1) a (omega arith) agree)
annotated_agree n u v around first (raw_binding binder name written body place) l agree =
    let m : first + 1 ≤ own_type (first + 1) body = first_own (first + 1) body in
    ap₂ (bound_over binder) (agree first (omega arith)) (annotated_agree n u v ((name, first) ∷ around) (first + 1) body (omega arith) agree)
annotated_agree n u v around first (raw_connective op left right place) l agree =
    let i : ℕ = own_type first left in
    let m : i + 1 ≤ own_type (i + 1) right = first_own (i + 1) right in
    ap₂ (connected op) (annotated_agree n u v around first left (omega arith) agree) (annotated_agree n u v around (i + 1) right (omega arith) agree)
annotated_agree n u v around first (raw_negation below place) l agree =
    ap (application (constant negation)) (annotated_agree n u v around first below (omega arith) agree)

filling_annotates : (raw : RawFormula) (wanted : Option SimpleType) (known : List Variable) (count letter : ℕ) (marks : List Mark) (shapes : List Cell)
    → Solves count (all_conditions raw wanted known) marks shapes → Annotates raw wanted known (annotated (filled_types letter marks shapes) [] 0 raw)
filling_annotates raw wanted known count letter marks shapes h =
    let got = h.keeps (filled letter shapes) (filled_models letter shapes h.are_shapes) in
    annotates_of got.0 (filled_types letter marks shapes) raw wanted known got.1

annotation_spans : (raw : RawFormula) (wanted : Option SimpleType) (known : List Variable) (count : ℕ) (marks : List Mark) (shapes : List Cell)
    → count ≡ own_type 0 raw + 1 → Solves count (all_conditions raw wanted known) marks shapes → (r : Term) → Annotates raw wanted known r
    → TermSpans (annotated (filled_types 73 marks shapes) [] 0 raw) (annotated (filled_types 79 marks shapes) [] 0 raw) r
annotation_spans raw wanted known count marks shapes ec h r annotates =
    let got = assignment_of_annotation raw wanted known r annotates in
    let types : ℕ → SimpleType = got.1 in
    let found = h.goes_on got.0 types got.2 in
    let w : ℕ → SimpleType = found.0 in
    let same : r ≡ annotated (placed w marks) [] 0 raw = got.3 ∙ annotated_agree count types (placed w marks) [] 0 raw (omega arith) found.2 in
    subst (TermSpans (annotated (filled_types 73 marks shapes) [] 0 raw) (annotated (filled_types 79 marks shapes) [] 0 raw)) (sym same)
    (annotated_spans (filled_types 73 marks shapes) (filled_types 79 marks shapes) (placed w marks) [] 0 raw
    (λ i. filled_spans shapes w h.are_shapes found.1 (number_of (mark_at marks i))))

pub is_only : (raw : RawFormula) (wanted : Option SimpleType) (known : List Variable) (count : ℕ) (conditions : List PlainCondition) (marks : List Mark) (shapes : List Cell) (s t : Term)
    → conditions ≡ all_conditions raw wanted known → count ≡ own_type 0 raw + 1 → Solves count conditions marks shapes
    → s ≡ annotated (filled_types 73 marks shapes) [] 0 raw → t ≡ annotated (filled_types 79 marks shapes) [] 0 raw → s ≡ t
    → IsOnlyAnnotation raw wanted known s
is_only raw wanted known count conditions marks shapes s t e ec h es et same =
    let solves = subst (λ (cs : List PlainCondition). Solves count cs marks shapes) e h in
    let first : Term = annotated (filled_types 73 marks shapes) [] 0 raw in
    let second : Term = annotated (filled_types 79 marks shapes) [] 0 raw in
    let equal : second ≡ first = sym et ∙ sym same ∙ es in
    record {
      annotates = subst (Annotates raw wanted known) (sym es) (filling_annotates raw wanted known count 73 marks shapes solves);
      only = λ r annotates.
          term_spans_same first r (subst (λ (x : Term). TermSpans first x r) equal (annotation_spans raw wanted known count marks shapes ec solves r annotates)) ∙ sym es;
    }

pub are_open : (raw : RawFormula) (wanted : Option SimpleType) (known : List Variable) (count : ℕ) (conditions : List PlainCondition) (marks : List Mark) (shapes : List Cell) (s t : Term)
    → conditions ≡ all_conditions raw wanted known → count ≡ own_type 0 raw + 1 → Solves count conditions marks shapes
    → s ≡ annotated (filled_types 73 marks shapes) [] 0 raw → t ≡ annotated (filled_types 79 marks shapes) [] 0 raw → (s ≡ t → ⊥)
    → AreOpenAnnotations raw wanted known s t
are_open raw wanted known count conditions marks shapes s t e ec h es et apart =
    let solves = subst (λ (cs : List PlainCondition). Solves count cs marks shapes) e h in
    record {
      first = subst (Annotates raw wanted known) (sym es) (filling_annotates raw wanted known count 73 marks shapes solves);
      second = subst (Annotates raw wanted known) (sym et) (filling_annotates raw wanted known count 79 marks shapes solves);
      different = apart;
      all = λ r annotates.
          subst (λ (x : Term). TermSpans x t r) (sym es)
          (subst (λ (x : Term). TermSpans (annotated (filled_types 73 marks shapes) [] 0 raw) x r) (sym et)
          (annotation_spans raw wanted known count marks shapes ec solves r annotates));
    }

pub no_annotation : (raw : RawFormula) (wanted : Option SimpleType) (known : List Variable) (conditions : List PlainCondition)
    → conditions ≡ all_conditions raw wanted known → (CanBeMet conditions → ⊥) → (t : Term) → Annotates raw wanted known t → ⊥
no_annotation raw wanted known conditions e none t annotates =
    let got = assignment_of_annotation raw wanted known t annotates in
    none (subst CanBeMet (sym e) (record { names = got.0; types = got.1; met = got.2 }))

pub conditions_within : (raw : RawFormula) (wanted : Option SimpleType) (known : List Variable) (count : ℕ) (conditions : List PlainCondition)
    → conditions ≡ all_conditions raw wanted known → count ≡ own_type 0 raw + 1 → AreWithin count conditions
conditions_within raw wanted known count conditions e ec =
    subst (λ (n : ℕ). AreWithin n conditions) (sym ec) (subst (AreWithin (own_type 0 raw + 1)) (sym e) (all_within raw wanted known))
