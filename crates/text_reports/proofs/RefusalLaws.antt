-- What is refused or rejected has another status than 0, and another second letter than `accepted`.
use Rattle.std.proofs.Common.{◌≡◌, ℕ, List, get_or, ap, sym, ◌∙◌, arith}
use Rattle.boogie_parse.specs.declared.fault.Fault.{Fault}
use Rattle.boogie_parse.specs.declared.fault.Fault.TheVariants as faults
use Rattle.typed_tree.specs.TypedTree.{TypedProgram}
use Rattle.typed_tree.specs.declared.fault.TypeFault.{TypeFault}
use Rattle.typed_tree.specs.declared.fault.TypeFault.TheVariants as type_faults
use Rattle.letter_acts.specs.Invariant.{Graph}
use Rattle.proof_form.specs.Annotations.{Content}
use Rattle.lowered_graph.specs.Items.{ItemFault, TooWide, TooBig}
use Rattle.text_reports.specs.Refusals.{refusal}
use Rattle.text_reports.specs.TypeRefusals.{type_refusal}
use Rattle.text_reports.specs.LoweringRefusals.{lowering_refusal}
use Rattle.text_reports.specs.ReportTexts.{Answer, too_long_answer, accepted_answer}
use Rattle.text_reports.specs.ReportCases.{RefusesProgram, too_long, no_program, RefusesTyped, refused_text, ill_typed, IsTypedText, RefusesLowering, ReportsAnnotation, wrong_line, missing_line, accepted, rejected, ReportsProof, no_annotation, of_annotation, ReportsFailure, no_failure, replayed, stopped}

pub refused_is_three : (text : List ℕ) (a : Answer) → RefusesProgram text a → a.status ≡ 3
refused_is_three text a (too_long past is) = ap (λ (b : Answer). b.status) is
refused_is_three text a (no_program f l r is) = ap (λ (b : Answer). b.status) is

pub typed_is_three : (entry : List ℕ) (text : List ℕ) (a : Answer) → RefusesTyped entry text a → a.status ≡ 3
typed_is_three entry text a (refused_text r) = refused_is_three text a r
typed_is_three entry text a (ill_typed ds f l w broken is) = ap (λ (b : Answer). b.status) is

pub lowering_is_three : (t : TypedProgram) (a : Answer) → RefusesLowering t a → a.status ≡ 3
lowering_is_three t a h = ap (λ (b : Answer). b.status) h.is

pub three_is_not_zero : (n : ℕ) → n ≡ 3 → n ≡ 0 → ⊥
three_is_not_zero n d e = omega arith

-- no refused program has the status 0
pub refused_is_not_zero : (text : List ℕ) (a : Answer) → RefusesProgram text a → a.status ≡ 0 → ⊥
refused_is_not_zero text a (too_long past is) z = three_is_not_zero a.status (ap (λ (b : Answer). b.status) is) z
refused_is_not_zero text a (no_program f l r is) z = three_is_not_zero a.status (ap (λ (b : Answer). b.status) is) z

pub typed_is_not_zero : (entry : List ℕ) (text : List ℕ) (a : Answer) → RefusesTyped entry text a → a.status ≡ 0 → ⊥
typed_is_not_zero entry text a (refused_text r) z = refused_is_not_zero text a r z
typed_is_not_zero entry text a (ill_typed ds f l w broken is) z = three_is_not_zero a.status (ap (λ (b : Answer). b.status) is) z

pub lowering_is_not_zero : (t : TypedProgram) (a : Answer) → RefusesLowering t a → a.status ≡ 0 → ⊥
lowering_is_not_zero t a h z = three_is_not_zero a.status (ap (λ (b : Answer). b.status) h.is) z

pub too_long_is_not_zero : (a : Answer) → a ≡ too_long_answer → a.status ≡ 0 → ⊥
too_long_is_not_zero a is z = three_is_not_zero a.status (ap (λ (b : Answer). b.status) is) z

-- an accepted program keeps the typing rules
pub record IsAccepted (entry text : List ℕ) (a : Answer) : Type 0 where
  pub meant : TypedProgram
  pub typed : IsTypedText entry text meant
  pub is : a ≡ accepted_answer

pub annotation_zero : (g : Graph) (coarse : List ℕ) (w : Content) (a : Answer) → ReportsAnnotation g coarse w a → a.status ≡ 0 → a ≡ accepted_answer
annotation_zero g coarse w a (wrong_line place e is) z = absurd (let d : 1 ≡ 0 = sym (ap (λ (b : Answer). b.status) is) ∙ z in omega arith)
annotation_zero g coarse w a (missing_line place e f is) z = absurd (let d : 1 ≡ 0 = sym (ap (λ (b : Answer). b.status) is) ∙ z in omega arith)
annotation_zero g coarse w a (accepted e p is) z = is
annotation_zero g coarse w a (rejected item cause e first is) z = absurd (let d : 1 ≡ 0 = sym (ap (λ (b : Answer). b.status) is) ∙ z in omega arith)

pub proof_zero : (g : Graph) (text : List ℕ) (a : Answer) → ReportsProof g text a → a.status ≡ 0 → a ≡ accepted_answer
proof_zero g text a (no_annotation line wrong is) z = absurd (let d : 1 ≡ 0 = sym (ap (λ (b : Answer). b.status) is) ∙ z in omega arith)
proof_zero g text a (of_annotation coarse w s r) z = annotation_zero g coarse w a r z

-- ---- the second letter

-- `accepted` has `c` as its second byte, and no other answer has
abbrev pub second_letter : Answer → ℕ
second_letter a = get_or a.bytes 1 0

pub e_is_not_c : (n : ℕ) → n ≡ 101 → n ≡ 99 → ⊥
e_is_not_c n d e = omega arith

pub refused_begins : (text : List ℕ) (a : Answer) → RefusesProgram text a → second_letter a ≡ 99 → ⊥
refused_begins text a (too_long past is) begin = e_is_not_c (second_letter a) (ap second_letter is) begin
refused_begins text a (no_program f l r is) begin = by_fault f (sym (ap second_letter is) ∙ begin)
  where
    by_fault : (f : Fault) → get_or (refusal f) 1 0 ≡ 99 → ⊥
    by_fault (faults.Syntax line col) b = omega arith
    by_fault (faults.Unsupported what line col) b = omega arith
    by_fault (faults.Limit which line col) b = omega arith
    by_fault faults.Memory b = omega arith

pub rule_begins : (f : TypeFault) → get_or (type_refusal f) 1 0 ≡ 99 → ⊥
rule_begins (type_faults.Unknown at) b = omega arith
rule_begins (type_faults.Twice at) b = omega arith
rule_begins (type_faults.Mismatch at) b = omega arith
rule_begins (type_faults.NotAssignable at) b = omega arith
rule_begins (type_faults.NotModified at) b = omega arith
rule_begins type_faults.NoEntry b = omega arith
rule_begins (type_faults.ZeroDivisor at) b = omega arith
rule_begins (type_faults.NonLinear at) b = omega arith
rule_begins (type_faults.BadGoto at) b = omega arith
rule_begins (type_faults.TooBig at) b = omega arith
rule_begins type_faults.Memory b = omega arith

pub typed_begins : (entry : List ℕ) (text : List ℕ) (a : Answer) → RefusesTyped entry text a → second_letter a ≡ 99 → ⊥
typed_begins entry text a (refused_text r) begin = refused_begins text a r begin
typed_begins entry text a (ill_typed ds f l w broken is) begin = rule_begins f (sym (ap second_letter is) ∙ begin)

pub lowering_begins : (t : TypedProgram) (a : Answer) → RefusesLowering t a → second_letter a ≡ 99 → ⊥
lowering_begins t a h begin = by_fault h.fault (sym (ap second_letter h.is) ∙ begin)
  where
    by_fault : (f : ItemFault) → get_or (lowering_refusal f) 1 0 ≡ 99 → ⊥
    by_fault (TooWide at) b = omega arith
    by_fault (TooBig at) b = omega arith

pub too_long_begins : (a : Answer) → a ≡ too_long_answer → second_letter a ≡ 99 → ⊥
too_long_begins a is begin = e_is_not_c (second_letter a) (ap second_letter is) begin

pub annotation_begins : (g : Graph) (coarse : List ℕ) (w : Content) (a : Answer) → ReportsAnnotation g coarse w a → second_letter a ≡ 99 → a ≡ accepted_answer
annotation_begins g coarse w a (wrong_line place e is) begin = absurd (let same : 101 ≡ 99 = sym (ap second_letter is) ∙ begin in omega arith)
annotation_begins g coarse w a (missing_line place e f is) begin = absurd (let same : 101 ≡ 99 = sym (ap second_letter is) ∙ begin in omega arith)
annotation_begins g coarse w a (accepted e p is) begin = is
annotation_begins g coarse w a (rejected item cause e first is) begin = absurd (let same : 101 ≡ 99 = sym (ap second_letter is) ∙ begin in omega arith)

pub proof_begins : (g : Graph) (text : List ℕ) (a : Answer) → ReportsProof g text a → second_letter a ≡ 99 → a ≡ accepted_answer
proof_begins g text a (no_annotation line wrong is) begin = absurd (let same : 101 ≡ 99 = sym (ap second_letter is) ∙ begin in omega arith)
proof_begins g text a (of_annotation coarse w s r) begin = annotation_begins g coarse w a r begin

pub failure_begins : (t : TypedProgram) (text : List ℕ) (a : Answer) → ReportsFailure t text a → second_letter a ≡ 99 → ⊥
failure_begins t text a (no_failure line fault is) begin = absurd (let same : 101 ≡ 99 = sym (ap second_letter is) ∙ begin in omega arith)
failure_begins t text a (replayed f id h r is) begin = absurd (let same : 101 ≡ 99 = sym (ap second_letter is) ∙ begin in omega arith)
failure_begins t text a (stopped f step cause h s is) begin = absurd (let same : 101 ≡ 99 = sym (ap second_letter is) ∙ begin in omega arith)
