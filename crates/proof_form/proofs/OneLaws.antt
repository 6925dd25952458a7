-- One spelling for each value.
use Rattle.std.proofs.Common.{◌≡◌, ℕ, ◌^◌, ◌<◌, true, List, length, refl, sym, ap, ◌∙◌, subst}
use Rattle.std.proofs.lemmas.Option.{same_Some}
use Rattle.outer_io.specs.Lines.{lines_of}
use Rattle.proof_form.specs.declared.numerals.Numeral.{Numeral}
use Rattle.proof_form.specs.declared.lines.StepLine.{StepLine}
use Rattle.proof_form.specs.Numerals.{is_numeral, numeral_text}
use Rattle.proof_form.specs.Reading.{numeral_of}
use Rattle.proof_form.specs.Predicates.{PredicateNode, is_predicate, predicate_text}
use Rattle.proof_form.specs.PredicateReading.{predicate_of}
use Rattle.proof_form.specs.Refutations.{RefutationNode, is_refutation, refutation_text}
use Rattle.proof_form.specs.RefutationReading.{refutation_of}
use Rattle.proof_form.specs.Lines.{Pred, Triple, Node, pred_text, triple_text, node_text, step_text, is_pred, is_triple, is_node, is_step}
use Rattle.proof_form.specs.LineReading.{pred_of, triple_of, node_of, step_of}
use Rattle.proof_form.specs.Annotations.{Content, is_annotation, AreShort, safe_text}
use Rattle.proof_form.specs.Standing.{Completes, no_content}
use Rattle.proof_form.proofs.CoarseLaws.{completes_lacks}
use Rattle.proof_form.proofs.LineLaws.{pred_reads, triple_reads, node_reads, step_reads}
use Rattle.proof_form.proofs.PredicateLaws.{predicate_reads}
use Rattle.proof_form.proofs.RefutationLaws.{refutation_reads}
use Rattle.proof_form.proofs.ReadLaws.{body_fits}
use Rattle.proof_form.proofs.RunLaws.{numeral_of_text}
use Rattle.proof_form.proofs.SpelledLaws.{body_text, HasHeader, spelled_header, spelled_completes, one_header}
use Rattle.proof_form.proofs.WholeLaws.{completes_once}

pub one_numeral : (a b : Numeral) → is_numeral a ≡ true → is_numeral b ≡ true → numeral_text a ≡ numeral_text b → a ≡ b
one_numeral a b h k e = sym (numeral_of_text a.negative a.digits h) ∙ ap numeral_of e ∙ numeral_of_text b.negative b.digits k

pub one_predicate : (a b : List PredicateNode) → is_predicate a ≡ true → is_predicate b ≡ true → predicate_text a ≡ predicate_text b → a ≡ b
one_predicate a b h k e = same_Some a b (sym (predicate_reads a h) ∙ ap predicate_of e ∙ predicate_reads b k)

pub one_refutation : (a b : List RefutationNode) → is_refutation a ≡ true → is_refutation b ≡ true → refutation_text a ≡ refutation_text b → a ≡ b
one_refutation a b h k e = same_Some a b (sym (refutation_reads a h) ∙ ap refutation_of e ∙ refutation_reads b k)

pub one_pred : (n : ℕ) (a b : Pred) → is_pred a ≡ true → is_pred b ≡ true → pred_text n a ≡ pred_text n b → a ≡ b
one_pred n a b h k e = same_Some a b (sym (pred_reads n a h) ∙ ap (pred_of n) e ∙ pred_reads n b k)

pub one_triple : (a b : Triple) → is_triple a ≡ true → is_triple b ≡ true → triple_text a ≡ triple_text b → a ≡ b
one_triple a b h k e = same_Some a b (sym (triple_reads a h) ∙ ap triple_of e ∙ triple_reads b k)

pub one_node : (n : ℕ) (a b : Node) → is_node a ≡ true → is_node b ≡ true → node_text n a ≡ node_text n b → a ≡ b
one_node n a b h k e = same_Some a b (sym (node_reads n a h) ∙ ap (node_of n) e ∙ node_reads n b k)

pub one_step : (a b : StepLine) → is_step a ≡ true → is_step b ≡ true → step_text a ≡ step_text b → a ≡ b
one_step a b h k e = same_Some a b (sym (step_reads a h) ∙ ap step_of e ∙ step_reads b k)

pub one_annotation : (m n : ℕ) (c d : List ℕ) (a b : Content) → m < 2 ^ 64 → n < 2 ^ 64 → AreShort c → AreShort d → is_annotation a ≡ true → is_annotation b ≡ true → length (safe_text m c a) < 2 ^ 64
    → safe_text m c a ≡ safe_text n d b → (m ≡ n) × (c ≡ d) × (a ≡ b)
one_annotation m n c d a b small low short few h k fits e =
    let other : HasHeader (safe_text m c a) n d (body_text b) = subst (λ t. HasHeader t n d (body_text b)) (sym e) (spelled_header n d b low few) in
    let first = spelled_completes a h (body_fits (safe_text m c a) m c a (length (safe_text m c a)) refl refl fits) in
    let second = spelled_completes b k (body_fits (safe_text m c a) n d b (length (safe_text m c a)) e refl fits) in
    let last = completes_lacks (lines_of (body_text a)) no_content a first in
    let end = completes_lacks (lines_of (body_text b)) no_content b second in
    let same = one_header (safe_text m c a) (body_text a) (body_text b) m n c d small low short few last end (spelled_header m c a small short) other in
    (same.0, same.1, completes_once (lines_of (body_text a)) no_content a b first (subst (λ ls. Completes no_content ls b) (sym same.2) second))
