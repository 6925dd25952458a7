-- Two answers to one text: the cases of what is answered exclude each other, step by step. The two may be answers of two kinds, as to a check and to
-- another use of the same texts.
use Rattle.std.proofs.Common.{◌≡◌, ℕ, ◌≤◌, ◌<◌, List, length, Option, None, Some, Ok, Err, inl, inr, ◌⊎◌, ap, sym, ◌∙◌, subst, arith}
use Rattle.std.proofs.lemmas.Option.{none-some, same_Some}
use Rattle.boogie_tree.specs.Tree.{Declaration}
use Rattle.boogie_parse.specs.declared.fault.Fault.{Fault}
use Rattle.boogie_parse.specs.Rules.GrammarLimits.{IsProgram}
use Rattle.boogie_parse.specs.Rules.WholeText.{read_text}
use Rattle.boogie_parse.proofs.Rules.WholeText.{program_is_read, one_program}
use Rattle.typed_tree.specs.TypedTree.{TypedProgram}
use Rattle.typed_tree.proofs.TypingRules.BrokenLaws.{program_refuted}
use Rattle.boogie_types.specs.Resolved.{resolved_program}
use Rattle.boogie_types.proofs.Excluded.{type_faults_exclude}
use Rattle.letter_acts.specs.Invariant.{Graph}
use Rattle.lowered_graph.specs.Items.{ItemFault, first_fault}
use Rattle.lowered_graph.specs.Lowered.{lowered}
use Rattle.text_reports.specs.Refusals.{refusal}
use Rattle.text_reports.specs.LoweringRefusals.{lowering_refusal}
use Rattle.text_reports.specs.ReportTexts.{Answer, answer}
use Rattle.text_reports.specs.ReportCases.{program_limit, second_limit, RefusesProgram, too_long, no_program, RefusesTyped, refused_text, ill_typed, IsTypingRefusal, IsTypedText, ReportsTyped, refused, of_typed, RefusesLowering, ReportsLowered, unlowered, of_lowered, ReportsSecond, second_too_long, of_second}
use Rattle.text_reports.proofs.TypedTexts.{one_typed}

-- ---- program texts

-- the fault that is read of a text
same_fault : (text : List ℕ) (f g : Fault) → read_text text ≡ Err f → read_text text ≡ Err g → f ≡ g
same_fault text f g r s = cc

pub refused_once : (text : List ℕ) (a b : Answer) → RefusesProgram text a → RefusesProgram text b → a ≡ b
refused_once text a b (too_long past is) (too_long past' is') = is ∙ sym is'
refused_once text a b (too_long past is) (no_program f l r is') = absurd (omega arith)
refused_once text a b (no_program f l r is) (too_long past is') = absurd (omega arith)
refused_once text a b (no_program f l r is) (no_program g l' r' is') =
    is ∙ ap (λ (h : Fault). answer (refusal h) 3) (same_fault text f g r r') ∙ sym is'

-- a program of the language is not refused
pub program_not_refused : (text : List ℕ) (ds : List Declaration) (a : Answer) → length text ≤ program_limit → IsProgram text ds → RefusesProgram text a → ⊥
program_not_refused text ds a l w (too_long past is) = omega arith
program_not_refused text ds a l w (no_program f l' r is) = let read : read_text text ≡ Ok ds = program_is_read text ds w in cc

-- both say that a typing rule is broken
abbrev pub AreIllTyped : Answer → Answer → Type 0
AreIllTyped a b = IsTypingRefusal a × IsTypingRefusal b

typed_refused_once : (entry : List ℕ) (text : List ℕ) (a b : Answer) → RefusesTyped entry text a → RefusesTyped entry text b → (a ≡ b) ⊎ AreIllTyped a b
typed_refused_once entry text a b (refused_text r) (refused_text s) = inl (refused_once text a b r s)
typed_refused_once entry text a b (refused_text r) (ill_typed ds f l w broken is) = absurd (program_not_refused text ds a l w r)
typed_refused_once entry text a b (ill_typed ds f l w broken is) (refused_text r) = absurd (program_not_refused text ds b l w r)
typed_refused_once entry text a b (ill_typed ds f l w broken is) (ill_typed es g l' w' broken' is') = inr ((f, is), (g, is'))

-- the text of a typed program is not refused
typed_not_refused : (entry : List ℕ) (text : List ℕ) (t : TypedProgram) (a : Answer) → IsTypedText entry text t → RefusesTyped entry text a → ⊥
typed_not_refused entry text t a h (refused_text r) = program_not_refused text h.tree a h.short h.spelled r
typed_not_refused entry text t a h (ill_typed ds f l w broken is) =
    let typed : resolved_program ds entry ≡ Some t = ap (λ (es : List Declaration). resolved_program es entry) (one_program text ds h.tree w h.spelled) ∙ h.typed in
    none-some t (sym (type_faults_exclude ds entry f program_refuted broken.1 broken.0) ∙ typed)

-- two answers to a program text, where X holds of two answers to its typed program
pub typed_once : (entry text : List ℕ) (P Q : TypedProgram → Answer → Type 0) (X : Type 0) (a b : Answer) → ((t : TypedProgram) → IsTypedText entry text t → P t a → Q t b → X) →
    ReportsTyped entry text P a → ReportsTyped entry text Q b → X ⊎ ((a ≡ b) ⊎ AreIllTyped a b)
typed_once entry text P Q X a b once (refused r) (refused s) = inr (typed_refused_once entry text a b r s)
typed_once entry text P Q X a b once (refused r) (of_typed t w s) = absurd (typed_not_refused entry text t a w r)
typed_once entry text P Q X a b once (of_typed t w r) (refused s) = absurd (typed_not_refused entry text t b w s)
typed_once entry text P Q X a b once (of_typed t w r) (of_typed u v s) = inl (once t w r (subst (λ (x : TypedProgram). Q x b) (one_typed entry text t u w v) s))

-- ---- programs that are lowered

lowering_once : (t : TypedProgram) (a b : Answer) → RefusesLowering t a → RefusesLowering t b → a ≡ b
lowering_once t a b h k = h.is ∙ ap (λ (f : ItemFault). answer (lowering_refusal f) 3) (same_Some h.fault k.fault (sym h.first ∙ k.first)) ∙ sym k.is

-- a program that can be lowered is not refused so
lowered_not_refused : (t : TypedProgram) (a : Answer) → first_fault t ≡ None → RefusesLowering t a → ⊥
lowered_not_refused t a none h = none-some h.fault (sym none ∙ h.first)

-- two answers to a typed program, where X holds of two answers to its graph
pub lowered_once : (t : TypedProgram) (P Q : Graph → Answer → Type 0) (X : Type 0) (a b : Answer) → (first_fault t ≡ None → P (lowered t) a → Q (lowered t) b → X) →
    ReportsLowered t P a → ReportsLowered t Q b → (a ≡ b) ⊎ X
lowered_once t P Q X a b once (unlowered r) (unlowered s) = inl (lowering_once t a b r s)
lowered_once t P Q X a b once (unlowered r) (of_lowered none s) = absurd (lowered_not_refused t a none r)
lowered_once t P Q X a b once (of_lowered none r) (unlowered s) = absurd (lowered_not_refused t b none s)
lowered_once t P Q X a b once (of_lowered none r) (of_lowered none' s) = inr (once none r s)

-- ---- second texts

pub same_text : (a b : List ℕ) (o : Option (List ℕ)) → o ≡ Some a → o ≡ Some b → a ≡ b
same_text a b o h k = same_Some a b (sym h ∙ k)

pub too_long_or_not : (x y : List ℕ) (second : Option (List ℕ)) → second ≡ Some x → second ≡ Some y → second_limit < length x → length y ≤ second_limit → ⊥
too_long_or_not x y second e d past l = let lengths : length x ≡ length y = ap (λ (bytes : List ℕ). length bytes) (same_text x y second e d) in omega arith

-- two answers to a second text, where X holds of two answers to what it is
pub second_or : (second : Option (List ℕ)) (P Q : List ℕ → Answer → Type 0) (X : Type 0) (a b : Answer) →
    ((x : List ℕ) → second ≡ Some x → length x ≤ second_limit → P x a → Q x b → X) → ReportsSecond second P a → ReportsSecond second Q b → (a ≡ b) ⊎ X
second_or second P Q X a b once (second_too_long x e past is) (second_too_long y d past' is') = inl (is ∙ sym is')
second_or second P Q X a b once (second_too_long x e past is) (of_second y d l s) = absurd (too_long_or_not x y second e d past l)
second_or second P Q X a b once (of_second x e l r) (second_too_long y d past is) = absurd (too_long_or_not y x second d e past l)
second_or second P Q X a b once (of_second x e l r) (of_second y d l' s) = inr (once x e l r (subst (λ (z : List ℕ). Q z b) (same_text y x second d e) s))

-- ---- to a graph and a second text

one_of : (X : Type 0) (a b : Answer) → (a ≡ b) ⊎ ((a ≡ b) ⊎ X) → X ⊎ (a ≡ b)
one_of X a b (inl e) = inr e
one_of X a b (inr (inl e)) = inr e
one_of X a b (inr (inr x)) = inl x

in_order : (X : Type 0) (a b : Answer) → (X ⊎ (a ≡ b)) ⊎ ((a ≡ b) ⊎ AreIllTyped a b) → X ⊎ ((a ≡ b) ⊎ AreIllTyped a b)
in_order X a b (inl (inl x)) = inl x
in_order X a b (inl (inr e)) = inr (inl e)
in_order X a b (inr h) = inr h

-- two answers to a program text and a second text, where X holds of two answers to the program's graph and that text
pub graph_and_second : (entry text : List ℕ) (second : Option (List ℕ)) (P Q : TypedProgram → Graph → List ℕ → Answer → Type 0) (X : Type 0) (a b : Answer) →
    ((t : TypedProgram) (x : List ℕ) → IsTypedText entry text t → length x ≤ second_limit → P t (lowered t) x a → Q t (lowered t) x b → X) →
    ReportsTyped entry text (λ t. ReportsLowered t (λ g. ReportsSecond second (P t g))) a → ReportsTyped entry text (λ t. ReportsLowered t (λ g. ReportsSecond second (Q t g))) b →
    X ⊎ ((a ≡ b) ⊎ AreIllTyped a b)
graph_and_second entry text second P Q X a b once r s =
    in_order X a b (typed_once entry text (λ t. ReportsLowered t (λ g. ReportsSecond second (P t g))) (λ t. ReportsLowered t (λ g. ReportsSecond second (Q t g))) (X ⊎ (a ≡ b)) a b
    (λ t w h k. one_of X a b (lowered_once t (λ g. ReportsSecond second (P t g)) (λ g. ReportsSecond second (Q t g)) ((a ≡ b) ⊎ X) a b
    (λ none. second_or second (P t (lowered t)) (Q t (lowered t)) X a b (λ x e l. once t x w l)) h k)) r s)
