-- An explanation follows a check, and says more than the program.
use Rattle.std.proofs.Common.{◌≡◌, ℕ, ◌≤◌, Bool, List, length, Option, Some, inl, inr, ◌⊎◌, ap, refl, sym, ◌∙◌, subst}
use Rattle.std.specs.Prelude.{IfSome}
use Rattle.std.proofs.lemmas.Option.{none-some, same_Some}
use Rattle.outer_io.specs.Lines.{lines_of}
use Rattle.outer_io.specs.Texts.{text_named}
use Rattle.typed_tree.specs.TypedTree.{TypedProgram}
use Rattle.letter_acts.specs.Invariant.{Graph}
use Rattle.lowered_graph.specs.Lowered.{lowered}
use Rattle.proof_form.specs.Annotations.{Content}
use Rattle.explained_proof.specs.Known.{known_of}
use Rattle.explained_proof.specs.Laws.{ExplainedSaysMore}
use Rattle.text_reports.specs.ReportTexts.{Answer, syntax_answer, accepted_answer}
use Rattle.text_reports.specs.ReportCases as checks
use Rattle.text_reports.specs.ReportCases.{second_limit, IsTypingRefusal, IsSafeText, IsTypedText, ReportsAnnotation, ReportsProof, ReportsCheck, ReportsLowered, unlowered, of_lowered, ReportsSecond, second_too_long, of_second, ReportsTyped, refused, of_typed}
use Rattle.text_reports.proofs.RefusalLaws.{typed_is_not_zero, lowering_is_not_zero, too_long_is_not_zero, annotation_zero, proof_zero}
use Rattle.text_reports.proofs.ProofOnce.{one_first_wrong, one_content, wrong_or_not, proof_once}
use Rattle.text_reports.proofs.TextsOnce.{graph_and_second}
use Rattle.explain_top.specs.CommandLine.{Request, requested}
use Rattle.explain_top.specs.Report.{ExplainsAnnotation, not_accepted, accepted, explained_program, ExplainsProof, no_annotation, of_annotation, Kind, OfProof, kind_of, Explains, ReportsExplain, Reports, usage, explaining}
use Rattle.explain_top.specs.Claims.{SaysMoreThan}
use Rattle.explain_top.proofs.ExplainLaws.{one_is_not_zero}
use Rattle.explain_top.proofs.Statuses.{zero_or_not}

-- ---- a check of the same texts

-- the annotation is accepted, and the program explained
abbrev Explained : List ℕ → Answer → Answer → Type 0
Explained program a b = (a ≡ accepted_answer) × SaysMoreThan program b

module _ (more : ExplainedSaysMore) (program : List ℕ) (t : TypedProgram) (g : Graph) (x : List ℕ) (a b : Answer) (l : length x ≤ second_limit) where
  follows_annotation : (coarse : List ℕ) (w : Content) → IsSafeText x coarse w → ReportsAnnotation g coarse w a → ExplainsAnnotation program t g coarse w b →
      Explained program a b ⊎ (a ≡ b)
  follows_annotation coarse w s r (not_accepted k other) = inr (proof_once g x a b l (checks.of_annotation coarse w s r) (checks.of_annotation coarse w s k))
  follows_annotation coarse w s r (accepted ds n e p named spelled is) =
      inl (
        proof_once g x a accepted_answer l (checks.of_annotation coarse w s r) (checks.of_annotation coarse w s (checks.accepted e p refl)),
        (ds, explained_program t g w n ds, spelled, more (record { program = t; graph = g; known = known_of g w n.nodes }) ds, is),
      )

  pub follows_proof : ReportsProof g x a → ExplainsProof program t x g b → Explained program a b ⊎ (a ≡ b)
  follows_proof (checks.no_annotation line wrong is) (no_annotation other wrong' is') = inr (is ∙ ap syntax_answer (one_first_wrong (lines_of x) line other wrong wrong') ∙ sym is')
  follows_proof (checks.no_annotation line wrong is) (of_annotation d w r k) = absurd (wrong_or_not x d line w l r wrong)
  follows_proof (checks.of_annotation c v s h) (no_annotation line wrong is) = absurd (wrong_or_not x c line v l s wrong)
  follows_proof (checks.of_annotation c v s h) (of_annotation d w r k) =
      let one = one_content x c d v w l s r in
      let letters : ExplainsAnnotation program t g c w b = subst (λ (ns : List ℕ). ExplainsAnnotation program t g ns w b) (sym one.0) k in
      follows_annotation c v s h (subst (λ (u : Content). ExplainsAnnotation program t g c u b) (sym one.1) letters)

in_order : (X Y : Type 0) (a b : Answer) → (X ⊎ (a ≡ b)) ⊎ ((a ≡ b) ⊎ Y) → X ⊎ ((a ≡ b) ⊎ Y)
in_order X Y a b (inl (inl x)) = inl x
in_order X Y a b (inl (inr e)) = inr (inl e)
in_order X Y a b (inr h) = inr h

-- what the second name stands for, if anything, does not begin as the text of a failure
abbrev IsOfProof : Option (List ℕ) → Type 0
IsOfProof second = IfSome second (λ text. kind_of text ≡ OfProof)

-- what is answered then
abbrev ReportsAsProof : List ℕ → List ℕ → Option (List ℕ) → Answer → Type 0
ReportsAsProof entry program second = ReportsTyped entry program (λ t. ReportsLowered t (λ g. ReportsSecond second (λ text. ExplainsProof program t text g)))

as_proof : (entry : List ℕ) (all : Bool) (program : List ℕ) (second : Option (List ℕ)) (a : Answer) → IsOfProof second → ReportsExplain entry all program second a →
    ReportsAsProof entry program second a
as_proof entry all program second a kind (refused r) = refused r
as_proof entry all program second a kind (of_typed t w (unlowered r)) = of_typed t w (unlowered r)
as_proof entry all program second a kind (of_typed t w (of_lowered none (second_too_long x e past is))) = of_typed t w (of_lowered none (second_too_long x e past is))
as_proof entry all program second a kind (of_typed t w (of_lowered none (of_second x e l r))) =
    let of_proof : kind_of x ≡ OfProof = subst IsOfProof e kind in
    of_typed t w (of_lowered none (of_second x e l (subst (λ (k : Kind). Explains k program all t (lowered t) x a) of_proof r)))

checked_alike : ExplainedSaysMore → (entry program : List ℕ) (all : Bool) (second : Option (List ℕ)) (a b : Answer) → IsOfProof second →
    ReportsCheck entry program second a → ReportsExplain entry all program second b → Explained program a b ⊎ ((a ≡ b) ⊎ (IsTypingRefusal a × IsTypingRefusal b))
checked_alike more entry program all second a b kind r s =
    in_order (Explained program a b) (IsTypingRefusal a × IsTypingRefusal b) a b
    (graph_and_second entry program second (λ t g x. ReportsProof g x) (λ t g x. ExplainsProof program t x g) (Explained program a b ⊎ (a ≡ b)) a b
    (λ t x w l. follows_proof more program t (lowered t) x a b l) r (as_proof entry all program second b kind s))

-- ---- an answer with status 0

module _ (more : ExplainedSaysMore) (program : List ℕ) (t : TypedProgram) (a : Answer) (zero : a.status ≡ 0) where
  annotation_says_more : (g : Graph) (coarse : List ℕ) (w : Content) → ExplainsAnnotation program t g coarse w a → SaysMoreThan program a
  annotation_says_more g coarse w (not_accepted r other) = absurd (other (annotation_zero g coarse w a r zero))
  annotation_says_more g coarse w (accepted ds n e p named spelled is) =
      (ds, explained_program t g w n ds, spelled, more (record { program = t; graph = g; known = known_of g w n.nodes }) ds, is)

  proof_says_more : (g : Graph) (x : List ℕ) → ExplainsProof program t x g a → SaysMoreThan program a
  proof_says_more g x (no_annotation line wrong is) = absurd (one_is_not_zero a (ap (λ (b : Answer). b.status) is) zero)
  proof_says_more g x (of_annotation coarse w s r) = annotation_says_more g coarse w r

  lowered_says_more : (second : Option (List ℕ)) → ReportsLowered t (λ g. ReportsSecond second (λ text. ExplainsProof program t text g)) a → SaysMoreThan program a
  lowered_says_more second (unlowered r) = absurd (lowering_is_not_zero t a r zero)
  lowered_says_more second (of_lowered none (second_too_long x e past is)) = absurd (too_long_is_not_zero a is zero)
  lowered_says_more second (of_lowered none (of_second x e l r)) = proof_says_more (lowered t) x r

explain_says_more : ExplainedSaysMore → (entry program : List ℕ) (second : Option (List ℕ)) (a : Answer) → ReportsAsProof entry program second a → a.status ≡ 0 → SaysMoreThan program a
explain_says_more more entry program second a (refused r) zero = absurd (typed_is_not_zero entry program a r zero)
explain_says_more more entry program second a (of_typed t w r) zero = lowered_says_more more program t a zero second r

pub answer_says_more : ExplainedSaysMore → (words : List (List ℕ)) (texts : List (List ℕ × List ℕ)) (r : Request) (second : List ℕ) (a : Answer) → requested words ≡ Some r →
    text_named r.answer texts ≡ Some second → kind_of second ≡ OfProof → Reports words texts a → a.status ≡ 0 →
    (text : List ℕ) × (text_named r.program texts ≡ Some text) × SaysMoreThan text a
answer_says_more more words texts r second a asked named kind (usage none is) zero = absurd (none-some r (sym none ∙ asked))
answer_says_more more words texts r second a asked named kind (explaining q text asked' found e) zero =
    let same : q ≡ r = same_Some q r (sym asked' ∙ asked) in
    let there : text_named q.answer texts ≡ Some second = subst (λ (p : Request). text_named p.answer texts ≡ Some second) (sym same) named in
    let of_proof : IsOfProof (text_named q.answer texts) = subst IsOfProof (sym there) kind in (
      text,
      subst (λ (p : Request). text_named p.program texts ≡ Some text) same found,
      explain_says_more more q.entry text (text_named q.answer texts) a (as_proof q.entry q.all text (text_named q.answer texts) a of_proof e) zero,
    )

-- ---- answers to a check and to an explanation that are equal have another status than 0

check_zero : (entry program : List ℕ) (second : Option (List ℕ)) (a : Answer) → ReportsCheck entry program second a → a.status ≡ 0 → a ≡ accepted_answer
check_zero entry program second a (refused r) zero = absurd (typed_is_not_zero entry program a r zero)
check_zero entry program second a (of_typed t w (unlowered r)) zero = absurd (lowering_is_not_zero t a r zero)
check_zero entry program second a (of_typed t w (of_lowered none (second_too_long x e past is))) zero = absurd (too_long_is_not_zero a is zero)
check_zero entry program second a (of_typed t w (of_lowered none (of_second x e l r))) zero = proof_zero (lowered t) x a r zero

pub follows_check : ExplainedSaysMore → (entry program : List ℕ) (all : Bool) (second : Option (List ℕ)) (a b : Answer) → IsOfProof second →
    ReportsCheck entry program second a → ReportsExplain entry all program second b →
    Explained program a b ⊎ (((a ≡ b) × (b.status ≡ 0 → ⊥)) ⊎ (IsTypingRefusal a × IsTypingRefusal b))
follows_check more entry program all second a b kind r s = told_apart (checked_alike more entry program all second a b kind r s) (zero_or_not b.status)
  where
    told_apart : Explained program a b ⊎ ((a ≡ b) ⊎ (IsTypingRefusal a × IsTypingRefusal b)) → (b.status ≡ 0) ⊎ (b.status ≡ 0 → ⊥) →
        Explained program a b ⊎ (((a ≡ b) × (b.status ≡ 0 → ⊥)) ⊎ (IsTypingRefusal a × IsTypingRefusal b))
    told_apart (inl x) d = inl x
    told_apart (inr (inl e)) (inl z) =
        inl (check_zero entry program second a r (ap (λ (c : Answer). c.status) e ∙ z), explain_says_more more entry program second b (as_proof entry all program second b kind s) z)
    told_apart (inr (inl e)) (inr other) = inr (inl (e, other))
    told_apart (inr (inr y)) d = inr (inr y)
