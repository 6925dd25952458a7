-- The report allows one answer at most: its cases exclude each other.
use Rattle.std.proofs.Common.{◌≡◌, ℕ, ◌≤◌, Bool, List, length, Option, Some, inl, inr, ◌⊎◌, ap, refl, sym, ◌∙◌, subst}
use Rattle.std.proofs.lemmas.Option.{none-some, same_Some}
use Rattle.outer_io.specs.Lines.{lines_of}
use Rattle.outer_io.specs.Texts.{text_named}
use Rattle.boogie_tree.specs.Printing.{program_text}
use Rattle.boogie_parse.proofs.Rules.WholeText.{one_program}
use Rattle.typed_tree.specs.TypedTree.{TypedProgram}
use Rattle.letter_acts.specs.Invariant.{Graph}
use Rattle.lowered_graph.specs.Lowered.{lowered}
use Rattle.proof_form.specs.Annotations.{Content}
use Rattle.proof_names.specs.Outlines.{Sketch}
use Rattle.proof_names.specs.Items.{Names}
use Rattle.explained_proof.specs.Known.{known_of}
use Rattle.explained_proof.specs.Explained.{explained}
use Rattle.text_reports.specs.ReportTexts.{Answer, answer, syntax_answer, accepted_answer}
use Rattle.text_reports.specs.ReportCases as checks
use Rattle.text_reports.specs.ReportCases.{second_limit, IsTypingRefusal, IsSafeText, IsTypedText, ReportsTyped, refused, of_typed, ReportsLowered, unlowered, of_lowered, ReportsSecond, second_too_long, of_second}
use Rattle.text_reports.proofs.ProofOnce.{one_first_wrong, one_content, wrong_or_not, proof_once}
use Rattle.text_reports.proofs.TextsOnce.{same_text, graph_and_second}
use Rattle.explain_top.specs.CommandLine.{Request, requested}
use Rattle.explain_top.specs.Report.{ExplainsAnnotation, not_accepted, accepted, ExplainsProof, no_annotation, of_annotation, Kind, OfFailure, OfTrace, OfProof, kind_of, Explains, ReportsExplain, Reports, usage, explaining}
use Rattle.explain_top.specs.Claims.{TellOneTrace, AreOfOneTrace}
use Rattle.explain_top.proofs.FailureLaws.{failure_explained_once}
use Rattle.explain_top.proofs.TraceOnce.{TellOne, trace_explained_once}

-- the nodes that lines name are determined
abbrev pub NodesOnce : Type 0
NodesOnce = (g : Graph) (a : Content) (s t : Sketch) → Names g a s → Names g a t → s.nodes ≡ t.nodes

module _ (nodes : NodesOnce) (program : List ℕ) (t : TypedProgram) (g : Graph) (x : List ℕ) (a b : Answer) (l : length x ≤ second_limit) where
  annotation_once : (coarse : List ℕ) (w : Content) → IsSafeText x coarse w → ExplainsAnnotation program t g coarse w a → ExplainsAnnotation program t g coarse w b → a ≡ b
  annotation_once coarse w s (not_accepted r other) (not_accepted k other') = proof_once g x a b l (checks.of_annotation coarse w s r) (checks.of_annotation coarse w s k)
  annotation_once coarse w s (not_accepted r other) (accepted ds n e p named spelled is) =
      absurd (other (proof_once g x a accepted_answer l (checks.of_annotation coarse w s r) (checks.of_annotation coarse w s (checks.accepted e p refl))))
  annotation_once coarse w s (accepted ds n e p named spelled is) (not_accepted k other) =
      absurd (other (proof_once g x b accepted_answer l (checks.of_annotation coarse w s k) (checks.of_annotation coarse w s (checks.accepted e p refl))))
  annotation_once coarse w s (accepted ds n e p named spelled is) (accepted es m e' p' named' spelled' is') =
      let trees : ds ≡ es = one_program program ds es spelled spelled' in
      let same : n.nodes ≡ m.nodes = nodes g w n m named named' in
      is ∙ (λ i. answer (program_text (explained (record { program = t; graph = g; known = known_of g w (same i) }) (trees i))) 0) ∙ sym is'

  pub explanation_once : ExplainsProof program t x g a → ExplainsProof program t x g b → a ≡ b
  explanation_once (no_annotation line wrong is) (no_annotation other wrong' is') = is ∙ ap syntax_answer (one_first_wrong (lines_of x) line other wrong wrong') ∙ sym is'
  explanation_once (no_annotation line wrong is) (of_annotation d w r k) = absurd (wrong_or_not x d line w l r wrong)
  explanation_once (of_annotation c v s h) (no_annotation line wrong is) = absurd (wrong_or_not x c line v l s wrong)
  explanation_once (of_annotation c v s h) (of_annotation d w r k) =
      let one = one_content x c d v w l s r in
      let letters : ExplainsAnnotation program t g c w b = subst (λ (ns : List ℕ). ExplainsAnnotation program t g ns w b) (sym one.0) k in
      annotation_once c v s h (subst (λ (u : Content). ExplainsAnnotation program t g c u b) (sym one.1) letters)

-- an answer of any kind
explained_once : NodesOnce → (k : Kind) (program : List ℕ) (all : Bool) (t : TypedProgram) (g : Graph) (x : List ℕ) (a b : Answer) → length x ≤ second_limit →
    Explains k program all t g x a → Explains k program all t g x b → (a ≡ b) ⊎ TellOne program all t g x a b
explained_once nodes OfFailure program all t g x a b l r s = inl (failure_explained_once program all t x a b r s)
explained_once nodes OfTrace program all t g x a b l r s = trace_explained_once program all t g x a b r s
explained_once nodes OfProof program all t g x a b l r s = inl (explanation_once nodes program t g x a b l r s)

abbrev AreIllTyped : Answer → Answer → Type 0
AreIllTyped a b = IsTypingRefusal a × IsTypingRefusal b

one_of : (a b : Answer) (X : Type 0) → ((a ≡ b) ⊎ X) ⊎ ((a ≡ b) ⊎ AreIllTyped a b) → (a ≡ b) ⊎ (AreIllTyped a b ⊎ X)
one_of a b X (inl (inl e)) = inl e
one_of a b X (inl (inr x)) = inr (inr x)
one_of a b X (inr (inl e)) = inl e
one_of a b X (inr (inr h)) = inr (inl h)

module _ (entry : List ℕ) (all : Bool) (text : List ℕ) (second : Option (List ℕ)) where
  -- what is answered to a second text that the name stands for
  abbrev Named : TypedProgram → Graph → List ℕ → Answer → Type 0
  Named t g x a = (second ≡ Some x) × Explains (kind_of x) text all t g x a

  as_named : (a : Answer) → ReportsExplain entry all text second a → ReportsTyped entry text (λ t. ReportsLowered t (λ g. ReportsSecond second (Named t g))) a
  as_named a (refused r) = refused r
  as_named a (of_typed t w (unlowered r)) = of_typed t w (unlowered r)
  as_named a (of_typed t w (of_lowered none (second_too_long x e past is))) = of_typed t w (of_lowered none (second_too_long x e past is))
  as_named a (of_typed t w (of_lowered none (of_second x e l r))) = of_typed t w (of_lowered none (of_second x e l (e, r)))

  told_of : (t : TypedProgram) (x : List ℕ) (a b : Answer) → IsTypedText entry text t → second ≡ Some x → (a ≡ b) ⊎ TellOne text all t (lowered t) x a b →
      (a ≡ b) ⊎ TellOneTrace entry text second all a b
  told_of t x a b w e (inl same) = inl same
  told_of t x a b w e (inr h) =
      inr (record {
        meant = t;
        tree = h.tree;
        text = x;
        trace = h.trace;
        one = h.one;
        other = h.other;
        typed = w;
        spelled = h.spelled;
        named = e;
        read = h.read;
        tells_one = h.tells_one;
        tells_other = h.tells_other;
        is_one = h.is_one;
        is_other = h.is_other;
      })

  explain_once : NodesOnce → (a b : Answer) → ReportsExplain entry all text second a → ReportsExplain entry all text second b →
      (a ≡ b) ⊎ (AreIllTyped a b ⊎ TellOneTrace entry text second all a b)
  explain_once nodes a b r s =
      one_of a b (TellOneTrace entry text second all a b) (graph_and_second entry text second Named Named ((a ≡ b) ⊎ TellOneTrace entry text second all a b) a b
      (λ t x w l h k. told_of t x a b w h.0 (explained_once nodes (kind_of x) text all t (lowered t) x a b l h.1 k.1)) (as_named a r) (as_named b s))

same_request : (words : List (List ℕ)) (q r : Request) → requested words ≡ Some q → requested words ≡ Some r → q ≡ r
same_request words q r e f = same_Some q r (sym e ∙ f)

with_words : (words : List (List ℕ)) (texts : List (List ℕ × List ℕ)) (q : Request) (x : List ℕ) (a b : Answer) → requested words ≡ Some q → text_named q.program texts ≡ Some x →
    (a ≡ b) ⊎ (AreIllTyped a b ⊎ TellOneTrace q.entry x (text_named q.answer texts) q.all a b) → (a ≡ b) ⊎ (AreIllTyped a b ⊎ AreOfOneTrace words texts a b)
with_words words texts q x a b asked found (inl e) = inl e
with_words words texts q x a b asked found (inr (inl h)) = inr (inl h)
with_words words texts q x a b asked found (inr (inr h)) = inr (inr (q, x, asked, found, h))

pub answered_once : NodesOnce → (words : List (List ℕ)) (texts : List (List ℕ × List ℕ)) (a b : Answer) → Reports words texts a → Reports words texts b →
    (a ≡ b) ⊎ (AreIllTyped a b ⊎ AreOfOneTrace words texts a b)
answered_once nodes words texts a b (usage none is) (usage none' is') = inl (is ∙ sym is')
answered_once nodes words texts a b (usage none is) (explaining r text asked found e) = absurd (none-some r (sym none ∙ asked))
answered_once nodes words texts a b (explaining r text asked found e) (usage none is) = absurd (none-some r (sym none ∙ asked))
answered_once nodes words texts a b (explaining q x asked found e) (explaining r y asked' found' f) =
    let one : r ≡ q = same_request words r q asked' asked in
    let there : text_named q.program texts ≡ Some y = subst (λ (p : Request). text_named p.program texts ≡ Some y) one found' in
    let by_words : ReportsExplain q.entry q.all y (text_named q.answer texts) b = subst (λ (p : Request). ReportsExplain p.entry p.all y (text_named p.answer texts) b) one f in
    with_words words texts q x a b asked found (explain_once q.entry q.all x (text_named q.answer texts) nodes a b e
    (subst (λ (z : List ℕ). ReportsExplain q.entry q.all z (text_named q.answer texts) b) (same_text y x (text_named q.program texts) there found) by_words))
