-- The report allows one answer at most: its cases exclude each other.
use Rattle.std.proofs.Common.{◌≡◌, ℕ, ◌≤◌, List, length, Bool, true, false, refl, Option, None, Some, inl, inr, ◌⊎◌, ap, sym, ◌∙◌, subst, arith}
use Rattle.std.proofs.lemmas.Option.{none-some}
use Rattle.outer_io.specs.Lines.{lines_of}
use Rattle.outer_io.specs.Texts.{text_named}
use Rattle.boogie_tree.specs.Tree.{Declaration}
use Rattle.boogie_tree.specs.Printing.{program_text}
use Rattle.boogie_parse.proofs.Rules.WholeText.{one_program}
use Rattle.typed_tree.specs.TypedTree.{TypedProgram}
use Rattle.letter_acts.specs.Invariant.{Graph}
use Rattle.lowered_graph.specs.Items.{first_fault}
use Rattle.lowered_graph.specs.Lowered.{lowered}
use Rattle.race_core.specs.declared.events.Entry.{Entry}
use Rattle.itp_automaton.specs.Certified.{Certificate}
use Rattle.text_reports.specs.ReportTexts.{Answer, answer, syntax_answer}
use Rattle.automizer_top.specs.Report.{second_limit, Ask, ReportsPrint, refused_print, printed, IsTypingRefusal, IsTypedText, ReportsTyped, ReportsLowered, ReportsSecond, ReportsProof, ReportsCheck, ReportsFailure, ReportsReplay, ReportsVerdict, ReportsVerify, ReportsCheckBy, ReportsReplayBy, ReportsVerifyBy, ReportsBig, Reports}
use Rattle.modular_cut.specs.Parts.{parts_of}
use Rattle.automizer_top.specs.Earlier.{ReportsReuse, no_earlier, of_earlier, ReportsVerifyWith}
use Rattle.automizer_top.specs.Parts.{ReportsCut, ReportsLoweredParts, ReportsParts, ReportsVerifyParts, ReportsPartProofs, ReportsCheckParts, ReportsPartFailure, ReportsReplayParts}
use Rattle.automizer_top.specs.PartClaims.{AreVerdictsOn}
use Rattle.automizer_top.specs.ReportClaims.{IsVerdictOn}
use Rattle.race_rounds.specs.declared.limits.Limits.{Limits}
use Rattle.rank_lasso.specs.LassoRanks.Lassos.{PlainLasso}
use Rattle.automizer_top.specs.Rankings.{ReportsLassoText, ReportsLasso, ReportsRankingText, ReportsRanked}
use Rattle.automizer_top.specs.RankingClaims.{AsksForLasso, IsFoundOn}
use Rattle.automizer_top.specs.CommandLine.{Task, Check, Replay, Print, Verify, Big, Lasso, Ranked, Settings, Request, requested}
use Rattle.automizer_top.proofs.RequestLaws.{kind_of, only_one}
use Rattle.automizer_top.proofs.TaskLaws.{ReportsTask, task_reported, usage_reported}
use Rattle.automizer_top.proofs.LassoOnce.{AreFound, lasso_text_once, ranking_text_once}
use Rattle.text_reports.proofs.ProofOnce.{one_first_wrong, wrong_or_not, proof_once}
use Rattle.text_reports.proofs.TextsOnce as texts_once
use Rattle.text_reports.proofs.TextsOnce.{same_text, refused_once, program_not_refused}
use Rattle.text_reports.proofs.ReplayedOnce.{failure_once}
use Rattle.automizer_top.proofs.PartOnce.{cut_once, lowered_parts_once, part_proofs_once, part_failure_once}

print_once : (text : List ℕ) (a b : Answer) → ReportsPrint text a → ReportsPrint text b → a ≡ b
print_once text a b (refused_print r) (refused_print r') = refused_once text a b r r'
print_once text a b (refused_print r) (printed ds l w is) = absurd (program_not_refused text ds a l w r)
print_once text a b (printed ds l w is) (refused_print r) = absurd (program_not_refused text ds b l w r)
print_once text a b (printed ds l w is) (printed es l' w' is') =
    is ∙ ap (λ (x : List Declaration). answer (program_text x) 0) (one_program text ds es w w') ∙ sym is'

abbrev BothIllTyped : Answer → Answer → Type 0
BothIllTyped a b = IsTypingRefusal a × IsTypingRefusal b

-- ---- two answers of one kind to a program text, to a typed program and to a second text

typed_once : (entry text : List ℕ) (to_typed : TypedProgram → Answer → Type 0) (X : Type 0) (a b : Answer) →
    ((t : TypedProgram) → IsTypedText entry text t → to_typed t a → to_typed t b → X) → ReportsTyped entry text to_typed a → ReportsTyped entry text to_typed b →
    X ⊎ ((a ≡ b) ⊎ BothIllTyped a b)
typed_once entry text to_typed = texts_once.typed_once entry text to_typed to_typed

lowered_once : (t : TypedProgram) (to_graph : Graph → Answer → Type 0) (X : Type 0) (a b : Answer) → (first_fault t ≡ None → to_graph (lowered t) a → to_graph (lowered t) b → X) →
    ReportsLowered t to_graph a → ReportsLowered t to_graph b → (a ≡ b) ⊎ X
lowered_once t to_graph = texts_once.lowered_once t to_graph to_graph

second_or : (second : Option (List ℕ)) (to_text : List ℕ → Answer → Type 0) (X : Type 0) (a b : Answer) →
    ((x : List ℕ) → second ≡ Some x → length x ≤ second_limit → to_text x a → to_text x b → X) → ReportsSecond second to_text a → ReportsSecond second to_text b → (a ≡ b) ⊎ X
second_or second to_text = texts_once.second_or second to_text to_text

one_of_two : (a b : Answer) → (a ≡ b) ⊎ (a ≡ b) → a ≡ b
one_of_two a b (inl e) = e
one_of_two a b (inr e) = e

second_once : (second : Option (List ℕ)) (to_text : List ℕ → Answer → Type 0) (a b : Answer) →
    ((x : List ℕ) → length x ≤ second_limit → to_text x a → to_text x b → a ≡ b) → ReportsSecond second to_text a → ReportsSecond second to_text b → a ≡ b
second_once second to_text a b once r s = one_of_two a b (second_or second to_text (a ≡ b) a b (λ x e. once x) r s)

-- ---- checks, replays and verdicts

one_of_three : (a b : Answer) → (a ≡ b) ⊎ ((a ≡ b) ⊎ BothIllTyped a b) → (a ≡ b) ⊎ BothIllTyped a b
one_of_three a b (inl e) = inl e
one_of_three a b (inr h) = h

check_once : (entry text : List ℕ) (second : Option (List ℕ)) (a b : Answer) → ReportsCheck entry text second a → ReportsCheck entry text second b → (a ≡ b) ⊎ BothIllTyped a b
check_once entry text second a b r s =
    one_of_three a b (typed_once entry text (λ t. ReportsLowered t (λ g. ReportsSecond second (ReportsProof g))) (a ≡ b) a b
    (λ t w h k. one_of_two a b (lowered_once t (λ g. ReportsSecond second (ReportsProof g)) (a ≡ b) a b
    (λ none. second_once second (ReportsProof (lowered t)) a b (λ x. proof_once (lowered t) x a b)) h k)) r s)

replay_once : (entry text : List ℕ) (second : Option (List ℕ)) (a b : Answer) → ReportsReplay entry text second a → ReportsReplay entry text second b → (a ≡ b) ⊎ BothIllTyped a b
replay_once entry text second a b r s =
    one_of_three a b (typed_once entry text (λ t. ReportsSecond second (ReportsFailure t)) (a ≡ b) a b
    (λ t w. second_once second (ReportsFailure t) a b (λ x l. failure_once t x a b)) r s)

-- the same by parts
check_parts_once : (entry text : List ℕ) (second : Option (List ℕ)) (a b : Answer) → ReportsCheckParts entry text second a → ReportsCheckParts entry text second b → (a ≡ b) ⊎ BothIllTyped a b
check_parts_once entry text second a b r s =
    one_of_three a b (typed_once entry text (λ t. ReportsCut t (λ ps. ReportsLoweredParts ps (ReportsSecond second (ReportsPartProofs ps)))) (a ≡ b) a b
    (λ t w h k. one_of_two a b (cut_once t (λ ps. ReportsLoweredParts ps (ReportsSecond second (ReportsPartProofs ps))) (a ≡ b) a b
    (λ u v. one_of_two a b (lowered_parts_once (parts_of t) (ReportsSecond second (ReportsPartProofs (parts_of t))) (a ≡ b) a b
    (second_once second (ReportsPartProofs (parts_of t)) a b (λ x few. part_proofs_once (parts_of t) x a b few)) u v)) h k)) r s)

replay_parts_once : (entry text : List ℕ) (second : Option (List ℕ)) (a b : Answer) → ReportsReplayParts entry text second a → ReportsReplayParts entry text second b → (a ≡ b) ⊎ BothIllTyped a b
replay_parts_once entry text second a b r s =
    one_of_three a b (typed_once entry text (λ t. ReportsCut t (λ ps. ReportsSecond second (ReportsPartFailure ps))) (a ≡ b) a b
    (λ t w h k. one_of_two a b (cut_once t (λ ps. ReportsSecond second (ReportsPartFailure ps)) (a ≡ b) a b
    (second_once second (ReportsPartFailure (parts_of t)) a b (λ x few. part_failure_once (parts_of t) x a b)) h k)) r s)

check_by_once : (m : Bool) (entry text : List ℕ) (second : Option (List ℕ)) (a b : Answer) → ReportsCheckBy m entry text second a → ReportsCheckBy m entry text second b → (a ≡ b) ⊎ BothIllTyped a b
check_by_once false entry text second a b r s = check_once entry text second a b r s
check_by_once true entry text second a b r s = check_parts_once entry text second a b r s

replay_by_once : (m : Bool) (entry text : List ℕ) (second : Option (List ℕ)) (a b : Answer) → ReportsReplayBy m entry text second a → ReportsReplayBy m entry text second b → (a ≡ b) ⊎ BothIllTyped a b
replay_by_once false entry text second a b r s = replay_once entry text second a b r s
replay_by_once true entry text second a b r s = replay_parts_once entry text second a b r s

-- a verdict, of a race that began with no entry where no earlier annotation is named
abbrev IsSomeVerdict : Option (List ℕ) → Limits → TypedProgram → Answer → Type 0
IsSomeVerdict reuse l t a = (given : Option (Entry Certificate)) × (reuse ≡ None → given ≡ None) × ReportsVerdict given l t a

not_none : (reuse : Option (List ℕ)) (old : List ℕ) (given : Option (Entry Certificate)) → reuse ≡ Some old → reuse ≡ None → given ≡ None
not_none reuse old given some none = absurd (none-some old (sym none ∙ some))

-- both are verdicts on the program of the text
abbrev BothVerdicts : Option (List ℕ) → List ℕ → Limits → List ℕ → Answer → Answer → Type 0
BothVerdicts reuse entry l text a b = (t : TypedProgram) × IsTypedText entry text t × IsSomeVerdict reuse l t a × IsSomeVerdict reuse l t b

-- what was found for a program text is one answer, two broken typing rules, or both are of this kind
in_order : (X : Type 0) (a b : Answer) → ((a ≡ b) ⊎ X) ⊎ ((a ≡ b) ⊎ BothIllTyped a b) → (a ≡ b) ⊎ (BothIllTyped a b ⊎ X)
in_order X a b (inl (inl e)) = inl e
in_order X a b (inl (inr v)) = inr (inr v)
in_order X a b (inr (inl e)) = inl e
in_order X a b (inr (inr h)) = inr (inl h)

verify_once : (reuse : Option (List ℕ)) (entry : List ℕ) (l : Limits) (text : List ℕ) (a b : Answer) → ReportsVerify entry l text a → ReportsVerify entry l text b →
    (a ≡ b) ⊎ (BothIllTyped a b ⊎ BothVerdicts reuse entry l text a b)
verify_once reuse entry l text a b r s =
    in_order (BothVerdicts reuse entry l text a b) a b (typed_once entry text (λ t. ReportsLowered t (λ g c. ReportsVerdict None l t c × (length c.bytes ≤ second_limit))) ((a ≡ b) ⊎ BothVerdicts reuse entry l text a b) a b
    (λ t w. lowered_once t (λ g c. ReportsVerdict None l t c × (length c.bytes ≤ second_limit)) (BothVerdicts reuse entry l text a b) a b (λ none v u. (t, w, (None, (λ e. refl), v.0), (None, (λ e. refl), u.0)))) r s)

-- the same with an earlier annotation
reuse_once : (reuse : Option (List ℕ)) (named : List ℕ) → reuse ≡ Some named → (l : Limits) (t : TypedProgram) (x : List ℕ) (a b : Answer) → length x ≤ second_limit → ReportsReuse l t x a → ReportsReuse l t x b →
    (a ≡ b) ⊎ (IsSomeVerdict reuse l t a × IsSomeVerdict reuse l t b)
reuse_once reuse named some l t x a b few (no_earlier line wrong is) (no_earlier other wrong' is') = inl (is ∙ ap syntax_answer (one_first_wrong (lines_of x) line other wrong wrong') ∙ sym is')
reuse_once reuse named some l t x a b few (no_earlier line wrong is) (of_earlier coarse old c given spelled reused first v short) = absurd (wrong_or_not x coarse line old few spelled wrong)
reuse_once reuse named some l t x a b few (of_earlier coarse old c given spelled reused first v short) (no_earlier line wrong is) = absurd (wrong_or_not x coarse line old few spelled wrong)
reuse_once reuse named some l t x a b few (of_earlier coarse old c given spelled reused first v short) (of_earlier coarse' old' c' given' spelled' reused' first' v' short') =
    inr ((given, not_none reuse named given some, v), (given', not_none reuse named given' some, v'))

verify_with_once : (reuse : Option (List ℕ)) (named : List ℕ) → reuse ≡ Some named → (entry : List ℕ) (l : Limits) (text : List ℕ) (second : Option (List ℕ)) (a b : Answer) → ReportsVerifyWith entry l text second a → ReportsVerifyWith entry l text second b →
    (a ≡ b) ⊎ (BothIllTyped a b ⊎ BothVerdicts reuse entry l text a b)
verify_with_once reuse named some entry l text second a b r s =
    in_order (BothVerdicts reuse entry l text a b) a b (typed_once entry text (λ t. ReportsLowered t (λ g. ReportsSecond second (ReportsReuse l t))) ((a ≡ b) ⊎ BothVerdicts reuse entry l text a b) a b
    (λ t w h k. joined t w (lowered_once t (λ g. ReportsSecond second (ReportsReuse l t)) ((a ≡ b) ⊎ ((a ≡ b) ⊎ (IsSomeVerdict reuse l t a × IsSomeVerdict reuse l t b))) a b
    (λ none. second_or second (ReportsReuse l t) ((a ≡ b) ⊎ (IsSomeVerdict reuse l t a × IsSomeVerdict reuse l t b)) a b (λ x e few. reuse_once reuse named some l t x a b few)) h k)) r s)
  where
    joined : (t : TypedProgram) → IsTypedText entry text t → (a ≡ b) ⊎ ((a ≡ b) ⊎ ((a ≡ b) ⊎ (IsSomeVerdict reuse l t a × IsSomeVerdict reuse l t b))) → (a ≡ b) ⊎ BothVerdicts reuse entry l text a b
    joined t w (inl e) = inl e
    joined t w (inr (inl e)) = inl e
    joined t w (inr (inr (inl e))) = inl e
    joined t w (inr (inr (inr v))) = inr (t, w, v.0, v.1)

-- both are verdicts on its parts
abbrev BothPartVerdicts : List ℕ → Limits → List ℕ → Answer → Answer → Type 0
BothPartVerdicts entry l text a b = (t : TypedProgram) × IsTypedText entry text t × ReportsParts l (parts_of t) a × ReportsParts l (parts_of t) b

verify_parts_once : (entry : List ℕ) (l : Limits) (text : List ℕ) (a b : Answer) → ReportsVerifyParts entry l text a → ReportsVerifyParts entry l text b →
    (a ≡ b) ⊎ (BothIllTyped a b ⊎ BothPartVerdicts entry l text a b)
verify_parts_once entry l text a b r s =
    in_order (BothPartVerdicts entry l text a b) a b (typed_once entry text (λ t. ReportsCut t (λ ps. ReportsLoweredParts ps (λ c. ReportsParts l ps c × (length c.bytes ≤ second_limit)))) ((a ≡ b) ⊎ BothPartVerdicts entry l text a b) a b
    (λ t w h k. joined t (cut_once t (λ ps. ReportsLoweredParts ps (λ c. ReportsParts l ps c × (length c.bytes ≤ second_limit))) ((a ≡ b) ⊎ BothPartVerdicts entry l text a b) a b
    (lowered_parts_once (parts_of t) (λ c. ReportsParts l (parts_of t) c × (length c.bytes ≤ second_limit)) (BothPartVerdicts entry l text a b) a b (λ v u. (t, w, v.0, u.0))) h k)) r s)
  where
    joined : TypedProgram → (a ≡ b) ⊎ ((a ≡ b) ⊎ BothPartVerdicts entry l text a b) → (a ≡ b) ⊎ BothPartVerdicts entry l text a b
    joined t (inl e) = inl e
    joined t (inr h) = h

-- ---- lassos and rankings

-- both tell what the search for a ranking of one lasso in the second text has found
record BothFound (entry : List ℕ) (depth : ℕ) (text : List ℕ) (second : Option (List ℕ)) (a b : Answer) : Type 0 where
  meant : TypedProgram
  typed : IsTypedText entry text meant
  lowers : first_fault meant ≡ None
  told : List ℕ
  second_is : second ≡ Some told
  found : AreFound depth (lowered meant) told a b

lasso_once : (entry : List ℕ) (depth : ℕ) (text : List ℕ) (second : Option (List ℕ)) (a b : Answer) → ReportsLasso entry depth text second a → ReportsLasso entry depth text second b →
    (a ≡ b) ⊎ (BothIllTyped a b ⊎ BothFound entry depth text second a b)
lasso_once entry depth text second a b r s =
    in_order Both a b (typed_once entry text (λ t. ReportsLowered t (λ g. ReportsSecond second (ReportsLassoText depth g))) ((a ≡ b) ⊎ Both) a b
    (λ t w h k. joined (lowered_once t (λ g. ReportsSecond second (ReportsLassoText depth g)) ((a ≡ b) ⊎ Both) a b
    (λ none u v. joined (second_or second (ReportsLassoText depth (lowered t)) ((a ≡ b) ⊎ Both) a b (λ x e few p q. found t w none x e (lasso_text_once depth (lowered t) x a b p q)) u v)) h k)) r s)
  where
    Both : Type 0
    Both = BothFound entry depth text second a b

    joined : (a ≡ b) ⊎ ((a ≡ b) ⊎ Both) → (a ≡ b) ⊎ Both
    joined (inl e) = inl e
    joined (inr h) = h

    found : (t : TypedProgram) → IsTypedText entry text t → first_fault t ≡ None → (x : List ℕ) → second ≡ Some x → (a ≡ b) ⊎ AreFound depth (lowered t) x a b → (a ≡ b) ⊎ Both
    found t w none x e (inl same) = inl same
    found t w none x e (inr h) = inr (record { meant = t; typed = w; lowers = none; told = x; second_is = e; found = h })

ranked_once : (entry text : List ℕ) (second : Option (List ℕ)) (a b : Answer) → ReportsRanked entry text second a → ReportsRanked entry text second b → (a ≡ b) ⊎ BothIllTyped a b
ranked_once entry text second a b r s =
    one_of_three a b (typed_once entry text (λ t. ReportsLowered t (λ g. ReportsSecond second (ReportsRankingText g))) (a ≡ b) a b
    (λ t w h k. one_of_two a b (lowered_once t (λ g. ReportsSecond second (ReportsRankingText g)) (a ≡ b) a b
    (λ none. second_once second (ReportsRankingText (lowered t)) a b (λ x few. ranking_text_once (lowered t) x a b)) h k)) r s)

-- ---- the report

-- one answer; or two broken typing rules; or two verdicts on one program; or two summaries of one generated program; or verdicts on the parts of one
-- program; or two finds of the search for a ranking of one lasso
abbrev pub AreOne : List (List ℕ) → List (List ℕ × List ℕ) → Answer → Answer → Type 0
AreOne words texts a b = (a ≡ b) ⊎ (BothIllTyped a b ⊎ (((t : TypedProgram) × IsVerdictOn words texts t a × IsVerdictOn words texts t b) ⊎ (((s : Settings) × (count : ℕ) × Ask words s (Big count) × ReportsBig s.limits count a × ReportsBig s.limits count b)
    ⊎ (((t : TypedProgram) × AreVerdictsOn words texts t a × AreVerdictsOn words texts t b)
    ⊎ ((t : TypedProgram) × (l : PlainLasso) × IsFoundOn words texts t l a × IsFoundOn words texts t l b)))))

module _ (words : List (List ℕ)) (texts : List (List ℕ × List ℕ)) (s : Settings) (p text : List ℕ) (a b : Answer) (found : text_named p texts ≡ Some text) where
  wider : (a ≡ b) ⊎ BothIllTyped a b → AreOne words texts a b
  wider (inl e) = inl e
  wider (inr h) = inr (inl h)

  both : Ask words s (Verify p) → (a ≡ b) ⊎ (BothIllTyped a b ⊎ BothVerdicts s.reuse s.entry s.limits text a b) → AreOne words texts a b
  both asked (inl e) = inl e
  both asked (inr (inl h)) = inr (inl h)
  both asked (inr (inr h)) = inr (inr (inl (h.0, (s, p, text, asked, found, h.1, h.2.0, h.2.1, h.2.2), (s, p, text, asked, found, h.1, h.3.0, h.3.1, h.3.2))))

  both_parts : s.modular ≡ true → Ask words s (Verify p) → (a ≡ b) ⊎ (BothIllTyped a b ⊎ BothPartVerdicts s.entry s.limits text a b) → AreOne words texts a b
  both_parts m asked (inl e) = inl e
  both_parts m asked (inr (inl h)) = inr (inl h)
  both_parts m asked (inr (inr h)) = inr (inr (inr (inr (inl (h.0, (s, p, text, asked, m, found, h.1, h.2), (s, p, text, asked, m, found, h.1, h.3))))))

  both_by : (m : Bool) (reuse : Option (List ℕ)) → s.modular ≡ m → s.reuse ≡ reuse → Ask words s (Verify p) →
      ReportsVerifyBy m reuse texts s.entry s.limits text a → ReportsVerifyBy m reuse texts s.entry s.limits text b → AreOne words texts a b
  both_by false None m named asked r k = both asked (verify_once s.reuse s.entry s.limits text a b r k)
  both_by false (Some old) m named asked r k = both asked (verify_with_once s.reuse old named s.entry s.limits text (text_named old texts) a b r k)
  both_by true reuse m named asked r k = both_parts m asked (verify_parts_once s.entry s.limits text a b r k)

  both_found : (x : List ℕ) → Ask words s (Lasso p x) → (a ≡ b) ⊎ (BothIllTyped a b ⊎ BothFound s.entry s.limits.depth text (text_named x texts) a b) → AreOne words texts a b
  both_found x asked (inl e) = inl e
  both_found x asked (inr (inl h)) = inr (inl h)
  both_found x asked (inr (inr h)) =
      let asks : AsksForLasso words texts s h.meant h.found.lasso = record {
        program = p;
        second = x;
        asked = asked;
        text = text;
        found = found;
        typed = h.typed;
        lowers = h.lowers;
        told = h.told;
        second_is = h.second_is;
        read = h.found.read;
        is_lasso = h.found.is_lasso;
      } in
      inr (inr (inr (inr (inr (h.meant, h.found.lasso, (s, asks, h.found.first), (s, asks, h.found.second))))))

-- the same text was found
same_found : (texts : List (List ℕ × List ℕ)) (p t u : List ℕ) → text_named p texts ≡ Some t → text_named p texts ≡ Some u → u ≡ t
same_found texts p t u found found' = same_text u t (text_named p texts) found' found

-- two answers to one task
task_once : (words : List (List ℕ)) (texts : List (List ℕ × List ℕ)) (s : Settings) (x : Task) (a b : Answer) → Ask words s x → ReportsTask texts s x a → ReportsTask texts s x b →
    AreOne words texts a b
task_once words texts s (Print p) a b asked (t, found, r) (u, found', k) =
    inl (print_once t a b r (subst (λ (z : List ℕ). ReportsPrint z b) (same_found texts p t u found found') k))
task_once words texts s (Check p x) a b asked (t, found, r) (u, found', k) =
    wider words texts s p t a b found (check_by_once s.modular s.entry t (text_named x texts) a b r
    (subst (λ (z : List ℕ). ReportsCheckBy s.modular s.entry z (text_named x texts) b) (same_found texts p t u found found') k))
task_once words texts s (Replay p x) a b asked (t, found, r) (u, found', k) =
    wider words texts s p t a b found (replay_by_once s.modular s.entry t (text_named x texts) a b r
    (subst (λ (z : List ℕ). ReportsReplayBy s.modular s.entry z (text_named x texts) b) (same_found texts p t u found found') k))
task_once words texts s (Verify p) a b asked (t, found, r) (u, found', k) =
    both_by words texts s p t a b found s.modular s.reuse refl refl asked r
    (subst (λ (z : List ℕ). ReportsVerifyBy s.modular s.reuse texts s.entry s.limits z b) (same_found texts p t u found found') k)
task_once words texts s (Big count) a b asked r k = inr (inr (inr (inl (s, count, asked, r, k))))
task_once words texts s (Lasso p x) a b asked (t, found, r) (u, found', k) =
    both_found words texts s p t a b found x asked (lasso_once s.entry s.limits.depth t (text_named x texts) a b r
    (subst (λ (z : List ℕ). ReportsLasso s.entry s.limits.depth z (text_named x texts) b) (same_found texts p t u found found') k))
task_once words texts s (Ranked p x) a b asked (t, found, r) (u, found', k) =
    wider words texts s p t a b found (ranked_once s.entry t (text_named x texts) a b r
    (subst (λ (z : List ℕ). ReportsRanked s.entry z (text_named x texts) b) (same_found texts p t u found found') k))

-- The report allows one answer at most, but that any of several broken typing rules may be named, any of several verdicts told, and any of several
-- finds of a search.
pub report_once : (words : List (List ℕ)) (texts : List (List ℕ × List ℕ)) (a b : Answer) → Reports words texts a → Reports words texts b → AreOne words texts a b
report_once words texts a b r k = by_request (requested words) refl
  where
    by_request : (q : Option Request) → requested words ≡ q → AreOne words texts a b
    by_request None none = inl (usage_reported words texts a none r ∙ sym (usage_reported words texts b none k))
    by_request (Some q) asked = task_once words texts q.settings q.task a b asked (task_reported words texts a q.settings q.task asked r) (task_reported words texts b q.settings q.task asked k)

-- Where the words ask for a task of which several answers are never told, an answer of the status 0 is the only one.
pub one_of_task : (words : List (List ℕ)) (texts : List (List ℕ × List ℕ)) (s : Settings) (x : Task) (a b : Answer) → Ask words s x → (kind_of x ≡ 3 → ⊥) → (kind_of x ≡ 4 → ⊥) →
    (kind_of x ≡ 5 → ⊥) → a.status ≡ 0 → AreOne words texts a b → b ≡ a
one_of_task words texts s x a b ask three four five z (inl e) = sym e
one_of_task words texts s x a b ask three four five z (inr (inl h)) = absurd (let e : 3 ≡ 0 = sym (ap (λ (c : Answer). c.status) h.0.1) ∙ z in omega arith)
one_of_task words texts s x a b ask three four five z (inr (inr (inl v))) = absurd (only_one words s v.1.0 x (Verify v.1.1) ask v.1.3 three)
one_of_task words texts s x a b ask three four five z (inr (inr (inr (inl v)))) = absurd (only_one words s v.0 x (Big v.1) ask v.2 four)
one_of_task words texts s x a b ask three four five z (inr (inr (inr (inr (inl v))))) = absurd (only_one words s v.1.0 x (Verify v.1.1) ask v.1.3 three)
one_of_task words texts s x a b ask three four five z (inr (inr (inr (inr (inr v))))) = absurd (only_one words s v.2.0 x (Lasso v.2.1.program v.2.1.second) ask v.2.1.asked five)
