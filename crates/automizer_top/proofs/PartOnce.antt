-- What is answered by parts: its cases exclude each other.
use Rattle.std.proofs.Common.{◌≡◌, ◌⊎◌, ℕ, ◌+◌, ◌≤◌, ◌<◌, List, [], ◌∷◌, ◌++◌, length, Bool, true, false, cond, Option, None, Some, ap, refl, sym, ◌∙◌, subst, arith, inl, inr, append_assoc}
use Rattle.std.specs.Prelude.{Contains, codes}
use Rattle.std.specs.List.{concat}
use Rattle.std.specs.Str.{bytes_eq}
use Rattle.std.proofs.lemmas.Option.{none-some, same_Some}
use Rattle.std.proofs.lemmas.List.{length-append}
use Rattle.outer_io.specs.Lines.{lines_of}
use Rattle.boogie_tree.specs.declared.span.Span.{Span}
use Rattle.typed_tree.specs.TypedTree.{TypedProgram}
use Rattle.modular_cut.specs.Parts.{PlainPart, parts_of}
use Rattle.modular_cut.specs.FreeConditions.{free_spans, IsNotAfter, IsFirstFree}
use Rattle.letter_acts.specs.Invariant.{Graph}
use Rattle.lowered_graph.specs.Items.{ItemFault}
use Rattle.lowered_graph.specs.Lowered.{lowered}
use Rattle.proof_form.specs.Annotations.{Content}
use Rattle.proof_form.specs.Standing.{end_line}
use Rattle.proof_form.proofs.StandingLaws.{lines_joined}
use Rattle.proof_names.specs.Items.{first_triple}
use Rattle.proof_names.specs.CoarseLines.CoarseLetters.{coarse_letters, first_wrong, first_missing}
use Rattle.proof_names.proofs.CoarseLines.ToldLaws.{letters_compared}
use Rattle.proof_check.specs.declared.rejects.RejectCause.{RejectCause}
use Rattle.proof_check.specs.Checks.{turn, IsFirst}
use Rattle.proof_check.specs.Proves.{Proves}
use Rattle.proof_check.proofs.UniqueLaws.{proved_no_first}
use Rattle.trace_replay.specs.FailureFaults.{IsFirstFault}
use Rattle.trace_replay.proofs.FailureLaws.{one_first_fault}
use Rattle.text_reports.specs.TypeRefusals.{rule_line}
use Rattle.text_reports.specs.LoweringRefusals.{lowering_refusal}
use Rattle.automizer_top.specs.PartTexts.{modular_line, part_line, text_behind, through_end, behind_end, front_lines, front_text, rest_text}
use Rattle.text_reports.specs.ReportTexts.{Answer, answer, syntax_answer, failed_answer}
use Rattle.automizer_top.specs.Report.{second_limit, IsFailureText, ReportsFailure}
use Rattle.text_reports.specs.ReportCases.{FailsOnLine, coarse_fails, triple_fails, item_fails}
use Rattle.automizer_top.specs.Parts.{ReportsCut, free, of_parts, ReportsLoweredParts, part_unlowered, parts_lowered, ProvesPart, RejectsPart, no_part_annotation, part_rejected, ChecksPart, no_part_line, wrong_part, right_part, ChecksEnd, ChecksParts, ReportsPartProofs, no_modular_line, of_part_proofs, part_in, ReportsPartFailure, no_part, no_part_failure, of_part_failure}
use Rattle.text_reports.proofs.ProofOnce.{one_first_wrong, same_turn, not_below, same_place, no_place, one_content, wrong_or_not}
use Rattle.text_reports.proofs.ReplayedOnce.{failure_once, faulty_or_not}
use Rattle.automizer_top.proofs.PartAnswers.{behind_is}

-- ---- the first free specification or invariant

same_span : (a b : Span) → a.line ≡ b.line → a.col ≡ b.col → a ≡ b
same_span a b l c = λ i. record { line = l i; col = c i }

same_column : (a b : Span) → a.line ≡ b.line → a.col ≤ b.col → b.col ≤ a.col → a ≡ b
same_column a b e l m = same_span a b e (omega (arith, l, m))

one_place : (a b : Span) → IsNotAfter a b → IsNotAfter b a → a ≡ b
one_place a b (inl l) (inl m) = absurd (omega (arith, l, m))
one_place a b (inl l) (inr m) = absurd (let e = m.0 in omega (arith, l, e))
one_place a b (inr l) (inl m) = absurd (let e = l.0 in omega (arith, m, e))
one_place a b (inr l) (inr m) = same_column a b l.0 l.1 m.1

one_free : (t : TypedProgram) (a b : Span) → IsFirstFree t a → IsFirstFree t b → a ≡ b
one_free t a b f g = one_place a b (f.first b g.is_free) (g.first a f.is_free)

none_there : (xs : List Span) (s : Span) → xs ≡ [] → Contains xs s → ⊥
none_there xs s e h =
    let none : length xs ≡ 0 = ap (λ (ys : List Span). length ys) e in
    let k : ℕ = h.0 in
    let l : k < length xs = h.1 in
    omega (arith, none, l)

-- two answers to a program that is cut, where X holds of two answers to its parts
pub cut_once : (t : TypedProgram) (to_parts : List PlainPart → Answer → Type 0) (X : Type 0) (a b : Answer) → (to_parts (parts_of t) a → to_parts (parts_of t) b → X) →
    ReportsCut t to_parts a → ReportsCut t to_parts b → (a ≡ b) ⊎ X
cut_once t to_parts X a b once (free at f is) (free at' g is') = inl (is ∙ ap (λ (s : Span). answer (rule_line (codes "Free") s) 3) (one_free t at at' f g) ∙ sym is')
cut_once t to_parts X a b once (free at f is) (of_parts none s) = absurd (none_there (free_spans t) at none f.is_free)
cut_once t to_parts X a b once (of_parts none r) (free at g is) = absurd (none_there (free_spans t) at none g.is_free)
cut_once t to_parts X a b once (of_parts none r) (of_parts none' s) = inr (once r s)

pub lowered_parts_once : (ps : List PlainPart) (to_lowered : Answer → Type 0) (X : Type 0) (a b : Answer) → (to_lowered a → to_lowered b → X) →
    ReportsLoweredParts ps to_lowered a → ReportsLoweredParts ps to_lowered b → (a ≡ b) ⊎ X
lowered_parts_once ps to_lowered X a b once (part_unlowered f first is) (part_unlowered g first' is') =
    inl (is ∙ ap (λ (h : ItemFault). answer (lowering_refusal h) 3) (same_Some f g (sym first ∙ first')) ∙ sym is')
lowered_parts_once ps to_lowered X a b once (part_unlowered f first is) (parts_lowered none s) = absurd (none-some f (sym none ∙ first))
lowered_parts_once ps to_lowered X a b once (parts_lowered none r) (part_unlowered g first is) = absurd (none-some g (sym none ∙ first))
lowered_parts_once ps to_lowered X a b once (parts_lowered none r) (parts_lowered none' s) = inr (once r s)

-- ---- the text of a part is a front of what is left

pub concat_append : (ls ks : List (List ℕ)) → concat (ls ++ ks) ≡ concat ls ++ concat ks
concat_append [] ks = refl
concat_append (l ∷ ls) ks = ap (λ (x : List ℕ). l ++ x) (concat_append ls ks) ∙ sym (append_assoc l (concat ls) (concat ks))

through_more : (l : List ℕ) (ls : List (List ℕ)) (t : Bool) → through_end ls ++ behind_end ls ≡ ls →
    cond t (l ∷ []) (l ∷ through_end ls) ++ cond t ls (behind_end ls) ≡ l ∷ ls
through_more l ls true h = refl
through_more l ls false h = ap (λ (ks : List (List ℕ)). l ∷ ks) h

through_and_behind : (ls : List (List ℕ)) → through_end ls ++ behind_end ls ≡ ls
through_and_behind [] = refl
through_and_behind (l ∷ ls) = through_more l ls (bytes_eq l end_line) (through_and_behind ls)

pub front_and_rest : (text : List ℕ) → front_text text ++ rest_text text ≡ text
front_and_rest text =
    sym (concat_append (through_end (lines_of text)) (behind_end (lines_of text))) ∙ ap concat (through_and_behind (lines_of text)) ∙ lines_joined text

pub front_is_short : (text : List ℕ) → length (front_text text) ≤ length text
front_is_short text =
    let n : length (front_text text ++ rest_text text) ≡ length text = ap (λ (bs : List ℕ). length bs) (front_and_rest text) in
    let m : length (front_text text ++ rest_text text) ≡ length (front_text text) + length (rest_text text) = length-append (front_text text) (rest_text text) in
    omega (arith, n, m)

pub rest_is_short : (text : List ℕ) → length (rest_text text) ≤ length text
rest_is_short text =
    let n : length (front_text text ++ rest_text text) ≡ length text = ap (λ (bs : List ℕ). length bs) (front_and_rest text) in
    let m : length (front_text text ++ rest_text text) ≡ length (front_text text) + length (rest_text text) = length-append (front_text text) (rest_text text) in
    omega (arith, n, m)

pub behind_is_short : (line text rest : List ℕ) → text_behind line text ≡ Some rest → length rest ≤ length text
behind_is_short line text rest e =
    let n : length text ≡ length (line ++ rest) = ap (λ (bs : List ℕ). length bs) (behind_is line text rest e) in
    let m : length (line ++ rest) ≡ length line + length rest = length-append line rest in
    omega (arith, n, m)

-- ---- annotations

same_cause : (g : Graph) (w : Content) (i j : ℕ) (c d : RejectCause) → IsFirst g w i c → IsFirst g w j d → c ≡ d
same_cause g w i j c d h k = same_turn c d (not_below (turn c) (turn d) (λ l. h.fails (k.earlier c i l)) (λ l. k.fails (h.earlier d j l)))

same_item : (g : Graph) (w : Content) (i j : ℕ) (c : RejectCause) → IsFirst g w i c → IsFirst g w j c → i ≡ j
same_item g w i j c h k = not_below i j (λ l. h.fails (k.before i l)) (λ l. k.fails (h.before j l))

abbrev pub IsSameFault : ℕ → ℕ → RejectCause → RejectCause → Type 0
IsSameFault line other cause reason = (line ≡ other) × (cause ≡ reason)

pub fails_once : (g : Graph) (coarse : List ℕ) (w : Content) (l m : ℕ) (c d : RejectCause) → FailsOnLine g coarse w l c → FailsOnLine g coarse w m d → IsSameFault l m c d
fails_once g coarse w l m c d (coarse_fails j e n s) (coarse_fails k e' n' s') = (n ∙ ap (λ (x : ℕ). x + 4) (same_place (first_wrong g coarse w) j k e e') ∙ sym n', s ∙ sym s')
fails_once g coarse w l m c d (coarse_fails j e n s) (triple_fails k none e' n' s') = absurd (no_place (first_wrong g coarse w) j none e)
fails_once g coarse w l m c d (coarse_fails j e n s) (item_fails i same f n') = absurd (no_place (first_wrong g coarse w) j (letters_compared g coarse w same).0 e)
fails_once g coarse w l m c d (triple_fails j none e n s) (coarse_fails k e' n' s') = absurd (no_place (first_wrong g coarse w) k none e')
fails_once g coarse w l m c d (triple_fails j none e n s) (triple_fails k none' e' n' s') =
    (n ∙ ap (λ (x : ℕ). first_triple w + x + (length coarse + 4)) (same_place (first_missing g coarse w) j k e e') ∙ sym n', s ∙ sym s')
fails_once g coarse w l m c d (triple_fails j none e n s) (item_fails i same f n') = absurd (no_place (first_missing g coarse w) j (letters_compared g coarse w same).1 e)
fails_once g coarse w l m c d (item_fails i same f n) (coarse_fails k e n' s') = absurd (no_place (first_wrong g coarse w) k (letters_compared g coarse w same).0 e)
fails_once g coarse w l m c d (item_fails i same f n) (triple_fails k none e n' s') = absurd (no_place (first_missing g coarse w) k (letters_compared g coarse w same).1 e)
fails_once g coarse w l m c d (item_fails i same f n) (item_fails j same' h n') =
    let causes : c ≡ d = same_cause g w i j c d f h in
    let items : i ≡ j = same_item g w i j d (subst (IsFirst g w i) causes f) h in
    (n ∙ ap (λ (x : ℕ). x + (length coarse + 4)) items ∙ sym n', causes)

pub proved_or_fails : (g : Graph) (coarse : List ℕ) (w : Content) (l : ℕ) (c : RejectCause) → coarse ≡ coarse_letters g w → Proves g w → FailsOnLine g coarse w l c → ⊥
proved_or_fails g coarse w l c same p (coarse_fails j e n s) = no_place (first_wrong g coarse w) j (letters_compared g coarse w same).0 e
proved_or_fails g coarse w l c same p (triple_fails j none e n s) = no_place (first_missing g coarse w) j (letters_compared g coarse w same).1 e
proved_or_fails g coarse w l c same p (item_fails i same' f n) = proved_no_first g w i c p f

same_fails : (g : Graph) (c d : List ℕ) (v w : Content) (l : ℕ) (cause : RejectCause) → (c ≡ d) × (v ≡ w) → FailsOnLine g d w l cause → FailsOnLine g c v l cause
same_fails g c d v w l cause one h = subst (λ (ns : List ℕ). FailsOnLine g ns v l cause) (sym one.0) (subst (λ (u : Content). FailsOnLine g d u l cause) (sym one.1) h)

rejects_once : (g : Graph) (before : ℕ) (x : List ℕ) (a b : Answer) → length x ≤ second_limit → RejectsPart g before x a → RejectsPart g before x b → a ≡ b
rejects_once g before x a b few (no_part_annotation line wrong is) (no_part_annotation other wrong' is') =
    is ∙ ap (λ (n : ℕ). syntax_answer (before + n)) (one_first_wrong (lines_of x) line other wrong wrong') ∙ sym is'
rejects_once g before x a b few (no_part_annotation line wrong is) (part_rejected d w m cause r k is') = absurd (wrong_or_not x d line w few r wrong)
rejects_once g before x a b few (part_rejected c v l cause s h is) (no_part_annotation line wrong is') = absurd (wrong_or_not x c line v few s wrong)
rejects_once g before x a b few (part_rejected c v l cause s h is) (part_rejected d w m reason r k is') =
    let same = fails_once g c v l m cause reason h (same_fails g c d v w m reason (one_content x c d v w few s r) k) in
    is ∙ (λ i. failed_answer (before + same.0 i) (same.1 i)) ∙ sym is'

proves_or_rejects : (g : Graph) (before : ℕ) (x : List ℕ) (b : Answer) → length x ≤ second_limit → ProvesPart g x → RejectsPart g before x b → ⊥
proves_or_rejects g before x b few p (no_part_annotation line wrong is) = wrong_or_not x p.coarse line p.annotation few p.spelled wrong
proves_or_rejects g before x b few p (part_rejected d w m reason r k is) =
    proved_or_fails g p.coarse p.annotation m reason p.letters p.proves (same_fails g p.coarse d p.annotation w m reason (one_content x p.coarse d p.annotation w few p.spelled r) k)

end_once : (before : ℕ) (left : List ℕ) (a b : Answer) → ChecksEnd before left a → ChecksEnd before left b → a ≡ b
end_once before [] a b e f = e ∙ sym f
end_once before (x ∷ xs) a b e f = e ∙ sym f

-- two answers to one text
same_rest : (x y : List ℕ) (o : Option (List ℕ)) → o ≡ Some x → o ≡ Some y → x ≡ y
same_rest x y o e f = same_Some x y (sym e ∙ f)

no_rest : (x : List ℕ) (o : Option (List ℕ)) → o ≡ None → o ≡ Some x → ⊥
no_rest x o e f = none-some x (sym e ∙ f)

part_once : (p : PlainPart) (before : ℕ) (left : List ℕ) (to_rest : ℕ → List ℕ → Answer → Type 0) (a b : Answer) → length left ≤ second_limit →
    ((n : ℕ) (rest : List ℕ) → length rest ≤ second_limit → to_rest n rest a → to_rest n rest b → a ≡ b) → ChecksPart p before left to_rest a → ChecksPart p before left to_rest b → a ≡ b
part_once p before left to_rest a b few once (no_part_line none is) (no_part_line none' is') = is ∙ sym is'
part_once p before left to_rest a b few once (no_part_line none is) (wrong_part y f s) = absurd (no_rest y (text_behind (part_line p.name) left) none f)
part_once p before left to_rest a b few once (no_part_line none is) (right_part y f s k) = absurd (no_rest y (text_behind (part_line p.name) left) none f)
part_once p before left to_rest a b few once (wrong_part x e r) (no_part_line none is) = absurd (no_rest x (text_behind (part_line p.name) left) none e)
part_once p before left to_rest a b few once (wrong_part x e r) (wrong_part y f s) =
    let same : y ≡ x = same_rest y x (text_behind (part_line p.name) left) f e in
    let l = behind_is_short (part_line p.name) left x e in
    let m = front_is_short x in
    rejects_once (lowered p.program) (before + 1) (front_text x) a b (omega (arith, l, m, few)) r (subst (λ (z : List ℕ). RejectsPart (lowered p.program) (before + 1) (front_text z) b) same s)
part_once p before left to_rest a b few once (wrong_part x e r) (right_part y f s k) =
    let same : y ≡ x = same_rest y x (text_behind (part_line p.name) left) f e in
    let l = behind_is_short (part_line p.name) left x e in
    let m = front_is_short x in
    absurd (proves_or_rejects (lowered p.program) (before + 1) (front_text x) a (omega (arith, l, m, few)) (subst (λ (z : List ℕ). ProvesPart (lowered p.program) (front_text z)) same s) r)
part_once p before left to_rest a b few once (right_part x e r h) (no_part_line none is) = absurd (no_rest x (text_behind (part_line p.name) left) none e)
part_once p before left to_rest a b few once (right_part x e r h) (wrong_part y f s) =
    let same : y ≡ x = same_rest y x (text_behind (part_line p.name) left) f e in
    let l = behind_is_short (part_line p.name) left x e in
    let m = front_is_short x in
    absurd (proves_or_rejects (lowered p.program) (before + 1) (front_text x) b (omega (arith, l, m, few)) r (subst (λ (z : List ℕ). RejectsPart (lowered p.program) (before + 1) (front_text z) b) same s))
part_once p before left to_rest a b few once (right_part x e r h) (right_part y f s k) =
    let same : y ≡ x = same_rest y x (text_behind (part_line p.name) left) f e in
    let l = behind_is_short (part_line p.name) left x e in
    let m = rest_is_short x in
    once (before + 1 + length (front_lines x)) (rest_text x) (omega (arith, l, m, few)) h (subst (λ (z : List ℕ). to_rest (before + 1 + length (front_lines z)) (rest_text z) b) same k)

checks_once : (ps : List PlainPart) (before : ℕ) (left : List ℕ) (a b : Answer) → length left ≤ second_limit → ChecksParts ps before left a → ChecksParts ps before left b → a ≡ b
checks_once [] before left a b few r s = end_once before left a b r s
checks_once (p ∷ ps) before left a b few r s = part_once p before left (ChecksParts ps) a b few (λ n rest. checks_once ps n rest a b) r s

pub part_proofs_once : (ps : List PlainPart) (x : List ℕ) (a b : Answer) → length x ≤ second_limit → ReportsPartProofs ps x a → ReportsPartProofs ps x b → a ≡ b
part_proofs_once ps x a b few (no_modular_line none is) (no_modular_line none' is') = is ∙ sym is'
part_proofs_once ps x a b few (no_modular_line none is) (of_part_proofs y f s) = absurd (no_rest y (text_behind (modular_line (length ps)) x) none f)
part_proofs_once ps x a b few (of_part_proofs y e r) (no_modular_line none is) = absurd (no_rest y (text_behind (modular_line (length ps)) x) none e)
part_proofs_once ps x a b few (of_part_proofs y e r) (of_part_proofs z f s) =
    let same : z ≡ y = same_rest z y (text_behind (modular_line (length ps)) x) f e in
    let l = behind_is_short (modular_line (length ps)) x y e in
    checks_once ps 1 y a b (omega (arith, l, few)) r (subst (λ (u : List ℕ). ChecksParts ps 1 u b) same s)

-- ---- failures

abbrev Named : Type 0
Named = PlainPart × List ℕ

same_named : (x y : Named) (o : Option Named) → o ≡ Some x → o ≡ Some y → x ≡ y
same_named x y o e f = same_Some x y (sym e ∙ f)

no_named : (x : Named) (o : Option Named) → o ≡ None → o ≡ Some x → ⊥
no_named x o e f = none-some x (sym e ∙ f)

pub part_failure_once : (ps : List PlainPart) (x : List ℕ) (a b : Answer) → ReportsPartFailure ps x a → ReportsPartFailure ps x b → a ≡ b
part_failure_once ps x a b (no_part none is) (no_part none' is') = is ∙ sym is'
part_failure_once ps x a b (no_part none is) (no_part_failure q s m f fault is') = absurd (no_named (q, s) (part_in ps x) none f)
part_failure_once ps x a b (no_part none is) (of_part_failure q s h f k u) = absurd (no_named (q, s) (part_in ps x) none f)
part_failure_once ps x a b (no_part_failure p r l e fault is) (no_part none is') = absurd (no_named (p, r) (part_in ps x) none e)
part_failure_once ps x a b (no_part_failure p r l e fault is) (no_part_failure q s m f fault' is') =
    let same : s ≡ r = ap (λ (y : Named). y.1) (same_named (q, s) (p, r) (part_in ps x) f e) in
    is ∙ ap (λ (n : ℕ). syntax_answer (n + 1)) (one_first_fault r l m fault (subst (λ (y : List ℕ). IsFirstFault y m) same fault')) ∙ sym is'
part_failure_once ps x a b (no_part_failure p r l e fault is) (of_part_failure q s h f k u) =
    let same : s ≡ r = ap (λ (y : Named). y.1) (same_named (q, s) (p, r) (part_in ps x) f e) in
    absurd (faulty_or_not r l h fault (subst (λ (y : List ℕ). IsFailureText y h) same k))
part_failure_once ps x a b (of_part_failure p r g e h u) (no_part none is) = absurd (no_named (p, r) (part_in ps x) none e)
part_failure_once ps x a b (of_part_failure p r g e h u) (no_part_failure q s m f fault is) =
    let same : s ≡ r = ap (λ (y : Named). y.1) (same_named (q, s) (p, r) (part_in ps x) f e) in
    absurd (faulty_or_not r m g (subst (λ (y : List ℕ). IsFirstFault y m) same fault) h)
part_failure_once ps x a b (of_part_failure p r g e h u) (of_part_failure q s k f j v) =
    let same : (q, s) ≡ (p, r) = same_named (q, s) (p, r) (part_in ps x) f e in
    failure_once p.program r a b u (subst (λ (y : Named). ReportsFailure y.0.program y.1 b) same v)
