-- What is answered to an annotation: its cases exclude each other.
use Rattle.std.proofs.Common.{◌≡◌, ℕ, zero, suc, ◌+◌, ◌^◌, ◌<◌, ◌≤◌, List, [], ◌∷◌, length, Option, None, Some, inl, inr, ap, refl, sym, ◌∙◌, subst, arith}
use Rattle.std.proofs.lemmas.Option.{none-some, same_Some}
use Rattle.outer_io.specs.Lines.{lines_of}
use Rattle.letter_acts.specs.Invariant.{Graph}
use Rattle.proof_form.specs.Annotations.{Content, safe_text}
use Rattle.proof_form.specs.Standing.{no_content, FirstWrong, WrongBehindCoarse, WrongBehindForm, WrongBehindRounds, WrongBehindSafe, FirstWrongOfText}
use Rattle.proof_form.proofs.CoarseLaws.{forms_differ}
use Rattle.proof_form.proofs.StandingSteps.{adds_once, adds_no_end}
use Rattle.proof_form.proofs.ReadLaws.{body_fits}
use Rattle.proof_form.proofs.SpelledLaws.{body_text, spelled_header, spelled_completes, spelled_not_wrong}
use Rattle.proof_form.proofs.OneLaws.{one_annotation}
use Rattle.proof_names.specs.CoarseLines.CoarseLetters.{first_wrong, first_missing}
use Rattle.proof_names.proofs.CoarseLines.ToldLaws.{letters_compared}
use Rattle.proof_names.specs.Items.{first_triple}
use Rattle.proof_check.specs.declared.rejects.RejectCause.{RejectCause}
use Rattle.proof_check.specs.declared.rejects.RejectCause.TheVariants.{BadTriple, NoStart, OpenError, MissingStep, BadStep, BadName}
use Rattle.proof_check.specs.Checks.{turn, IsFirst}
use Rattle.proof_check.proofs.UniqueLaws.{proved_no_first}
use Rattle.text_reports.specs.ReportTexts.{Answer, syntax_answer, failed_answer, rejected_answer}
use Rattle.text_reports.specs.ReportCases.{second_limit, IsSafeText, ReportsAnnotation, wrong_line, missing_line, accepted, rejected, ReportsProof, no_annotation, of_annotation}

-- ---- the first wrong line

wrong_once : (ls : List (List ℕ)) (n k m : ℕ) (a : Content) → FirstWrong n a ls k → FirstWrong n a ls m → k ≡ m
wrong_once [] n k m a h g = h ∙ sym g
wrong_once (l ∷ ls) n k m a (inl h) (inl g) = h.2 ∙ sym g.2
wrong_once (l ∷ ls) n k m a (inl h) (inr (inl g)) = absurd (g.0 h.0)
wrong_once (l ∷ ls) n k m a (inl h) (inr (inr g)) = absurd (adds_no_end a g.0 l g.1 h.0)
wrong_once (l ∷ ls) n k m a (inr (inl h)) (inl g) = absurd (h.0 g.0)
wrong_once (l ∷ ls) n k m a (inr (inl h)) (inr (inl g)) = h.2 ∙ sym g.2
wrong_once (l ∷ ls) n k m a (inr (inl h)) (inr (inr g)) = absurd (h.1 g.0 g.1)
wrong_once (l ∷ ls) n k m a (inr (inr h)) (inl g) = absurd (adds_no_end a h.0 l h.1 g.0)
wrong_once (l ∷ ls) n k m a (inr (inr h)) (inr (inl g)) = absurd (g.1 h.0 h.1)
wrong_once (l ∷ ls) n k m a (inr (inr h)) (inr (inr g)) =
    wrong_once ls (n + 1) k m h.0 h.2 (subst (λ (c : Content). FirstWrong (n + 1) c ls m) (adds_once a g.0 h.0 l g.1 h.1) g.2)

behind_coarse_once : (ls : List (List ℕ)) (n k m : ℕ) → WrongBehindCoarse n ls k → WrongBehindCoarse n ls m → k ≡ m
behind_coarse_once [] n k m h g = h ∙ sym g
behind_coarse_once (l ∷ ls) n k m (inl h) (inl g) = wrong_once (l ∷ ls) n k m no_content h.1 g.1
behind_coarse_once (l ∷ ls) n k m (inl h) (inr g) = absurd (h.0 g.0 g.1)
behind_coarse_once (l ∷ ls) n k m (inr h) (inl g) = absurd (g.0 h.0 h.1)
behind_coarse_once (l ∷ ls) n k m (inr h) (inr g) = behind_coarse_once ls (n + 1) k m h.2 g.2

behind_form_once : (ls : List (List ℕ)) (k m : ℕ) → WrongBehindForm ls k → WrongBehindForm ls m → k ≡ m
behind_form_once [] k m h g = h ∙ sym g
behind_form_once (l ∷ ls) k m (inl h) (inl g) = h.1 ∙ sym g.1
behind_form_once (l ∷ ls) k m (inl h) (inr g) = absurd (h.0 g.0 g.1)
behind_form_once (l ∷ ls) k m (inr h) (inl g) = absurd (g.0 h.0 h.1)
behind_form_once (l ∷ ls) k m (inr h) (inr g) = behind_coarse_once ls 5 k m h.2 g.2

behind_rounds_once : (ls : List (List ℕ)) (k m : ℕ) → WrongBehindRounds ls k → WrongBehindRounds ls m → k ≡ m
behind_rounds_once [] k m h g = h ∙ sym g
behind_rounds_once (l ∷ ls) k m (inl h) (inl g) = h.2 ∙ sym g.2
behind_rounds_once (l ∷ ls) k m (inl h) (inr (inl g)) = absurd (h.0 g.0)
behind_rounds_once (l ∷ ls) k m (inl h) (inr (inr g)) = absurd (h.1 g.0)
behind_rounds_once (l ∷ ls) k m (inr (inl h)) (inl g) = absurd (g.0 h.0)
behind_rounds_once (l ∷ ls) k m (inr (inl h)) (inr (inl g)) = wrong_once ls 4 k m no_content h.1 g.1
behind_rounds_once (l ∷ ls) k m (inr (inl h)) (inr (inr g)) = absurd (forms_differ (sym h.0 ∙ g.0))
behind_rounds_once (l ∷ ls) k m (inr (inr h)) (inl g) = absurd (g.1 h.0)
behind_rounds_once (l ∷ ls) k m (inr (inr h)) (inr (inl g)) = absurd (forms_differ (sym g.0 ∙ h.0))
behind_rounds_once (l ∷ ls) k m (inr (inr h)) (inr (inr g)) = behind_form_once ls k m h.1 g.1

behind_safe_once : (ls : List (List ℕ)) (k m : ℕ) → WrongBehindSafe ls k → WrongBehindSafe ls m → k ≡ m
behind_safe_once [] k m h g = h ∙ sym g
behind_safe_once (l ∷ ls) k m (inl h) (inl g) = h.1 ∙ sym g.1
behind_safe_once (l ∷ ls) k m (inl h) (inr g) = absurd (h.0 g.0 g.1 g.2)
behind_safe_once (l ∷ ls) k m (inr h) (inl g) = absurd (g.0 h.0 h.1 h.2)
behind_safe_once (l ∷ ls) k m (inr h) (inr g) = behind_rounds_once ls k m h.3 g.3

pub one_first_wrong : (ls : List (List ℕ)) (k m : ℕ) → FirstWrongOfText ls k → FirstWrongOfText ls m → k ≡ m
one_first_wrong [] k m h g = h ∙ sym g
one_first_wrong (l ∷ ls) k m (inl h) (inl g) = h.1 ∙ sym g.1
one_first_wrong (l ∷ ls) k m (inl h) (inr g) = absurd (h.0 g.0)
one_first_wrong (l ∷ ls) k m (inr h) (inl g) = absurd (g.0 h.0)
one_first_wrong (l ∷ ls) k m (inr h) (inr g) = behind_safe_once ls k m h.1 g.1

-- ---- the first check that fails

check_at : ℕ → RejectCause
check_at zero = BadName
check_at (suc zero) = BadName
check_at (suc (suc zero)) = BadTriple
check_at (suc (suc (suc zero))) = NoStart
check_at (suc (suc (suc (suc zero)))) = OpenError
check_at (suc (suc (suc (suc (suc zero))))) = BadStep
check_at (suc (suc (suc (suc (suc (suc n)))))) = MissingStep

check_of_turn : (c : RejectCause) → check_at (turn c) ≡ c
unfolding check_at
check_of_turn BadTriple = refl
check_of_turn NoStart = refl
check_of_turn OpenError = refl
check_of_turn MissingStep = refl
check_of_turn BadStep = refl
check_of_turn BadName = refl

pub same_turn : (c d : RejectCause) → turn c ≡ turn d → c ≡ d
same_turn c d e = sym (check_of_turn c) ∙ ap check_at e ∙ check_of_turn d

pub not_below : (m n : ℕ) → (m < n → ⊥) → (n < m → ⊥) → m ≡ n
not_below m n h k = omega arith

first_once : (g : Graph) (w : Content) (count i j : ℕ) (c d : RejectCause) → IsFirst g w i c → IsFirst g w j d → rejected_answer count i c ≡ rejected_answer count j d
first_once g w count i j c d h k =
    let causes : c ≡ d = same_turn c d (not_below (turn c) (turn d) (λ l. h.fails (k.earlier c i l)) (λ l. k.fails (h.earlier d j l))) in
    let mine : IsFirst g w j c = subst (λ (x : RejectCause). IsFirst g w j x) (sym causes) k in
    let items : i ≡ j = not_below i j (λ l. h.fails (mine.before i l)) (λ l. mine.fails (h.before j l)) in
    λ p. rejected_answer count (items p) (causes p)

-- ---- one answer to an annotation

pub same_place : (o : Option ℕ) (j k : ℕ) → o ≡ Some j → o ≡ Some k → j ≡ k
same_place o j k h g = same_Some j k (sym h ∙ g)

pub no_place : (o : Option ℕ) (k : ℕ) → o ≡ None → o ≡ Some k → ⊥
no_place o k h g = none-some k (sym h ∙ g)

annotation_once : (g : Graph) (coarse : List ℕ) (w : Content) (a b : Answer) → ReportsAnnotation g coarse w a → ReportsAnnotation g coarse w b → a ≡ b
annotation_once g coarse w a b (wrong_line j h is) (wrong_line k h' is') = is ∙ ap (λ (n : ℕ). failed_answer (n + 4) BadName) (same_place (first_wrong g coarse w) j k h h') ∙ sym is'
annotation_once g coarse w a b (wrong_line j h is) (missing_line k none h' is') = absurd (no_place (first_wrong g coarse w) j none h)
annotation_once g coarse w a b (wrong_line j h is) (accepted e p is') = absurd (no_place (first_wrong g coarse w) j (letters_compared g coarse w e).0 h)
annotation_once g coarse w a b (wrong_line j h is) (rejected item cause e f is') = absurd (no_place (first_wrong g coarse w) j (letters_compared g coarse w e).0 h)
annotation_once g coarse w a b (missing_line j none h is) (wrong_line k h' is') = absurd (no_place (first_wrong g coarse w) k none h')
annotation_once g coarse w a b (missing_line j none h is) (missing_line k none' h' is') =
    is ∙ ap (λ (n : ℕ). rejected_answer (length coarse) (first_triple w + n) BadName) (same_place (first_missing g coarse w) j k h h') ∙ sym is'
annotation_once g coarse w a b (missing_line j none h is) (accepted e p is') = absurd (no_place (first_missing g coarse w) j (letters_compared g coarse w e).1 h)
annotation_once g coarse w a b (missing_line j none h is) (rejected item cause e f is') = absurd (no_place (first_missing g coarse w) j (letters_compared g coarse w e).1 h)
annotation_once g coarse w a b (accepted e p is) (wrong_line k h is') = absurd (no_place (first_wrong g coarse w) k (letters_compared g coarse w e).0 h)
annotation_once g coarse w a b (accepted e p is) (missing_line k none h is') = absurd (no_place (first_missing g coarse w) k (letters_compared g coarse w e).1 h)
annotation_once g coarse w a b (accepted e p is) (accepted e' p' is') = is ∙ sym is'
annotation_once g coarse w a b (accepted e p is) (rejected item cause e' f is') = absurd (proved_no_first g w item cause p f)
annotation_once g coarse w a b (rejected item cause e f is) (wrong_line k h is') = absurd (no_place (first_wrong g coarse w) k (letters_compared g coarse w e).0 h)
annotation_once g coarse w a b (rejected item cause e f is) (missing_line k none h is') = absurd (no_place (first_missing g coarse w) k (letters_compared g coarse w e).1 h)
annotation_once g coarse w a b (rejected item cause e f is) (accepted e' p is') = absurd (proved_no_first g w item cause p f)
annotation_once g coarse w a b (rejected item cause e f is) (rejected other reason e' k is') = is ∙ first_once g w (length coarse) item other cause reason f k ∙ sym is'

-- ---- one answer

pub fits_in_memory : (x coarse : List ℕ) (v : Content) (s : IsSafeText x coarse v) → length x ≤ second_limit → length (safe_text s.rounds coarse v) < 2 ^ 64
fits_in_memory x coarse v s l = let same : length x ≡ length (safe_text s.rounds coarse v) = ap (λ (bytes : List ℕ). length bytes) s.spelled in omega arith

-- a text is the `safe` text of one annotation at most, with the same coarse letters
pub one_content : (x c d : List ℕ) (v w : Content) → length x ≤ second_limit → IsSafeText x c v → IsSafeText x d w → (c ≡ d) × (v ≡ w)
one_content x c d v w l s r =
    let one = one_annotation s.rounds r.rounds c d v w s.small r.small s.short r.short s.lines r.lines (fits_in_memory x c v s l) (sym s.spelled ∙ r.spelled) in
    (one.1, one.2)

-- and has no wrong line
pub wrong_or_not : (x coarse : List ℕ) (line : ℕ) (v : Content) → length x ≤ second_limit → IsSafeText x coarse v → FirstWrongOfText (lines_of x) line → ⊥
wrong_or_not x coarse line v l s wrong =
    let text : List ℕ = safe_text s.rounds coarse v in
    spelled_not_wrong text (body_text v) s.rounds coarse line v s.small s.short (spelled_header s.rounds coarse v s.small s.short)
    (spelled_completes v s.lines (body_fits text s.rounds coarse v (length text) refl refl (fits_in_memory x coarse v s l)))
    (subst (λ (bytes : List ℕ). FirstWrongOfText (lines_of bytes) line) s.spelled wrong)

pub proof_once : (g : Graph) (x : List ℕ) (a b : Answer) → length x ≤ second_limit → ReportsProof g x a → ReportsProof g x b → a ≡ b
proof_once g x a b l (no_annotation line wrong is) (no_annotation other wrong' is') = is ∙ ap syntax_answer (one_first_wrong (lines_of x) line other wrong wrong') ∙ sym is'
proof_once g x a b l (no_annotation line wrong is) (of_annotation d w r k) = absurd (wrong_or_not x d line w l r wrong)
proof_once g x a b l (of_annotation c v s h) (no_annotation line wrong is) = absurd (wrong_or_not x c line v l s wrong)
proof_once g x a b l (of_annotation c v s h) (of_annotation d w r k) =
    let one = one_content x c d v w l s r in
    let letters : ReportsAnnotation g c w b = subst (λ (ns : List ℕ). ReportsAnnotation g ns w b) (sym one.0) k in
    annotation_once g c v a b h (subst (λ (u : Content). ReportsAnnotation g c u b) (sym one.1) letters)
