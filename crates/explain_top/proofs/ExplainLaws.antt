-- What functions on annotations owe, over plain values.
use Rattle.std.proofs.Common.{◌≡◌, ℕ, ◌≤◌, Bool, true, List, length, Option, None, Some, Result, Ok, Err, ap, sym, subst, ◌∙◌, arith}
use Rattle.std.specs.Prelude.{IfOk, IfSome, codes, if◌then◌else◌, nat_eq}
use Rattle.std.specs.List.{starts_with}
use Rattle.std.proofs.lemmas.Option.{none-some, same_Some}
use Rattle.outer_io.specs.Texts.{text_named}
use Rattle.typed_tree.specs.TypedTree.{TypedProgram}
use Rattle.letter_acts.specs.Invariant.{Graph}
use Rattle.proof_form.specs.Annotations.{Content}
use Rattle.proof_names.specs.CoarseLines.CoarseLetters.{coarse_letters, first_wrong, first_missing}
use Rattle.proof_names.proofs.CoarseLines.ToldLaws.{letters_compared}
use Rattle.proof_check.specs.Proves.{Proves}
use Rattle.text_reports.specs.ReportTexts.{Answer}
use Rattle.text_reports.specs.ReportCases.{second_limit, IsTypedText, RefusesTyped, RefusesLowering, refused, of_typed, unlowered, of_lowered, ReportsSecond, ReportsAnnotation, wrong_line, missing_line, accepted, rejected}
use Rattle.text_reports.specs.Answers.{IsGraphOf}
use Rattle.explain_top.specs.Report.{ExplainsAnnotation, not_accepted, Kind, OfFailure, OfTrace, OfProof, kind_of, Explains, ReportsExplain}

pub one_is_not_zero : (a : Answer) → a.status ≡ 1 → a.status ≡ 0 → ⊥
one_is_not_zero a one zero = omega (arith, one, zero)

-- an annotation that does not prove the graph, or has other coarse lines, is answered with another status than 0
pub refused_is_not_zero : (g : Graph) (coarse : List ℕ) (w : Content) (a : Answer) → ReportsAnnotation g coarse w a →
    (coarse ≡ coarse_letters g w → Proves g w → ⊥) → a.status ≡ 0 → ⊥
refused_is_not_zero g coarse w a (wrong_line place e is) none = one_is_not_zero a (ap (λ (b : Answer). b.status) is)
refused_is_not_zero g coarse w a (missing_line place e f is) none = one_is_not_zero a (ap (λ (b : Answer). b.status) is)
refused_is_not_zero g coarse w a (accepted e p is) none = absurd (none e p)
refused_is_not_zero g coarse w a (rejected item cause e first is) none = one_is_not_zero a (ap (λ (b : Answer). b.status) is)

-- and this is what it is answered
pub told_as_checked : (program : List ℕ) (t : TypedProgram) (g : Graph) (coarse : List ℕ) (w : Content) (a : Answer) → ReportsAnnotation g coarse w a →
    (coarse ≡ coarse_letters g w → Proves g w → ⊥) → ExplainsAnnotation program t g coarse w a
told_as_checked program t g coarse w a r none = not_accepted r (λ is. refused_is_not_zero g coarse w a r none (ap (λ (b : Answer). b.status) is))

-- lines of the letters that the triples name are all right, and none is missing
pub line_differs : (g : Graph) (coarse : List ℕ) (w : Content) (place : ℕ) → first_wrong g coarse w ≡ Some place → coarse ≡ coarse_letters g w → ⊥
line_differs g coarse w place h e = none-some place (sym (letters_compared g coarse w e).0 ∙ h)

pub line_is_missing : (g : Graph) (coarse : List ℕ) (w : Content) (place : ℕ) → first_missing g coarse w ≡ Some place → coarse ≡ coarse_letters g w → ⊥
line_is_missing g coarse w place h e = none-some place (sym (letters_compared g coarse w e).1 ∙ h)

-- ---- the kind of a text

-- of a text that does not begin as that of a failure
abbrev other_kind : List ℕ → Kind
other_kind text = if starts_with nat_eq text (codes "unknown ") then OfTrace else OfProof

pub failure_kind : (text : List ℕ) → starts_with nat_eq text (codes "unsafe\n") ≡ true → kind_of text ≡ OfFailure
failure_kind text h = ap (λ (b : Bool). if b then OfFailure else other_kind text) h

abbrev Texts : Type 0
Texts = List (List ℕ × List ℕ)

-- what a status says where the text of that name is this one, and does not begin as that of a failure
abbrev SaysOfProof : List ℕ → List ℕ → ℕ → Type 0 → Option Texts → Type 0
SaysOfProof name told status X texts = IfSome texts (λ shown. text_named name shown ≡ Some told → kind_of told ≡ OfProof → status ≡ 0 → X)

module _ (name told : List ℕ) (status : ℕ) (X : Type 0) where
  -- of the text that was read it was said
  pub said_as_read : (read : List ℕ) (texts : Option Texts) → IfSome texts (λ shown. (text_named name shown ≡ Some read) × (length read ≤ second_limit)) →
      (kind_of read ≡ OfProof → status ≡ 0 → X) → SaysOfProof name told status X texts
  said_as_read read None h s = tt
  said_as_read read (Some shown) h s = λ named kind. s (ap kind_of (same_Some read told (sym h.0 ∙ named)) ∙ kind)

  pub nothing_said : (texts : Option Texts) → (status ≡ 0 → ⊥) → SaysOfProof name told status X texts
  nothing_said None h = tt
  nothing_said (Some shown) h = λ named kind zero. absurd (h zero)

  pub more_said : (Y : Type 0) (texts : Option Texts) → (X → Y) → SaysOfProof name told status X texts → SaysOfProof name told status Y texts
  more_said Y None f s = tt
  more_said Y (Some shown) f s = λ named kind zero. f (s named kind zero)

-- ---- what is answered to a program text

module _ (entry : List ℕ) (all : Bool) (program name : List ℕ) where
  -- it is refused, whatever the second text
  pub refused_explained : (a : Answer) (texts : Option Texts) → RefusesTyped entry program a → IfSome texts (λ shown. ReportsExplain entry all program (text_named name shown) a)
  refused_explained a None r = tt
  refused_explained a (Some shown) r = refused r

  pub unlowered_explained : (t : TypedProgram) (a : Answer) (texts : Option Texts) → IsTypedText entry program t → RefusesLowering t a →
      IfSome texts (λ shown. ReportsExplain entry all program (text_named name shown) a)
  unlowered_explained t a None w r = tt
  unlowered_explained t a (Some shown) w r = of_typed t w (unlowered r)

  -- it has a graph, and this is answered to that and to the second text
  pub lowered_explained : {A E : Type 0} (view : A → Answer) (t : TypedProgram) (g : Graph) (r : Result A E) (texts : Option Texts) → IsTypedText entry program t → IsGraphOf t g →
      IfOk r (λ a. IfSome texts (λ shown. ReportsSecond (text_named name shown) (λ text. Explains (kind_of text) program all t g text) (view a))) →
      IfOk r (λ a. IfSome texts (λ shown. ReportsExplain entry all program (text_named name shown) (view a)))
  lowered_explained view t g (Err e) texts w h r = tt
  lowered_explained view t g (Ok a) None w h r = tt
  lowered_explained view t g (Ok a) (Some shown) w h r =
      of_typed t w (of_lowered h.fits (subst (λ (x : Graph). ReportsSecond (text_named name shown) (λ text. Explains (kind_of text) program all t x text) (view a)) h.value r))
