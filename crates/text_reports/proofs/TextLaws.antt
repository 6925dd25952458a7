-- What functions on texts owe, over plain values.
use Rattle.std.proofs.Common.{◌≡◌, ℕ, ◌<◌, ◌≤◌, List, [], length, Option, None, Some, Err, ap, refl, sym, subst, arith}
use Rattle.std.specs.Prelude.{◌≢◌, Result, Ok, IfOk, IfSome, IsSome}
use Rattle.std.specs.declared.alloc.AllocError.{AllocError}
use Rattle.outer_io.specs.Texts.{text_named}
use Rattle.boogie_tree.specs.Tree.{Declaration}
use Rattle.boogie_tree.specs.Printing.{program_text}
use Rattle.boogie_parse.specs.declared.fault.Fault.{Fault}
use Rattle.boogie_parse.specs.declared.fault.Fault.TheVariants as faults
use Rattle.boogie_parse.specs.Rules.GrammarLimits.{IsProgram}
use Rattle.boogie_parse.specs.Rules.WholeText.{read_text}
use Rattle.typed_tree.specs.TypedTree.{TypedProgram}
use Rattle.letter_acts.specs.Invariant.{Graph}
use Rattle.proof_form.specs.Annotations.{Content}
use Rattle.proof_check.specs.declared.rejects.RejectCause.{RejectCause}
use Rattle.text_reports.specs.declared.answers.TextAnswer as code
use Rattle.text_reports.specs.declared.answers.TextAnswer.TheVariants.{TooLong, Refused, IllTyped, TooWide, TooBig, Printed, Syntax, Accepted, Rejected, Replayed, Stopped}
use Rattle.text_reports.specs.Refusals.{refusal}
use Rattle.text_reports.specs.ReportTexts.{Answer, answer, too_long_answer}
use Rattle.text_reports.specs.ReportCases.{program_limit, second_limit, no_program, ReportsPrint, refused_print, printed, RefusesTyped, IsTypedText, refused, of_typed, ReportsSecond, second_too_long, of_second, FailsOnLine, ReportsFailure, ReportsReplay}
use Rattle.text_reports.specs.Answers.{answer_of, IsGraphOf, HasNoErrorWord, TextIsSafe, IsRejected, IsJudged}
use Rattle.text_reports.proofs.TypedTexts.{one_typed}
use Rattle.text_reports.proofs.SafetyLaws.{graph_is_safe}

abbrev Texts : Type 0
Texts = List (List ℕ × List ℕ)

-- ---- what is so of every answer to a text

pub closes_no_race : (a : code.TextAnswer) → (answer_of a).races ≡ []
closes_no_race TooLong = refl
closes_no_race (Refused f) = refl
closes_no_race (IllTyped f) = refl
closes_no_race (TooWide at) = refl
closes_no_race (TooBig at) = refl
closes_no_race (Printed text) = refl
closes_no_race (Syntax line) = refl
closes_no_race Accepted = refl
closes_no_race (Rejected line cause) = refl
closes_no_race (Replayed id) = refl
closes_no_race (Stopped step cause) = refl

-- 4 is the status of faulty words, and the greater ones are those of a failed call on the outside and of want of memory
pub below_four : (a : code.TextAnswer) → (answer_of a).status < 4
below_four TooLong = omega arith
below_four (Refused f) = omega arith
below_four (IllTyped f) = omega arith
below_four (TooWide at) = omega arith
below_four (TooBig at) = omega arith
below_four (Printed text) = omega arith
below_four (Syntax line) = omega arith
below_four Accepted = omega arith
below_four (Rejected line cause) = omega arith
below_four (Replayed id) = omega arith
below_four (Stopped step cause) = omega arith

-- ---- what is answered to a program text

-- the text is no program
fault_printed : (text : List ℕ) (f : Fault) (a : Answer) → length text ≤ program_limit → read_text text ≡ Err f → a ≡ answer (refusal f) 3 → ReportsPrint text a
fault_printed text f a l e is = refused_print (no_program f l e is)

-- and this is what the code answered to its fault
pub fault_answered : (text : List ℕ) (f : Fault) (r : Result code.TextAnswer AllocError) → length text ≤ program_limit → (f ≢ faults.Memory → read_text text ≡ Err f) →
    IfOk r (λ a. answer_of a ≡ answer (refusal f) 3) → IfOk r (λ a. f ≢ faults.Memory) → IfOk r (λ a. ReportsPrint text (answer_of a))
fault_answered text f (Ok a) l read is no_memory = fault_printed text f (answer_of a) l (read no_memory) is
fault_answered text f (Err e) l read is no_memory = tt

-- the text is a program
pub program_printed : (text out : List ℕ) (ds : List Declaration) → length text ≤ program_limit → IsProgram text ds → out ≡ program_text ds → ReportsPrint text (answer out 0)
program_printed text out ds l w is = printed ds l w (ap (λ (bytes : List ℕ). answer bytes 0) is)

-- where the graph has no error word, the program of the text is safe
pub text_is_safe : (entry : List ℕ) (text : List ℕ) (t : TypedProgram) (g : Graph) → IsTypedText entry text t → IsGraphOf t g → HasNoErrorWord g → TextIsSafe entry text
text_is_safe entry text t g w h none = λ u k. graph_is_safe u g (subst (λ (v : TypedProgram). IsGraphOf v g) (sym (one_typed entry text t u w k)) h) none

-- ---- what is answered to a second text

-- it is past its limit
pub second_refused : (name : List ℕ) (to_text : List ℕ → Answer → Type 0) (texts : Option Texts) →
    IfSome texts (λ shown. IsSome (text_named name shown) × IfSome (text_named name shown) (λ text. second_limit < length text)) →
    IfSome texts (λ shown. ReportsSecond (text_named name shown) to_text too_long_answer)
second_refused name to_text None h = tt
second_refused name to_text (Some shown) h = by_text (text_named name shown) refl h.0 h.1
  where
    by_text : (found : Option (List ℕ)) → text_named name shown ≡ found → IsSome found → IfSome found (λ text. second_limit < length text) →
        ReportsSecond (text_named name shown) to_text too_long_answer
    by_text None e some past = cc
    by_text (Some text) e some past = second_too_long text e past refl

-- it is read, and gets this answer
pub second_answered : (name text : List ℕ) (to_text : List ℕ → Answer → Type 0) (a : Answer) (texts : Option Texts) →
    IfSome texts (λ shown. (text_named name shown ≡ Some text) × (length text ≤ second_limit)) → to_text text a →
    IfSome texts (λ shown. ReportsSecond (text_named name shown) to_text a)
second_answered name text to_text a None h r = tt
second_answered name text to_text a (Some shown) h r = of_second text h.0 h.1 r

-- what a wrong coarse line, a triple that lacks its line, or an item that fails says
pub judged_so : (g : Graph) (coarse : List ℕ) (w : Content) (a : code.TextAnswer) (line : ℕ) (cause : RejectCause) → IsRejected line cause a → FailsOnLine g coarse w line cause → IsJudged g coarse w a
judged_so g coarse w a line cause h f = subst (IsJudged g coarse w) (sym h.0) (f, h.1)

-- ---- what is answered to a program text and to a failure

-- the program is refused, whatever the second text
pub refused_replayed : (entry : List ℕ) (program name : List ℕ) (a : Answer) (texts : Option Texts) → RefusesTyped entry program a → IfSome texts (λ shown. ReportsReplay entry program (text_named name shown) a)
refused_replayed entry program name a None h = tt
refused_replayed entry program name a (Some shown) h = refused h

-- it is typed, and this is answered to that and to the second text
pub typed_replayed : (entry program name : List ℕ) (t : TypedProgram) (a : Answer) (texts : Option Texts) → IsTypedText entry program t →
    IfSome texts (λ shown. ReportsSecond (text_named name shown) (ReportsFailure t) a) → IfSome texts (λ shown. ReportsReplay entry program (text_named name shown) a)
typed_replayed entry program name t a None w r = tt
typed_replayed entry program name t a (Some shown) w r = of_typed t w r
