-- What is answered to a program text that is lowered, and to a second text.
use Rattle.std.proofs.Common.{◌≡◌, ℕ, List, Option, None, Some, Result, Ok, Err, subst}
use Rattle.std.specs.Prelude.{IfOk, IfSome, MatchResult}
use Rattle.std.specs.declared.alloc.AllocError.{AllocError}
use Rattle.outer_io.specs.Texts.{text_named}
use Rattle.typed_tree.specs.TypedTree.{TypedProgram}
use Rattle.letter_acts.specs.Invariant.{Graph}
use Rattle.letter_acts.specs.Kept.{Keeps}
use Rattle.text_reports.specs.declared.answers.TextAnswer.{TextAnswer}
use Rattle.text_reports.specs.ReportTexts.{Answer}
use Rattle.text_reports.specs.ReportCases.{IsTypedText, ReportsTyped, refused, of_typed, ReportsLowered, RefusesLowering, unlowered, of_lowered, ReportsSecond}
use Rattle.text_reports.specs.Answers.{answer_of, IsGraphOf, IsGraphOfText, IsRefusedText}
use Rattle.text_reports.proofs.RefusalLaws.{typed_is_three, lowering_is_three}

abbrev Texts : Type 0
Texts = List (List ℕ × List ℕ)

-- the text is refused, whatever is answered to a graph
refused_so : (entry text : List ℕ) (to_graph : Graph → Answer → Type 0) (a : Answer) → IsRefusedText entry text a → ReportsTyped entry text (λ t. ReportsLowered t to_graph) a
refused_so entry text to_graph a (refused r) = refused r
refused_so entry text to_graph a (of_typed t w (unlowered r)) = of_typed t w (unlowered r)
refused_so entry text to_graph a (of_typed t w (of_lowered none never)) = absurd never

pub refused_text_is_three : (entry text : List ℕ) (a : Answer) → IsRefusedText entry text a → a.status ≡ 3
refused_text_is_three entry text a (refused r) = typed_is_three entry text a r
refused_text_is_three entry text a (of_typed t w (unlowered r)) = lowering_is_three t a r
refused_text_is_three entry text a (of_typed t w (of_lowered none never)) = absurd never

module _ (entry program name : List ℕ) (to_text : Graph → List ℕ → Answer → Type 0) where
  -- and so whatever the second text
  pub refused_reported : (a : Answer) (texts : Option Texts) → IsRefusedText entry program a →
      IfSome texts (λ shown. ReportsTyped entry program (λ t. ReportsLowered t (λ g. ReportsSecond (text_named name shown) (to_text g))) a)
  refused_reported a None r = tt
  refused_reported a (Some shown) r = refused_so entry program (λ g. ReportsSecond (text_named name shown) (to_text g)) a r

  of_graph : (g : Graph) (second : Option (List ℕ)) (a : Answer) → IsGraphOfText entry program g → ReportsSecond second (to_text g) a →
      ReportsTyped entry program (λ t. ReportsLowered t (λ g. ReportsSecond second (to_text g))) a
  of_graph g second a h r =
      of_typed h.meant h.typed (of_lowered h.of_program.fits (subst (λ (x : Graph). ReportsSecond second (to_text x) a) h.of_program.value r))

  -- it has a graph, and this is answered to that and to the second text
  pub graph_reported : {A E : Type 0} (view : A → Answer) (g : Graph) (r : Result A E) (texts : Option Texts) → IsGraphOfText entry program g →
      IfOk r (λ a. IfSome texts (λ shown. ReportsSecond (text_named name shown) (to_text g) (view a))) →
      IfOk r (λ a. IfSome texts (λ shown. ReportsTyped entry program (λ t. ReportsLowered t (λ g. ReportsSecond (text_named name shown) (to_text g))) (view a)))
  graph_reported view g (Err e) texts h r = tt
  graph_reported view g (Ok a) None h r = tt
  graph_reported view g (Ok a) (Some shown) h r = of_graph g (text_named name shown) (view a) h r

-- what is answered to a typed program is answered to its text
pub text_lowered : (entry text : List ℕ) (t : TypedProgram) (r : Result (Result Graph TextAnswer) AllocError) → IsTypedText entry text t →
    IfOk r (λ x. MatchResult x (IsGraphOf t) (λ a. RefusesLowering t (answer_of a))) → IfOk r (λ x. IfOk x Keeps) →
    IfOk r (λ x. MatchResult x (IsGraphOfText entry text) (λ a. IsRefusedText entry text (answer_of a)))
text_lowered entry text t (Err e) w h k = tt
text_lowered entry text t (Ok (Err a)) w h k = of_typed t w (unlowered h)
text_lowered entry text t (Ok (Ok g)) w h k = record { meant = t; typed = w; of_program = h; kept = k }
