-- A text means one typed program at most, where runs begin at one procedure.
use Rattle.std.proofs.Common.{◌≡◌, ℕ, List, ap, sym, ◌∙◌}
use Rattle.std.proofs.lemmas.Option.{same_Some}
use Rattle.boogie_tree.specs.Tree.{Declaration}
use Rattle.boogie_parse.proofs.Rules.WholeText.{one_program}
use Rattle.typed_tree.specs.TypedTree.{TypedProgram}
use Rattle.boogie_types.specs.Resolved.{resolved_program}
use Rattle.text_reports.specs.ReportCases.{IsTypedText}

pub one_typed : (entry text : List ℕ) (t u : TypedProgram) → IsTypedText entry text t → IsTypedText entry text u → u ≡ t
one_typed entry text t u h k =
    same_Some u t (sym k.typed ∙ ap (λ (ds : List Declaration). resolved_program ds entry) (one_program text k.tree h.tree k.spelled h.spelled) ∙ h.typed)
