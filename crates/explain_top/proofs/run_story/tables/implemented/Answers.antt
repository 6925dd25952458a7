use Rattle.std.proofs.Common.{◌∙◌, Option, ap}
use Rattle.std.specs.Prelude.{option_and_then}
use Rattle.boogie_tree.specs.Tree.{Procedure}
use Rattle.boogie_types.specs.Sorted.{body_locals}
use Rattle.explain_top.proofs.RunStory.TableLemmas.{seen}
use Rattle.explain_top.proofs.run_story.tables.implemented.Goals as goal

pub returns-in-Some : goal.returns-in-Some
returns-in-Some c = λ is has.
    c.declared_in.ensures ∙ ap (λ (o : Option Procedure). body_locals (option_and_then (λ i. i.body) o)) (ap seen c.in-Some.ensures.value ∙ has c.args.name.now)
