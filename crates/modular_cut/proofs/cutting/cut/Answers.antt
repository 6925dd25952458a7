use Rattle.std.proofs.Common.{◌≡◌, ◌∙◌, sym, subst}
use Rattle.typed_tree.specs.TypingRules.TypedParts.{typed_program}
use Rattle.modular_cut.specs.FreeConditions.{free_spans, IsFirstFree}
use Rattle.modular_cut.proofs.Earliest.{first_free_is, none_free_is}
use Rattle.modular_cut.proofs.cutting.cut.Goals as goal

pub returns-in_err-parts_of-in-None-clause-memory : goal.returns-in_err-parts_of-in-None-clause-memory
returns-in_err-parts_of-in-None-clause-memory c e = none_free_is (free_spans (typed_program c.args.program.now)) (sym c.first_free.ensures ∙ c.in-None.is)

pub returns-in-Some-clause-free : goal.returns-in-Some-clause-free
returns-in-Some-clause-free c at e =
    let same : c.in-Some.at ≡ at = cc in
    subst (IsFirstFree (typed_program c.args.program.now)) same (first_free_is (typed_program c.args.program.now) c.in-Some.at (sym c.first_free.ensures ∙ c.in-Some.is))

pub returns-in_ok-parts_of-in-None-clause-none_free : goal.returns-in_ok-parts_of-in-None-clause-none_free
returns-in_ok-parts_of-in-None-clause-none_free c = none_free_is (free_spans (typed_program c.args.program.now)) (sym c.first_free.ensures ∙ c.in-None.is)
