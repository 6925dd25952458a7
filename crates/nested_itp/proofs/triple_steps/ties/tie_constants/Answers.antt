use Rattle.std.proofs.Common.{◌≡◌, ◌∙◌, ◌++◌, List, ℕ, map, ap}
use Rattle.letter_acts.specs.Frames.{constants_of}
use Rattle.nested_itp.specs.NestedRefutations.Refutations.{source_tie}
use Rattle.nested_itp.specs.declared.triple_steps.sections.Tie.TheVariants.{Source}
use Rattle.nested_itp.specs.declared.triple_steps.sections.Section.{Section}
use Rattle.nested_itp.specs.declared.triple_steps.sections.Section.TheVariants.{Tie}
use Rattle.nested_itp.specs.TripleSteps.Sections.{AddsRoles}
use Rattle.nested_itp.proofs.TripleSteps.RoleLaws.{adds_tied, on_ok}
use Rattle.nested_itp.proofs.triple_steps.ties.tie_constants.Goals as goal

pub returns : goal.returns
returns c =
    let old : List Section = c.args.sections.now.items in
    let new : List Section = c.tie_sources.new.sections.items in
    on_ok (new ≡ old ++ map (λ (x : ℕ). Tie (Source x)) c.deref.result.now) (AddsRoles old new (map source_tie (constants_of c.args.callee.now)))
    (λ e. adds_tied old new (λ (x : ℕ). Source x) (constants_of c.args.callee.now)
    (e ∙ ap (λ (l : List ℕ). old ++ map (λ (x : ℕ). Tie (Source x)) l) (c.deref.ensures.value ∙ c.in_ok-constants.ensures))) c.tie_sources.result c.tie_sources.ensures
