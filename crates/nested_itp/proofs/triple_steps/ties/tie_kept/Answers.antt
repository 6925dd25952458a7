use Rattle.std.proofs.Common.{◌≡◌, ◌∙◌, ◌++◌, List, ℕ, map, ap}
use Rattle.std.specs.Prelude.{filter, not}
use Rattle.letter_acts.specs.Frames.{variables_of}
use Rattle.letter_acts.specs.Reading.{is_listed}
use Rattle.nested_itp.specs.NestedRefutations.Refutations.{target_tie}
use Rattle.nested_itp.specs.declared.triple_steps.sections.Tie.TheVariants.{Target}
use Rattle.nested_itp.specs.declared.triple_steps.sections.Section.{Section}
use Rattle.nested_itp.specs.declared.triple_steps.sections.Section.TheVariants.{Tie}
use Rattle.nested_itp.specs.TripleSteps.Sections.{AddsRoles}
use Rattle.nested_itp.proofs.TripleSteps.RoleLaws.{adds_tied, on_ok}
use Rattle.nested_itp.proofs.triple_steps.ties.tie_kept.Goals as goal

pub returns : goal.returns
returns c =
    let old : List Section = c.args.sections.now.items in
    let new : List Section = c.tie_targets.new.sections.items in
    let kept : List ℕ = filter (λ x. not (is_listed c.args.targets.now x)) (variables_of c.args.caller.now) in
    on_ok (new ≡ old ++ map (λ (x : ℕ). Tie (Target x)) c.deref-2.result.now) (AddsRoles old new (map target_tie kept))
    (λ e. adds_tied old new (λ (x : ℕ). Target x) kept
    (e ∙ ap (λ (l : List ℕ). old ++ map (λ (x : ℕ). Tie (Target x)) l)
    (c.deref-2.ensures.value ∙ c.in_ok-kept.ensures ∙ ap (λ (l : List ℕ). filter (λ x. not (is_listed c.args.targets.now x)) l) (c.deref.ensures.value ∙ c.in_ok-variables.ensures))))
    c.tie_targets.result c.tie_targets.ensures
