use Rattle.std.proofs.Common.{◌≡◌, ◌++◌, List, ℕ, map}
use Rattle.letter_acts.specs.Frames.{result_columns}
use Rattle.letter_acts.specs.Reading.{taken}
use Rattle.nested_itp.specs.NestedRefutations.Refutations.{target_tie}
use Rattle.nested_itp.specs.declared.triple_steps.sections.Tie.TheVariants.{Target}
use Rattle.nested_itp.specs.declared.triple_steps.sections.Section.{Section}
use Rattle.nested_itp.specs.declared.triple_steps.sections.Section.TheVariants.{Tie}
use Rattle.nested_itp.specs.TripleSteps.Sections.{AddsRoles}
use Rattle.nested_itp.proofs.TripleSteps.RoleLaws.{adds_tied, adds_same, taken_targets, on_ok}
use Rattle.nested_itp.proofs.triple_steps.ties.tie_results.Goals as goal

pub returns : goal.returns
returns c =
    let old : List Section = c.args.sections.now.items in
    let new : List Section = c.tie_targets.new.sections.items in
    on_ok (new ≡ old ++ map (λ (x : ℕ). Tie (Target x)) c.args.targets.now) (AddsRoles old new (map (λ (p : ℕ × ℕ). target_tie p.0) (taken c.args.targets.now (result_columns c.args.callee.now))))
    (λ e. adds_same old new (map target_tie c.args.targets.now) (map (λ (p : ℕ × ℕ). target_tie p.0) (taken c.args.targets.now (result_columns c.args.callee.now)))
    (taken_targets c.args.caller.now c.args.callee.now c.args.targets.now (result_columns c.args.callee.now) c.requires)
    (adds_tied old new (λ (x : ℕ). Target x) c.args.targets.now e)) c.tie_targets.result c.tie_targets.ensures
