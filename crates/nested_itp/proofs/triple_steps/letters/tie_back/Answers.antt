use Rattle.std.proofs.Common.{◌++◌, ℕ, List, map, refl}
use Rattle.std.specs.Prelude.{filter, not}
use Rattle.letter_acts.specs.Frames.{constants_of, variables_of, result_columns, olds_of}
use Rattle.letter_acts.specs.Reading.{taken, is_listed}
use Rattle.nested_itp.specs.NestedRefutations.Refutations.{Role, target_tie, source_tie}
use Rattle.nested_itp.specs.NestedRefutations.Numbers.{branch_rows}
use Rattle.nested_itp.specs.declared.triple_steps.sections.Section.{Section}
use Rattle.nested_itp.specs.declared.triple_steps.sections.Section.TheVariants.{Rows}
use Rattle.nested_itp.specs.TripleSteps.Sections.{AddsRoles}
use Rattle.nested_itp.proofs.TripleSteps.RoleLaws.{adds_section, on_ok}
use Rattle.nested_itp.proofs.TripleSteps.JoinLaws.{adds_both}
use Rattle.nested_itp.proofs.triple_steps.letters.tie_back.Goals as goal

pub returns : goal.returns
returns c =
    let callee = c.args.callee.now in
    let old : List Section = c.args.sections.now.items in
    let one : List Section = c.tie_constants.new.sections.items in
    let two : List Section = c.tie_olds.new.sections.items in
    let three : List Section = c.push.new.self.items in
    let fourth : List Section = c.tie_kept.new.sections.items in
    let new : List Section = c.tie_results.new.sections.items in
    let constants : List Role = map source_tie (constants_of callee) in
    let olds : List Role = map (λ (o : ℕ × ℕ). source_tie o.0) (olds_of callee) in
    let own : List Role = branch_rows c.args.call.rows c.args.rows in
    let kept : List Role = map target_tie (filter (λ x. not (is_listed c.args.targets.now x)) (variables_of c.args.caller.now)) in
    let results : List Role = map (λ (p : ℕ × ℕ). target_tie p.0) (taken c.args.targets.now (result_columns callee)) in
    on_ok (AddsRoles fourth new results) _
    (λ h. adds_both old fourth new (constants ++ olds ++ own ++ kept) results
    (adds_both old three fourth (constants ++ olds ++ own) kept
    (adds_both old two three (constants ++ olds) own
    (adds_both old one two constants olds c.in_ok-tie_constants.ensures c.in_ok-tie_olds.ensures)
    (adds_section two three (Rows c.args.call.rows c.args.rows) own c.in_ok-push.ensures.items refl (λ g w t v. refl)))
    c.in_ok-tie_kept.ensures) h)
    c.tie_results.result c.tie_results.ensures
