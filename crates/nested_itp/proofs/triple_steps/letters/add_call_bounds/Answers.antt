use Rattle.std.proofs.Common.{◌≡◌, ◌∙◌, ◌+◌, ℕ, suc, List, length, ap}
use Rattle.std.specs.Prelude.{if◌then◌else◌}
use Rattle.path_rows.specs.Versions.{local_columns, old_part}
use Rattle.nested_itp.specs.NestedRefutations.Refutations.{Role}
use Rattle.nested_itp.specs.NestedRefutations.Numbers.{spares, bounds_in, before_bounds, callee_bounds}
use Rattle.nested_itp.specs.declared.triple_steps.sections.Section.{Section}
use Rattle.nested_itp.specs.TripleSteps.Sections.{AddsRoles}
use Rattle.nested_itp.proofs.TripleSteps.RoleLaws.{adds_section, on_ok}
use Rattle.nested_itp.proofs.TripleSteps.LetterLaws.{callee_at}
use Rattle.nested_itp.proofs.TripleSteps.JoinLaws.{adds_both}
use Rattle.nested_itp.proofs.triple_steps.letters.add_call_bounds.Goals as goal

pub returns : goal.returns
returns c =
    let old : List Section = c.args.sections.now.items in
    let now : List Section = c.push.new.self.items in
    let new : List Section = c.add_callee_bounds.new.sections.items in
    let caller = c.args.caller.now in
    let callee = c.args.callee.now in
    let r = c.args.reading.now in
    let local_row : ℕ = r.rows + c.args.rows + length (old_part callee) in
    let old_row : ℕ = local_row + bounds_in (local_columns callee) in
    let local : c.in_ok-local.local ≡ local_row =
    c.in_ok-local.ensures ∙ ap (λ (n : ℕ). n + c.old_count.result) c.in_ok-sum.ensures ∙ ap (λ (n : ℕ). r.rows + c.args.rows + n) c.old_count.ensures in
    let older : c.in_ok-old.old ≡ old_row =
    c.in_ok-old.ensures ∙ ap (λ (n : ℕ). n + c.local_bounds.result) local ∙ ap (λ (n : ℕ). local_row + n) c.local_bounds.ensures in
    let before : List Role = if c.args.returns then spares (bounds_in caller) else before_bounds (suc r.letters) caller in
    on_ok (AddsRoles now new (callee_bounds c.in_ok-local.local c.in_ok-old.old callee)) _
    (λ h. adds_both old now new before (callee_bounds local_row old_row callee)
    (adds_section old now c.caller_bounds.result before c.in_ok-push.ensures.items c.caller_bounds.ensures.plain c.caller_bounds.ensures.roles)
    (callee_at callee c.in_ok-local.local local_row c.in_ok-old.old old_row now new local older h))
    c.add_callee_bounds.result c.add_callee_bounds.ensures
