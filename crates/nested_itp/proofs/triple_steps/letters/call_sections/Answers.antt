use Rattle.std.proofs.Common.{◌≡◌, ◌+◌, ℕ, [], ◌∷◌, length, map, refl, ap, arith}
use Rattle.std.proofs.lemmas.List.{length-map}
use Rattle.letter_acts.specs.Frames.{globals_of, olds_of}
use Rattle.nested_itp.specs.NestedRefutations.Refutations.{target_tie, opposite_tie}
use Rattle.nested_itp.specs.NestedRefutations.Numbers.{spares, branch_rows}
use Rattle.nested_itp.specs.declared.triple_steps.sections.Section.TheVariants.{Claim}
use Rattle.nested_itp.specs.TripleSteps.Sections.{call_counts}
use Rattle.nested_itp.proofs.TripleSteps.RoleLaws.{first_section, then_section}
use Rattle.nested_itp.proofs.TripleSteps.GapLaws.{spares_counted, rows_counted, either_counted, first_stands, claim_stands, rows_stand, all_stand}
use Rattle.nested_itp.proofs.TripleSteps.JoinLaws.{then_two, then_three, three_counted}
use Rattle.nested_itp.proofs.triple_steps.letters.call_sections.Goals as goal

pub returns-clause-roles : goal.returns-clause-roles
returns-clause-roles c = λ g w t v.
    let one = first_section g w t v c.new-sections.result.items c.push.new.self.items (Claim 0) c.new-sections.ensures.items c.in_ok-push.ensures.items in
    let two = then_three _ _ _ _ _ _ one (c.in_ok-tie_call.ensures.roles g w t v) in
    let three = then_section g w t v _ _ c.tie_call.new.sections.items c.push-2.new.self.items (Claim 1) c.in_ok-push-2.ensures.items refl two in
    then_two _ _ _ _ _ three (c.in_ok-add_call_bounds.ensures.roles g w t v)

pub returns-clause-stand : goal.returns-clause-stand
returns-clause-stand c =
    let callee = c.args.callee.now in
    let rows = c.args.rows in
    let r = c.args.reading.now in
    let globals : ℕ = length (globals_of callee) in
    let olds : ℕ = length (olds_of callee) in
    let start = first_stands c.new-sections.result.items c.new-sections.ensures.items in
    let one = claim_stands c.new-sections.result.items c.push.new.self.items _ _ _ 0 c.in_ok-push.ensures.items start in
    let two = rows_stand c.push.new.self.items c.tie_call.new.sections.items _ _ _ (globals + olds + rows) _ c.in_ok-tie_call.ensures
    (three_counted _ _ _ globals olds rows (length-map (globals_of callee) target_tie)
    (either_counted c.args.returns (map (λ (o : ℕ × ℕ). opposite_tie o.1) (olds_of callee)) (branch_rows (r.rows + rows) olds) olds (length-map (olds_of callee) (λ (o : ℕ × ℕ). opposite_tie o.1))
    (rows_counted (r.rows + rows) olds))
    (either_counted c.args.returns (spares rows) (branch_rows r.rows rows) rows (spares_counted rows) (rows_counted r.rows rows))) one in
    let three = claim_stands c.tie_call.new.sections.items c.push-2.new.self.items _ _ _ 1 c.in_ok-push-2.ensures.items two in
    let last = rows_stand c.push-2.new.self.items c.add_call_bounds.new.sections.items _ _ _ _ _ c.in_ok-add_call_bounds.ensures refl three in
    all_stand c.add_call_bounds.new.sections.items _ _ (call_counts callee rows) _
    (ap (λ (n : ℕ). 0 ∷ n ∷ []) (let e : 0 + (globals + olds + rows) ≡ globals + olds + rows = omega arith in e)) last
