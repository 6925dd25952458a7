use Rattle.std.proofs.Common.{◌≡◌, ℕ, ◌+◌, List, [], ◌∷◌, length, refl, ap, arith}
use Rattle.std.specs.Prelude.{filter, not}
use Rattle.std.proofs.lemmas.List.{length-map}
use Rattle.letter_acts.specs.Frames.{constants_of, variables_of, result_columns, olds_of}
use Rattle.letter_acts.specs.Reading.{taken, is_listed}
use Rattle.nested_itp.specs.NestedRefutations.Refutations.{target_tie, source_tie}
use Rattle.nested_itp.specs.declared.triple_steps.sections.Section.TheVariants.{Claim}
use Rattle.nested_itp.specs.TripleSteps.Sections.{back_counts}
use Rattle.nested_itp.proofs.TripleSteps.RoleLaws.{first_section, then_section}
use Rattle.nested_itp.proofs.TripleSteps.GapLaws.{rows_counted, first_stands, claim_stands, rows_stand, all_stand}
use Rattle.nested_itp.proofs.TripleSteps.JoinLaws.{then_three, then_five, five_counted}
use Rattle.nested_itp.proofs.triple_steps.letters.back_sections.Goals as goal

pub returns-clause-roles : goal.returns-clause-roles
returns-clause-roles c = λ g w t v.
    let one = first_section g w t v c.new-sections.result.items c.push.new.self.items (Claim 0) c.new-sections.ensures.items c.in_ok-push.ensures.items in
    let two = then_section g w t v _ _ c.push.new.self.items c.push-2.new.self.items (Claim 1) c.in_ok-push-2.ensures.items refl one in
    let three = then_five _ _ _ _ _ _ _ _ two (c.in_ok-tie_back.ensures.roles g w t v) in
    let fourth = then_section g w t v _ _ c.tie_back.new.sections.items c.push-3.new.self.items (Claim 2) c.in_ok-push-3.ensures.items refl three in
    then_three _ _ _ _ _ _ fourth (c.in_ok-add_back_bounds.ensures.roles g w t v)

pub returns-clause-stand : goal.returns-clause-stand
returns-clause-stand c =
    let callee = c.args.callee.now in
    let rows = c.args.rows in
    let kept : List ℕ = filter (λ x. not (is_listed c.args.targets.now x)) (variables_of c.args.caller.now) in
    let results : List (ℕ × ℕ) = taken c.args.targets.now (result_columns callee) in
    let constants : ℕ = length (constants_of callee) in
    let olds : ℕ = length (olds_of callee) in
    let ties : ℕ = constants + olds + rows + length kept + length results in
    let start = first_stands c.new-sections.result.items c.new-sections.ensures.items in
    let one = claim_stands c.new-sections.result.items c.push.new.self.items _ _ _ 0 c.in_ok-push.ensures.items start in
    let two = claim_stands c.push.new.self.items c.push-2.new.self.items _ _ _ 1 c.in_ok-push-2.ensures.items one in
    let three = rows_stand c.push-2.new.self.items c.tie_back.new.sections.items _ _ _ ties _ c.in_ok-tie_back.ensures
    (five_counted _ _ _ _ _ constants olds rows (length kept) (length results) (length-map (constants_of callee) source_tie) (length-map (olds_of callee) (λ (o : ℕ × ℕ). source_tie o.0))
    (rows_counted c.args.call.rows rows) (length-map kept target_tie) (length-map results (λ (p : ℕ × ℕ). target_tie p.0))) two in
    let fourth = claim_stands c.tie_back.new.sections.items c.push-3.new.self.items _ _ _ 2 c.in_ok-push-3.ensures.items three in
    let last = rows_stand c.push-3.new.self.items c.add_back_bounds.new.sections.items _ _ _ _ _ c.in_ok-add_back_bounds.ensures refl fourth in
    all_stand c.add_back_bounds.new.sections.items _ _ (back_counts c.args.caller.now callee c.args.targets.now rows) _
    (ap (λ (n : ℕ). 0 ∷ 0 ∷ n ∷ []) (let e : 0 + ties ≡ ties = omega arith in e)) last
