use Rattle.std.proofs.Common.{◌≡◌, ◌∙◌, ℕ, length, sym, ap, Some, rules}
use Rattle.std.proofs.lemmas.List.{length-map}
use Rattle.std.proofs.lemmas.Result.{IfOk-weaker}
use Rattle.nested_itp.specs.declared.triple_steps.sections.Section.TheVariants.{Claim}
use Rattle.nested_itp.specs.TripleWalks.Goals.{plain_goal, role_of}
use Rattle.nested_itp.proofs.TripleWalks.PuttingLaws.{so_far_first, so_far_more, false_found, put_false, put_walked}
use Rattle.nested_itp.proofs.triple_walks.putting.put_for.Goals as goal

pub loop-i-init : goal.loop-i-init
loop-i-init c = λ g w t v led known. so_far_first g w t v c.args.sections.now (plain_goal c.new-goal.result) c.new-goal.ensures

pub loop-i-preserved : goal.loop-i-preserved
loop-i-preserved c = λ g w t v led known.
    so_far_more g w t v c.args.sections.now c.loop-i.i (Claim 0) c.is_false.result (plain_goal c.loop-i.goal) (plain_goal c.add_section.new.goal) c.loop-i-test.true (c.is_false.ensures g w t v known)
    c.if-is_false.false (c.loop-i.invariant g w t v led known) (c.in_ok-add_section.ensures g w t v led known)

pub returns-then-is_false : goal.returns-then-is_false
returns-then-is_false c = IfOk-weaker c.falsity.result _ _
    (λ f. λ e. λ g w t s led there laid waits.
    let counted : c.len.result ≡ length c.loop-i.goal.roles.items = search rules in
    let row : length (plain_goal c.loop-i.goal).roles ≡ c.len.result = length-map c.loop-i.goal.roles.items role_of ∙ sym counted in
    put_false g w t s c.args.sections.now c.len.result _ laid
    (false_found g w t s.view c.args.sections.now c.loop-i.i (Claim 0) c.is_false.result (plain_goal c.loop-i.goal) c.loop-i-test.true (c.is_false.ensures g w t s.view there.known) c.if-is_false.true
    (c.loop-i.invariant g w t s.view led there.known) ∙ ap (λ (n : ℕ). Some n) row) e) c.falsity.ensures

pub returns : goal.returns
returns c = IfOk-weaker c.run.result _ _
    (λ f. λ r. λ g w t s led there laid waits.
    put_walked g w t s c.args.guide.now c.args.sections.now c.loop-i.i (plain_goal c.loop-i.goal) _ led there laid waits c.loop-i-test.false (c.loop-i.invariant g w t s.view led there.known)
    (λ v b z l h e n. r v b z l h e n)) c.run.ensures
