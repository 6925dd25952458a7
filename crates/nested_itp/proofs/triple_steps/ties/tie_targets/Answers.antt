use Rattle.std.proofs.Common.{ℕ, refl}
use Rattle.nested_itp.specs.declared.triple_steps.sections.Tie.TheVariants.{Target}
use Rattle.nested_itp.specs.declared.triple_steps.sections.Section.{Section}
use Rattle.nested_itp.specs.declared.triple_steps.sections.Section.TheVariants.{Tie}
use Rattle.nested_itp.proofs.TripleSteps.ColumnLaws.{mapped_next, mapped_done}
use Rattle.nested_itp.proofs.triple_steps.ties.tie_targets.Goals as goal

pub loop-i-preserved : goal.loop-i-preserved
loop-i-preserved c =
    mapped_next (λ (x : ℕ). let s : Section = Tie (Target x) in s) c.args.columns.now c.loop-i.i 0 c.args.sections.now.items c.loop-i.sections.items c.push.new.self.items _ c.loop-i-test.true
    c.loop-i.invariant c.in_ok-push.ensures.items refl

pub returns : goal.returns
returns c = mapped_done (λ (x : ℕ). let s : Section = Tie (Target x) in s) c.args.columns.now c.loop-i.i c.args.sections.now.items c.loop-i.sections.items c.loop-i-test.false c.loop-i.invariant
