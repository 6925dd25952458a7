use Rattle.automizer_top.proofs.GeneratedProgram.ChainSteps.{link_added, chain_ended}
use Rattle.automizer_top.proofs.generated_program.generating.add_chain.Goals as goal

pub loop-number-preserved : goal.loop-number-preserved
loop-number-preserved c =
    link_added c.loop-number.decls.items c.push.new.self.items c.in_ok-link.field-0 c.args.count c.loop-number.number c.loop-number-test.true c.loop-number.invariant c.in_ok-push.ensures.items c.in_ok-link.ensures

pub returns : goal.returns
returns c = chain_ended c.loop-number.decls.items c.args.count c.loop-number.number c.loop-number-test.false c.loop-number.invariant
