use Rattle.std.proofs.Common.{ℕ, List, cond, get_or}
use Rattle.nwa_base.specs.declared.letters.Letter.{Letter}
use Rattle.nwa_base.specs.Members.{Member}
use Rattle.proof_build.proofs.NeedLaws.{not_so, none_more, item_among}
use Rattle.proof_build.proofs.needs.source.Goals as goal

pub returns-then-leads-2 : goal.returns-then-leads-2
returns-then-leads-2 c = (c.leads-in-loop-source.ensures.0 c.if-leads-2.true, item_among c.args.before.now c.loop-source.source-index c.loop-source-test.true)

pub loop-source-preserved : goal.loop-source-preserved
loop-source-preserved c =
    let edges : List (ℕ × Letter × ℕ) = cond c.args.is_call c.args.union.now.calls c.args.union.now.insides in
    none_more (λ (q : ℕ). Member edges (q, c.args.letter, c.args.target)) c.args.before.now c.loop-source.source-index c.loop-source-test.true c.loop-source.invariant
    (not_so c.leads-in-loop-source.result (Member edges (get_or c.args.before.now c.loop-source.source-index 0, c.args.letter, c.args.target)) c.leads-in-loop-source.ensures c.if-leads-2.false)
