use Rattle.std.proofs.Common.{◌∙◌, arith}
use Rattle.nwa_emptiness.specs.Ties.Seen.{seen}
use Rattle.nwa_emptiness.specs.Ties.Steps.{Joined}
use Rattle.nwa_emptiness.proofs.StepLemmas.{joined_later, joined_earlier, followed_more, followed_all}
use Rattle.nwa_emptiness.proofs.WalkLemmas.{item_of, joint_caller, callers_done}
use Rattle.nwa_emptiness.proofs.stepping.join_callers.Goals as goal

pub join-requires-clause-call : goal.join-requires-clause-call
join-requires-clause-call c =
    joint_caller (seen c.args.search.now) _ _ _ _ _ c.requires.search c.loop-outer.invariant.keeps c.requires.exit
    (item_of _ _ _ _ (c.as_slice-outer-items.ensures.value ∙ c.in_ok-callers.ensures) c.loop-outer-test.true)

pub loop-outer-preserved : goal.loop-outer-preserved
loop-outer-preserved c =
    let a = seen c.args.search.now in
    let r = c.in_ok-join.ensures in
    followed_more a _ _ _ _ _ (λ s i. Joined a s i c.args.exit) c.loop-outer-test.true (λ s t i g h. joined_later a s t _ _ g h) c.loop-outer.invariant r.0
    (joined_earlier a (seen c.loop-outer.search) (seen c.join.new.search) _ _ c.loop-outer.invariant.keeps r.1)

pub returns : goal.returns
returns c =
    let a = seen c.args.search.now in let b = seen c.loop-outer.search in (
      c.loop-outer.invariant.keeps,
      callers_done a b c.args.before c.args.exit _ c.requires.search (c.as_slice-outer-items.ensures.value ∙ c.in_ok-callers.ensures)
          (followed_all a b _ _ (λ s i. Joined a s i c.args.exit) (omega arith) c.loop-outer.invariant),
    )
