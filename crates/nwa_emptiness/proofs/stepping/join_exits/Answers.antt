use Rattle.std.proofs.Common.{◌∙◌, arith}
use Rattle.nwa_emptiness.specs.Ties.Seen.{seen}
use Rattle.nwa_emptiness.specs.Ties.Steps.{Joined}
use Rattle.nwa_emptiness.proofs.StepLemmas.{joined_later, joined_earlier, followed_more, followed_all}
use Rattle.nwa_emptiness.proofs.WalkLemmas.{item_of, joint_exit, exits_done}
use Rattle.nwa_emptiness.proofs.stepping.join_exits.Goals as goal

pub join-requires-clause-call : goal.join-requires-clause-call
join-requires-clause-call c =
    joint_exit (seen c.args.search.now) _ _ _ _ _ c.requires.search c.loop-exit.invariant.keeps c.requires.caller
    (item_of _ _ _ _ (c.as_slice-exit-items.ensures.value ∙ c.in_ok-exits.ensures) c.loop-exit-test.true)

pub loop-exit-preserved : goal.loop-exit-preserved
loop-exit-preserved c =
    let a = seen c.args.search.now in
    let r = c.in_ok-join.ensures in
    followed_more a _ _ _ _ _ (λ s j. Joined a s c.args.outer j) c.loop-exit-test.true (λ s t j g h. joined_later a s t _ _ g h) c.loop-exit.invariant r.0
    (joined_earlier a (seen c.loop-exit.search) (seen c.join.new.search) _ _ c.loop-exit.invariant.keeps r.1)

pub returns : goal.returns
returns c =
    let a = seen c.args.search.now in let b = seen c.loop-exit.search in (
      c.loop-exit.invariant.keeps,
      exits_done a b c.args.outer c.args.entry _ c.requires.search (c.as_slice-exit-items.ensures.value ∙ c.in_ok-exits.ensures)
          (followed_all a b _ _ (λ s j. Joined a s c.args.outer j) (omega arith) c.loop-exit.invariant),
    )
