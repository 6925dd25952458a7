use Rattle.std.proofs.Common.{ℕ, sym, subst}
use Rattle.std.proofs.lemmas.Result.{on_ok_weaker}
use Rattle.nwa_emptiness.specs.Ties.Seen.{seen}
use Rattle.nwa_emptiness.specs.Ties.Search.{Keeps}
use Rattle.nwa_emptiness.specs.Ties.Steps.{IsJoint, Joined}
use Rattle.nwa_emptiness.proofs.WalkLemmas.{joined_at}
use Rattle.nwa_emptiness.proofs.stepping.join.Goals as goal

pub follow_returns-requires-clause-outer : goal.follow_returns-requires-clause-outer
follow_returns-requires-clause-outer c = c.in-Some-Some.ensures.point.0

pub follow_returns-requires-clause-exit : goal.follow_returns-requires-clause-exit
follow_returns-requires-clause-exit c = c.in-Some-Some.ensures'.point.0

pub follow_returns-requires-clause-call : goal.follow_returns-requires-clause-call
follow_returns-requires-clause-call c =
    let s = seen c.args.search.now in
    subst (λ (i : ℕ). IsJoint s i c.args.call c.in-Some-Some.exit.place) (sym c.in-Some-Some.ensures.point.1)
    (subst (λ (j : ℕ). IsJoint s c.args.outer c.args.call j) (sym c.in-Some-Some.ensures'.point.1) c.requires.call)

pub returns : goal.returns
returns c =
    let a = seen c.args.search.now in
    let b = seen c.follow_returns.new.search in
    on_ok_weaker c.follow_returns.result
    (λ (h : Keeps a b × Joined a b c.in-Some-Some.outer.place c.in-Some-Some.exit.place).
    (h.0, joined_at a b _ _ _ _ c.in-Some-Some.ensures.point.1 c.in-Some-Some.ensures'.point.1 h.1))
    c.follow_returns.ensures
