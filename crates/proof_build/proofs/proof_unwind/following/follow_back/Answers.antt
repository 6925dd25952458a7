use Rattle.std.proofs.Common.{◌∙◌, ℕ, List, ap}
use Rattle.std.specs.List.{flat_map}
use Rattle.nwa_base.specs.Edges.{back_ends}
use Rattle.proof_build.proofs.ProofUnwind.FollowingLaws.{back_chosen}
use Rattle.proof_build.proofs.proof_unwind.following.follow_back.Goals as goal

pub returns : goal.returns
returns c =
    back_chosen (λ v. v.items) c.args.union.now c.args.letter c.args.exit.now c.args.before.now c.in_ok-exits.exits.items c.in_ok-callers.callers.items c.in_ok-targets.targets.items
    c.chosen.result c.in_ok-exits.ensures c.in_ok-callers.ensures
    (c.in_ok-targets.ensures ∙ ap (flat_map (λ q. flat_map (λ p. back_ends q p c.args.letter c.args.union.now.backs) c.deref-2.result.now)) c.deref.ensures.value
    ∙ ap (λ (l : List ℕ). flat_map (λ q. flat_map (λ p. back_ends q p c.args.letter c.args.union.now.backs) l) c.in_ok-exits.exits.items) c.deref-2.ensures.value) c.chosen.ensures
