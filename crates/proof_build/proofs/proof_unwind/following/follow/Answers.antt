use Rattle.std.proofs.Common.{◌∙◌, ℕ, List, cond, ap}
use Rattle.std.specs.List.{flat_map}
use Rattle.nwa_base.specs.declared.letters.Letter.{Letter}
use Rattle.nwa_base.specs.Edges.{ends}
use Rattle.proof_build.proofs.ProofUnwind.FollowingLaws.{edge_chosen}
use Rattle.proof_build.proofs.proof_unwind.following.follow.Goals as goal

pub returns : goal.returns
returns c =
    let edges : List (ℕ × Letter × ℕ) = cond c.args.is_call c.args.union.now.calls c.args.union.now.insides in
    edge_chosen (λ v. v.items) edges c.args.letter c.args.preds.now c.in_ok-sources.sources.items c.in_ok-targets.targets.items c.chosen.result c.in_ok-sources.ensures
    (c.in_ok-targets.ensures ∙ ap (flat_map (λ q. ends q c.args.letter edges)) c.deref.ensures.value) c.chosen.ensures
