use Rattle.std.proofs.Common.{◌∙◌, ℕ, List, [], ◌∷◌, ◌++◌, ap, subst}
use Rattle.nwa_base.specs.Members.{Member}
use Rattle.nwa_base.proofs.MemberLemmas.{any_number}
use Rattle.proof_build.proofs.ProofUnwind.FollowingLaws.{false_chosen}
use Rattle.proof_build.proofs.proof_unwind.following.chosen.Goals as goal

pub returns-then-contains : goal.returns-then-contains
returns-then-contains c =
    let m : Member c.deref.result.now 1 = (any_number c.deref.result.now 1 c.contains.result c.contains.ensures.value).0 c.if-contains.true in
    false_chosen c.args.numbers.items c.push.new.self.items (subst (λ (l : List ℕ). Member l 1) c.deref.ensures.value m)
    (c.in_ok-push.ensures.items ∙ ap (λ (l : List ℕ). l ++ 1 ∷ []) c.new-falsum.ensures.items)
