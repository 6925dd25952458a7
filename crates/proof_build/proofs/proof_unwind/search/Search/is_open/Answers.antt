use Rattle.std.proofs.Common.{◌≡◌, ◌↔◌, ℕ, Bool, true, false, not, List, IsTrue, sym, subst, refl}
use Rattle.std.proofs.lemmas.Bool.{false≢true}
use Rattle.nwa_base.specs.Members.{Member}
use Rattle.nwa_base.proofs.MemberLemmas.{any_number}
use Rattle.proof_names.specs.Outlines.{OutlineNode}
use Rattle.proof_check.specs.Steps.{IsOpen}
use Rattle.proof_build.specs.ProofUnwind.Spots.{plain}
use Rattle.proof_build.proofs.ProofUnwind.SpotLaws.{spot_there}
use Rattle.proof_build.proofs.proof_unwind.search.Search.is_open.Goals as goal

open_test : (x : OutlineNode) (b : Bool) → ((b ≡ true) ↔ Member x.preds 1) → IsTrue (not b) ↔ IsOpen x
open_test x true e = (λ h. absurd (false≢true h), λ o. absurd (o (e.0 refl)))
open_test x false e = (λ h m. false≢true (e.1 m), λ o. refl)

pub returns : goal.returns
returns c =
    subst (λ (x : OutlineNode). IsTrue (not c.contains.result) ↔ IsOpen x) (sym (spot_there c.args.self.now.spots.items c.args.number c.index.result.now c.requires c.index.ensures))
    (open_test (plain c.index.result.now) c.contains.result
    (subst (λ (l : List ℕ). (c.contains.result ≡ true) ↔ Member l 1) c.deref.ensures.value (any_number c.deref.result.now 1 c.contains.result c.contains.ensures.value)))
