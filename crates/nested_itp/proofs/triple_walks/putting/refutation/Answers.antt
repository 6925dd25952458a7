use Rattle.std.proofs.Common.{◌≡◌, ◌∙◌, List, refl, sym, subst}
use Rattle.std.proofs.lemmas.Result.{IfOk-weaker}
use Rattle.nested_itp.specs.NestedPredicates.Stamps.{stamps_of}
use Rattle.nested_itp.specs.NestedPredicates.Positions.{positions_of}
use Rattle.nested_itp.specs.NestedPredicates.Sums.{root_of}
use Rattle.farkas_check.specs.Nodes.{plain_nodes}
use Rattle.nested_itp.specs.TripleWalks.Claims.{AreClaims}
use Rattle.nested_itp.specs.TripleWalks.Putting.{IsLaid}
use Rattle.nested_itp.specs.declared.triple_walks.claims.Claim as claims
use Rattle.nested_itp.proofs.TripleWalks.PuttingLaws.{step_led, step_there, step_laid}
use Rattle.nested_itp.proofs.triple_walks.putting.refutation.Goals as goal

pub returns : goal.returns
returns c = IfOk-weaker c.put_for.result _ _
    (λ f. λ r. λ g w t s tree step waits e.
    r g w t s (step_led g w t s c.args.step.now _ step refl refl)
    (step_there g w t s c.args.step.now (plain_nodes c.args.nodes.now) c.args.tree.now c.as_slice.result.now c.args.rows step tree
    (subst (λ (l : List claims.Claim). AreClaims (stamps_of g w).columns (positions_of g w) (root_of g w) t s.view.claims l) (sym c.as_slice.ensures.value)
    (c.in_ok-claims.ensures g w t s (plain_nodes c.args.nodes.now) tree step)) e)
    (subst (IsLaid g w t s) (sym c.as_slice-2.ensures.value) (step_laid g w t s c.args.step.now step)) waits) c.put_for.ensures
