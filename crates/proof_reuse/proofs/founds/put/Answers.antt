use Rattle.std.proofs.Common.{◌≡◌, List, Some, length, subst, arith}
use Rattle.std.specs.Prelude.{slice_get}
use Rattle.triple_rows.specs.declared.triples.Scoped.{Scoped}
use Rattle.proof_reuse.proofs.FoundLaws.{put_there, put_last}
use Rattle.proof_reuse.proofs.founds.put.Goals as goal

pub returns-in-Some : goal.returns-in-Some
returns-in-Some c =
    put_there c.args.preds.now.items c.args.found c.in-Some.place
    (subst (λ (l : List Scoped). slice_get l c.in-Some.place ≡ Some c.args.found) c.deref.ensures.value c.in-Some.ensures.0)

pub returns : goal.returns
returns c =
    let e : c.len-place.result ≡ length c.args.preds.now.items = omega arith in
    put_last c.args.preds.now.items c.push.new.self.items c.args.found c.len-place.result e c.in_ok-push.ensures.items
