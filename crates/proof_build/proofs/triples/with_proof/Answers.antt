use Rattle.std.proofs.Common.{◌∙◌, [], ◌∷◌, Option, ap, subst}
use Rattle.std.specs.Prelude.{map}
use Rattle.triple_rows.specs.declared.triples.Triple.{Triple}
use Rattle.proof_names.specs.declared.outlines.Listed.{Listed}
use Rattle.proof_names.specs.ProofSpell.Drafts.{plain}
use Rattle.proof_build.specs.Ties.Listing.{AreItsNumbers, IsListedAs}
use Rattle.proof_build.proofs.ListLaws.{map_joined}
use Rattle.proof_build.proofs.TripleLaws.{shows_one, shows_kept, not_first, numbers_more}
use Rattle.proof_build.proofs.triples.with_proof.Goals as goal

pub returns-then-not-branch-clause-shows : goal.returns-then-not-branch-clause-shows
returns-then-not-branch-clause-shows c =
    shows_kept c.args.preds.now c.args.needed.now c.args.proof.now (map plain c.args.triples.items) c.in_ok-listed.field-0
    (subst (λ (t : Triple). AreItsNumbers c.args.preds.now t c.in_ok-listed.field-0) c.triple.ensures.value c.in_ok-listed.ensures)
    (not_first c.args.needed.now c.args.seen.now c.is_first.new.seen (map plain c.args.triples.items) c.in_ok-listed.field-0 c.in-Some.listed c.in_ok-is_first.field-0 c.requires c.in_ok-is_first.ensures
    c.if-not-branch.true c.in-Some.is)

pub returns-clause-shows : goal.returns-clause-shows
returns-clause-shows c =
    shows_one c.args.preds.now c.args.needed.now c.args.proof.now (map plain c.args.triples.items) (map plain c.push.new.self.items)
    (record { listed = c.in-Some.listed; proof = c.refutation.result.now })
    (subst (λ (t : Triple). IsListedAs c.args.preds.now t c.in-Some.listed) c.triple.ensures.value
    (subst (λ (o : Option Listed). AreItsNumbers c.args.preds.now c.triple.result.now o) c.in-Some.is c.in_ok-listed.ensures))
    c.refutation.ensures.value
    (ap (map plain) c.in_ok-push.ensures.items ∙ map_joined plain c.args.triples.items (record { listed = c.in-Some.listed; proof = c.refutation.result } ∷ []))

pub returns-clause-numbers : goal.returns-clause-numbers
returns-clause-numbers c =
    numbers_more c.args.needed.now c.args.seen.now c.is_first.new.seen (map plain c.args.triples.items) (map plain c.push.new.self.items)
    (record { listed = c.in-Some.listed; proof = c.refutation.result.now }) c.in_ok-is_first.field-0 c.requires c.in_ok-is_first.ensures c.if-not-branch.false
    (ap (map plain) c.in_ok-push.ensures.items ∙ map_joined plain c.args.triples.items (record { listed = c.in-Some.listed; proof = c.refutation.result } ∷ []))
