use Rattle.proof_build.proofs.NeedLaws.{none_of}
use Rattle.proof_build.proofs.TripleLaws.{none_inside, none_call, listed_inside, listed_call}
use Rattle.proof_build.proofs.triples.listed.Goals as goal

pub returns-in_default : goal.returns-in_default
returns-in_default c =
    λ n h. none_inside c.args.preds.now c.args.triple.now c.in-Inside.from c.in-Inside.to c.in-Inside.letter n c.in-Inside.is
    (none_of c.in_ok-from-in-Inside.field-0 _ _ c.in_default.is c.in_ok-from-in-Inside.ensures) h

pub returns-in_default-2 : goal.returns-in_default-2
returns-in_default-2 c =
    λ n h. none_call c.args.preds.now c.args.triple.now c.in-Call.from c.in-Call.to c.in-Call.letter n c.in-Call.is
    (none_of c.in_ok-from-in-Call.field-0 _ _ c.in_default-2.is c.in_ok-from-in-Call.ensures) h

pub returns-in-Some : goal.returns-in-Some
returns-in-Some c =
    listed_inside c.args.preds.now c.args.triple.now c.in-Inside.from c.in-Inside.to c.in-Inside.letter c.in_ok-from-in-Inside.field-0 (c.in-Some.from, c.in-Some.to) _
    c.in-Inside.is c.in-Some.is c.in_ok-from-in-Inside.ensures

pub returns-in-Some-2 : goal.returns-in-Some-2
returns-in-Some-2 c =
    listed_call c.args.preds.now c.args.triple.now c.in-Call.from c.in-Call.to c.in-Call.letter c.in_ok-from-in-Call.field-0 (c.in-Some-2.from, c.in-Some-2.to) _
    c.in-Call.is c.in-Some-2.is c.in_ok-from-in-Call.ensures
