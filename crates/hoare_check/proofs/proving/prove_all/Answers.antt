use Rattle.std.proofs.Common.{List, Option, sym, subst}
use Rattle.std.specs.List.{AllByRecursion, AllZip}
use Rattle.letter_acts.specs.Invariant.{alphabet_of}
use Rattle.rayon.proofs.ListFacts.{IfOk-then}
use Rattle.triple_rows.specs.declared.triples.Triple.{Triple}
use Rattle.triple_rows.specs.Triples.{Agrees}
use Rattle.triple_rows.specs.Proofs.{PlainProof}
use Rattle.hoare_check.specs.Decided.{MayProve}
use Rattle.hoare_check.proofs.PieceLaws.{all_of, in_pieces, pairs_joined}
use Rattle.hoare_check.proofs.proving.prove_all.Goals as goal

pub prove_pieces-requires-after_bounds : goal.prove_pieces-requires-after_bounds
prove_pieces-requires-after_bounds g c κs within =
    let al = alphabet_of c.args.icfg.now in
    in_pieces (Agrees al) c.in_ok-pieces.pieces.items (subst (λ (ts : List Triple). AllByRecursion (Agrees al) ts) (sym c.in_ok-pieces.ensures) c.requires)

pub returns : goal.returns
returns g c =
    let al = alphabet_of c.args.icfg.now in
    let pieces = c.in_ok-pieces.pieces.items in
    let answers = c.in_ok-answers.answers.items in
    IfOk-then c.joined.result _ _ c.joined.ensures (λ proofs e.
    subst (λ (ps : List (Option PlainProof)). AllZip (MayProve al) c.args.triples.items ps) (sym e)
    (subst (λ (ts : List Triple). AllZip (MayProve al) ts (all_of answers)) c.in_ok-pieces.ensures (pairs_joined (MayProve al) pieces answers c.in_ok-answers.ensures)))
