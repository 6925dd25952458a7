use Rattle.std.proofs.Common.{List, [], ◌∷◌, ◌++◌, Option, sym, subst}
use Rattle.std.specs.List.{AllByRecursion, AllZip}
use Rattle.letter_acts.specs.Invariant.{alphabet_of}
use Rattle.triple_rows.specs.declared.triples.Triple.{Triple}
use Rattle.triple_rows.specs.Triples.{Agrees}
use Rattle.triple_rows.specs.Proofs.{PlainProof}
use Rattle.hoare_check.specs.Decided.{MayProve}
use Rattle.hoare_check.proofs.PieceLaws.{pairs_append}
use Rattle.hoare_check.proofs.proving.prove_each.Goals as goal

pub loop-triple-preserved : goal.loop-triple-preserved
loop-triple-preserved c =
    let al = alphabet_of c.args.icfg.now in
    let done = c.loop-triple.yielded in
    let t = c.in-Some.triple in
    record {
      agree = (subst (λ (ts : List Triple). AllByRecursion (Agrees al) ts) c.in-Some.ensures.steps.0 c.loop-triple.invariant.agree).1;
      answered = subst (λ (ps : List (Option PlainProof)). AllZip (MayProve al) (done ++ t ∷ []) ps) (sym c.in_ok-push.ensures.items)
          (pairs_append (MayProve al) done (t ∷ []) c.loop-triple.proofs.items (c.in_ok-answer.answer ∷ []) c.loop-triple.invariant.answered (c.in_ok-answer.ensures, tt));
    }
