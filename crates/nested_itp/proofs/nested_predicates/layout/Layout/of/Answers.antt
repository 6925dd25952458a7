use Rattle.std.proofs.Common.{◌∙◌, arith}
use Rattle.letter_acts.specs.Invariant.{alphabet_of}
use Rattle.nested_itp.specs.NestedPredicates.Walking.{AreLetters}
use Rattle.nested_itp.proofs.NestedPredicates.LetterLaws.{accepted_letters, made_layout}
use Rattle.nested_itp.proofs.nested_predicates.layout.Layout.of.Goals as goal

pub of-requires-clause-letters : goal.of-requires-clause-letters
of-requires-clause-letters c =
    accepted_letters c.args.icfg.now c.acts-valid.ensures.valid c.letters-letters.result.now c.args.path.now.word c.requires.accepted (c.letters-letters.ensures.value ∙ c.word.ensures)

pub spots-requires-clause-letters : goal.spots-requires-clause-letters
spots-requires-clause-letters c =
    accepted_letters c.args.icfg.now c.acts-valid.ensures.valid c.letters-letters.result.now c.args.path.now.word c.requires.accepted (c.letters-letters.ensures.value ∙ c.word.ensures)

pub returns : goal.returns
returns c =
    let letters : AreLetters (alphabet_of c.args.icfg.now) c.letters-letters.result.now =
    accepted_letters c.args.icfg.now c.acts-valid.ensures.valid c.letters-letters.result.now c.args.path.now.word c.requires.accepted (c.letters-letters.ensures.value ∙ c.word.ensures) in
    let n = c.if-letters.false in
    made_layout c.args.icfg.now c.letters-letters.result.now c.args.path.now.word _ (c.letters-letters.ensures.value ∙ c.word.ensures)
    (record {
      letters = letters;
      count = omega (arith, n);
      rows = c.in_ok-stamps.ensures.rows;
      columns = c.in_ok-stamps.ensures.columns;
      returned = c.in_ok-returned.ensures;
      spots = c.in_ok-spots.ensures;
    })
