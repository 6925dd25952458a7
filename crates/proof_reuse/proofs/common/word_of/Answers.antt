use Rattle.std.proofs.Common.{◌∙◌, sym, subst}
use Rattle.std.proofs.lemmas.Bool.{false≢true}
use Rattle.nwa_emptiness.specs.Found.{IsFound}
use Rattle.proof_reuse.proofs.common.word_of.Goals as goal

pub unreachable-requires : goal.unreachable-requires
unreachable-requires c =
    let found = subst (IsFound c.args.both.now) c.in-Word.is c.in_ok-word.ensures in
    c.requires c.in-Word.word found (λ k. false≢true (sym c.if-not-branch.true ∙ c.in_ok-accepts-in-Word.ensures.accepts.1 k))

pub returns-else-not-branch : goal.returns-else-not-branch
returns-else-not-branch c =
    let found = subst (IsFound c.args.both.now) c.in-Word.is c.in_ok-word.ensures in
    (found, c.in_ok-accepts-in-Word.ensures.accepts.0 c.if-not-branch.false)

pub returns-in-Empty : goal.returns-in-Empty
returns-in-Empty c = subst (IsFound c.args.both.now) c.in-Empty.is c.in_ok-word.ensures
