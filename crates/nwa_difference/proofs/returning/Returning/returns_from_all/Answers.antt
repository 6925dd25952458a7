use Rattle.std.proofs.Common.{◌∙◌, refl, sym}
use Rattle.nwa_difference.proofs.CoverLemmas.{known_more}
use Rattle.nwa_difference.proofs.returning.Returning.returns_from_all.Goals as goal

pub returns-then-contains-clause-all : goal.returns-then-contains-clause-all
returns-then-contains-clause-all c = λ yes.
    rw (← c.self.view_is)
    (c.self.invariant c.args.call c.args.state c.args.letter c.args.end (sym c.contains.ensures ∙ c.if-contains.true))

pub invariant_of-self-2 : goal.invariant_of-self-2
invariant_of-self-2 c =
    known_more c.self.inside.second.now _ _ (c.args.call, c.args.state, c.args.letter, c.args.end) c.self.invariant c.in_ok-insert.ensures.updates.0
    (c.if-not-returns_from_each.ensures refl)
