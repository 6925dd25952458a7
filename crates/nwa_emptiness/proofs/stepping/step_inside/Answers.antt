use Rattle.std.proofs.Common.{◌∙◌, ap, sym, arith}
use Rattle.nwa_base.specs.Members.{Member}
use Rattle.nwa_base.specs.Automata.{Automaton}
use Rattle.nwa_emptiness.specs.Ties.Seen.{seen}
use Rattle.nwa_emptiness.proofs.SearchLemmas.{member_kept}
use Rattle.nwa_emptiness.proofs.StepLemmas.{point_stays, inside_way, followed_more, followed_all}
use Rattle.nwa_emptiness.proofs.WalkLemmas.{item_leaving, inside_done}
use Rattle.nwa_emptiness.proofs.stepping.step_inside.Goals as goal

pub add-requires-clause-way : goal.add-requires-clause-way
add-requires-clause-way c =
    let g = c.loop-letter.invariant.keeps in
    inside_way _ c.args.point _ _ (point_stays _ _ _ g c.requires.point)
    (item_leaving _ _ _ _ _ _ c.insides_leaving-letter-items.ensures (ap (λ (m : Automaton). m.insides) (c.nwa.ensures ∙ sym g.nwa)) c.loop-letter-test.true)

pub loop-letter-preserved : goal.loop-letter-preserved
loop-letter-preserved c =
    followed_more _ _ _ _ _ _ (λ s e. Member s.pairs (c.args.point.entry, e.2)) c.loop-letter-test.true (λ s t e g h. member_kept s t _ g h)
    c.loop-letter.invariant c.in_ok-add.ensures.0 c.in_ok-add.ensures.1

pub returns : goal.returns
returns c = (
  c.loop-letter.invariant.keeps,
  inside_done (seen c.args.search.now) (seen c.loop-letter.search) c.args.point _ _ c.insides_leaving-letter-items.ensures (ap (λ (m : Automaton). m.insides) c.nwa.ensures)
      (followed_all (seen c.args.search.now) (seen c.loop-letter.search) _ _ (λ s e. Member s.pairs (c.args.point.entry, e.2)) (omega arith) c.loop-letter.invariant),
)
