use Rattle.std.proofs.Common.{ℕ, get_or, ap}
use Rattle.nwa_base.specs.declared.letters.Kind.TheVariants.{Inside}
use Rattle.nwa_base.specs.declared.letters.Letter.{Letter}
use Rattle.nwa_reduce.specs.declared.marking.Mark.TheVariants as marks
use Rattle.nwa_reduce.specs.Ties.Marks.{leader_in}
use Rattle.nwa_reduce.proofs.MarkLemmas.{mapped_on}
use Rattle.nwa_reduce.proofs.marking.add_insides.Goals as goal

pub loop-letter-preserved : goal.loop-letter-preserved
loop-letter-preserved c =
    let e : ℕ × Letter × ℕ = get_or c.args.edges.now c.loop-letter.letter-index (0, record { id = 0; kind = Inside; call = 0 }, 0) in
    mapped_on (λ (e : ℕ × Letter × ℕ). marks.Inside e.1 (leader_in c.args.leaders.now e.2)) c.args.edges.now c.loop-letter.letter-index (0, record { id = 0; kind = Inside; call = 0 }, 0)
    c.args.marks.now.items c.loop-letter.marks.items c.push.new.self.items (marks.Inside e.1 c.leader.result) c.loop-letter-test.true c.loop-letter.invariant
    c.in_ok-push.ensures.items (ap (λ (n : ℕ). marks.Inside e.1 n) c.leader.ensures)
