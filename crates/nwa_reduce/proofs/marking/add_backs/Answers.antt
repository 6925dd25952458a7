use Rattle.std.proofs.Common.{ℕ, get_or, ap}
use Rattle.nwa_base.specs.declared.letters.Kind.TheVariants.{Inside}
use Rattle.nwa_base.specs.declared.letters.Letter.{Letter}
use Rattle.nwa_reduce.specs.declared.marking.Mark.TheVariants as marks
use Rattle.nwa_reduce.specs.Ties.Marks.{leader_in}
use Rattle.nwa_reduce.proofs.MarkLemmas.{mapped_on}
use Rattle.nwa_reduce.proofs.marking.add_backs.Goals as goal

pub loop-before-preserved : goal.loop-before-preserved
loop-before-preserved c =
    let e : ℕ × ℕ × Letter × ℕ = get_or c.args.edges.now c.loop-before.before-index (0, 0, record { id = 0; kind = Inside; call = 0 }, 0) in
    mapped_on (λ (e : ℕ × ℕ × Letter × ℕ). marks.Back e.1 e.2 (leader_in c.args.leaders.now e.3)) c.args.edges.now c.loop-before.before-index (0, 0, record { id = 0; kind = Inside; call = 0 }, 0)
    c.args.marks.now.items c.loop-before.marks.items c.push.new.self.items (marks.Back e.1 e.2 c.leader.result) c.loop-before-test.true c.loop-before.invariant
    c.in_ok-push.ensures.items (ap (λ (n : ℕ). marks.Back e.1 e.2 n) c.leader.ensures)
