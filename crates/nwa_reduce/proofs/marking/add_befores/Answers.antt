use Rattle.std.proofs.Common.{ℕ, get_or, ap}
use Rattle.nwa_base.specs.declared.letters.Kind.TheVariants.{Inside}
use Rattle.nwa_base.specs.declared.letters.Letter.{Letter}
use Rattle.nwa_reduce.specs.declared.marking.Mark.TheVariants as marks
use Rattle.nwa_reduce.specs.Ties.Marks.{leader_in}
use Rattle.nwa_reduce.proofs.MarkLemmas.{mapped_on}
use Rattle.nwa_reduce.proofs.marking.add_befores.Goals as goal

pub loop-exit-preserved : goal.loop-exit-preserved
loop-exit-preserved c =
    let e : ℕ × ℕ × Letter × ℕ = get_or c.args.edges.now c.loop-exit.exit-index (0, 0, record { id = 0; kind = Inside; call = 0 }, 0) in
    mapped_on (λ (e : ℕ × ℕ × Letter × ℕ). marks.Before e.0 e.2 (leader_in c.args.leaders.now e.3)) c.args.edges.now c.loop-exit.exit-index (0, 0, record { id = 0; kind = Inside; call = 0 }, 0)
    c.args.marks.now.items c.loop-exit.marks.items c.push.new.self.items (marks.Before e.0 e.2 c.leader.result) c.loop-exit-test.true c.loop-exit.invariant
    c.in_ok-push.ensures.items (ap (λ (n : ℕ). marks.Before e.0 e.2 n) c.leader.ensures)
