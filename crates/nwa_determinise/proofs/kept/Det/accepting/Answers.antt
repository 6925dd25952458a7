use Rattle.std.proofs.Common.{IsTrue, ◌↔◌}
use Rattle.nwa_base.specs.Pairs.{HasFinal}
use Rattle.nwa_determinise.specs.Kept.{set_at}
use Rattle.nwa_determinise.proofs.ReadLemmas.{accepts_by_test}
use Rattle.nwa_determinise.proofs.kept.Det.accepting.Goals as goal

pub returns-clause-accepts : goal.returns-clause-accepts
returns-clause-accepts c =
    let test : IsTrue c.has_final.result ↔ HasFinal c.args.self.now.nwa (set_at c.args.self.now c.args.s) =
    rw (← c.pairs.ensures, ← c.self.view_is) c.has_final.ensures in
    accepts_by_test c.args.self.now c.args.s _ test
