use Rattle.std.proofs.Common.{ℤ, ◌≡◌, sym, subst}
use Rattle.std.specs.Prelude.{IfOk}
use Rattle.cond_jumps.specs.LongView.{long}
use Rattle.cond_jumps.proofs.SumFaults.{no_operation}
use Rattle.cond_jumps.proofs.linear.constant_operation.Goals as goal

pub returns-in_default : goal.returns-in_default
returns-in_default c =
    let Q : ℤ → Type 0 = λ z. IfOk c.new.result (λ l. long l ≡ z) in
    subst Q (sym (no_operation c.args.op (long c.args.first.now) (long c.args.second.now) c.in_default.not-Add c.in_default.not-Sub c.in_default.not-Mul)) c.new.ensures
