use Rattle.std.proofs.Common.{◌^◌, arith}
use Rattle.trace_replay.proofs.LineReading.{not_ok, another_number}
use Rattle.trace_replay.proofs.numerals.short_number_to.Goals as goal

pub returns-in_err-ok : goal.returns-in_err-ok
returns-in_err-ok c =
    rw c.from_residual-in_err-ok.ensures (another_number c.in_ok-n.n c.args.end (2 ^ 32) c.args.bytes.now c.in_ok-n.rest.now
    c.in_ok-n.ensures c.requires (omega arith) (not_ok c.in_ok-n.n c.try_from.result c.try_from.ensures c.in_err-ok.ensures.value))
