use Rattle.std.proofs.Common.{◌^◌, pos, unsigned_abs, refl, arith}
use Rattle.trace_replay.proofs.LineReading.{not_ok, another_number, minus_zero}
use Rattle.trace_replay.proofs.pieces.value_below_zero.Goals as goal

pub returns-then-n-eq0 : goal.returns-then-n-eq0
returns-then-n-eq0 c = minus_zero c.in_ok-n.n c.args.bytes.now c.in_ok-n.rest.now c.in_ok-n.ensures c.if-n-eq0.true

pub returns-in_err-ok : goal.returns-in_err-ok
returns-in_err-ok c =
    rw c.from_residual-in_err-ok.ensures (λ x rest h.
    another_number c.in_ok-n.n 10 (2 ^ 127) c.args.bytes.now c.in_ok-n.rest.now c.in_ok-n.ensures refl (omega arith)
    (λ small. not_ok (pos c.in_ok-n.n) c.try_from.result c.try_from.ensures c.in_err-ok.ensures.value (record { sfits = small }))
    (unsigned_abs x.0) rest h.0)
