use Rattle.std.proofs.Common.{◌≡◌}
use Rattle.fm_elim.specs.Derivations.{input}
use Rattle.fm_elim.proofs.Exits.{exit_memory}
use Rattle.fm_elim.proofs.derivations.input.Goals as goal

pub returns-in_err-tight-clause-value : goal.returns-in_err-tight-clause-value
returns-in_err-tight-clause-value c = exit_memory c.from_residual.result (λ r. r ≡ input c.args.number c.args.given.now) (Unit {0}) c.from_residual.ensures.1

pub returns-in_err-new-clause-value : goal.returns-in_err-new-clause-value
returns-in_err-new-clause-value c =
    exit_memory c.from_residual-in_err-new.result (λ r. r ≡ input c.args.number c.args.given.now) (Unit {0}) c.from_residual-in_err-new.ensures.1
