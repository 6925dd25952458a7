use Rattle.std.proofs.Common.{◌≡◌, drop}
use Rattle.boogie_run.specs.Steps as spec
use Rattle.boogie_run.specs.RunView.{config_of, FitsProgram}
use Rattle.boogie_run.proofs.writing.write_all.Given as goal

abbrev pub invariant-loop-i : goal.invariant-loop-i
invariant-loop-i l =
    record {
      done : spec.all_written (config_of l.config) (drop l.i l.columns) (drop l.i l.values) ≡ spec.all_written (config_of l.initial.config) l.columns l.values;
      fits : FitsProgram l.initial.config.program.now l.config;
    }
