use Rattle.std.proofs.Common.{refl, arith}
use Rattle.nested_itp.specs.NestedPredicates.Positions.{known_columns}
use Rattle.nested_itp.proofs.NestedPredicates.BaseLaws.{no_callee, no_entry, all_taken}
use Rattle.nested_itp.proofs.nested_predicates.bases.Base.taken.Goals as goal
use Rattle.nested_itp.proofs.nested_predicates.bases.Base.taken.Goals.{else-loop-j-test, then-loop-j-test+then-j-entry}

pub returns : goal.returns
returns c =
    record {
      columns = elim c.loop-j-test.branch [
        | else-loop-j-test w ↦ all_taken c.args.running.now.columns.items (known_columns c.args.callee.now c.args.entry.now c.args.before.now) _ c.loop-j.columns.items
            (no_callee c.args.callee.now c.args.entry.now c.args.before.now c.loop-j.j w.loop-j-test.false) c.loop-j.invariant.numbers
        | then-loop-j-test+then-j-entry w ↦ all_taken c.args.running.now.columns.items (known_columns c.args.callee.now c.args.entry.now c.args.before.now) _ c.loop-j.columns.items
            (no_entry c.args.callee.now c.args.entry.now c.args.before.now c.loop-j.j w.if-j-entry.true) c.loop-j.invariant.numbers
      ];
      bound = refl;
      room = record { columns = c.loop-j.invariant.room; bound = (c.args.running.now.count, (let s = c.requires.counted.small in omega (arith, s)), c.requires.counted.bound) };
    }
