use Rattle.std.proofs.Common.{◌∙◌, sym, ap}
use Rattle.boogie_tree.specs.declared.tree.Column.{Column}
use Rattle.boogie_tree.specs.declared.tree.VarInfo.{VarInfo}
use Rattle.cond_jumps.specs.Frames.{same_frame_column}
use Rattle.cond_jumps.proofs.PlaceLemmas.{found_here}
use Rattle.cond_jumps.proofs.columns.found.Goals as goal

pub returns-then-same_column-clause-some : goal.returns-then-same_column-clause-some
returns-then-same_column-clause-some c =
    found_here c.args.columns.now c.args.column c.loop-i.i c.index-columns-i.result c.loop-i-test.true c.index-columns-i.is
    (ap (λ (d : Column × VarInfo). same_frame_column d.0 c.args.column) c.index-columns-i.is ∙ sym c.same_column.ensures ∙ c.if-same_column.true) c.loop-i.invariant
