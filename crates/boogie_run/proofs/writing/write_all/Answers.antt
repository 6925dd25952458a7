use Rattle.std.proofs.Common.{pos, get_or, subst, arith, rules, FitsSigned}
use Rattle.std.specs.Int.{w128}
use Rattle.std.proofs.lemmas.Int.{to_z-of_z}
use Rattle.boogie_tree.specs.declared.tree.Column.TheVariants.{Global}
use Rattle.typed_tree.specs.TypingRules.TypedParts.{TypedParts}
use Rattle.boogie_run.specs.RunView.{config_of, FitsProgram}
use Rattle.boogie_run.proofs.WriteSteps.{written_more}
use Rattle.boogie_run.proofs.writing.write_all.Goals as goal

pub loop-i-preserved : goal.loop-i-preserved
loop-i-preserved c =
    let g : FitsSigned w128 (get_or c.args.values.now c.loop-i.i (pos 0)) = search rules in
    record {
      done = written_more (config_of c.loop-i.config) (config_of c.write.new.config) c.args.columns.now c.args.values.now c.loop-i.i (Global 0) (pos 0) _ (omega arith) (omega arith)
          (simp to_z-of_z at c.write.ensures.value) c.loop-i.invariant.done;
      fits = subst (λ (t : TypedParts). FitsProgram t c.write.new.config) c.loop-i.invariant.fits.program c.write.ensures.fits;
    }
