use Rattle.std.proofs.Common.{◌≡◌, ℕ, suc, ◌+◌, ◌-◌, ap, arith}
use Rattle.boogie_tree.specs.declared.tree.Column.TheVariants as columns
use Rattle.typed_tree.specs.Values.{column_value}
use Rattle.typed_tree.specs.TypingRules.TypedParts.{typed_program}
use Rattle.boogie_run.specs.Configurations.{state_of}
use Rattle.boogie_run.specs.RunView.{config_of}
use Rattle.explain_top.specs.RunStory.Notes.{note, held, first_locals}
use Rattle.explain_top.proofs.RunStory.LineLemmas.{leads_step, leads_end}
use Rattle.explain_top.proofs.run_story.changes.note_first.Goals as goal

pub loop-n-preserved : goal.loop-n-preserved
loop-n-preserved c =
    let t = typed_program c.args.program.now in
    let d = config_of c.args.config.now in
    let n = c.loop-n.n in
    let more : c.args.count - n ≡ suc (c.args.count - (n + 1)) = omega (arith, c.loop-n-test.true) in
    leads_step c.loop-n.line c.note_held.new.line (note t d.top.proc (columns.Local n) (column_value (state_of d) (columns.Local n))) (held t d (first_locals n (c.args.count - n)))
    (held t d (first_locals (n + 1) (c.args.count - (n + 1)))) _ _ (ap (λ (k : ℕ). held t d (first_locals n k)) more) c.loop-n.invariant c.in_ok-note_held.ensures

pub returns : goal.returns
returns c =
    let t = typed_program c.args.program.now in
    let d = config_of c.args.config.now in
    let none : c.args.count - c.loop-n.n ≡ 0 = omega (arith, c.loop-n-test.false) in
    leads_end c.args.line.now c.loop-n.line (held t d (first_locals c.loop-n.n (c.args.count - c.loop-n.n))) (held t d (first_locals 0 c.args.count))
    (ap (λ (k : ℕ). held t d (first_locals c.loop-n.n k)) none) c.loop-n.invariant
