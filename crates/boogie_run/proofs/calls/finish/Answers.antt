use Rattle.std.proofs.Common.{◌≡◌, ◌∙◌, ap, slice_get, rules}
use Rattle.typed_tree.specs.TypingRules.TypedParts.{TypedParts, typed_program}
use Rattle.boogie_run.specs.BoogiePoints.Told.{ways_of}
use Rattle.boogie_run.specs.Steps.{Went, went_if, finished, modifies_of}
use Rattle.boogie_run.specs.RunView.{config_of}
use Rattle.boogie_run.specs.StepView.{happening}
use Rattle.boogie_run.proofs.Going.{finished_by}
use Rattle.boogie_run.proofs.calls.finish.Goals as goal

pub returns-clause-answer : goal.returns-clause-answer
returns-clause-answer c =
    let old = c.args.config.now in
    let t = typed_program old.program.now in
    let same = c.take_kept-kept.ensures.fits.program ∙ c.go_keeping.ensures.fits.program in
    let modified = c.modifies_at-modified.ensures ∙ ap (λ (p : TypedParts). modifies_of (slice_get (typed_program p).procs c.args.callee)) same in
    let e : went_if (slice_get (ways_of (happening old)) 0) (finished t (config_of old) c.args.callee c.args.targets.now) ≡ Went (config_of c.write_all.new.config) =
    finished_by t (slice_get (ways_of (happening old)) 0) (config_of old) (config_of c.go_keeping.new.config) (config_of c.take_kept-kept.new.config) (config_of c.write_globals.new.config)
    (config_of c.write_all.new.config) c.args.callee c.args.targets.now c.modifies_at-modified.result.now c.take_kept-kept.result.items c.behind.result.now
    (search rules) c.take_kept-kept.ensures.kept c.take_kept-kept.ensures.value modified (search rules) (search rules) (search rules) in
    (search rules, rw e)
