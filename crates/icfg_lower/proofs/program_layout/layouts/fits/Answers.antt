use Rattle.typed_tree.specs.TypingRules.TypedParts.{typed_program}
use Rattle.icfg_lower.proofs.ProgramLayout.FitLaws.{places_fit, globals_fit, locals_fit}
use Rattle.icfg_lower.proofs.ProgramLayout.PlaceCounts.{errors_behind, sites_behind}
use Rattle.icfg_lower.proofs.program_layout.layouts.fits.Goals as goal

pub returns : goal.returns
returns c = record {
  places = places_fit (typed_program c.args.program.now) c.globals-globals.ensures.valid;
  globals = globals_fit (typed_program c.args.program.now) c.globals-globals.ensures.valid;
  locals = locals_fit (typed_program c.args.program.now) c.globals-globals.ensures.valid;
  errors = errors_behind (typed_program c.args.program.now) c.globals-globals.ensures.valid;
  sites = sites_behind (typed_program c.args.program.now) c.globals-globals.ensures.valid;
}
