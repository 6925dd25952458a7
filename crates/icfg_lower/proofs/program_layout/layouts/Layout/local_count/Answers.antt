use Rattle.std.proofs.Common.{◌∙◌, ◌<◌, ◌^◌, ℕ, List, map, length, ap, sym, subst}
use Rattle.std.specs.Prelude.{IfSome, slice_get}
use Rattle.std.specs.Option.{option_map}
use Rattle.typed_tree.specs.declared.types.TProc.{TProc}
use Rattle.typed_tree.specs.TypedView as view
use Rattle.typed_tree.specs.TypingRules.TypedParts.{TypedParts, typed_program}
use Rattle.icfg_lower.proofs.ProgramLayout.FitLaws.{locals_fit}
use Rattle.icfg_lower.proofs.ProgramLayout.ListLaws.{locals_counted}
use Rattle.icfg_lower.proofs.program_layout.layouts.Layout.local_count.Goals as goal

pub locals_in-requires : goal.locals_in-requires
locals_in-requires c =
    subst (λ (ps : List TProc). (n : ℕ) → IfSome (slice_get (map view.procedure ps) n) (λ q. length q.locals < 2 ^ 32)) (sym c.procs.ensures)
    (locals_fit (typed_program c.self.inside.program.now) c.self.invariant.valid)

pub returns : goal.returns
returns c =
    c.locals_in.ensures
    ∙ ap (λ (ps : List TProc). option_map (λ q. length q.locals) (slice_get (map view.procedure ps) c.args.proc)) (c.procs.ensures ∙ ap (λ (p : TypedParts). p.procs) c.self.view_is)
    ∙ locals_counted (slice_get (typed_program c.args.self.now).procs c.args.proc)
