use Rattle.std.proofs.Common.{◌≡◌, ◌∙◌, List, Option, None, Some, map, ap, sym, subst, rules}
use Rattle.std.specs.Prelude.{IsSome, slice_get}
use Rattle.std.specs.Option.{option_map}
use Rattle.typed_tree.specs.declared.types.TProc.{TProc}
use Rattle.typed_tree.specs.TypedView as view
use Rattle.typed_tree.specs.TypingRules.TypedParts.{TypedParts}
use Rattle.icfg_lower.proofs.program_walk.calls.procedure_at.Goals as goal

is_there : {X Y : Type 0} (f : X → Y) (o : Option X) (p : Option Y) → option_map f o ≡ p → IsSome p → IsSome o
is_there f None p e h = subst IsSome (sym e) h
is_there f (Some x) p e h = search rules

pub unwrap-requires : goal.unwrap-requires
unwrap-requires c =
    is_there _ c.procedure_at.result _
    (c.procedure_at.ensures ∙ ap (λ (ps : List TProc). slice_get (map view.procedure ps) c.args.number) (c.procs.ensures ∙ ap (λ (x : TypedParts). x.procs) c.program.ensures.value)) c.requires

pub returns-clause-listed : goal.returns-clause-listed
returns-clause-listed c =
    sym (c.procedure_at.ensures ∙ ap (λ (ps : List TProc). slice_get (map view.procedure ps) c.args.number) (c.procs.ensures ∙ ap (λ (x : TypedParts). x.procs) c.program.ensures.value))
    ∙ ap (λ o. option_map (λ q. view.procedure q.now) o) c.unwrap.ensures
