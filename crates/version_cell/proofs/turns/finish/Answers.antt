use Rattle.std.proofs.Common.{ℕ, arith, ap, ◌∙◌, List, ◌∷◌, Option, Some}
use mathlib.Core.Option.{none}
use Rattle.race_core.specs.Races.{Race}
use Rattle.atomic_table.specs.Table.{step, rest}
use Rattle.version_cell.proofs.Steps.{finishes}
use Rattle.version_cell.proofs.turns.finish.Goals as goal

pub store-requires : goal.store-requires
store-requires g c =
    let k = c.args.top.now.key in
    let z = c.args.top.now.table_id in
    let p = c.exchange.new.seat in (
      c.exchange.ensures.0 ∙ c.requires.table.0,
      omega (arith, c.requires.table.1.0),
      finishes k.program.value k.limit k.total (step z.slots 0 0 0 none) z.slots p.id p.me c.args.place.now.me.0 c.args.state
          (c.exchange.ensures.3 ∙ ap (λ (l : List (ℕ × Option (Race g.row.E.Denot))). (c.args.place.now.me.0, (0, Some c.args.state) ∷ rest l)) c.requires.slot)
          c.requires.state,
    )
