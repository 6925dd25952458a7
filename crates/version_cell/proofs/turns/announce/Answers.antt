use Rattle.std.proofs.Common.{ℕ, arith, ap, ◌∙◌, refl, List, ◌∷◌, Option, Some}
use mathlib.Core.Option.{none}
use Rattle.race_core.specs.Races.{Race}
use Rattle.atomic_table.specs.Table.{step, rest, Me}
use Rattle.version_cell.specs.declared.board.Sight.{Sight}
use Rattle.version_cell.specs.Views.{with_entry}
use Rattle.version_cell.specs.Ties.Plays.{out}
use Rattle.version_cell.proofs.Steps.{bumps, releases}
use Rattle.version_cell.proofs.turns.announce.Goals as goal

pub fetch_add-entry-requires : goal.fetch_add-entry-requires
fetch_add-entry-requires g c =
    let k = c.args.top.now.key in
    let z = c.args.top.now.table_id in
    let p = c.exchange.new.seat in (
      c.exchange.ensures.0 ∙ c.requires.table.0,
      omega (arith, c.requires.table.1.0),
      bumps k.program.value k.limit k.total (step z.slots 1 1 0 none) z.slots p.id p.me c.args.place.now.me.0 c.args.state
          (c.exchange.ensures.3 ∙ ap (λ (l : List (ℕ × Option (Race g.row.E.Denot))). (c.args.place.now.me.0, (0, Some c.args.state) ∷ rest l)) c.requires.slot)
          c.requires.state.0 (omega (arith, c.requires.state.1, c.sized.ensures)),
    )

pub store-requires : goal.store-requires
store-requires g c =
    let k = c.args.top.now.key in
    let z = c.args.top.now.table_id in
    let p = c.fetch_add-entry.new.seat in
    let v = c.args.place.now.me.0 in
    let state = c.args.state in
    let n = c.fetch_add-entry.result in
    let grows = c.requires.state.0 in
    let carried = c.exchange.ensures.3 ∙ ap (λ (l : List (ℕ × Option (Race g.row.E.Denot))). (v, (0, Some state) ∷ rest l)) c.requires.slot in (
      c.fetch_add-entry.ensures.0 ∙ (c.exchange.ensures.0 ∙ c.requires.table.0),
      omega (arith, c.requires.table.1.0),
      releases k.program.value k.limit k.total (step z.slots 0 0 0 none) z.slots p.id p.me (with_entry v (Some state) n) state
          (c.fetch_add-entry.ensures.2.0 ∙ ap (λ (m : Me (Option (Race g.row.E.Denot)) (Sight g.row.E.Denot)). (with_entry m.0 (out m.1) n, m.1)) carried)
          (record { shares = grows.shares; program = grows.program; limit = grows.limit; names = refl }),
    )

pub returns-clause-version : goal.returns-clause-version
returns-clause-version g c =
    let v = c.args.place.now.me.0 in
    let carried = c.exchange.ensures.3 ∙ ap (λ (l : List (ℕ × Option (Race g.row.E.Denot))). (v, (0, Some c.args.state) ∷ rest l)) c.requires.slot in
    c.fetch_add-entry.ensures.2.1 c.args.state (ap (λ (m : Me (Option (Race g.row.E.Denot)) (Sight g.row.E.Denot)). out m.1) carried)
