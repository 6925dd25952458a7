use Rattle.std.proofs.Common.{rules, ◌≡◌, ℕ, arith, sym, ap, ◌∙◌, subst, List, ◌∷◌, Option, Some}
use mathlib.Core.Option.{none}
use Rattle.race_core.specs.Races.{Race}
use Rattle.atomic_table.specs.Table.{step, rest, Me}
use Rattle.version_cell.specs.declared.board.Sight.{Sight}
use Rattle.version_cell.specs.Ties.Plays.{IsIdle}
use Rattle.version_cell.proofs.Steps.{wins}
use Rattle.version_cell.proofs.turns.win.Goals as goal

pub compare_exchange-requires : goal.compare_exchange-requires
compare_exchange-requires g c =
    let k = c.args.top.now.key in
    let z = c.args.top.now.table_id in
    let p = c.loop.place in
    let P : Me (Option (Race g.row.E.Denot)) (Sight g.row.E.Denot) → Type 0 = λ m. IsIdle m in (
      c.loop.invariant.2 ∙ c.requires.table.0,
      omega (arith, c.requires.table.1.0),
      wins k.program.value k.limit k.total (step z.slots 0 0 1 none) z.slots p.id p.me (subst P (sym c.loop.invariant.4) c.requires.idle),
    )

pub exchange-requires : goal.exchange-requires
exchange-requires g c =
    let zero_found : c.compare_exchange.result ≡ 0 = search (rules, c.if-compare_exchange-eq0.true) in
    let won = c.compare_exchange.ensures.2.0 zero_found in
    let carried = ap (λ (m : Me (Option (Race g.row.E.Denot)) (Sight g.row.E.Denot)). m.1) won.1 in (
      c.compare_exchange.ensures.0 ∙ (c.loop.invariant.2 ∙ c.requires.table.0),
      (
        Some won.0,
        carried ∙ ap (λ (l : List (ℕ × Option (Race g.row.E.Denot))). (0, Some won.0) ∷ l)
            (sym (ap (λ (l : List (ℕ × Option (Race g.row.E.Denot))). rest l) carried)),
      ),
    )
