use Rattle.std.proofs.Common.{arith, sym, ap, ◌∙◌, Option}
use mathlib.Core.Option.{none}
use Rattle.race_core.specs.Races.{Race}
use Rattle.atomic_table.specs.Table.{step, Me}
use Rattle.version_cell.specs.declared.board.Sight.{Sight}
use Rattle.version_cell.specs.Passes.{Known, Cell}
use Rattle.version_cell.proofs.Steps.{joins, looks}
use Rattle.version_cell.proofs.cells.VersionCell.join.Goals as goal

pub join_seat-requires : goal.join_seat-requires
join_seat-requires g c =
    let k = c.self.inside.table.shared.key in
    let p = c.pass.inside.seat in
    let q = c.other.inside.seat in
    let here = sym (ap (λ (x : Cell). x.id) c.self.view_is) in
    let i = c.pass.invariant.1 in
    let j = c.other.invariant.1 in (
      ap (λ (x : Known g.row.E.Denot). x.cell) c.pass.view_is ∙ (c.requires.cell.0.cell ∙ here),
      ap (λ (x : Known g.row.E.Denot). x.cell) c.other.view_is ∙ (c.requires.cell.1.cell ∙ here),
      j.carries,
      omega (arith, c.self.invariant.0),
      joins k.program.value k.limit k.total p.id q.id p.me.0 q.me.0 i.shares j.shares i.free j.free,
    )

pub load-requires : goal.load-requires
load-requires g c =
    let k = c.self.inside.table.shared.key in
    let z = c.self.inside.table.shared.table_id in
    let p = c.join_seat.new.seat in
    let here = sym (ap (λ (x : Cell). x.id) c.self.view_is) in
    let shares = ap (λ (m : Me (Option (Race g.row.E.Denot)) (Sight g.row.E.Denot)). m.0.shares) c.join_seat.ensures.2 in (
      c.join_seat.ensures.0 ∙ (ap (λ (x : Known g.row.E.Denot). x.cell) c.pass.view_is ∙ (c.requires.cell.0.cell ∙ here)),
      omega (arith, c.self.invariant.0),
      looks k.program.value k.limit k.total (step z.slots 0 0 0 none) z.slots p.id p.me (omega (arith, shares, c.pass.invariant.1.shares)),
    )
