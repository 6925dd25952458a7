use Rattle.std.proofs.Common.{arith, sym, ap, ◌∙◌}
use Rattle.version_cell.specs.Passes.{Known, Cell}
use Rattle.version_cell.proofs.Steps.{splits}
use Rattle.version_cell.proofs.cells.VersionCell.split.Goals as goal

pub split_seat-requires : goal.split_seat-requires
split_seat-requires g c =
    let k = c.self.inside.table.shared.key in
    let p = c.pass.inside.seat in
    let same = ap (λ (x : Known g.row.E.Denot). x.cell) c.pass.view_is ∙ (c.requires.cell.cell ∙ sym (ap (λ (x : Cell). x.id) c.self.view_is)) in
    let shares = ap (λ (x : Known g.row.E.Denot). x.shares) c.pass.view_is in (
      same,
      omega (arith, c.self.invariant.0),
      splits k.program.value k.limit k.total p.id p.me.0 (omega (arith, shares, c.requires.shares)) c.pass.invariant.1.free,
    )
