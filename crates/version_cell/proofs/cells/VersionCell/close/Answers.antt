use Rattle.std.proofs.Common.{◌≡◌, sym, ◌∙◌, subst, refl, Option, Some}
use Rattle.std.proofs.Common.{IsSome}
use mathlib.Core.Option.{some-injective}
use Rattle.race_core.specs.Races.{Race}
use Rattle.version_cell.specs.Passes.{Known, IsClosed}
use Rattle.version_cell.proofs.Sums.{some_is}
use Rattle.version_cell.proofs.Steps.{closes}
use Rattle.version_cell.proofs.cells.VersionCell.close.Goals as goal

pub unwrap-requires : goal.unwrap-requires
unwrap-requires g c =
    let k = c.self.inside.table.shared.key in
    let p = c.pass.inside.seat in
    let f = c.close_with-closed.ensures.values.2 in
    let W : Known g.row.E.Denot → Type 0 = λ x. x.shares ≡ x.total in
    let r = closes k.program.value k.limit k.total p.table_id f.0 p.id p.me.0 f.1.0 f.1.1 c.pass.invariant.1.shares c.pass.invariant.1.free
    (subst W (sym c.pass.view_is) c.requires.whole) in
    let is = some-injective _ _ (sym (f.4 0 (Some r.0) r.1) ∙ c.take-state.ensures.value) in
    let S : Option (Race g.row.E.Denot) → Type 0 = λ x. IsSome x in
    subst S is refl

pub returns : goal.returns
returns g c =
    let k = c.self.inside.table.shared.key in
    let p = c.pass.inside.seat in
    let f = c.close_with-closed.ensures.values.2 in
    let W : Known g.row.E.Denot → Type 0 = λ x. x.shares ≡ x.total in
    let r = closes k.program.value k.limit k.total p.table_id f.0 p.id p.me.0 f.1.0 f.1.1 c.pass.invariant.1.shares c.pass.invariant.1.free
    (subst W (sym c.pass.view_is) c.requires.whole) in
    let is = some-injective _ _ (sym (f.4 0 (Some r.0) r.1) ∙ c.take-state.ensures.value) in
    let same = some_is r.0 c.unwrap.result (is ∙ c.unwrap.ensures) in
    let P : Known g.row.E.Denot → Type 0 = λ x. IsClosed x r.0 in
    let Q : Race g.row.E.Denot → Type 0 = λ x. IsClosed c.args.pass x in
    subst Q same (subst P c.pass.view_is r.2)
