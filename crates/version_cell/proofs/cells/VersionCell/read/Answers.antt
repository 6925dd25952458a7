use Rattle.std.proofs.Common.{refl, sym, ap, ◌∙◌, [], ◌∷◌, length, Option, None, Some}
use Rattle.std.specs.Arc.{arc_value}
use Rattle.race_core.specs.Races.{Race}
use Rattle.atomic_table.specs.Table.{Me}
use Rattle.version_cell.specs.declared.board.Sight.{Sight}
use Rattle.version_cell.specs.Views.{informed}
use Rattle.version_cell.specs.Passes.{Known, Cell, shown}
use Rattle.version_cell.proofs.Passing.{moment_of, shown_is, keeps_seen}
use Rattle.version_cell.proofs.Putting.{holds_of, of_cell_shown, keeps_shown}
use Rattle.version_cell.proofs.cells.VersionCell.read.Goals as goal

pub win-state-requires-clause-table : goal.win-state-requires-clause-table
win-state-requires-clause-table g c κs within =
    let here = sym (ap (λ (x : Cell). x.id) c.self.view_is) in
    (ap (λ (x : Known g.row.E.Denot). x.cell) c.pass.view_is ∙ (c.requires.cell.cell ∙ here), c.self.invariant)

pub release-requires-clause-table : goal.release-requires-clause-table
release-requires-clause-table g c κs within =
    let here = sym (ap (λ (x : Cell). x.id) c.self.view_is) in
    (c.win-state.ensures.seat.0 ∙ (ap (λ (x : Known g.row.E.Denot). x.cell) c.pass.view_is ∙ (c.requires.cell.cell ∙ here)), c.self.invariant)

pub release-requires-clause-slot : goal.release-requires-clause-slot
release-requires-clause-slot g c κs within =
    ap (λ (m : Me (Option (Race g.row.E.Denot)) (Sight g.row.E.Denot)). m.1) c.win-state.ensures.seat.2

pub release-requires-clause-state : goal.release-requires-clause-state
release-requires-clause-state g c κs within =
    holds_of c.pass.inside.seat.me.0 c.win-state.result c.win-state.result c.win-state.new.place.me ((0, None) ∷ []) c.win-state.ensures.seat.2
    c.pass.invariant.1.shares c.win-state.ensures.state refl

pub returns-in_err-kept-clause-moment : goal.returns-in_err-kept-clause-moment
returns-in_err-kept-clause-moment g c =
    let p = c.pass.inside.seat in
    let b = c.win-state.result in
    let same = c.release.ensures.seat.0 ∙ c.win-state.ensures.seat.0 in
    let is = c.release.ensures.seat.2
    ∙ ap (λ (m : Me (Option (Race g.row.E.Denot)) (Sight g.row.E.Denot)). (informed m.0 (Some b), [])) c.win-state.ensures.seat.2 in (
      b.history,
      b.end,
      moment_of p.table_id p.me.0 c.args.pass.now b c.pass.view_is c.win-state.ensures.state,
      shown_is p.table_id c.release.new.place.table_id p.me.0 c.release.new.place.me b same is
          ∙ ap (λ (x : Known g.row.E.Denot). shown x b.history b.end) c.pass.view_is,
    )

pub returns-clause-moment : goal.returns-clause-moment
returns-clause-moment g c =
    let p = c.pass.inside.seat in
    let b = c.win-state.result in
    let same = c.release.ensures.seat.0 ∙ c.win-state.ensures.seat.0 in
    let is = c.release.ensures.seat.2
    ∙ ap (λ (m : Me (Option (Race g.row.E.Denot)) (Sight g.row.E.Denot)). (informed m.0 (Some b), [])) c.win-state.ensures.seat.2 in (
      b.history,
      b.end,
      moment_of p.table_id p.me.0 c.args.pass.now b c.pass.view_is c.win-state.ensures.state,
      shown_is p.table_id c.release.new.place.table_id p.me.0 c.release.new.place.me b same is
          ∙ ap (λ (x : Known g.row.E.Denot). shown x b.history b.end) c.pass.view_is,
    )

pub returns-clause-snapshot : goal.returns-clause-snapshot
returns-clause-snapshot g c =
    let p = c.pass.inside.seat in
    let b = c.win-state.result in
    let is = c.release.ensures.seat.2
    ∙ ap (λ (m : Me (Option (Race g.row.E.Denot)) (Sight g.row.E.Denot)). (informed m.0 (Some b), [])) c.win-state.ensures.seat.2 in (
      c.version-version.ensures ∙ sym (ap (λ (m : Me (Option (Race g.row.E.Denot)) (Sight g.row.E.Denot)). length m.0.seen) is),
      c.ended-ended.ensures ∙ sym (ap (λ (m : Me (Option (Race g.row.E.Denot)) (Sight g.row.E.Denot)). m.0.ended) is),
      keeps_seen g.E.Evidence.automaton p.me.0 b c.release.new.place.me (arc_value c.in_ok-kept.field-0) is c.win-state.ensures.state.program
          (c.in_ok-kept.ensures ∙ c.kept.ensures.value) c.kept.ensures.keeps,
    )

pub invariant_of-pass : goal.invariant_of-pass
invariant_of-pass g c =
    let p = c.pass.inside.seat in
    let b = c.win-state.result in
    let is = c.release.ensures.seat.2
    ∙ ap (λ (m : Me (Option (Race g.row.E.Denot)) (Sight g.row.E.Denot)). (informed m.0 (Some b), [])) c.win-state.ensures.seat.2 in
    keeps_shown g.E.Evidence.automaton g.E.Evidence.feasible p.table_id c.release.new.place.table_id p.me.0 c.release.new.place.me b b
    (c.release.ensures.seat.0 ∙ c.win-state.ensures.seat.0) is refl c.pass.invariant.0 c.pass.invariant.2 c.pass.invariant.3
    c.win-state.ensures.state c.release.ensures.legal

pub returns-in_err-kept-clause-valid : goal.returns-in_err-kept-clause-valid
returns-in_err-kept-clause-valid g c =
    let p = c.pass.inside.seat in
    let b = c.win-state.result in
    let is = c.release.ensures.seat.2
    ∙ ap (λ (m : Me (Option (Race g.row.E.Denot)) (Sight g.row.E.Denot)). (informed m.0 (Some b), [])) c.win-state.ensures.seat.2 in
    (keeps_shown g.E.Evidence.automaton g.E.Evidence.feasible p.table_id c.release.new.place.table_id p.me.0 c.release.new.place.me b b
    (c.release.ensures.seat.0 ∙ c.win-state.ensures.seat.0) is refl c.pass.invariant.0 c.pass.invariant.2 c.pass.invariant.3
    c.win-state.ensures.state c.release.ensures.legal).3

pub returns-in_err-kept-clause-of_cell : goal.returns-in_err-kept-clause-of_cell
unfolding returns-in_err-kept-clause-moment
returns-in_err-kept-clause-of_cell g c =
    let b = c.win-state.result in
    of_cell_shown c.args.self.now c.args.pass.now _ b.history b.end (returns-in_err-kept-clause-moment g c).3 c.requires.cell

pub invariant_of-pass-2 : goal.invariant_of-pass-2
invariant_of-pass-2 g c =
    let p = c.pass.inside.seat in
    let b = c.win-state.result in
    let is = c.release.ensures.seat.2
    ∙ ap (λ (m : Me (Option (Race g.row.E.Denot)) (Sight g.row.E.Denot)). (informed m.0 (Some b), [])) c.win-state.ensures.seat.2 in
    keeps_shown g.E.Evidence.automaton g.E.Evidence.feasible p.table_id c.release.new.place.table_id p.me.0 c.release.new.place.me b b
    (c.release.ensures.seat.0 ∙ c.win-state.ensures.seat.0) is refl c.pass.invariant.0 c.pass.invariant.2 c.pass.invariant.3
    c.win-state.ensures.state c.release.ensures.legal

pub returns-clause-valid : goal.returns-clause-valid
returns-clause-valid g c =
    let p = c.pass.inside.seat in
    let b = c.win-state.result in
    let is = c.release.ensures.seat.2
    ∙ ap (λ (m : Me (Option (Race g.row.E.Denot)) (Sight g.row.E.Denot)). (informed m.0 (Some b), [])) c.win-state.ensures.seat.2 in
    (keeps_shown g.E.Evidence.automaton g.E.Evidence.feasible p.table_id c.release.new.place.table_id p.me.0 c.release.new.place.me b b
    (c.release.ensures.seat.0 ∙ c.win-state.ensures.seat.0) is refl c.pass.invariant.0 c.pass.invariant.2 c.pass.invariant.3
    c.win-state.ensures.state c.release.ensures.legal).3

pub returns-clause-of_cell : goal.returns-clause-of_cell
unfolding returns-clause-moment
returns-clause-of_cell g c =
    let b = c.win-state.result in
    of_cell_shown c.args.self.now c.args.pass.now _ b.history b.end (returns-clause-moment g c).3 c.requires.cell
