use Rattle.std.proofs.Common.{[], ◌∷◌, ap, sym, ◌∙◌, length, Option, None, Some}
use Rattle.race_core.specs.Races.{Race}
use Rattle.race_core.proofs.Interleaved.{end_is_taken}
use Rattle.atomic_table.specs.Table.{Me}
use Rattle.version_cell.specs.declared.board.Sight.{Sight}
use Rattle.version_cell.specs.Views.{informed, with_end}
use Rattle.version_cell.specs.Passes.{Known, Cell}
use Rattle.version_cell.proofs.Passing.{closes_of, moment_of}
use Rattle.version_cell.proofs.Putting.{holds_of, shown_by, ending_by, of_cell_shown, of_cell_ending, names_shown, keeps_shown, keeps_ending}
use Rattle.version_cell.proofs.cells.VersionCell.finish.Goals as goal

pub win-state-requires-clause-table : goal.win-state-requires-clause-table
win-state-requires-clause-table g c κs within =
    let here = sym (ap (λ (x : Cell). x.id) c.self.view_is) in
    (ap (λ (x : Known g.row.E.Denot). x.cell) c.pass.view_is ∙ (c.requires.cell.cell ∙ here), c.self.invariant)

pub finish-requires-clause-table : goal.finish-requires-clause-table
finish-requires-clause-table g c κs within =
    let here = sym (ap (λ (x : Cell). x.id) c.self.view_is) in
    (c.win-state.ensures.seat.0 ∙ (ap (λ (x : Known g.row.E.Denot). x.cell) c.pass.view_is ∙ (c.requires.cell.cell ∙ here)), c.self.invariant)

pub finish-requires-clause-slot : goal.finish-requires-clause-slot
finish-requires-clause-slot g c κs within =
    ap (λ (m : Me (Option (Race g.row.E.Denot)) (Sight g.row.E.Denot)). m.1) c.win-state.ensures.seat.2

pub finish-requires-clause-state : goal.finish-requires-clause-state
finish-requires-clause-state g c κs within =
    closes_of c.pass.inside.seat.me.0 c.win-state.result c.offer_end.new.state c.win-state.new.place.me ((0, None) ∷ []) c.args.end c.args.base
    c.win-state.ensures.seat.2 c.pass.invariant.1.shares c.win-state.ensures.state c.in-Ok.ensures.0 c.in-Ok.ensures.1

pub invariant_of-pass : goal.invariant_of-pass
invariant_of-pass g c =
    let p = c.pass.inside.seat in
    let d = c.offer_end.new.state in
    let is = c.finish.ensures.seat.2
    ∙ ap (λ (m : Me (Option (Race g.row.E.Denot)) (Sight g.row.E.Denot)). (with_end m.0 (Some d), [])) c.win-state.ensures.seat.2 in
    keeps_ending g.E.Evidence.automaton g.E.Evidence.feasible p.table_id c.finish.new.place.table_id p.me.0 c.finish.new.place.me c.win-state.result d
    c.args.end (c.finish.ensures.seat.0 ∙ c.win-state.ensures.seat.0) is c.in-Ok.ensures.1 c.pass.invariant.0 c.pass.invariant.2 c.pass.invariant.3
    c.win-state.ensures.state c.finish.ensures.legal

pub returns-in-Ok-clause-valid : goal.returns-in-Ok-clause-valid
returns-in-Ok-clause-valid g c =
    let p = c.pass.inside.seat in
    let d = c.offer_end.new.state in
    let is = c.finish.ensures.seat.2
    ∙ ap (λ (m : Me (Option (Race g.row.E.Denot)) (Sight g.row.E.Denot)). (with_end m.0 (Some d), [])) c.win-state.ensures.seat.2 in
    (keeps_ending g.E.Evidence.automaton g.E.Evidence.feasible p.table_id c.finish.new.place.table_id p.me.0 c.finish.new.place.me c.win-state.result d
    c.args.end (c.finish.ensures.seat.0 ∙ c.win-state.ensures.seat.0) is c.in-Ok.ensures.1 c.pass.invariant.0 c.pass.invariant.2 c.pass.invariant.3
    c.win-state.ensures.state c.finish.ensures.legal).3

pub returns-in-Ok-clause-moment : goal.returns-in-Ok-clause-moment
returns-in-Ok-clause-moment g c =
    let p = c.pass.inside.seat in
    let b = c.win-state.result in
    let d = c.offer_end.new.state in
    let is = c.finish.ensures.seat.2
    ∙ ap (λ (m : Me (Option (Race g.row.E.Denot)) (Sight g.row.E.Denot)). (with_end m.0 (Some d), [])) c.win-state.ensures.seat.2 in (
      b.history,
      b.end,
      moment_of p.table_id p.me.0 c.args.pass.now b c.pass.view_is c.win-state.ensures.state,
      (
        c.in-Ok.ensures.0,
        sym ((end_is_taken b.end (length b.history) c.args.base).0 c.in-Ok.ensures.0).1,
        ending_by p.table_id c.finish.new.place.table_id p.me.0 c.finish.new.place.me c.args.pass.now b d c.args.end c.pass.view_is
            (c.finish.ensures.seat.0 ∙ c.win-state.ensures.seat.0) is c.in-Ok.ensures.1,
      ),
    )

pub returns-in-Ok-clause-of_cell : goal.returns-in-Ok-clause-of_cell
unfolding returns-in-Ok-clause-moment
returns-in-Ok-clause-of_cell g c =
    of_cell_ending c.args.self.now c.args.pass.now _ c.win-state.result.history c.args.end (returns-in-Ok-clause-moment g c).3.2 c.requires.cell

pub release-requires-clause-table : goal.release-requires-clause-table
release-requires-clause-table g c κs within =
    let here = sym (ap (λ (x : Cell). x.id) c.self.view_is) in
    (c.win-state.ensures.seat.0 ∙ (ap (λ (x : Known g.row.E.Denot). x.cell) c.pass.view_is ∙ (c.requires.cell.cell ∙ here)), c.self.invariant)

pub release-requires-clause-slot : goal.release-requires-clause-slot
release-requires-clause-slot g c κs within =
    ap (λ (m : Me (Option (Race g.row.E.Denot)) (Sight g.row.E.Denot)). m.1) c.win-state.ensures.seat.2

pub release-requires-clause-state : goal.release-requires-clause-state
release-requires-clause-state g c κs within =
    holds_of c.pass.inside.seat.me.0 c.win-state.result c.offer_end.new.state c.win-state.new.place.me ((0, None) ∷ []) c.win-state.ensures.seat.2
    c.pass.invariant.1.shares c.win-state.ensures.state c.in-Err.ensures.2

pub invariant_of-pass-in-Err : goal.invariant_of-pass-in-Err
invariant_of-pass-in-Err g c =
    let p = c.pass.inside.seat in
    let d = c.offer_end.new.state in
    let is = c.release.ensures.seat.2
    ∙ ap (λ (m : Me (Option (Race g.row.E.Denot)) (Sight g.row.E.Denot)). (informed m.0 (Some d), [])) c.win-state.ensures.seat.2 in
    keeps_shown g.E.Evidence.automaton g.E.Evidence.feasible p.table_id c.release.new.place.table_id p.me.0 c.release.new.place.me c.win-state.result d
    (c.release.ensures.seat.0 ∙ c.win-state.ensures.seat.0) is c.in-Err.ensures.2 c.pass.invariant.0 c.pass.invariant.2 c.pass.invariant.3
    c.win-state.ensures.state c.release.ensures.legal

pub returns-in-Err-clause-valid : goal.returns-in-Err-clause-valid
returns-in-Err-clause-valid g c =
    let p = c.pass.inside.seat in
    let d = c.offer_end.new.state in
    let is = c.release.ensures.seat.2
    ∙ ap (λ (m : Me (Option (Race g.row.E.Denot)) (Sight g.row.E.Denot)). (informed m.0 (Some d), [])) c.win-state.ensures.seat.2 in
    (keeps_shown g.E.Evidence.automaton g.E.Evidence.feasible p.table_id c.release.new.place.table_id p.me.0 c.release.new.place.me c.win-state.result d
    (c.release.ensures.seat.0 ∙ c.win-state.ensures.seat.0) is c.in-Err.ensures.2 c.pass.invariant.0 c.pass.invariant.2 c.pass.invariant.3
    c.win-state.ensures.state c.release.ensures.legal).3

pub returns-in-Err-clause-moment : goal.returns-in-Err-clause-moment
returns-in-Err-clause-moment g c =
    let p = c.pass.inside.seat in
    let b = c.win-state.result in
    let d = c.offer_end.new.state in
    let is = c.release.ensures.seat.2
    ∙ ap (λ (m : Me (Option (Race g.row.E.Denot)) (Sight g.row.E.Denot)). (informed m.0 (Some d), [])) c.win-state.ensures.seat.2 in (
      b.history,
      b.end,
      moment_of p.table_id p.me.0 c.args.pass.now b c.pass.view_is c.win-state.ensures.state,
      (
        c.in-Err.ensures.0,
        c.in-Err.ensures.1,
        shown_by p.table_id c.release.new.place.table_id p.me.0 c.release.new.place.me c.args.pass.now b d c.pass.view_is
            (c.release.ensures.seat.0 ∙ c.win-state.ensures.seat.0) is c.in-Err.ensures.2,
      ),
    )

pub returns-in-Err-clause-of_cell : goal.returns-in-Err-clause-of_cell
unfolding returns-in-Err-clause-moment
returns-in-Err-clause-of_cell g c =
    let b = c.win-state.result in
    of_cell_shown c.args.self.now c.args.pass.now _ b.history b.end (returns-in-Err-clause-moment g c).3.2 c.requires.cell

pub returns-in-Err-clause-names : goal.returns-in-Err-clause-names
unfolding returns-in-Err-clause-moment
returns-in-Err-clause-names g c =
    let b = c.win-state.result in
    names_shown c.args.pass.now _ b.history b.end c.args.base c.in-Err.refused.why (returns-in-Err-clause-moment g c).3.2 c.in-Err.ensures.0
