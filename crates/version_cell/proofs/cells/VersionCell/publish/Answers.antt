use Rattle.std.proofs.Common.{◌≡◌, ℕ, arith, sym, ap, ◌∙◌, subst, refl, [], ◌∷◌, length, length-append, Option, Some, None}
use Rattle.std.specs.Arc.{arc_value}
use Rattle.race_core.specs.Races.{Race}
use Rattle.race_core.specs.Steps.{publish_refusal}
use Rattle.atomic_table.specs.Table.{Me}
use Rattle.version_cell.specs.declared.board.Sight.{Sight}
use Rattle.version_cell.specs.Views.{holding, informed, with_entry}
use Rattle.version_cell.specs.Passes.{Known, Cell, owning}
use Rattle.version_cell.proofs.Putting.{holds_of, shown_by, of_cell_shown, of_cell_owning, keeps_shown}
use Rattle.version_cell.proofs.Sums.{none_some}
use Rattle.version_cell.proofs.Passing.{moment_of, owning_is, fair_won, grows_of, valid_entry, keeps_pass, publish_open, publish_base, whole_taken}
use Rattle.version_cell.proofs.cells.VersionCell.publish.Goals as goal

pub win-state-requires-clause-table : goal.win-state-requires-clause-table
win-state-requires-clause-table g c κs within =
    let here = sym (ap (λ (x : Cell). x.id) c.self.view_is) in
    (ap (λ (x : Known g.row.E.Denot). x.cell) c.pass.view_is ∙ (c.requires.cell.cell ∙ here), c.self.invariant)

pub announce-requires-clause-table : goal.announce-requires-clause-table
announce-requires-clause-table g c κs within =
    let here = sym (ap (λ (x : Cell). x.id) c.self.view_is) in
    (c.win-state.ensures.seat.0 ∙ (ap (λ (x : Known g.row.E.Denot). x.cell) c.pass.view_is ∙ (c.requires.cell.cell ∙ here)), c.self.invariant)

pub announce-requires-clause-slot : goal.announce-requires-clause-slot
announce-requires-clause-slot g c κs within =
    ap (λ (m : Me (Option (Race g.row.E.Denot)) (Sight g.row.E.Denot)). m.1) c.win-state.ensures.seat.2

pub offer_entry-requires-after_bounds : goal.offer_entry-requires-after_bounds
offer_entry-requires-after_bounds g c κs within =
    let p = c.pass.inside.seat in
    fair_won g.E.Evidence.automaton p.table_id p.me.0 c.args.pass.now c.win-state.result c.args.base c.args.entry (arc_value c.args.kept)
    c.pass.view_is c.win-state.ensures.state c.requires.base c.requires.fair

pub announce-requires-clause-state : goal.announce-requires-clause-state
announce-requires-clause-state g c κs within =
    let v = c.pass.inside.seat.me.0 in
    let b = c.win-state.result in
    let new = c.in-Ok.ensures.2 in
    let limit = ap (λ (x : Race g.row.E.Denot). x.limit) new in
    let was = c.win-state.ensures.state.limit in (
      grows_of v b c.offer_entry.new.state c.win-state.new.place.me ((0, None) ∷ []) c.args.entry (arc_value c.args.kept)
          c.win-state.ensures.seat.2 c.pass.invariant.1.shares c.win-state.ensures.state
          (publish_open b.end (length b.history) b.limit c.args.base c.in-Ok.ensures.0) new,
      omega (arith, limit, was, c.pass.invariant.2),
    )

pub invariant_of-pass : goal.invariant_of-pass
invariant_of-pass g c =
    let p = c.pass.inside.seat in
    let b = c.win-state.result in
    let d = c.offer_entry.new.state in
    let n = c.announce.result in
    let new = c.in-Ok.ensures.2 in
    let is = c.announce.ensures.seat.2
    ∙ ap (λ (m : Me (Option (Race g.row.E.Denot)) (Sight g.row.E.Denot)). (informed (with_entry m.0 (Some d) n) (Some d), [])) c.win-state.ensures.seat.2 in
    keeps_pass g.E.Evidence.automaton g.E.Evidence.feasible p.table_id c.announce.new.place.table_id
    (informed (with_entry (holding p.me.0 b) (Some d) n) (Some d)) c.announce.new.place.me
    (c.announce.ensures.seat.0 ∙ c.win-state.ensures.seat.0) is c.pass.invariant.0 refl c.pass.invariant.2
    (valid_entry g.E.Evidence.automaton g.E.Evidence.feasible p.table_id p.me.0 b d c.args.entry n c.pass.invariant.3 c.win-state.ensures.state
    (ap (λ (x : Race g.row.E.Denot). x.program) new) (ap (λ (x : Race g.row.E.Denot). x.history) new) c.announce.ensures.version c.announce.ensures.legal)

pub returns-in-Ok-clause-valid : goal.returns-in-Ok-clause-valid
returns-in-Ok-clause-valid g c =
    let p = c.pass.inside.seat in
    let b = c.win-state.result in
    let d = c.offer_entry.new.state in
    let n = c.announce.result in
    let new = c.in-Ok.ensures.2 in
    let is = c.announce.ensures.seat.2
    ∙ ap (λ (m : Me (Option (Race g.row.E.Denot)) (Sight g.row.E.Denot)). (informed (with_entry m.0 (Some d) n) (Some d), [])) c.win-state.ensures.seat.2 in
    (keeps_pass g.E.Evidence.automaton g.E.Evidence.feasible p.table_id c.announce.new.place.table_id
    (informed (with_entry (holding p.me.0 b) (Some d) n) (Some d)) c.announce.new.place.me
    (c.announce.ensures.seat.0 ∙ c.win-state.ensures.seat.0) is c.pass.invariant.0 refl c.pass.invariant.2
    (valid_entry g.E.Evidence.automaton g.E.Evidence.feasible p.table_id p.me.0 b d c.args.entry n c.pass.invariant.3 c.win-state.ensures.state
    (ap (λ (x : Race g.row.E.Denot). x.program) new) (ap (λ (x : Race g.row.E.Denot). x.history) new) c.announce.ensures.version c.announce.ensures.legal)).3

pub returns-in-Ok-clause-moment : goal.returns-in-Ok-clause-moment
returns-in-Ok-clause-moment g c =
    let p = c.pass.inside.seat in
    let b = c.win-state.result in
    let d = c.offer_entry.new.state in
    let n = c.announce.result in
    let new = c.in-Ok.ensures.2 in
    let taken = c.in-Ok.ensures.0 in
    let at = publish_base b.end (length b.history) b.limit c.args.base taken in
    let longer = ap (λ (x : Race g.row.E.Denot). x.history) new in
    let open_ = ap (λ (x : Race g.row.E.Denot). x.end) new ∙ publish_open b.end (length b.history) b.limit c.args.base taken in
    let size = ap (λ (x : Race g.row.E.Denot). length x.history) new in
    let more = length-append b.history (c.args.entry ∷ []) in
    let limit = c.win-state.ensures.state.limit ∙ ap (λ (x : Known g.row.E.Denot). x.limit) c.pass.view_is in
    let is = c.announce.ensures.seat.2
    ∙ ap (λ (m : Me (Option (Race g.row.E.Denot)) (Sight g.row.E.Denot)). (informed (with_entry m.0 (Some d) n) (Some d), [])) c.win-state.ensures.seat.2 in
    let N : ℕ → Type 0 = λ l. publish_refusal b.end (length b.history) l c.args.base ≡ None in (
      b.history,
      b.end,
      moment_of p.table_id p.me.0 c.args.pass.now b c.pass.view_is c.win-state.ensures.state,
      (
        subst N limit taken,
        omega (arith, at, c.in-Ok.ensures.1),
        sym at,
        owning_is p.table_id c.announce.new.place.table_id p.me.0 c.announce.new.place.me b d c.args.entry n c.args.base
            (c.announce.ensures.seat.0 ∙ c.win-state.ensures.seat.0) is longer open_ (omega (arith, at, size, more, c.announce.ensures.version))
            ∙ ap (λ (x : Known g.row.E.Denot). owning x b.history c.args.entry c.args.base) c.pass.view_is,
      ),
    )

pub returns-in-Ok-clause-of_cell : goal.returns-in-Ok-clause-of_cell
unfolding returns-in-Ok-clause-moment
returns-in-Ok-clause-of_cell g c =
    of_cell_owning c.args.self.now c.args.pass.now _ c.win-state.result.history c.args.entry c.args.base (returns-in-Ok-clause-moment g c).3.3 c.requires.cell

pub release-requires-clause-table : goal.release-requires-clause-table
release-requires-clause-table g c κs within =
    let here = sym (ap (λ (x : Cell). x.id) c.self.view_is) in
    (c.win-state.ensures.seat.0 ∙ (ap (λ (x : Known g.row.E.Denot). x.cell) c.pass.view_is ∙ (c.requires.cell.cell ∙ here)), c.self.invariant)

pub release-requires-clause-slot : goal.release-requires-clause-slot
release-requires-clause-slot g c κs within =
    ap (λ (m : Me (Option (Race g.row.E.Denot)) (Sight g.row.E.Denot)). m.1) c.win-state.ensures.seat.2

pub release-requires-clause-state : goal.release-requires-clause-state
release-requires-clause-state g c κs within =
    holds_of c.pass.inside.seat.me.0 c.win-state.result c.offer_entry.new.state c.win-state.new.place.me ((0, None) ∷ []) c.win-state.ensures.seat.2
    c.pass.invariant.1.shares c.win-state.ensures.state c.in-Err.ensures.3

pub invariant_of-pass-in-Err : goal.invariant_of-pass-in-Err
invariant_of-pass-in-Err g c =
    let p = c.pass.inside.seat in
    let d = c.offer_entry.new.state in
    let is = c.release.ensures.seat.2
    ∙ ap (λ (m : Me (Option (Race g.row.E.Denot)) (Sight g.row.E.Denot)). (informed m.0 (Some d), [])) c.win-state.ensures.seat.2 in
    keeps_shown g.E.Evidence.automaton g.E.Evidence.feasible p.table_id c.release.new.place.table_id p.me.0 c.release.new.place.me c.win-state.result d
    (c.release.ensures.seat.0 ∙ c.win-state.ensures.seat.0) is c.in-Err.ensures.3 c.pass.invariant.0 c.pass.invariant.2 c.pass.invariant.3
    c.win-state.ensures.state c.release.ensures.legal

pub returns-in-Err-clause-valid : goal.returns-in-Err-clause-valid
returns-in-Err-clause-valid g c =
    let p = c.pass.inside.seat in
    let d = c.offer_entry.new.state in
    let is = c.release.ensures.seat.2
    ∙ ap (λ (m : Me (Option (Race g.row.E.Denot)) (Sight g.row.E.Denot)). (informed m.0 (Some d), [])) c.win-state.ensures.seat.2 in
    (keeps_shown g.E.Evidence.automaton g.E.Evidence.feasible p.table_id c.release.new.place.table_id p.me.0 c.release.new.place.me c.win-state.result d
    (c.release.ensures.seat.0 ∙ c.win-state.ensures.seat.0) is c.in-Err.ensures.3 c.pass.invariant.0 c.pass.invariant.2 c.pass.invariant.3
    c.win-state.ensures.state c.release.ensures.legal).3

pub returns-in-Err-clause-moment : goal.returns-in-Err-clause-moment
returns-in-Err-clause-moment g c =
    let p = c.pass.inside.seat in
    let b = c.win-state.result in
    let d = c.offer_entry.new.state in
    let limit = c.win-state.ensures.state.limit ∙ ap (λ (x : Known g.row.E.Denot). x.limit) c.pass.view_is in
    let is = c.release.ensures.seat.2
    ∙ ap (λ (m : Me (Option (Race g.row.E.Denot)) (Sight g.row.E.Denot)). (informed m.0 (Some d), [])) c.win-state.ensures.seat.2 in
    let N : ℕ → Type 0 = λ l. publish_refusal b.end (length b.history) l c.args.base ≡ Some c.in-Err.refused.why in (
      b.history,
      b.end,
      moment_of p.table_id p.me.0 c.args.pass.now b c.pass.view_is c.win-state.ensures.state,
      (
        subst N limit c.in-Err.ensures.0,
        c.in-Err.ensures.1,
        c.in-Err.ensures.2,
        shown_by p.table_id c.release.new.place.table_id p.me.0 c.release.new.place.me c.args.pass.now b d c.pass.view_is
            (c.release.ensures.seat.0 ∙ c.win-state.ensures.seat.0) is c.in-Err.ensures.3,
      ),
    )

pub returns-in-Err-clause-of_cell : goal.returns-in-Err-clause-of_cell
unfolding returns-in-Err-clause-moment
returns-in-Err-clause-of_cell g c =
    let b = c.win-state.result in
    of_cell_shown c.args.self.now c.args.pass.now _ b.history b.end (returns-in-Err-clause-moment g c).3.3 c.requires.cell

pub returns-in-Err-clause-whole : goal.returns-in-Err-clause-whole
returns-in-Err-clause-whole g c whole open_ at room =
    let p = c.pass.inside.seat in
    let taken = whole_taken g.E.Evidence.automaton g.E.Evidence.feasible p.table_id p.me.0 c.args.pass.now c.win-state.result c.args.base
    c.pass.view_is c.win-state.ensures.state c.pass.invariant.3 whole open_ at room in
    absurd (none_some c.in-Err.refused.why (sym taken ∙ c.in-Err.ensures.0))
