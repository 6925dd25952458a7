use Rattle.std.proofs.Common.{[], ◌∷◌, ◌++◌, List, length, sym, ap, ◌∙◌, arith, Option, Some}
use Rattle.race_core.specs.Races.{Race}
use Rattle.version_cell.proofs.Opened.{opened, keeps_first}
use Rattle.version_cell.proofs.opening.create.Goals as goal

pub new-requires : goal.new-requires
new-requires g c =
    opened c.of.result.value c.args.limit c.args.shares _ c.in_ok-shared.field-0 c.push_reserved.new.self.items (omega (arith, c.requires.shares))
    (sym (c.of.ensures ∙ c.deref.ensures))
    (c.push_reserved.ensures.items ∙ ap (λ (xs : List (Option (Race g.row.E.Denot))). xs ++ Some c.in_ok-shared.field-0 ∷ []) c.in_ok-slots.ensures.items)
    c.in_ok-shared.ensures

pub invariant_of-result-in-Ok : goal.invariant_of-result-in-Ok
invariant_of-result-in-Ok g c =
    let t = c.in-Ok.ensures.ok in
    let slots = ap (λ (xs : List (Option (Race g.row.E.Denot))). length xs)
    (c.push_reserved.ensures.items ∙ ap (λ (xs : List (Option (Race g.row.E.Denot))). xs ++ Some c.in_ok-shared.field-0 ∷ []) c.in_ok-slots.ensures.items) in
    keeps_first g.E.Evidence.automaton g.E.Evidence.feasible c.of.result.value c.args.limit c.args.shares c.in-Ok.seat.table_id
    c.in-Ok.table.shared.table_id c.in-Ok.seat.me t.2 (t.0, t.1 ∙ slots) t.4 (omega (arith, c.requires.shares)) c.requires.limit.1
