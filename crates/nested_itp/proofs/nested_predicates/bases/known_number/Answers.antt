use Rattle.std.proofs.Common.{◌∙◌, ◌≡◌, ◌<◌, sym, length, Some}
use Rattle.nested_itp.specs.NestedPredicates.Positions.{known_at}
use Rattle.nested_itp.proofs.NestedPredicates.BaseLaws.{known_made, known_found, known_room}
use Rattle.nested_itp.proofs.nested_predicates.bases.known_number.Goals as goal

pub returns-in-Some-clause-value : goal.returns-in-Some-clause-value
returns-in-Some-clause-value c =
    let k : known_at c.args.column.now.0 c.args.column.now.1.constant c.args.version c.args.before.now ≡ Some c.in-Some.known = sym c.known_version.ensures ∙ c.in-Some.is in
    let l : c.in-Some.known < length c.args.running.now.columns.items =
    known_made (λ v. v < length c.args.running.now.columns.items) c.args.column.now.0 c.args.column.now.1.constant c.args.version c.args.before.now c.in-Some.known c.requires.version
    c.requires.before k in
    known_found c.args.running.now.columns.items _ c.in-Some.known c.index.result.now c.index.result.now l k c.index.ensures

pub returns-in-Some-clause-room : goal.returns-in-Some-clause-room
returns-in-Some-clause-room c =
    let k : known_at c.args.column.now.0 c.args.column.now.1.constant c.args.version c.args.before.now ≡ Some c.in-Some.known = sym c.known_version.ensures ∙ c.in-Some.is in
    let l : c.in-Some.known < length c.args.running.now.columns.items =
    known_made (λ v. v < length c.args.running.now.columns.items) c.args.column.now.0 c.args.column.now.1.constant c.args.version c.args.before.now c.in-Some.known c.requires.version
    c.requires.before k in
    known_room c.args.running.now c.in-Some.known c.index.result.now c.index.result.now c.requires.counted l c.index.ensures
