use Rattle.std.proofs.Common.{◌≡◌, ◌∙◌, ◌+◌, length, refl, sym, rules}
use Rattle.path_rows.specs.Versions.{local_columns, old_part}
use Rattle.path_rows.proofs.CallSteps.{types_counted, room_left, call_named, call_is}
use Rattle.path_rows.proofs.parts.call_made.Goals as goal

pub named_rows-requires-clause-named : goal.named_rows-requires-clause-named
named_rows-requires-clause-named c =
    let count : c.len-locals.result ≡ length c.args.types.now.locals.items = search rules in
    let locals = types_counted c.len-locals.result c.args.types.now.locals.items (local_columns c.args.callee.now) count c.requires.locals in
    call_named c.args.callee.now c.args.helpers c.args.made c.len-locals.result c.args.here.now c.deref.result.now c.args.rows.now locals (c.deref.ensures.value ∙ c.in_ok-entry.ensures)
    c.requires.fits.named

pub returns-clause-value : goal.returns-clause-value
returns-clause-value c =
    let count : c.len-locals.result ≡ length c.args.types.now.locals.items = search rules in
    let old_count : c.len.result ≡ length c.args.types.now.olds.items = search rules in
    let locals = types_counted c.len-locals.result c.args.types.now.locals.items (local_columns c.args.callee.now) count c.requires.locals in
    let olds = types_counted c.len.result c.args.types.now.olds.items (old_part c.args.callee.now) old_count c.requires.olds in
    call_is c.args.callee.now c.args.helpers c.args.made c.len-locals.result c.len.result c.args.here.now c.deref.result.now c.args.rows.now c.in_ok-all_rows.all_rows.items
    c.args.types.now.locals.items c.args.types.now.olds.items (record { rows = c.add_made_rows.new.all_rows; columns = c.len-locals.result + c.args.helpers + c.len.result; here = c.in_ok-entry.entry })
    locals olds c.requires.locals c.requires.olds (c.deref.ensures.value ∙ c.in_ok-entry.ensures) c.in_ok-all_rows.ensures c.in_ok-add_made_rows.ensures refl (sym c.deref.ensures.value)

pub returns-clause-room : goal.returns-clause-room
returns-clause-room c = room_left c.args.made (c.len-locals.result + c.args.helpers + c.len.result) c.requires.room c.if-columns-made.false
