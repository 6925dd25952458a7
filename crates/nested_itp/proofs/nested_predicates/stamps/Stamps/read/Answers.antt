use Rattle.std.proofs.Common.{◌≡◌, ◌∙◌, ◌++◌, ◌*◌, ap, Some, length, rules}
use Rattle.letter_acts.specs.declared.acts.Act.{Act}
use Rattle.letter_acts.specs.Acts.{plain_act}
use Rattle.letter_acts.specs.Invariant.{alphabet_of}
use Rattle.path_rows.specs.Paths.{repeated}
use Rattle.nested_itp.specs.NestedPredicates.Walking.{ReadsLetter}
use Rattle.nested_itp.proofs.NestedPredicates.StampCounts.{InsideRows, CallRows, CallColumns, both_ok, inside_given, call_given, back_read}
use Rattle.nested_itp.proofs.nested_predicates.stamps.Stamps.read.Goals as goal

pub returns-in-Inside : goal.returns-in-Inside
returns-in-Inside c =
    both_ok (InsideRows c.args.number c.len.result c.columns-frame.result.now c.deref.result.now c.args.self.now.rows.items c.read_inside.new.self.rows.items)
    (c.read_inside.new.self.columns.items ≡ (c.args.self.now.columns.items ++ repeated (2 * c.args.number) (length c.deref.result.now)) ++ repeated (2 * c.args.number) c.in-Inside.helpers)
    (ReadsLetter (alphabet_of c.args.icfg.now) c.args.number c.args.letter c.args.self.now c.read_inside.new.self)
    (λ e f. inside_given (alphabet_of c.args.icfg.now) c.args.number c.args.letter c.in-Inside.proc c.in-Inside.written.items c.in-Inside.helpers c.in-Inside.rows.items c.args.self.now
    c.read_inside.new.self c.len.result c.columns-frame.result.now c.deref.result.now (c.act_at.ensures ∙ ap (λ (a : Act). Some (plain_act a)) c.in-Inside.is) (search rules)
    c.columns-frame.ensures.value c.deref.ensures.value e f) c.read_inside.result c.read_inside.ensures.rows c.read_inside.ensures.columns

pub returns-in-Call : goal.returns-in-Call
returns-in-Call c =
    both_ok (CallRows c.args.number c.len-in-Call.result c.columns.result.now c.args.self.now.rows.items c.read_call.new.self.rows.items)
    (CallColumns c.args.number c.in-Call.helpers c.columns.result.now c.args.self.now.columns.items c.read_call.new.self.columns.items)
    (ReadsLetter (alphabet_of c.args.icfg.now) c.args.number c.args.letter c.args.self.now c.read_call.new.self)
    (λ e f. call_given (alphabet_of c.args.icfg.now) c.args.number c.args.letter c.in-Call.caller c.in-Call.callee c.in-Call.helpers c.in-Call.rows.items c.args.self.now
    c.read_call.new.self c.len-in-Call.result c.columns.result.now (c.act_at.ensures ∙ ap (λ (a : Act). Some (plain_act a)) c.in-Call.is) (search rules)
    c.columns.ensures.value e f) c.read_call.result c.read_call.ensures.rows c.read_call.ensures.columns

pub returns-in-Back : goal.returns-in-Back
returns-in-Back c =
    back_read (alphabet_of c.args.icfg.now) c.args.number c.args.letter c.in-Back.call c.in-Back.targets.items c.args.self.now
    (c.act_at.ensures ∙ ap (λ (a : Act). Some (plain_act a)) c.in-Back.is)
