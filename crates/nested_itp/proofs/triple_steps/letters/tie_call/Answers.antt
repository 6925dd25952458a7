use Rattle.std.proofs.Common.{◌+◌, ◌++◌, List, length, map}
use Rattle.std.specs.Prelude.{if◌then◌else◌}
use Rattle.letter_acts.specs.Frames.{globals_of, olds_of}
use Rattle.nested_itp.specs.NestedRefutations.Refutations.{Role, target_tie, opposite_tie}
use Rattle.nested_itp.specs.NestedRefutations.Numbers.{spares, branch_rows}
use Rattle.nested_itp.specs.declared.triple_steps.sections.Section.{Section}
use Rattle.nested_itp.proofs.TripleSteps.RoleLaws.{adds_section}
use Rattle.nested_itp.proofs.TripleSteps.LetterLaws.{entries_at}
use Rattle.nested_itp.proofs.TripleSteps.JoinLaws.{adds_both}
use Rattle.nested_itp.proofs.triple_steps.letters.tie_call.Goals as goal

pub returns : goal.returns
returns c =
    let old : List Section = c.args.sections.now.items in
    let tied : List Section = c.tie_globals.new.sections.items in
    let entered : List Section = c.add_entries.new.sections.items in
    let callee = c.args.callee.now in
    let row = c.args.reading.now.rows in
    let globals : List Role = map target_tie (globals_of callee) in
    let entries : List Role = if c.args.returns then map (λ o. opposite_tie o.1) (olds_of callee) else branch_rows (row + c.args.rows) (length (olds_of callee)) in
    let own : List Role = if c.args.returns then spares c.args.rows else branch_rows row c.args.rows in
    adds_both old entered c.push.new.self.items (globals ++ entries) own
    (adds_both old tied entered globals entries c.in_ok-tie_globals.ensures
    (entries_at c.args.returns callee c.in_ok-entries.entries (row + c.args.rows) tied entered c.in_ok-entries.ensures c.in_ok-add_entries.ensures))
    (adds_section entered c.push.new.self.items c.call_rows.result own c.in_ok-push.ensures.items c.call_rows.ensures.plain c.call_rows.ensures.roles)
