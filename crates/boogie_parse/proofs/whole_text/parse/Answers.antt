use Rattle.std.proofs.Common.{rules}
use Rattle.boogie_tree.specs.View.{program}
use Rattle.boogie_parse.specs.Reading.ListViews.{Gives}
use Rattle.boogie_parse.specs.Rules.WholeText.{read_text}
use Rattle.boogie_parse.proofs.Rules.WholeText.{given_is_program, program_is_given, syntax_is_outside, limit_is_past, fault_is_of_tokens}
use Rattle.boogie_parse.proofs.Spelling.RoundTrip.{found_again, spellable_program}
use Rattle.boogie_parse.proofs.whole_text.parse.Goals as goal

pub returns-clause-found : goal.returns-clause-found
returns-clause-found c =
    let given : Gives program c.program.result (read_text c.args.text.now) = search rules in
    given_is_program c.args.text.now c.program.result given

pub returns-clause-only : goal.returns-clause-only
returns-clause-only c =
    let given : Gives program c.program.result (read_text c.args.text.now) = search rules in
    program_is_given c.args.text.now c.program.result given

pub returns-clause-syntax : goal.returns-clause-syntax
returns-clause-syntax c =
    let given : Gives program c.program.result (read_text c.args.text.now) = search rules in
    syntax_is_outside c.args.text.now c.program.result given

pub returns-clause-again : goal.returns-clause-again
returns-clause-again c =
    let given : Gives program c.program.result (read_text c.args.text.now) = search rules in
    found_again c.args.text.now c.program.result (given_is_program c.args.text.now c.program.result given)

pub returns-clause-limits : goal.returns-clause-limits
returns-clause-limits c =
    let given : Gives program c.program.result (read_text c.args.text.now) = search rules in
    limit_is_past c.args.text.now c.program.result given

pub returns-clause-tokens : goal.returns-clause-tokens
returns-clause-tokens c =
    let given : Gives program c.program.result (read_text c.args.text.now) = search rules in
    fault_is_of_tokens c.args.text.now c.program.result given

-- a fault of the tokens
pub returns-in_err-tokens-clause-limits : goal.returns-in_err-tokens-clause-limits
returns-in_err-tokens-clause-limits c =
    let given : Gives program c.from_residual.result (read_text c.args.text.now) = search rules in
    limit_is_past c.args.text.now c.from_residual.result given

pub returns-clause-spellable : goal.returns-clause-spellable
returns-clause-spellable c =
    let given : Gives program c.program.result (read_text c.args.text.now) = search rules in
    spellable_program c.args.text.now c.program.result (given_is_program c.args.text.now c.program.result given)
