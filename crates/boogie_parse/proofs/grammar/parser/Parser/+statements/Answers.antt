use Rattle.std.proofs.Common.{refl, ap, sym, arith, map, length}
use Rattle.std.proofs.lemmas.Result.{err_from_is_err_and}
use Rattle.boogie_tree.specs.View.{statement}
use Rattle.boogie_parse.specs.Reading.ListReading.{one_there, expression_at}
use Rattle.boogie_parse.specs.Reading.StatementReading.{statement_item, list_at}
use Rattle.boogie_parse.specs.Ties.StatementViews.{inside}
use Rattle.boogie_parse.proofs.Reading.ListTurns.{starts, continues, stops, fails, completes, length-adds, map-pushed}
use Rattle.boogie_parse.proofs.Reading.OpenedStatements.{statement_if, statement_while, added_there}
use Rattle.boogie_parse.proofs.Reading.BlockSteps.{block_unopened, block_full, block_opened, block_fails, branch_full, branch_goes}
use Rattle.boogie_parse.proofs.grammar.parser.Parser.+statements.Goals as goal

pub list-loop-turn-init : goal.list-loop-turn-init
unfolding list_at
list-loop-turn-init t c = starts (statement_item (expression_at c.args.self.now.end) c.args.self.now.end 200 (inside c.args.self.now.end c.args.blocks)) length length-adds _ _ _ _ _ (ap (map statement) c.new-statements.ensures.items) (omega arith)

pub list-returns-in_err-statement : goal.list-returns-in_err-statement
list-returns-in_err-statement t c =
    let p = err_from_is_err_and c.from_residual.result c.from_residual.ensures.1 in
    rw (p.1, p.2) (λ m. fails (statement_item (expression_at c.args.self.now.end) c.args.self.now.end 200 (inside c.args.self.now.end c.args.blocks)) length _ _ _ _ _ _ _ _ c.loop-turn.invariant c.loop-turn-test.true refl (ap one_there (c.in_err-statement.ensures m)))

pub list-returns-in-None : goal.list-returns-in-None
list-returns-in-None t c =
    let h = rw c.in-None.is at c.in_ok-statement.ensures in
    rw h.0 (stops (statement_item (expression_at c.args.self.now.end) c.args.self.now.end 200 (inside c.args.self.now.end c.args.blocks)) length _ _ _ _ _ _ _ c.loop-turn.invariant c.loop-turn-test.true refl (ap one_there h.1))

pub list-loop-turn-preserved : goal.list-loop-turn-preserved
list-loop-turn-preserved t c =
    let h = rw c.in-Some.is at c.in_ok-statement.ensures in
    continues (statement_item (expression_at c.args.self.now.end) c.args.self.now.end 200 (inside c.args.self.now.end c.args.blocks)) length length-adds _ _ _ _ _ _ _ _ _ _ c.loop-turn.invariant c.loop-turn-test.true refl (ap one_there h.2)
    (map-pushed statement _ _ _ h.1)

pub list-returns : goal.list-returns
list-returns t c = completes (statement_item (expression_at c.args.self.now.end) c.args.self.now.end 200 (inside c.args.self.now.end c.args.blocks)) length _ _ _ _ _ c.loop-turn.invariant (omega arith)

-- a statement

pub statement-returns-in-Some : goal.statement-returns-in-Some
statement-returns-in-Some t c =
    let e = statement_if (expression_at c.args.self.now.end) c.args.self.now.end 200 (inside c.args.self.now.end c.args.blocks) c.args.symbols.now _ (sym c.in-Some.ensures) in
    rw (c.there.ensures, e) (added_there _ _ c.branch-self.result _ c.branch-self.ensures)

pub statement-returns-in-Some-seen : goal.statement-returns-in-Some-seen
statement-returns-in-Some-seen t c =
    let e = statement_while (expression_at c.args.self.now.end) c.args.self.now.end 200 (inside c.args.self.now.end c.args.blocks) c.args.symbols.now _ (sym c.in-Some-seen.ensures) in
    rw (c.there-in-Some-seen.ensures, e) (added_there _ _ c.looped.result _ c.looped.ensures)

-- a block

pub block-returns-in_err-span : goal.block-returns-in_err-span
block-returns-in_err-span t c =
    let p = err_from_is_err_and c.from_residual.result c.from_residual.ensures.1 in
    rw (p.1, p.2) (λ m. block_unopened c.args.self.now.end c.args.blocks c.args.symbols.now _ (c.in_err-span.ensures m))

pub block-returns-then-blocks-eq0 : goal.block-returns-then-blocks-eq0
block-returns-then-blocks-eq0 t c = λ _. block_full c.args.self.now.end c.args.blocks c.args.symbols.now _ _ _ c.in_ok-span.ensures c.if-blocks-eq0.true c.past_limit.ensures

pub block-returns-in_err-statements : goal.block-returns-in_err-statements
block-returns-in_err-statements t c =
    let p = err_from_is_err_and c.from_residual-in_err-statements.result c.from_residual-in_err-statements.ensures.1 in
    rw (p.1, p.2) (λ m. block_fails c.args.self.now.end c.args.blocks c.args.symbols.now _ _ _ c.in_ok-span.ensures c.if-blocks-eq0.false (c.in_err-statements.ensures m))

pub block-returns-in_err-rest : goal.block-returns-in_err-rest
block-returns-in_err-rest t c =
    let p = err_from_is_err_and c.from_residual-in_err-rest.result c.from_residual-in_err-rest.ensures.1 in
    rw (p.1, p.2) (λ m. rw (block_opened c.args.self.now.end c.args.blocks c.args.symbols.now _ _ c.in_ok-span.ensures c.if-blocks-eq0.false, c.in_ok-statements.ensures, c.in_err-rest.ensures m) refl)

pub block-returns : goal.block-returns
block-returns t c = rw (block_opened c.args.self.now.end c.args.blocks c.args.symbols.now _ _ c.in_ok-span.ensures c.if-blocks-eq0.false, c.in_ok-statements.ensures, c.in_ok-rest.ensures) refl

-- a branch inside a block

pub inner_branch-returns-then-blocks-eq0 : goal.inner_branch-returns-then-blocks-eq0
inner_branch-returns-then-blocks-eq0 t c = λ _. branch_full c.args.self.now.end c.args.blocks c.args.span c.args.symbols.now _ c.if-blocks-eq0.true c.past_limit.ensures

pub inner_branch-returns : goal.inner_branch-returns
inner_branch-returns t c = rw (branch_goes c.args.self.now.end c.args.blocks c.args.span c.args.symbols.now c.if-blocks-eq0.false) c.branch-self.ensures
