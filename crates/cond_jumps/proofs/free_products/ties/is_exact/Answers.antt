use Rattle.std.proofs.Common.{sym, ◌∙◌}
use Rattle.cond_jumps.specs.FreeProducts.LetterView.{seen}
use Rattle.cond_jumps.proofs.FreeProducts.LetterAnswers.{exact_none, exact_tie, exact_untied}
use Rattle.cond_jumps.proofs.free_products.ties.is_exact.Goals as goal

pub returns-then-not-names_tied : goal.returns-then-not-names_tied
returns-then-not-names_tied c = λ rows e. exact_none (seen c.args.span.now) rows c.args.products.now e c.args.row.now (sym c.names_tied.ensures ∙ c.if-not-names_tied.true)

pub returns-in-Some : goal.returns-in-Some
returns-in-Some c = λ rows e.
    exact_tie (seen c.args.span.now) rows c.args.products.now e c.args.row.now c.in-Some.product c.in-Some.helper c.product_at.result c.eq.result
    (sym c.names_tied.ensures ∙ c.if-not-names_tied.false) (sym c.tied.ensures ∙ c.in-Some.is) c.product_at.ensures c.eq.ensures

pub returns-in-None : goal.returns-in-None
returns-in-None c = λ rows e.
    exact_untied (seen c.args.span.now) rows c.args.products.now e c.args.row.now (sym c.names_tied.ensures ∙ c.if-not-names_tied.false) (sym c.tied.ensures ∙ c.in-None.is)
