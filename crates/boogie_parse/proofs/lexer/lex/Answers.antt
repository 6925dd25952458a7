use Rattle.std.proofs.Common.{◌≡◌, List, Vec, Global, map, Ok, ap, sym, ◌∙◌}
use Rattle.std.proofs.lemmas.Result.{IfOk-weaker}
use Rattle.std.specs.List.{AllByRecursion}
use Rattle.boogie_parse.specs.declared.lexer.token.Token.{Token}
use Rattle.boogie_parse.specs.Lexing.Symbols.{LiteralFits}
use Rattle.boogie_parse.specs.Lexing.Pieces.{Piece}
use Rattle.boogie_parse.specs.Lexing.Lexed.{found_in, tokens_or_fault}
use Rattle.boogie_parse.specs.Lexing.Slices.{AreSlices}
use Rattle.boogie_parse.specs.Ties.PieceViews.{piece}
use Rattle.boogie_parse.proofs.Lexing.SliceLaws.{lexed_slices}
use Rattle.boogie_parse.proofs.Lexing.LiteralTokens.{lexed_literals}
use Rattle.boogie_parse.proofs.lexer.lex.Goals as goal

pub returns-clause-slices : goal.returns-clause-slices
returns-clause-slices c =
    let all = ap (map piece) c.deref.ensures.value ∙ c.in_ok-pieces.ensures in
    IfOk-weaker c.tokens_of.result
    (λ (ts : Vec Token Global). tokens_or_fault (found_in 0 (map piece c.deref.result.now)) ≡ Ok ts.items)
    (λ (ts : Vec Token Global). AreSlices 0 c.args.text.now ts.items)
    (λ ts is. lexed_slices c.args.text.now ts.items (ap (λ (ps : List Piece). tokens_or_fault (found_in 0 ps)) (sym all) ∙ is))
    c.tokens_of.ensures.tokens

pub returns-clause-literals : goal.returns-clause-literals
returns-clause-literals c =
    let all = ap (map piece) c.deref.ensures.value ∙ c.in_ok-pieces.ensures in
    IfOk-weaker c.tokens_of.result
    (λ (ts : Vec Token Global). tokens_or_fault (found_in 0 (map piece c.deref.result.now)) ≡ Ok ts.items)
    (λ (ts : Vec Token Global). AllByRecursion LiteralFits ts.items)
    (λ ts is. lexed_literals c.args.text.now ts.items (ap (λ (ps : List Piece). tokens_or_fault (found_in 0 ps)) (sym all) ∙ is))
    c.tokens_of.ensures.tokens
