-- The look-up in the table gives the first mark of the table that the text begins with.
use Rattle.std.proofs.Common.{rules, tests, map, ap, sym, ◌∙◌, ◌≡◌, ℕ, Bool, nat_eq, List, Bor, refl}
use Rattle.std.proofs.lemmas.Iterator.{YieldsList-from_slice}
use Rattle.std.proofs.lemmas.Iterator.Search.{find_from_yields_List}
use Rattle.std.specs.List.{starts_with}
use Rattle.std.specs.Slice.Iter.{iter_rest}
use Rattle.boogie_parse.specs.Lexing.Tokens.{mark_at, marks}
use Rattle.boogie_parse.proofs.Lexing.FirstMark.{extent_of, first_mark}
use Rattle.boogie_parse.proofs.lexer.runs.mark_at.Goals as goal
use Rattle.boogie_parse.proofs.lexer.runs.mark_at.Goals.{After-find}

found : (c : After-find) → extent_of c.find.result ≡ mark_at c.args.text.now
found c =
    let test : Bor (List ℕ) → Bool = λ m. starts_with nat_eq c.args.text.now m.now in
    let same : map (λ (m : Bor (List ℕ)). m.now) (iter_rest c.iter.result) ≡ marks = search rules in
    first_mark c.args.text.now (iter_rest c.iter.result) c.find.result same
    (find_from_yields_List test _ _ c.find.result c.find.ensures.ran (YieldsList-from_slice (iter_rest c.iter.result) refl) (λ x b q k. search (rules, tests)))

pub returns-in_err-mark : goal.returns-in_err-mark
returns-in_err-mark c =
    let is = found (goal.at.returns-in_err-mark c).After-find in
    let none = ap extent_of c.in_err-mark.was in
    c.from_residual.ensures ∙ sym none ∙ is

pub returns : goal.returns
returns c =
    let is = found (goal.at.returns c).After-find in
    let some = ap extent_of c.in_ok-mark.was in
    sym some ∙ is
