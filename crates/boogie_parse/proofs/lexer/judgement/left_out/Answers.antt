-- The look-up in the table gives the first row whose word the text is.
use Rattle.std.proofs.Common.{rules, tests, map, ap, sym, ◌∙◌, ◌≡◌, ℕ, Bool, List, Bor, refl}
use Rattle.std.proofs.lemmas.Iterator.{YieldsList-from_slice}
use Rattle.std.proofs.lemmas.Iterator.Search.{find_from_yields_List}
use Rattle.std.specs.Str.{bytes_eq}
use Rattle.std.specs.Slice.Iter.{iter_rest}
use Rattle.boogie_parse.specs.declared.fault.What.{What}
use Rattle.boogie_parse.specs.Lexing.Lexed.{beside_text, left_out}
use Rattle.boogie_parse.proofs.Lexing.LeftOut.{row, part_of, part_beside}
use Rattle.boogie_parse.proofs.lexer.judgement.left_out.Goals as goal
use Rattle.boogie_parse.proofs.lexer.judgement.left_out.Goals.{After-find}

found : (c : After-find) → part_of c.find.result ≡ beside_text c.args.text.now left_out
unfolding left_out
found c =
    let test : Bor (List ℕ) × What → Bool = λ r. bytes_eq c.args.text.now r.0.now in
    let same : map row (iter_rest c.iter.result) ≡ left_out = search rules in
    part_beside c.args.text.now (iter_rest c.iter.result) c.find.result same
    (find_from_yields_List test _ _ c.find.result c.find.ensures.ran (YieldsList-from_slice (iter_rest c.iter.result) refl) (λ x b q k. search (rules, tests)))

pub returns-in_err-part : goal.returns-in_err-part
returns-in_err-part c =
    let is = found (goal.at.returns-in_err-part c).After-find in
    let none = ap part_of c.in_err-part.was in
    c.from_residual.ensures ∙ sym none ∙ is

pub returns : goal.returns
returns c =
    let is = found (goal.at.returns c).After-find in
    let some = ap part_of c.in_ok-part.was in
    sym some ∙ is
