-- The look-up in the table gives the first row whose word the text is.
use Rattle.std.proofs.Common.{rules, tests, map, ap, sym, ◌∙◌, ◌≡◌, ℕ, Bool, List, Bor, refl}
use Rattle.std.proofs.lemmas.Iterator.{YieldsList-from_slice}
use Rattle.std.proofs.lemmas.Iterator.Search.{find_from_yields_List}
use Rattle.std.specs.Str.{bytes_eq}
use Rattle.std.specs.Slice.Iter.{iter_rest}
use Rattle.boogie_parse.specs.declared.symbols.Fixed.{Fixed}
use Rattle.boogie_parse.specs.Lexing.Symbols.{spelled, spellings}
use Rattle.boogie_parse.proofs.Lexing.Spellings.{row, fixed_of, fixed_spelled}
use Rattle.boogie_parse.proofs.symbols.fixed_of.Goals as goal
use Rattle.boogie_parse.proofs.symbols.fixed_of.Goals.{After-find}

found : (c : After-find) → fixed_of c.find.result ≡ spelled c.args.text.now spellings
unfolding spellings
found c =
    let test : Bor (List ℕ) × Fixed → Bool = λ r. bytes_eq c.args.text.now r.0.now in
    let same : map row (iter_rest c.iter.result) ≡ spellings = search rules in
    fixed_spelled c.args.text.now (iter_rest c.iter.result) c.find.result same
    (find_from_yields_List test _ _ c.find.result c.find.ensures.ran (YieldsList-from_slice (iter_rest c.iter.result) refl) (λ x b q k. search (rules, tests)))

pub returns-in_err-fixed : goal.returns-in_err-fixed
returns-in_err-fixed c =
    let is = found (goal.at.returns-in_err-fixed c).After-find in
    let none = ap fixed_of c.in_err-fixed.was in
    c.from_residual.ensures ∙ sym none ∙ is

pub returns : goal.returns
returns c =
    let is = found (goal.at.returns c).After-find in
    let some = ap fixed_of c.in_ok-fixed.was in
    sym some ∙ is
