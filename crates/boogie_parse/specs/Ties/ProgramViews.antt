-- What the code of declarations gives, as the reading functions see it.
use Rattle.boogie_parse.specs.declared.grammar.declarations.Head.{Head}
use Rattle.boogie_parse.specs.Rules.GrammarProgram as grammar

abbrev pub head : Head → grammar.Head
head h = record { span = h.span; name = h.name; params = h.params.items; results = h.results.items }
