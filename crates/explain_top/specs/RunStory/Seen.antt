-- The items of the code as contracts see them.
use Rattle.std.specs.Prelude.{ℕ, List, [], codes}
use Rattle.boogie_tree.specs.View as view
use Rattle.boogie_tree.specs.Tree.{Statement}
use Rattle.explain_top.specs.declared.run_story.sources.Source.{Source}
use Rattle.explain_top.specs.declared.run_story.sources.Source.TheVariants as sources
use Rattle.explain_top.specs.declared.run_story.sources.Word.{Word}
use Rattle.explain_top.specs.declared.run_story.sources.Word.TheVariants as words
use Rattle.explain_top.specs.RunStory.Items.{Item, own_item, variable_item, head_item, item, axiom_item, condition_item}
use Rattle.explain_top.specs.RunStory.Sites.{nowhere_item, or_nowhere}

abbrev pub word_text : Word → List ℕ
word_text words.Const = codes "const"
word_text words.Var = codes "var"
word_text words.Requires = codes "requires"
word_text words.Ensures = codes "ensures"
word_text words.Invariant = codes "invariant"

-- a statement itself; labels, which take no step, stand nowhere
abbrev pub statement_item : Statement → Item
statement_item s = or_nowhere (own_item s)

abbrev pub item_of : Source → Item
item_of sources.Nowhere = nowhere_item
item_of (sources.Variable word v) = variable_item (word_text word) v.now
item_of (sources.Head at p) = head_item at (view.procedure p.now)
item_of (sources.Return p) = item p.now.span (codes "}") []
item_of (sources.Axiom e) = axiom_item (view.expression e.now)
item_of (sources.Condition word i) = condition_item (word_text word) (view.invariant i.now)
item_of (sources.Statement s) = statement_item (view.statement s.now)
