-- The places of statements, as the code keeps them.
use Rattle.std.specs.Prelude.{ℕ, List, map, Option}
use Rattle.std.specs.Option.{option_map}
use Rattle.std.specs.Borrow.{Bor}
use Rattle.boogie_tree.specs.Tree.{Procedure}

-- the label directly before a loop
abbrev pub label_by : Option (Bor (List ℕ)) → Option (List ℕ)
label_by label = option_map (λ x. x.now) label

-- those of the loops around a statement, innermost first
abbrev pub loops_by : List (Option (Bor (List ℕ))) → List (Option (List ℕ))
loops_by loops = map label_by loops

-- the names of procedures
abbrev pub procedure_texts : List Procedure → List (List ℕ)
procedure_texts ps = map (λ p. p.name.text) ps
