-- Lists and blocks that are made part by part.
use Rattle.std.specs.Prelude.{List, ◌++◌, Option}
use Rattle.std.specs.Option.{option_map}
use Rattle.typed_tree.specs.TypedTree.{TypedStatement, TypedBlock}
use Rattle.boogie_types.specs.Naming.{in_front}

-- what is made, with what is still to be made behind it
abbrev pub made : {Y : Type 0} → List Y → Option (List Y) → Option (List Y)
made done rest = option_map (λ ys. done ++ ys) rest

-- the same of a block
abbrev pub block_made : List TypedStatement → Option TypedBlock → Option TypedBlock
block_made done rest = option_map (in_front done) rest
