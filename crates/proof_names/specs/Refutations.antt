-- The refutations that lines name.
use Rattle.std.specs.Prelude.{ℕ, ℤ, Bool, true, false, ◌&&◌, nat_lt, List, map, Option, None, Some, is_some}
use Rattle.std.specs.List.{list_all}
use Rattle.std.specs.Option.{option_map}
use Rattle.farkas_check.specs.Nodes as nodes
use Rattle.farkas_check.specs.Nodes.{PlainNode}
use Rattle.proof_form.specs.declared.numerals.Numeral.{Numeral}
use Rattle.proof_form.specs.Refutations.{RefutationNode, leaf, cut, cases}
use Rattle.proof_names.specs.Numbers.{index_in, short_in, number_in}
use Rattle.proof_names.specs.Options.{both, all_some}

-- a row's number and a multiplier, which fit
abbrev pub part_fits : (Numeral × Numeral) → Bool
part_fits p = is_some (number_in p.0) && is_some (number_in p.1)

abbrev pub is_below : ℕ → Option ℕ → Bool
is_below columns None = false
is_below columns (Some c) = nat_lt c columns

-- the node's numbers fit, and a cut is at one of so many columns
abbrev pub node_is_named : ℕ → RefutationNode → Bool
node_is_named columns (leaf parts) = list_all part_fits parts
node_is_named columns (cut c k) = is_below columns (index_in c) && is_some (number_in k)
node_is_named columns (cases n) = true

abbrev pub refutation_is_named : ℕ → List RefutationNode → Bool
refutation_is_named columns nodes = list_all (node_is_named columns) nodes

-- a part of a leaf; none where its row is negative or has no number of 32 bits
abbrev pub named_part : (Numeral × Numeral) → Option (ℕ × ℤ)
named_part p = both (short_in p.0) (number_in p.1)

abbrev pub cut_of : Option (ℕ × ℤ) → Option PlainNode
cut_of None = None
cut_of (Some c) = Some (nodes.cut c.0 c.1)

abbrev pub node_of : RefutationNode → Option PlainNode
node_of (leaf parts) = option_map nodes.leaf (all_some (map named_part parts))
node_of (cut c k) = cut_of (both (short_in c) (number_in k))
node_of (cases n) = Some (nodes.cases n)

-- the refutation of these nodes; none where a row has no number of 32 bits, as no row of a system then has it
abbrev pub refutation_of : List RefutationNode → Option (List PlainNode)
refutation_of nodes = all_some (map node_of nodes)
