-- What is wrong with an item, as the definitions of items say it.
use Rattle.std.specs.Prelude.{Bool, Option, None, Some, if◌then◌else◌}
use Rattle.std.specs.Option.{option_map}
use Rattle.boogie_tree.specs.declared.span.Span.{Span}
use Rattle.lowered_graph.specs.Items as items
use Rattle.icfg_lower.specs.declared.place_edges.faults.ItemFault.{ItemFault}
use Rattle.icfg_lower.specs.declared.place_edges.faults.ItemFault.TheVariants.{TooWide, TooBig}

abbrev pub plain_fault : ItemFault → items.ItemFault
plain_fault (TooWide at) = items.TooWide at
plain_fault (TooBig at) = items.TooBig at

abbrev pub plain_faults : Option ItemFault → Option items.ItemFault
plain_faults f = option_map plain_fault f

-- the fault of an item there with this trouble
abbrev pub fault_of : Span → Bool → Bool → Option items.ItemFault
fault_of at wide big = if wide then Some (items.TooWide at) else (if big then Some (items.TooBig at) else None)
