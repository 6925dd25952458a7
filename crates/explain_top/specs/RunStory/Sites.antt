-- The item at which a step stands.
use Rattle.std.specs.Prelude.{ℕ, ◌&&◌, Bool, nat_eq, nat_lt, find, List, [], length, Option, None, Some, slice_get, if◌then◌else◌}
use Rattle.std.specs.Option.{option_or}
use Rattle.boogie_tree.specs.declared.span.Span.{Span}
use Rattle.boogie_tree.specs.Tree.{Declaration}
use Rattle.typed_tree.specs.TypedTree.{TypedProgram}
use Rattle.boogie_run.specs.BoogiePoints.Sites.{span_at}
use Rattle.boogie_run.specs.Configurations.{Config}
use Rattle.boogie_run.specs.Needs.{locals_at}
use Rattle.explain_top.specs.RunStory.Items.{Item, item, Heading, items, global_items, headings}

abbrev pub nowhere_item : Item
nowhere_item = item (record { line = 1; col = 1 }) [] []

abbrev pub or_nowhere : Option Item → Item
or_nowhere None = nowhere_item
or_nowhere (Some i) = i

abbrev pub same_span : Span → Span → Bool
same_span a b = nat_eq a.line b.line && nat_eq a.col b.col

-- the first item that stands there
abbrev pub first_at : Span → List Item → Option Item
first_at at is = find (λ i. same_span i.at at) is

abbrev pub item_at : List Declaration → Span → Item
item_at ds at = or_nowhere (first_at at (items ds))

-- a hidden local is told at the head
abbrev pub local_site : Option Heading → ℕ → Item
local_site None n = nowhere_item
local_site (Some h) n = or_nowhere (option_or (slice_get h.locals n) (Some h.head))

abbrev pub return_site : Option Heading → Item
return_site None = nowhere_item
return_site (Some h) = h.return

abbrev pub site_at : List Declaration → ℕ → Option Span → Item
site_at ds n None = return_site (slice_get (headings ds) n)
site_at ds n (Some at) = item_at ds at

-- First the constants and globals are chosen, then the locals that the frame has not; then a step stands at an item of the procedure, or returns.
abbrev pub site : TypedProgram → List Declaration → Config → Item
site t ds c =
    if nat_lt (length c.globals) (length t.globals) then or_nowhere (slice_get (global_items ds) (length c.globals))
    else (if nat_lt (length c.top.locals) (length (locals_at t c.top.proc)) then local_site (slice_get (headings ds) c.top.proc) (length c.top.locals)
    else site_at ds c.top.proc (span_at t c.top.proc c.top.point))
