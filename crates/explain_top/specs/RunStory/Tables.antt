-- The table of a program's items as contracts see it.
use Rattle.std.specs.Prelude.{◌≡◌, ℕ, List, Option, map}
use Rattle.std.specs.Borrow.{Bor}
use Rattle.std.specs.Option.{option_or, option_map}
use Rattle.std.specs.Str.{bytes_eq}
use Rattle.boogie_tree.specs.declared.span.Span.{Span}
use Rattle.boogie_tree.specs.declared.tree.Proc.{Proc}
use Rattle.boogie_tree.specs.Tree.{Procedure, Declaration}
use Rattle.boogie_tree.specs.View as view
use Rattle.std.specs.declared.hash.FoldHasher.{FoldHasher}
use Rattle.std.specs.declared.hash.BuildHasherDefault.{BuildHasherDefault}
use Rattle.indexmap.specs.IndexMap.{IndexMap, get, get_by}
use Rattle.explain_top.specs.declared.run_story.sources.Source.{Source}
use Rattle.explain_top.specs.declared.run_story.tables.Heading.{Heading}
use Rattle.explain_top.specs.declared.run_story.tables.Table.{Table}
use Rattle.boogie_types.specs.Sorted.{first_named}
use Rattle.explain_top.specs.RunStory.Items as spec
use Rattle.explain_top.specs.RunStory.Sites.{first_at, same_span}
use Rattle.explain_top.specs.RunStory.Seen.{item_of}

abbrev pub Placed : Type 0
Placed = IndexMap Span Source (BuildHasherDefault FoldHasher)

-- the item that stands there
abbrev pub placed_at : Placed → Span → Option spec.Item
placed_at items at = option_map item_of (get same_span items at)

-- with these items more, where none stands yet
abbrev pub AddsItems : Placed → List spec.Item → Placed → Type 0
AddsItems old is new = (at : Span) → placed_at new at ≡ option_or (placed_at old at) (first_at at is)

abbrev pub NamedProcedures : Type 0
NamedProcedures = IndexMap (Bor (List ℕ)) (Bor Proc) (BuildHasherDefault FoldHasher)

-- the procedure of that name
abbrev pub named_in : NamedProcedures → List ℕ → Option Procedure
named_in m name = option_map (λ (p : Bor Proc). view.procedure p.now) (get_by (λ (x : Bor (List ℕ)). bytes_eq name x.now) m)

-- with these procedures more, where none has the name yet
abbrev pub AddsNamed : NamedProcedures → List Procedure → NamedProcedures → Type 0
AddsNamed old ps new = (name : List ℕ) → named_in new name ≡ option_or (named_in old name) (first_named name ps)

-- The first of each name is there.
abbrev pub HasImplementations : List Procedure → NamedProcedures → Type 0
HasImplementations is m = (name : List ℕ) → named_in m name ≡ first_named name is

-- a procedure as it is told, with these variables of its body
abbrev pub heading_of : Heading → spec.Heading
heading_of h = spec.heading_with (view.procedure h.procedure.now) h.locals.now

-- The table is that of these declarations.
pub record IsTable (ds : List Declaration) (t : Table) : Type 0 where
  pub items : (at : Span) → placed_at t.items at ≡ first_at at (spec.items ds)
  pub globals : map item_of t.globals.items ≡ spec.global_items ds
  pub headings : map heading_of t.procedures.items ≡ spec.headings ds
