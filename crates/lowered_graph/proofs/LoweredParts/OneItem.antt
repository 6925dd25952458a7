-- The places of one item, whose fault is noted behind its edges.
use Rattle.std.proofs.Common.{◌≡◌, ℕ, Bool, true, false, ◌||◌, List, [], ◌∷◌, ◌++◌, map, Option, None, Some, refl, sym, ap, ◌∙◌}
use Rattle.std.specs.Prelude.{nat_eq, if◌then◌else◌}
use Rattle.boogie_tree.specs.declared.span.Span.{Span}
use Rattle.typed_tree.specs.TypedTree.{TypedProgram}
use Rattle.letter_acts.specs.declared.sites.Site.{Site}
use Rattle.boogie_run.specs.BoogiePoints.Points.{Point}
use Rattle.boogie_run.specs.BoogiePoints.Actions.{Action, action_at}
use Rattle.boogie_run.specs.BoogiePlaces.Places.{Place, located, parts_from}
use Rattle.letter_acts.specs.LetterTable.Letters.{Arc, with_arcs}
use Rattle.lowered_graph.specs.Arcs.{action_arcs, arcs_of}
use Rattle.lowered_graph.specs.Lowered.{action_sites, sites_of}
use Rattle.lowered_graph.specs.Items.{Needed, ProgramItem, ItemFault, earlier, item_fault, first_of, items_of, needed_by, place_span, stage_parts, begins_item, item_places, all_needed}
use Rattle.lowered_graph.specs.LoweredParts.Parts.{Walked, some_is_wide, some_is_big, IsTrouble, Leads, Adds}
use Rattle.lowered_graph.specs.LoweredParts.Making.{Makes, trouble_at, noted, asserted, MakesItem}
use Rattle.lowered_graph.proofs.LoweredParts.Joining.{earlier_none, no_more, both_made, made}

-- ---- the fault of an item

fault_by : (needed : List Needed) (at : Span) (w b : Bool) → w ≡ some_is_wide needed → (w ≡ false → b ≡ some_is_big needed) → trouble_at at w b ≡ item_fault (record { span = at; needed = needed })
fault_by needed at true b h k = rw (← h) refl
fault_by needed at false b h k = let e : b ≡ some_is_big needed = k refl in rw (← h, ← e) refl

fault_told : (needed : List Needed) (at : Span) (w b : Bool) → IsTrouble needed w b → trouble_at at w b ≡ item_fault (record { span = at; needed = needed })
fault_told needed at w b h = fault_by needed at w b h.wide h.big

wide_none : (at : Span) (w b : Bool) → trouble_at at w b ≡ None → w ≡ false
wide_none at true b e = cc
wide_none at false b e = refl

big_none : (at : Span) (w b : Bool) → trouble_at at w b ≡ None → b ≡ false
big_none at true b e = cc
big_none at false true e = cc
big_none at false false e = refl

some_ever : (x : Bool) (f g : ItemFault) → (if x then Some g else Some f) ≡ None → Some g ≡ None
some_ever true f g e = e
some_ever false f g e = cc

none_second : (a b : Option ItemFault) → earlier a b ≡ None → b ≡ None
none_second None b e = e
none_second (Some f) None e = refl
none_second (Some f) (Some g) e = some_ever _ f g e

-- Places that are one item.
pub one_item : (t : TypedProgram) (ps : List Place) (at : Span) (needed : List Needed) (arcs : List Arc) (ss : List Site) (old new : Walked) →
    old.program ≡ t → map (λ s. s.1) (sites_of t ps) ≡ ss → arcs_of t ps ≡ arcs → items_of t ps ≡ record { span = at; needed = needed } ∷ [] →
    MakesItem at ss arcs needed old new → Adds ps old new
one_item t ps at needed arcs ss old new p s a i m =
    let item : ProgramItem = record { span = at; needed = needed } in
    let faults : new.fault ≡ earlier m.mid.fault (trouble_at at m.wide m.big) = ap (λ (x : Walked). x.fault) m.faults in
    let told : trouble_at at m.wide m.big ≡ item_fault item = fault_told needed at m.wide m.big m.made.trouble in
    let one : first_of (items_of t ps) ≡ item_fault item = ap first_of i ∙ earlier_none (item_fault item) in
    record {
      program = ap (λ (x : Walked). x.program) m.faults ∙ m.made.program;
      sites = ap (λ (x : Walked). x.sites) m.faults ∙ m.made.sites ∙ ap (λ (l : List Site). old.sites ++ l) (sym s ∙ ap (λ (x : TypedProgram). map (λ s. s.1) (sites_of x ps)) (sym p));
      fault =
          faults ∙ ap (λ (f : Option ItemFault). earlier f (trouble_at at m.wide m.big)) m.made.fault
          ∙ ap (λ (f : Option ItemFault). earlier old.fault f) (told ∙ sym one ∙ ap (λ (x : TypedProgram). first_of (items_of x ps)) (sym p));
      edges = λ none.
          let nothing : trouble_at at m.wide m.big ≡ None = none_second m.mid.fault (trouble_at at m.wide m.big) (sym faults ∙ none) in
          ap (λ (x : Walked). x.lettered) m.faults ∙ m.made.edges (wide_none at m.wide m.big nothing) (big_none at m.wide m.big nothing)
          ∙ ap (λ (l : List Arc). with_arcs old.lettered l) (sym a ∙ ap (λ (x : TypedProgram). arcs_of x ps) (sym p));
    }

-- One that needs no lists has no fault.
pub plain_item : (at : Span) (arcs : List Arc) (old new : Walked) → Leads arcs [] false false old new → MakesItem at [] arcs [] old new
plain_item at arcs old new h = record {
  wide = false;
  big = false;
  mid = new;
  made = made arcs [] false false old new h;
  faults = ap (λ (f : Option ItemFault). record { program = new.program; lettered = new.lettered; sites = new.sites; fault = f }) (sym (earlier_none new.fault));
}

-- no edges
pub nothing_led : (w : Walked) → Leads [] [] false false w w
nothing_led w = record {
  trouble = record { wide = refl; big = λ h. refl };
  program = refl;
  sites = refl;
  fault = refl;
  edges = λ h k. refl;
}

-- one whose edges are there, and whose fault is noted
pub item_made : (at : Span) (arcs : List Arc) (needed : List Needed) (w b : Bool) (old mid new : Walked) → Leads arcs needed w b old mid → new ≡ noted mid at w b →
    MakesItem at [] arcs needed old new
item_made at arcs needed w b old mid new h e = record { wide = w; big = b; mid = mid; made = made arcs needed w b old mid h; faults = e }

-- ---- one more assertion

pub one_asserted : (s : Site) (old new : Walked) → new ≡ asserted old s → Makes (s ∷ []) [] [] false false old new
one_asserted s old new e = record {
  trouble = record { wide = refl; big = λ h. refl };
  program = ap (λ (x : Walked). x.program) e;
  sites = ap (λ (x : Walked). x.sites) e;
  fault = ap (λ (x : Walked). x.fault) e;
  edges = λ h k. ap (λ (x : Walked). x.lettered) e;
}

pub asserted_then : (s : Site) (arcs : List Arc) (needed : List Needed) (w b : Bool) (old mid new : Walked) → mid ≡ asserted old s → Leads arcs needed w b mid new →
    Makes (s ∷ []) arcs needed w b old new
asserted_then s arcs needed w b old mid new e h = both_made (s ∷ []) [] [] arcs [] needed false false w b old mid new (one_asserted s old mid e) (made arcs needed w b mid new h)

-- an item with an assertion
pub asserted_item : (at : Span) (s : Site) (arcs : List Arc) (needed : List Needed) (w b : Bool) (old more mid new : Walked) → more ≡ asserted old s → Leads arcs needed w b more mid →
    new ≡ noted mid at w b → MakesItem at (s ∷ []) arcs needed old new
asserted_item at s arcs needed w b old more mid new e h i = record { wide = w; big = b; mid = mid; made = asserted_then s arcs needed w b old more mid e h; faults = i }

-- nothing so far
pub nothing_made : (w : Walked) → Makes [] [] [] false false w w
nothing_made w = record {
  trouble = record { wide = refl; big = λ h. refl };
  program = refl;
  sites = sym (no_more w.sites);
  fault = refl;
  edges = λ h k. refl;
}

-- ---- a place that is an item of its own

module _ (t : TypedProgram) (n : ℕ) (here : Point) (a : Action) (at : Span) where
  abbrev place : Place
  place = record { proc = n; point = here }

  begins : nat_eq here.part 0 || true ≡ true
  begins = elim (nat_eq here.part 0) as (λ b. b || true ≡ true) [ true ↦ refl | false ↦ refl ]

  pub item_of_place : action_at t n here ≡ a → place_span t place ≡ at → stage_parts t here.stage here.todo ≡ 1 →
      items_of t (place ∷ []) ≡ record { span = at; needed = needed_by t n here a } ∷ []
  item_of_place e s one =
      let is_one : nat_eq (stage_parts t here.stage here.todo) 1 ≡ true = ap (λ (k : ℕ). nat_eq k 1) one in
      let first : begins_item t place ≡ true = ap (λ (b : Bool). nat_eq here.part 0 || b) is_one ∙ begins in
      let places : item_places t place ≡ place ∷ [] = ap (λ (k : ℕ). map (λ point. record { proc = n; point = point }) (parts_from here here.part k)) one in
      let lists : all_needed t (item_places t place) ≡ needed_by t n here a =
      ap (all_needed t) places ∙ no_more (needed_by t n here (action_at t n here)) ∙ ap (needed_by t n here) e in
      let item : List ProgramItem = record { span = place_span t place; needed = all_needed t (item_places t place) } ∷ [] in
      let same : item ≡ record { span = at; needed = needed_by t n here a } ∷ [] =
      ap (λ (x : Span). record { span = x; needed = all_needed t (item_places t place) } ∷ []) s ∙ ap (λ (l : List Needed). record { span = at; needed = l } ∷ []) lists in
      no_more (if begins_item t place then item else []) ∙ ap (λ (b : Bool). if b then item else []) first ∙ same

  pub arcs_of_place : action_at t n here ≡ a → arcs_of t (place ∷ []) ≡ action_arcs t n here a
  arcs_of_place e = no_more (action_arcs t n here (action_at t n here)) ∙ ap (action_arcs t n here) e

  pub sites_of_place : action_at t n here ≡ a → map (λ s. s.1) (sites_of t (place ∷ [])) ≡ map (λ s. s.1) (action_sites t n a)
  sites_of_place e = ap (map (λ s. s.1)) (no_more (action_sites t n (action_at t n here)) ∙ ap (action_sites t n) e)

  -- What its action makes.
  pub placed : (ss : List Site) (arcs : List Arc) (needed : List Needed) (old new : Walked) →
      action_at t n here ≡ a → place_span t place ≡ at → stage_parts t here.stage here.todo ≡ 1 → old.program ≡ t →
      map (λ s. s.1) (action_sites t n a) ≡ ss → action_arcs t n here a ≡ arcs → needed_by t n here a ≡ needed →
      MakesItem at ss arcs needed old new → Adds (located n (here ∷ [])) old new
  placed ss arcs needed old new e s one p sites edges lists h =
      one_item t (place ∷ []) at needed arcs ss old new p (sites_of_place e ∙ sites) (arcs_of_place e ∙ edges)
      (item_of_place e s one ∙ ap (λ (l : List Needed). record { span = at; needed = l } ∷ []) lists) h
