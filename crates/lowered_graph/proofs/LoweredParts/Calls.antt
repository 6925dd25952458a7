-- A call is one item: the requires that it asserts, and then the call itself.
use Rattle.std.proofs.Common.{◌≡◌, ℕ, zero, suc, ◌+◌, ◌-◌, ◌≤◌, Bool, false, ◌||◌, List, [], ◌∷◌, ◌++◌, map, length, Option, None, Some, refl, sym, ap, ◌∙◌, subst, append_assoc, arith}
use Rattle.std.specs.Prelude.{nat_eq, slice_get, if◌then◌else◌}
use Rattle.std.proofs.lemmas.List.{map-append}
use Rattle.std.proofs.lemmas.Bool.Decides.{nat_tests}
use Rattle.boogie_tree.specs.declared.span.Span.{Span}
use Rattle.boogie_tree.specs.declared.tree.Column.{Column}
use Rattle.typed_tree.specs.TypedTree.{TypedExpression, TypedInvariant, TypedStatement, Call, TypedBlock, TypedProcedure, TypedProgram}
use Rattle.typed_tree.specs.TypingRules.Counts.{checked_at_call}
use Rattle.letter_acts.specs.declared.sites.Site.{Site}
use Rattle.boogie_run.specs.BoogiePoints.Points.{Todo, Point, settled, past}
use Rattle.boogie_run.specs.BoogiePoints.Actions.{Action, Demand, Enter, action_at, call_if_any, call_action, called_action, unseen_action, plain_conditions, ensured_conditions, chosen_columns, next_part}
use Rattle.boogie_run.specs.BoogiePoints.Starts.{point_of_call}
use Rattle.boogie_run.specs.BoogiePlaces.Places.{Place, at_statement, points_in, located, parts_from}
use Rattle.letter_acts.specs.LetterTable.Letters.{Arc}
use Rattle.lowered_graph.specs.LoweredSteps.ProgramFrames.{frame_at}
use Rattle.lowered_graph.specs.LoweredSteps.Edges.{call_letters, numbers_in, local_count}
use Rattle.lowered_graph.specs.Arcs.{place_number, error_place, return_place, arcs_of, action_arcs}
use Rattle.lowered_graph.specs.Lowered.{action_sites, sites_of}
use Rattle.lowered_graph.specs.Items.{Needed, ProgramItem, import_needed, call_needed, needed_at, needed_by, all_needed, items_at, items_of, begins_item, place_span, item_places}
use Rattle.lowered_graph.specs.LoweredParts.Parts.{Walked, Leads, Adds}
use Rattle.lowered_graph.specs.LoweredParts.Lists.{demand_arcs, demand_needed, entered_arcs}
use Rattle.lowered_graph.specs.LoweredParts.Making.{Makes, noted, MakesItem}
use Rattle.lowered_graph.specs.LoweredParts.Items.{site_of, PlacesMade}
use Rattle.lowered_graph.proofs.LoweredParts.Joining.{no_more, arcs_of-append, sites_of-append, both_made, made}
use Rattle.lowered_graph.proofs.LoweredParts.OneItem.{one_item, nothing_made}
use Rattle.lowered_graph.proofs.LoweredParts.ActionArcs as arcs
use Rattle.lowered_graph.proofs.LoweredParts.Numbers as numbers
use Rattle.lowered_graph.proofs.LoweredParts.Numbers.{parts_next, located-append}

all_needed-append : (t : TypedProgram) (ps qs : List Place) → all_needed t (ps ++ qs) ≡ all_needed t ps ++ all_needed t qs
all_needed-append t [] qs = refl
all_needed-append t (p ∷ ps) qs = ap (λ (l : List Needed). needed_at t p ++ l) (all_needed-append t ps qs) ∙ sym (append_assoc (needed_at t p) (all_needed t ps) (all_needed t qs))

more_made : (t : TypedProgram) (ps qs : List Place) (w b v c : Bool) (old mid new : Walked) → PlacesMade t ps w b old mid → PlacesMade t qs v c mid new → PlacesMade t (ps ++ qs) (w || v) (b || c) old new
more_made t ps qs w b v c old mid new h k =
    let s : map (λ s. s.1) (sites_of t (ps ++ qs)) ≡ map (λ s. s.1) (sites_of t ps) ++ map (λ s. s.1) (sites_of t qs) =
    ap (map (λ s. s.1)) (sites_of-append t ps qs) ∙ map-append (λ s. s.1) (sites_of t ps) (sites_of t qs) in
    let both : Makes (map (λ s. s.1) (sites_of t ps) ++ map (λ s. s.1) (sites_of t qs)) (arcs_of t ps ++ arcs_of t qs) (all_needed t ps ++ all_needed t qs) (w || v) (b || c) old new =
    both_made (map (λ s. s.1) (sites_of t ps)) (map (λ s. s.1) (sites_of t qs)) (arcs_of t ps) (arcs_of t qs) (all_needed t ps) (all_needed t qs) w b v c old mid new h k in
    subst (λ (l : List Site). Makes l (arcs_of t (ps ++ qs)) (all_needed t (ps ++ qs)) (w || v) (b || c) old new) (sym s)
    (subst (λ (l : List Arc). Makes (map (λ s. s.1) (sites_of t ps) ++ map (λ s. s.1) (sites_of t qs)) l (all_needed t (ps ++ qs)) (w || v) (b || c) old new) (sym (arcs_of-append t ps qs))
    (subst (λ (l : List Needed). Makes (map (λ s. s.1) (sites_of t ps) ++ map (λ s. s.1) (sites_of t qs)) (arcs_of t ps ++ arcs_of t qs) l (w || v) (b || c) old new) (sym (all_needed-append t ps qs)) both))

-- one place, by its action
place_made : (t : TypedProgram) (n : ℕ) (here : Point) (a : Action) (ss : List Site) (arcs : List Arc) (needed : List Needed) (w b : Bool) (old new : Walked) → action_at t n here ≡ a →
    map (λ s. s.1) (action_sites t n a) ≡ ss → action_arcs t n here a ≡ arcs → needed_by t n here a ≡ needed → Makes ss arcs needed w b old new →
    PlacesMade t (record { proc = n; point = here } ∷ []) w b old new
place_made t n here a ss arcs needed w b old new e s k l h =
    let place : Place = record { proc = n; point = here } in
    let sites : map (λ s. s.1) (sites_of t (place ∷ [])) ≡ ss = ap (map (λ s. s.1)) (no_more (action_sites t n (action_at t n here)) ∙ ap (action_sites t n) e) ∙ s in
    let edges : arcs_of t (place ∷ []) ≡ arcs = no_more (action_arcs t n here (action_at t n here)) ∙ ap (action_arcs t n here) e ∙ k in
    let lists : all_needed t (place ∷ []) ≡ needed = no_more (needed_by t n here (action_at t n here)) ∙ ap (needed_by t n here) e ∙ l in
    subst (λ (l : List Site). Makes l (arcs_of t (place ∷ [])) (all_needed t (place ∷ [])) w b old new) (sym sites)
    (subst (λ (l : List Arc). Makes ss l (all_needed t (place ∷ [])) w b old new) (sym edges)
    (subst (λ (l : List Needed). Makes ss arcs l w b old new) (sym lists) h))

none_behind : {X : Type 0} (xs : List X) → slice_get xs (length xs) ≡ None
none_behind [] = refl
none_behind (x ∷ xs) = none_behind xs

-- a place that begins no item
unbegun : (t : TypedProgram) (p : Place) → begins_item t p ≡ false → items_at t p ≡ []
unbegun t p e =
    let item : List ProgramItem = record { span = place_span t p; needed = all_needed t (item_places t p) } ∷ [] in
    ap (λ (b : Bool). if b then item else []) e

-- ---- the calls of a body

module _ (t : TypedProgram) (n : ℕ) (q : TypedProcedure) (body : TypedBlock) (found : slice_get t.procs n ≡ Some q) (whole : q.body ≡ Some body) where
  module _ (b : TypedBlock) (loop : Bool) (id at : ℕ) (under : List Todo) (sp : Span) (cs : List Column) (f : ℕ) (es : List TypedExpression) where
    abbrev s : TypedStatement
    s = Call sp cs f es

    abbrev pub calling : Point
    calling = at_statement s b loop id at under

    abbrev part : ℕ → Point
    part i = record calling { part = i }

    abbrev pub behind_call : ℕ
    behind_call = place_number t n (settled (past t.procs s b loop id at ∷ under))

    -- the first parts have made this
    abbrev pub PartsMade : ℕ → Bool → Bool → Walked → Walked → Type 0
    PartsMade i w c old new = PlacesMade t (located n (parts_from calling 0 i)) w c old new

    pub no_part_made : (w : Walked) → PartsMade 0 false false w w
    no_part_made w = nothing_made w

    -- one more part
    pub part_made : (i : ℕ) (w c v d : Bool) (old mid new : Walked) → PartsMade i w c old mid → PlacesMade t (record { proc = n; point = part i } ∷ []) v d mid new → PartsMade (i + 1) (w || v) (c || d) old new
    part_made i w c v d old mid new h k =
        let e : i ≡ 0 + i = omega arith in
        let last : PlacesMade t (record { proc = n; point = part (0 + i) } ∷ []) v d mid new = subst (λ (j : ℕ). PlacesMade t (record { proc = n; point = part j } ∷ []) v d mid new) e k in
        let both : PlacesMade t (located n (parts_from calling 0 i) ++ record { proc = n; point = part (0 + i) } ∷ []) (w || v) (c || d) old new =
        more_made t (located n (parts_from calling 0 i)) (record { proc = n; point = part (0 + i) } ∷ []) w c v d old mid new h last in
        subst (λ (l : List Place). PlacesMade t l (w || v) (c || d) old new) (sym (ap (located n) (parts_next calling 0 i) ∙ located-append n (parts_from calling 0 i) (part (0 + i) ∷ []))) both

    numbered : (i : ℕ) → place_number t n (part i) ≡ at + i
    numbered i = numbers.number_at t n q body found whole s b loop id at under i

    module _ (callee : TypedProcedure) (called : slice_get t.procs f ≡ Some callee) where
      abbrev next : Point
      next = settled (past t.procs s b loop id at ∷ under)

      does : (i : ℕ) → action_at t n (part i)
          ≡ call_action (slice_get (plain_conditions callee.specs) i) (id + i) f callee sp cs es (i - length (plain_conditions callee.specs)) (part i) next
      does i = numbers.statement_does t n q body found whole s b loop id at under i ∙ ap (λ (o : Option TypedProcedure). call_if_any o id f sp cs es (part i) next) called

      demands_at : (e : TypedExpression) (p r x y m : ℕ) → p ≡ r → x ≡ y → demand_arcs (frame_at t n) (local_count t n) n p es e x m ≡ demand_arcs (frame_at t n) (local_count t n) n r es e y m
      demands_at e p r x y m h k = ap (λ (z : ℕ). demand_arcs (frame_at t n) (local_count t n) n z es e x m) h ∙ ap (λ (z : ℕ). demand_arcs (frame_at t n) (local_count t n) n r es e z m) k

      -- a requires of the callee
      pub demand_made : (i : ℕ) (inv : TypedInvariant) (w c : Bool) (old new : Walked) → slice_get (plain_conditions callee.specs) i ≡ Some inv →
          Makes (site_of t (id + i) sp ∷ []) (demand_arcs (frame_at t n) (local_count t n) n (at + i) es inv.cond (at + (i + 1)) (error_place t (id + i))) (demand_needed (frame_at t n) (local_count t n) es inv.cond) w c old new →
          PlacesMade t (record { proc = n; point = part i } ∷ []) w c old new
      demand_made i inv w c old new e h =
          let action : action_at t n (part i) ≡ Demand (id + i) sp inv.cond es (next_part (part i)) =
          does i ∙ ap (λ (o : Option TypedInvariant). call_action o (id + i) f callee sp cs es (i - length (plain_conditions callee.specs)) (part i) next) e in
          place_made t n (part i) (Demand (id + i) sp inv.cond es (next_part (part i))) (site_of t (id + i) sp ∷ []) _ _ w c old new action refl
          (arcs.demanded_arcs t n (part i) (id + i) sp inv.cond es (next_part (part i))
          ∙ demands_at inv.cond (place_number t n (part i)) (at + i) (place_number t n (part (i + 1))) (at + (i + 1)) (error_place t (id + i)) (numbered i) (numbered (i + 1)))
          refl h

      abbrev plain : ℕ
      plain = length (plain_conditions callee.specs)

      calls : (o : Option TypedBlock) → callee.body ≡ o → action_at t n (part plain) ≡ called_action f callee o cs es 0 (part plain) next
      calls o k =
          let z : plain - plain ≡ 0 = omega arith in
          does plain ∙ ap (λ (c : Option TypedInvariant). call_action c (id + plain) f callee sp cs es (plain - plain) (part plain) next) (none_behind (plain_conditions callee.specs))
          ∙ ap (λ (m : ℕ). called_action f callee callee.body cs es m (part plain) next) z ∙ ap (λ (c : Option TypedBlock). called_action f callee c cs es 0 (part plain) next) k

      -- into a callee with a body, and back
      pub enter_made : (inner : TypedBlock) (entry exit after : ℕ) (w c : Bool) (old new : Walked) → callee.body ≡ Some inner →
          entry ≡ place_number t f (point_of_call t f (slice_get t.procs f)) → exit ≡ return_place t f → after ≡ behind_call →
          Leads (entered_arcs n f (at + plain) entry exit (numbers_in (frame_at t n) cs) after (call_letters t n f es)) (call_needed t n f es ∷ []) w c old new →
          PlacesMade t (record { proc = n; point = part plain } ∷ []) w c old new
      enter_made inner entry exit after w c old new k is_entry is_exit is_after l =
          let list = call_letters t n f es in
          let targets : List ℕ = numbers_in (frame_at t n) cs in
          place_made t n (part plain) (Enter f es) [] (entered_arcs n f (at + plain) entry exit targets after list) (call_needed t n f es ∷ []) w c old new (calls (Some inner) k) refl
          (ap (λ (x : ℕ). entered_arcs n f x (place_number t f (point_of_call t f (slice_get t.procs f))) (return_place t f) targets behind_call list) (numbered plain)
          ∙ ap (λ (x : ℕ). entered_arcs n f (at + plain) x (return_place t f) targets behind_call list) (sym is_entry)
          ∙ ap (λ (x : ℕ). entered_arcs n f (at + plain) entry x targets behind_call list) (sym is_exit)
          ∙ ap (λ (x : ℕ). entered_arcs n f (at + plain) entry exit targets x list) (sym is_after))
          refl (made _ _ w c old new l)

      -- a callee without body
      pub import_made : (after : ℕ) (w c : Bool) (old new : Walked) → callee.body ≡ None → after ≡ behind_call →
          Leads (arcs.unseen_list t n (at + plain) callee es cs after) (import_needed (frame_at t n) (local_count t n) t.globals (Some callee) es (numbers_in (frame_at t n) cs)) w c old new →
          PlacesMade t (record { proc = n; point = part plain } ∷ []) w c old new
      import_made after w c old new k is_after l =
          let o : Option Column = slice_get (chosen_columns callee) 0 in
          let i : Option TypedInvariant = slice_get (ensured_conditions callee.specs) (0 - length (chosen_columns callee)) in
          place_made t n (part plain) (unseen_action o i f cs es (part plain) next) [] (arcs.unseen_list t n (at + plain) callee es cs after) _ w c old new (calls None k)
          (ap (map (λ s. s.1)) (arcs.unseen_sites t n (part plain) o i f cs es next))
          (arcs.unseen_arcs_are t n (part plain) o i f callee cs es next called refl
          ∙ ap (λ (x : ℕ). arcs.unseen_list t n x callee es cs behind_call) (numbered plain) ∙ ap (λ (x : ℕ). arcs.unseen_list t n (at + plain) callee es cs x) (sym is_after))
          (arcs.unseen_needed t n (part plain) o i f callee cs es next called refl)
          (made _ _ w c old new l)

    -- ---- the whole call

    abbrev parts : ℕ
    parts = checked_at_call (slice_get t.procs f)

    later : (i : ℕ) → 1 ≤ i → 1 ≤ parts → begins_item t (record { proc = n; point = part i }) ≡ false
    later i h k = let e : (nat_eq i 0 || nat_eq (parts + 1) 1) ≡ false = grind (arith, nat_tests) in e

    no_items : (k m : ℕ) → 1 ≤ k → 1 ≤ parts → items_of t (located n (parts_from calling k m)) ≡ []
    no_items k zero h l = refl
    no_items k (suc m) h l =
        let first : items_at t (record { proc = n; point = part k }) ≡ [] = unbegun t (record { proc = n; point = part k }) (later k h l) in
        ap (λ (xs : List ProgramItem). xs ++ items_of t (located n (parts_from calling (k + 1) m))) first ∙ no_items (k + 1) m (omega arith) l

    rest_none : (m : ℕ) → m ≡ parts → items_of t (located n (parts_from calling 1 m)) ≡ []
    rest_none zero e = refl
    rest_none (suc m) e = no_items 1 (suc m) (omega arith) (omega arith)

    all_parts : List Place
    all_parts = located n (parts_from calling 0 (parts + 1))

    pub one_call : items_of t (located n (parts_from calling 0 (parts + 1))) ≡ record { span = sp; needed = all_needed t (located n (parts_from calling 0 (parts + 1))) } ∷ []
    one_call =
        let e : parts + 1 ≡ suc parts = omega arith in
        let item : ProgramItem = record { span = sp; needed = all_needed t (located n (parts_from calling 0 (parts + 1))) } in
        let first : items_at t (record { proc = n; point = part 0 }) ≡ item ∷ [] =
        ap (λ (x : Span). record { span = x; needed = all_needed t (located n (parts_from calling 0 (parts + 1))) } ∷ []) (numbers.span_at t n q body found whole s b loop id at under 0) in
        ap (λ (m : ℕ). items_of t (located n (parts_from calling 0 m))) e
        ∙ ap (λ (xs : List ProgramItem). xs ++ items_of t (located n (parts_from calling 1 parts))) first ∙ ap (λ (xs : List ProgramItem). item ∷ xs) (rest_none parts refl)

    pub call_added : (w c : Bool) (old mid new : Walked) → old.program ≡ t → PartsMade (parts + 1) w c old mid → new ≡ noted mid sp w c →
        Adds (located n (points_in t.procs s b loop id at under)) old new
    call_added w c old mid new p h e =
        let ps : List Place = located n (parts_from calling 0 (parts + 1)) in
        let item : MakesItem sp (map (λ s. s.1) (sites_of t ps)) (arcs_of t ps) (all_needed t ps) old new = record { wide = w; big = c; mid = mid; made = h; faults = e } in
        one_item t ps sp (all_needed t ps) (arcs_of t ps) (map (λ s. s.1) (sites_of t ps)) old new p refl refl one_call item
