-- Each loop of a body is told what holds at its head, which is true whenever a run stands there.
use Rattle.std.proofs.Common.{◌≡◌, ◌∙◌, inl, inr, ℕ, zero, suc, ◌+◌, Bool, true, false, List, [], ◌∷◌, ◌++◌, length, Option, None, Some, refl, sym, ap, ap₂, subst, arith, IsTrue, append-nil}
use Rattle.std.specs.Prelude.{◌&&◌, cond, filter, slice_get, if◌then◌else◌}
use Rattle.std.specs.Option.{option_map, option_and_then, option_flatten, is_some}
use Rattle.std.proofs.lemmas.Bool.{false≢true, and_parts}
use Rattle.std.proofs.lemmas.Option.{cond_some}
use Rattle.std.proofs.lemmas.List.Elements.{filter-append}
use Rattle.boogie_tree.specs.Tree as tree
use Rattle.boogie_tree.specs.Tree.{Expression, Procedure, ProcedureBody, Declaration}
use Rattle.typed_tree.specs.TypedTree as typed
use Rattle.typed_tree.specs.TypedTree.{TypedExpression, TypedInvariant, TypedStatement, TypedBlock, TypedSpecification, TypedProcedure, TypedProgram}
use Rattle.typed_tree.specs.Scope.{Scope, axiom_scope, body_scope}
use Rattle.typed_tree.specs.TypingRules.Counts.{block_points}
use Rattle.typed_tree.specs.TypingRules.ValidProgram.{is_valid, is_typed}
use Rattle.boogie_types.specs.Sorted.{procedures_of, axioms_of, declared_globals, body_of}
use Rattle.boogie_types.specs.Naming.{each, named, named_block}
use Rattle.boogie_types.specs.Resolved.{are_sets, are_implementations, body_place, named_specifications, named_modifies, named_body, procedure_of, named_procedure, program_of, named_program, entry_number, if_typed, resolved_program}
use Rattle.boogie_types.proofs.ShapeLists.{option_map_some, option_and_then_some, both_some, each_parts}
use Rattle.boogie_run.specs.BoogiePoints.Points.{Todo, Stage, Start, Entry, Body, Point, at_exit, unless_ended}
use Rattle.boogie_run.specs.BoogiePoints.Actions.{free_conditions, ensured_conditions, first_assertion, first_place, entry_point, start_conditions}
use Rattle.boogie_run.specs.BoogiePoints.Starts.{point_of_procedure, point_of_call}
use Rattle.boogie_run.specs.BoogiePlaces.Places.{parts_from, points_of, points_of_body, IsOneOf, stage_place, place_of, number_with, number_if_any, number_of, first_at}
use Rattle.boogie_run.specs.Configurations.{Config}
use Rattle.lowered_graph.specs.Lowered.{lowered, entry_of}
use Rattle.lowered_graph.proofs.Alphabet.{counted_get}
use Rattle.lowered_graph.proofs.KnownPlaces.{IsKnown, place_known}
use Rattle.proof_form.specs.Annotations.{Content}
use Rattle.proof_names.specs.Outlines.{Sketch}
use Rattle.explained_proof.specs.KnownRuns.Reached.{IsReached}
use Rattle.explained_proof.specs.KnownRuns.Followed.{IsProofOf}
use Rattle.explained_proof.specs.declared.row_expressions.scopes.Position.TheVariants as positions
use Rattle.explained_proof.specs.Clauses.{KnownProcedure, holding}
use Rattle.explained_proof.specs.Statements.{Setting, left, explained_block}
use Rattle.explained_proof.specs.Explained as told
use Rattle.explained_proof.specs.Explained.{Told, known_procedure, setting, body_from, explained_body}
use Rattle.explained_proof.specs.ExplainedRuns.Laws.{AreTrue, text_locals, place_at}
use Rattle.explained_proof.specs.ExplainedRuns.Laws as laws
use Rattle.explained_proof.specs.ExplainedRuns.Sited.{loops_of, span_at, is_zero, is_in_body, is_head, heads_of, AreToldAt, IsBody, LoopsAreTold, HeadsAreListed, InvariantsHold}
use Rattle.explained_proof.proofs.ExplainedRuns.LoopWalk.{heads, and_false, no_head_parts, heads_behind, told_weaker, IsHeld, block_walks}
use Rattle.explained_proof.proofs.ExplainedRuns.Holding.{bodies_hold}

-- ---- the body that a text's body becomes

each_found : {X Y : Type 0} (f : X → Option Y) (xs : List X) (ys : List Y) → each f xs ≡ Some ys → (n : ℕ) (x : X) (y : Y) → slice_get xs n ≡ Some x → slice_get ys n ≡ Some y → f x ≡ Some y
each_found f [] ys e n x y h k = absurd (cc)
each_found {X} {Y} f (z ∷ xs) ys e zero x y h k =
    let a = each_parts f z xs ys e in
    let first : slice_get (a.0 ∷ a.1) 0 ≡ Some y = subst (λ (us : List Y). slice_get us 0 ≡ Some y) a.4 k in
    let one : z ≡ x = cc in
    subst (λ (v : X). f v ≡ Some y) one (a.2 ∙ first)
each_found {X} {Y} f (z ∷ xs) ys e (suc n) x y h k =
    let a = each_parts f z xs ys e in
    each_found f xs a.1 a.3 n x y h (subst (λ (us : List Y). slice_get us (suc n) ≡ Some y) a.4 k)

module _ (ds : List Declaration) (t : TypedProgram) where
  -- the procedures of a typed program are those of the text
  procs_named : (entry : List ℕ) → resolved_program ds entry ≡ Some t → each (named_procedure ds) (procedures_of ds) ≡ Some t.procs
  procs_named entry e =
      let a = cond_some' (are_sets ds && are_implementations ds) (option_and_then (λ u. option_and_then (if_typed u) (entry_number ds entry)) (named_program ds)) e in
      let b = option_and_then_some (λ u. option_and_then (if_typed u) (entry_number ds entry)) (named_program ds) t a in
      let c = option_and_then_some (if_typed b.0) (entry_number ds entry) t b.2 in
      let d : (is_typed (record b.0 { entry = c.0 }) ≡ true) × (record b.0 { entry = c.0 } ≡ t) = cond_some (is_typed (record b.0 { entry = c.0 })) (record b.0 { entry = c.0 }) t c.2 in
      let same : b.0.procs ≡ t.procs = ap (λ (u : TypedProgram). u.procs) d.1 in
      let f = both_some (program_of ds) (each (named (axiom_scope (declared_globals ds))) (axioms_of ds)) (each (named_procedure ds) (procedures_of ds)) b.0 b.1 in
      f.3 ∙ ap (λ (qs : List TypedProcedure). Some qs) (ap (λ (u : TypedProgram). u.procs) f.4 ∙ same)
    where
      cond_some' : (b : Bool) (o : Option TypedProgram) → (if b then o else None) ≡ Some t → o ≡ Some t
      cond_some' true o h = h
      cond_some' false o h = absurd (cc)

  pub body_named : (n : ℕ) (b : ProcedureBody) (q : TypedProcedure) (x : TypedBlock) → (i : IsBody ds t n b q x) → named_block (body_place ds i.given b) None 0 b.stmts ≡ Some x
  body_named n b q x i =
      let p : Procedure = i.given in
      let e : named_procedure ds p ≡ Some q = each_found (named_procedure ds) (procedures_of ds) t.procs (procs_named i.entry i.resolved) n p q i.listed i.procedure in
      let a = option_and_then_some (λ modifies. from_both' modifies) (named_modifies ds p) q e in
      let c = both_some (procedure_of ds p a.0) (named_specifications ds p p.specs) (named_body ds p (body_of ds p)) q a.2 in
      let same : c.1 ≡ Some x = ap (λ (r : TypedProcedure). r.body) c.4 ∙ i.body in
      let here : named_body ds p (Some b) ≡ Some (Some x) = ap (named_body ds p) (sym i.of_given) ∙ c.3 ∙ ap (λ (o : Option TypedBlock). Some o) same in
      let d = option_map_some (λ (y : TypedBlock). Some y) (named_block (body_place ds p b) None 0 b.stmts) (Some x) here in
      let one : d.0 ≡ x = (let f : Some d.0 ≡ Some x = d.2 in cc) in
      d.1 ∙ ap (λ (y : TypedBlock). Some y) one
    where
      from_both' : List ℕ → Option TypedProcedure
      from_both' modifies = option_and_then (λ s. option_map (λ c. procedure_of ds i.given modifies s c) (named_body ds i.given (body_of ds i.given))) (named_specifications ds i.given i.given.specs)

-- ---- the place where a body begins

module _ (t : TypedProgram) (n : ℕ) (q : TypedProcedure) (x : TypedBlock) (procedure : slice_get t.procs n ≡ Some q) (body : q.body ≡ Some x) where
  abbrev number : Point → ℕ
  number p = number_of t (record { proc = n; point = p })

  number_is : (p : Point) → number p ≡ place_of t n q x p
  number_is p = ap (λ (o : Option TypedProcedure). number_if_any t n o p) procedure ∙ ap (λ (o : Option TypedBlock). number_with t n q o p) body

  pub body_number : (p : Point) → p.stage ≡ Body → number p ≡ first_at p.todo + p.part
  body_number p e = number_is p ∙ ap (λ (s : Stage). stage_place t n q x s p.part p.todo) e

  abbrev start : ℕ
  start = first_place t n + length (free_conditions q.specs)

  settled_number : (y : TypedBlock) (id : ℕ) → (block_points t.procs y ≡ 0 → start + block_points t.procs x + 0 ≡ start) → place_of t n q x (unless_ended y false id start [] at_exit) ≡ start
  settled_number typed.Empty id h = h refl
  settled_number (typed.Then (typed.Label k) y) id h = settled_number y id (λ e. h (omega (arith, e)))
  settled_number (typed.Then (typed.Assert at e) y) id h = omega arith
  settled_number (typed.Then (typed.Assume at e) y) id h = omega arith
  settled_number (typed.Then (typed.Havoc at cs) y) id h = omega arith
  settled_number (typed.Then (typed.Assign at cs es) y) id h = omega arith
  settled_number (typed.Then (typed.Call at cs f es) y) id h = omega arith
  settled_number (typed.Then (typed.If at g a b) y) id h = omega arith
  settled_number (typed.Then (typed.While at g is a) y) id h = omega arith
  settled_number (typed.Then (typed.Break at k) y) id h = omega arith
  settled_number (typed.Then (typed.Goto at ks) y) id h = omega arith
  settled_number (typed.Then (typed.Return at) y) id h = omega arith

  abbrev whole : Todo
  whole = record { rest = x; of_loop = false; id = first_assertion t.procs n; at = start }

  entry_number_is : (is : List TypedInvariant) → free_conditions q.specs ≡ is → place_of t n q x (entry_point is whole) ≡ first_place t n
  entry_number_is [] e =
      let none : length (free_conditions q.specs) ≡ 0 = ap length e in
      settled_number x (first_assertion t.procs n) (λ f. omega (arith, f)) ∙ (let s : start ≡ first_place t n = omega arith in s)
  entry_number_is (i ∷ is) e = let s : first_place t n + 0 ≡ first_place t n = omega arith in s

  called_number : number (point_of_call t n (slice_get t.procs n)) ≡ first_place t n
  called_number =
      ap (λ (o : Option TypedProcedure). number (point_of_call t n o)) procedure
      ∙ ap (λ (o : Option TypedBlock). number (point_of_procedure t n q o)) body
      ∙ number_is (entry_point (free_conditions q.specs) whole)
      ∙ entry_number_is (free_conditions q.specs) refl

  pub entry_found : told.place_of (lowered t).entries n ≡ Some (first_place t n)
  entry_found =
      let here : 0 + n ≡ n = omega arith in
      ap option_flatten (counted_get (entry_of t) 0 t.procs n q procedure ∙ ap (λ (m : ℕ). Some (entry_of t (m, q))) here
      ∙ ap (λ (o : Option TypedBlock). Some (option_map (λ b. number (point_of_call t n (Some q))) o)) body
      ∙ ap (λ (o : Option TypedProcedure). Some (Some (number (point_of_call t n o)))) (sym procedure)
      ∙ ap (λ (m : ℕ). Some (Some m)) called_number)

  -- ---- the heads of a body

  entry_heads : (k : ℕ) → heads (parts_from (record { stage = Entry; todo = whole ∷ []; part = 0 }) 0 k) ≡ []
  entry_heads k = no_head_parts (record { stage = Entry; todo = whole ∷ []; part = 0 }) (λ i. ap (λ (b : Bool). is_some (span_at (whole ∷ [])) && b) (and_false (is_zero i)) ∙ and_false (is_some (span_at (whole ∷ [])))) k

  exit_heads : (k : ℕ) → heads (parts_from at_exit 0 k) ≡ []
  exit_heads k = no_head_parts at_exit (λ i. refl) k

  pub body_heads : heads_of t n q x ≡ heads (points_of t.procs x false (first_assertion t.procs n) start [])
  body_heads =
      let free : ℕ = length (free_conditions q.specs) in
      let inner : List Point = points_of t.procs x false (first_assertion t.procs n) start [] in
      let exits : List Point = parts_from at_exit 0 (length (ensured_conditions q.specs) + 1) in
      heads_behind (parts_from (record { stage = Entry; todo = whole ∷ []; part = 0 }) 0 free) (inner ++ exits) (entry_heads free)
      ∙ filter-append is_head inner exits
      ∙ ap (λ (ps : List Point). heads inner ++ ps) (exit_heads (length (ensured_conditions q.specs) + 1))
      ∙ append-nil (heads inner)

  pub explained_is : (d : Told) (b : ProcedureBody) → d.program ≡ t → d.graph ≡ lowered t → (explained_body d n q b).stmts ≡ explained_block (setting d (known_procedure d n q) x) b.stmts (left x start)
  explained_is d b e f =
      ap (λ (o : Option TypedBlock). (body_from d (known_procedure d n q) b q o (told.place_of d.graph.entries n)).stmts) body
      ∙ ap (λ (o : Option ℕ). (body_from d (known_procedure d n q) b q (Some x) o).stmts) (ap (λ g. told.place_of g.entries n) f ∙ entry_found)

-- ---- laws

pub loops_are_told : LoopsAreTold
loops_are_told ds t a s n b q x i =
    let d : Told = laws.told t a s in
    let w : Setting = setting d (known_procedure d n q) x in
    let first : ℕ = first_assertion t.procs n in
    let at : ℕ = first_place t n + length (free_conditions q.specs) in
    let P : Point → List Expression → Type 0 = λ p es. es ≡ holding (known_procedure d n q) positions.Body (number_of t (record { proc = n; point = p })) in
    let walked : AreToldAt (IsHeld w) (heads (points_of t.procs x false first at [])) (loops_of b.stmts) (loops_of (explained_block w b.stmts (left x at))) =
    block_walks w (body_place ds i.given b) None 0 b.stmts x (body_named ds t n b q x i) false [] first at in
    let numbered : AreToldAt P (heads (points_of t.procs x false first at [])) (loops_of b.stmts) (loops_of (explained_block w b.stmts (left x at))) =
    told_weaker (IsHeld w) P (λ p es h. h.1 ∙ ap (holding (known_procedure d n q) positions.Body) (sym (body_number t n q x i.procedure i.body p h.0)))
    (heads (points_of t.procs x false first at [])) (loops_of b.stmts) (loops_of (explained_block w b.stmts (left x at))) walked in
    subst (λ (ps : List Point). AreToldAt P ps (loops_of b.stmts) (loops_of (explained_body d n q b).stmts)) (sym (body_heads t n q x i.procedure i.body))
    (subst (λ (c : tree.Block). AreToldAt P (heads (points_of t.procs x false first at [])) (loops_of b.stmts) (loops_of c)) (sym (explained_is t n q x i.procedure i.body d b refl refl)) numbered)

listed_in : (ps : List Point) (p : Point) → IsOneOf ps p → is_head p ≡ true → IsOneOf (filter is_head ps) p
listed_in [] p i h = i
listed_in (r ∷ ps) p (inl e) h = by (is_head r) (ap is_head e ∙ h)
  where
    by : (b : Bool) → b ≡ true → IsOneOf (cond b (r ∷ filter is_head ps) (filter is_head ps)) p
    by true f = inl e
    by false f = absurd (false≢true f)
listed_in (r ∷ ps) p (inr i) h = by (is_head r) (listed_in ps p i h)
  where
    by : (b : Bool) → IsOneOf (filter is_head ps) p → IsOneOf (cond b (r ∷ filter is_head ps) (filter is_head ps)) p
    by true j = inr j
    by false j = j

-- no head is among the parts of a point of another stage
no_start : (r : Point) (k n : ℕ) (p : Point) → r.stage ≡ Start → IsOneOf (parts_from r k n) p → is_head p ≡ true → ⊥
no_start r k zero p e i h = i
no_start r k (suc n) p e (inl f) h =
    let stage : p.stage ≡ Start = ap (λ (u : Point). u.stage) (sym f) ∙ e in
    let parts = and_parts (is_some (span_at p.todo)) (is_zero p.part && is_in_body p.stage) h in
    let inside = and_parts (is_zero p.part) (is_in_body p.stage) parts.1 in
    false≢true (sym (ap is_in_body stage) ∙ inside.1)
no_start r k (suc n) p e (inr i) h = no_start r (k + 1) n p e i h

pub heads_are_listed : HeadsAreListed
heads_are_listed t c q x valid reached at has head =
    let k : IsKnown t c.top.proc c.top.point = place_known t valid c.top.proc c.top.point reached.whole.at in
    let same : k.procedure ≡ q = (let e : Some k.procedure ≡ Some q = sym k.is ∙ at in cc) in
    let other : k.body ≡ x = (let e : Some k.body ≡ Some x = sym k.has_body ∙ ap (λ (r : TypedProcedure). r.body) same ∙ has in cc) in
    elim k.stands [
      | inl h ↦ absurd (no_start (record { stage = Start; todo = []; part = 0 }) 0 (length (start_conditions t k.procedure)) c.top.point refl h.1 head)
      | inr h ↦ listed_in (points_of_body t c.top.proc q x) c.top.point
          (subst (λ (y : TypedBlock). IsOneOf (points_of_body t c.top.proc q y) c.top.point) other
          (subst (λ (r : TypedProcedure). IsOneOf (points_of_body t c.top.proc r k.body) c.top.point) same h)) head
    ]

apart : (g : Stage) → g ≡ Body → g ≡ Start → ⊥
apart g e f = let h : Body ≡ Start = sym e ∙ f in let no : ⊥ = cc in no

-- what holds at a point of a body is true whenever a run stands there
pub body_holds : (ds : List Declaration) (t : TypedProgram) (a : Content) (s : Sketch) (n : ℕ) (b : ProcedureBody) (q : TypedProcedure) (x : TypedBlock) → IsTrue (is_valid t) → IsProofOf t a s →
    IsBody ds t n b q x → (p : Point) (es : List Expression) → p.stage ≡ Body → es ≡ holding (known_procedure (laws.told t a s) n q) positions.Body (first_at p.todo + p.part) →
    (c : Config) → IsReached t c → c.top.proc ≡ n → c.top.point ≡ p → AreTrue (body_scope t.globals (text_locals q.locals)) c es
body_holds ds t a s n b q x valid proof i p es stage e c reached here stands =
    let in_body : c.top.point.stage ≡ Body = ap (λ (r : Point). r.stage) stands ∙ stage in
    let found : slice_get t.procs c.top.proc ≡ Some q = ap (slice_get t.procs) here ∙ i.procedure in
    let told_there : AreTrue (body_scope t.globals (text_locals q.locals)) c (holding (known_procedure (laws.told t a s) c.top.proc q) positions.Body (place_at t c)) =
    bodies_hold t a s c q valid proof reached found (apart c.top.point.stage in_body) in
    let number : place_at t c ≡ first_at p.todo + p.part = body_number t c.top.proc q x found i.body c.top.point in_body ∙ ap (λ (r : Point). first_at r.todo + r.part) stands in
    let same : holding (known_procedure (laws.told t a s) c.top.proc q) positions.Body (place_at t c) ≡ es =
    ap₂ (λ (m k : ℕ). holding (known_procedure (laws.told t a s) m q) positions.Body k) here number ∙ sym e in
    subst (AreTrue (body_scope t.globals (text_locals q.locals)) c) same told_there

pub invariants_hold : InvariantsHold
invariants_hold ds t a s n b q x valid proof i =
    let d : Told = laws.told t a s in
    let w : Setting = setting d (known_procedure d n q) x in
    let k : KnownProcedure = known_procedure d n q in
    let first : ℕ = first_assertion t.procs n in
    let at : ℕ = first_place t n + length (free_conditions q.specs) in
    let sc : Scope = body_scope t.globals (text_locals q.locals) in
    let P : Point → List Expression → Type 0 = λ p es. (c : Config) → IsReached t c → c.top.proc ≡ n → c.top.point ≡ p → AreTrue sc c es in
    let walked : AreToldAt (IsHeld w) (heads (points_of t.procs x false first at [])) (loops_of b.stmts) (loops_of (explained_block w b.stmts (left x at))) =
    block_walks w (body_place ds i.given b) None 0 b.stmts x (body_named ds t n b q x i) false [] first at in
    let true_there : AreToldAt P (heads (points_of t.procs x false first at [])) (loops_of b.stmts) (loops_of (explained_block w b.stmts (left x at))) =
    told_weaker (IsHeld w) P (λ p es h c reached here stands. body_holds ds t a s n b q x valid proof i p es h.0 h.1 c reached here stands)
    (heads (points_of t.procs x false first at [])) (loops_of b.stmts) (loops_of (explained_block w b.stmts (left x at))) walked in
    subst (λ (ps : List Point). AreToldAt P ps (loops_of b.stmts) (loops_of (explained_body d n q b).stmts)) (sym (body_heads t n q x i.procedure i.body))
    (subst (λ (c : tree.Block). AreToldAt P (heads (points_of t.procs x false first at [])) (loops_of b.stmts) (loops_of c)) (sym (explained_is t n q x i.procedure i.body d b refl refl)) true_there)
