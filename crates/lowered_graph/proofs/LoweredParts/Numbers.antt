-- The numbers of the points of a body, and what its statements do.
use Rattle.std.proofs.Common.{◌≡◌, ℕ, zero, suc, ◌+◌, Bool, true, false, List, [], ◌∷◌, ◌++◌, length, Option, Some, refl, sym, ap, ◌∙◌, subst, arith}
use Rattle.std.specs.Prelude.{slice_get}
use Rattle.std.proofs.lemmas.List.{map-append}
use Rattle.typed_tree.specs.TypedTree.{TypedStatement, Assert, Assume, Havoc, Assign, Call, If, While, Break, Goto, Return, Label, TypedBlock, Empty, Then, TypedProcedure, TypedProgram}
use Rattle.boogie_run.specs.BoogiePoints.Points.{Todo, Point, at_exit, settled}
use Rattle.boogie_run.specs.BoogiePoints.Actions.{Action, action_at, stage_action, body_or_leave, procedure_action, statement_action, first_assertion, first_place, free_conditions}
use Rattle.boogie_run.specs.BoogiePlaces.Places.{Place, at_statement, parts_from, located, number_if_any, number_with, place_of}
use Rattle.lowered_graph.specs.Arcs.{place_number}
use Rattle.lowered_graph.specs.Items.{place_span, span_if_any, stage_span, span_of}
use Rattle.lowered_graph.specs.LoweredParts.Parts.{Walked, Adds}
use Rattle.lowered_graph.specs.LoweredParts.Items.{only_labels}
use Rattle.lowered_graph.proofs.LoweredParts.Joining.{joined, nothing}

-- ---- parts of a point

pub parts_next : (p : Point) (k m : ℕ) → parts_from p k (m + 1) ≡ parts_from p k m ++ record p { part = k + m } ∷ []
parts_next p k zero =
    let e : k ≡ k + 0 = omega arith in
    ap (λ (i : ℕ). record p { part = i } ∷ []) e
parts_next p k (suc m) =
    let e : suc m + 1 ≡ suc (m + 1) = omega arith in
    let f : (k + 1) + m ≡ k + suc m = omega arith in
    ap (parts_from p k) e ∙ ap (λ (l : List Point). record p { part = k } ∷ l) (parts_next p (k + 1) m ∙ ap (λ (i : ℕ). parts_from p (k + 1) m ++ record p { part = i } ∷ []) f)

pub located-append : (n : ℕ) (ps qs : List Point) → located n (ps ++ qs) ≡ located n ps ++ located n qs
located-append n ps qs = map-append (λ p. record { proc = n; point = p }) ps qs

-- points of a procedure, and then others
pub both_added : (n : ℕ) (ps qs : List Point) (old mid new : Walked) → Adds (located n ps) old mid → Adds (located n qs) mid new → Adds (located n (ps ++ qs)) old new
both_added n ps qs old mid new h k =
    subst (λ (l : List Place). Adds l old new) (sym (located-append n ps qs)) (joined (located n ps) (located n qs) old mid new h k)

-- one more part of a point
pub part_added : (n : ℕ) (p : Point) (i : ℕ) (old mid new : Walked) → Adds (located n (parts_from p 0 i)) old mid → Adds (located n (record p { part = i } ∷ [])) mid new →
    Adds (located n (parts_from p 0 (i + 1))) old new
part_added n p i old mid new h k =
    let e : i ≡ 0 + i = omega arith in
    let last : Adds (located n (record p { part = 0 + i } ∷ [])) mid new = subst (λ (j : ℕ). Adds (located n (record p { part = j } ∷ [])) mid new) e k in
    subst (λ (l : List Point). Adds (located n l) old new) (sym (parts_next p 0 i)) (both_added n (parts_from p 0 i) (record p { part = 0 + i } ∷ []) old mid new h last)

pub no_parts : (n : ℕ) (p : Point) (w : Walked) → Adds (located n (parts_from p 0 0)) w w
no_parts n p w = nothing w

-- ---- the points of a body

module _ (t : TypedProgram) (n : ℕ) (q : TypedProcedure) (body : TypedBlock) (found : slice_get t.procs n ≡ Some q) (whole : q.body ≡ Some body) where
  abbrev pub first : ℕ
  first = first_assertion t.procs n

  abbrev pub start : ℕ
  start = first_place t n + length (free_conditions q.specs)

  pub action_is : (p : Point) → action_at t n p ≡ stage_action t n q body p.stage p
  action_is p = ap (λ (o : Option TypedProcedure). procedure_action t n o p) found ∙ ap (λ (o : Option TypedBlock). body_or_leave t n q o p) whole

  pub number_is : (p : Point) → place_number t n p ≡ place_of t n q body p
  number_is p = ap (λ (o : Option TypedProcedure). number_if_any t n o p) found ∙ ap (λ (o : Option TypedBlock). number_with t n q o p) whole

  pub span_is : (p : Point) → place_span t (record { proc = n; point = p }) ≡ stage_span t q p.stage p.todo p.part
  span_is p = ap (λ (o : Option TypedProcedure). span_if_any t o p) found

  -- the point at a statement, with so many parts done
  abbrev pub point : TypedStatement → TypedBlock → Bool → ℕ → ℕ → List Todo → ℕ → Point
  point s b loop id at under i = record (at_statement s b loop id at under) { part = i }

  -- the action there, before any part is done
  abbrev pub statement_action_of : TypedStatement → TypedBlock → Bool → ℕ → ℕ → List Todo → Action
  statement_action_of s b loop id at under = statement_action t.procs body first start s b loop id at under (point s b loop id at under 0)

  pub statement_does : (s : TypedStatement) (b : TypedBlock) (loop : Bool) (id at : ℕ) (under : List Todo) (i : ℕ) →
      action_at t n (point s b loop id at under i) ≡ statement_action t.procs body first start s b loop id at under (point s b loop id at under i)
  statement_does s b loop id at under i = action_is (point s b loop id at under i)

  pub number_at : (s : TypedStatement) (b : TypedBlock) (loop : Bool) (id at : ℕ) (under : List Todo) (i : ℕ) → place_number t n (point s b loop id at under i) ≡ at + i
  number_at s b loop id at under i = number_is (point s b loop id at under i)

  pub number_here : (s : TypedStatement) (b : TypedBlock) (loop : Bool) (id at : ℕ) (under : List Todo) → place_number t n (at_statement s b loop id at under) ≡ at
  number_here s b loop id at under = number_at s b loop id at under 0 ∙ (let e : at + 0 ≡ at = omega arith in e)

  pub span_at : (s : TypedStatement) (b : TypedBlock) (loop : Bool) (id at : ℕ) (under : List Todo) (i : ℕ) →
      place_span t (record { proc = n; point = point s b loop id at under i }) ≡ span_of s i
  span_at s b loop id at under i = span_is (point s b loop id at under i)

  pub exit_number : place_number t n at_exit ≡ place_of t n q body at_exit
  exit_number = number_is at_exit

  -- ---- the place at what is left of a block

  -- behind the block, where only labels are left of it
  pub number_ended : (b : TypedBlock) (loop : Bool) (id at : ℕ) (under : List Todo) → only_labels b ≡ true → place_number t n (settled (record { rest = b; of_loop = loop; id = id; at = at } ∷ under)) ≡ place_number t n (settled under)
  number_ended Empty loop id at under h = refl
  number_ended (Then (Label k) b) loop id at under h = number_ended b loop id at under h
  number_ended (Then (Assert span e) b) loop id at under h = cc
  number_ended (Then (Assume span e) b) loop id at under h = cc
  number_ended (Then (Havoc span cs) b) loop id at under h = cc
  number_ended (Then (Assign span cs es) b) loop id at under h = cc
  number_ended (Then (Call span cs f es) b) loop id at under h = cc
  number_ended (Then (If span g x y) b) loop id at under h = cc
  number_ended (Then (While span g is x) b) loop id at under h = cc
  number_ended (Then (Break span m) b) loop id at under h = cc
  number_ended (Then (Goto span ks) b) loop id at under h = cc
  number_ended (Then (Return span) b) loop id at under h = cc

  -- else at its next statement
  pub number_left : (b : TypedBlock) (loop : Bool) (id at : ℕ) (under : List Todo) → only_labels b ≡ false → place_number t n (settled (record { rest = b; of_loop = loop; id = id; at = at } ∷ under)) ≡ at
  number_left Empty loop id at under h = cc
  number_left (Then (Label k) b) loop id at under h = number_left b loop id at under h
  number_left (Then (Assert span e) b) loop id at under h = number_here (Assert span e) b loop id at under
  number_left (Then (Assume span e) b) loop id at under h = number_here (Assume span e) b loop id at under
  number_left (Then (Havoc span cs) b) loop id at under h = number_here (Havoc span cs) b loop id at under
  number_left (Then (Assign span cs es) b) loop id at under h = number_here (Assign span cs es) b loop id at under
  number_left (Then (Call span cs f es) b) loop id at under h = number_here (Call span cs f es) b loop id at under
  number_left (Then (If span g x y) b) loop id at under h = number_here (If span g x y) b loop id at under
  number_left (Then (While span g is x) b) loop id at under h = number_here (While span g is x) b loop id at under
  number_left (Then (Break span m) b) loop id at under h = number_here (Break span m) b loop id at under
  number_left (Then (Goto span ks) b) loop id at under h = number_here (Goto span ks) b loop id at under
  number_left (Then (Return span) b) loop id at under h = number_here (Return span) b loop id at under
