-- Steps of the loops over the variables of a havoc, the invariants of a loop, and labels.
use Rattle.std.proofs.Common.{◌≡◌, ℕ, zero, suc, ◌+◌, ◌<◌, ◌≤◌, ◌^◌, Bool, true, false, not, List, [], ◌∷◌, ◌++◌, map, length, take, get_or, None, Some, refl, sym, ap, ◌∙◌, subst, arith}
use Rattle.std.specs.Prelude.{Result, Ok, Err, OnOk, slice_get, nat_lt, nat_eq, if◌then◌else◌}
use Rattle.std.specs.List.{AllByRecursion}
use Rattle.std.proofs.lemmas.List.{map-append}
use Rattle.std.proofs.lemmas.Option.{slice_get_within, slice_get-get_or, slice_get-map}
use Rattle.std.proofs.lemmas.Bool.Decides.{nat_tests}
use Rattle.boogie_tree.specs.declared.span.Span.{Span}
use Rattle.boogie_tree.specs.declared.tree.Column.{Column}
use Rattle.typed_tree.specs.TypedTree.{TypedGuard, TypedInvariant, Havoc, While, Goto, TypedBlock, TypedProcedure, TypedProgram}
use Rattle.typed_tree.specs.TypingRules.Counts.{one_if, plain_invariants}
use Rattle.std.specs.Option.{option_map}
use Rattle.boogie_run.specs.BoogiePoints.Points.{Todo, settled, past, found_block}
use Rattle.boogie_run.specs.BoogiePoints.Actions.{point_behind, first_assertion, first_place, free_conditions}
use Rattle.boogie_run.proofs.BoogiePoints.ConditionLaws.{taken_less}
use Rattle.boogie_run.specs.BoogiePlaces.Places.{at_statement, parts_from, located}
use Rattle.lowered_graph.specs.LoweredSteps.ProgramFrames.{frame_at, column_number}
use Rattle.lowered_graph.specs.LoweredSteps.Edges.{local_count}
use Rattle.lowered_graph.specs.Arcs.{place_number}
use Rattle.lowered_graph.specs.LoweredParts.Parts.{Walked, Leads, Adds}
use Rattle.lowered_graph.specs.LoweredParts.Lists.{skip_arcs}
use Rattle.lowered_graph.specs.LoweredParts.Making.{MakesItem}
use Rattle.lowered_graph.specs.LoweredParts.Items.{checked_sites, checked_arcs, checked_needed, ways_arcs}
use Rattle.lowered_graph.proofs.LoweredParts.Joining.{both_lead, no_more}
use Rattle.lowered_graph.proofs.LoweredParts.Numbers.{part_added}
use Rattle.lowered_graph.proofs.LoweredParts.Statements.{havoc_added, invariant_added, goto_added}
use Rattle.icfg_lower.specs.ProgramLayout.Layouts.{StandsIn}
use Rattle.icfg_lower.specs.ProgramWalk.Ties.Bounds.{IsAssertion, HasNumbers}
use Rattle.icfg_lower.specs.ProgramWalk.Ties.Walks.{label_or_exit, IsBody, InvariantsAdd, PlainlyAdds, StatementAdds}

-- a member that is read
pub read_at : {X : Type 0} (xs : List X) (i : ℕ) (x : X) → i < length xs → x ≡ get_or xs i x → slice_get xs i ≡ Some x
read_at xs i x h e = slice_get-get_or xs i x h ∙ ap (λ y. Some y) (sym e)

all_at : {X : Type 0} (P : X → Type 0) (xs : List X) (i : ℕ) (x : X) → AllByRecursion P xs → slice_get xs i ≡ Some x → P x
all_at P [] i x h e = cc
all_at P (y ∷ ys) zero x h e = let k : y ≡ x = cc in subst P k h.0
all_at P (y ∷ ys) (suc i) x h e = all_at P ys i x h.1 e

-- of a list that all fits in a program, what is read of it in the same program
pub member_fits : {X : Type 0} (P : TypedProgram → X → Type 0) (t u : TypedProgram) (xs : List X) (i : ℕ) (x : X) → u ≡ t → AllByRecursion (P t) xs → slice_get xs i ≡ Some x → P u x
member_fits P t u xs i x e h r = subst (λ (z : TypedProgram). P z x) (sym e) (all_at (P t) xs i x h r)

pub stands_at : (t u : TypedProgram) (n : ℕ) (cs : List Column) (i : ℕ) (c : Column) → u ≡ t → AllByRecursion (StandsIn (frame_at t n)) cs → slice_get cs i ≡ Some c → StandsIn (frame_at u n) c
stands_at t u n cs i c e h r = subst (λ (x : TypedProgram). StandsIn (frame_at x n) c) (sym e) (all_at (StandsIn (frame_at t n)) cs i c h r)

-- ---- havocs

-- so many variables of a havoc are done, wherever it stands
abbrev pub HavocDone : TypedProgram → ℕ → List Column → ℕ → ℕ → ℕ → Walked → Walked → Type 0
HavocDone t n cs at after i old new = (span : Span) (id : ℕ) (q : TypedProcedure) (whole b : TypedBlock) (loop : Bool) (under : List Todo) → slice_get t.procs n ≡ Some q → q.body ≡ Some whole →
    after ≡ place_number t n (settled (past t.procs (Havoc span cs) b loop id at ∷ under)) → Adds (located n (parts_from (at_statement (Havoc span cs) b loop id at under) 0 i)) old new

to_next : (i m to at after : ℕ) → to ≡ (if nat_lt (i + 1) m then at + i + 1 else after) → i + 1 < m → to ≡ at + (i + 1)
to_next i m to at after e h = grind (arith, nat_tests)

to_after : (i m to at after : ℕ) → to ≡ (if nat_lt (i + 1) m then at + i + 1 else after) → m ≤ i + 1 → to ≡ after
to_after i m to at after e h = grind (arith, nat_tests)

past_end : {X : Type 0} (xs : List X) (i : ℕ) → slice_get xs i ≡ None → length xs ≤ i
past_end [] i e = omega arith
past_end (x ∷ xs) zero e = cc
past_end (x ∷ xs) (suc i) e = let h : length xs ≤ i = past_end xs i e in omega arith

pub havoc_step : (t u : TypedProgram) (n : ℕ) (cs : List Column) (at after i to : ℕ) (c : Column) (old mid new : Walked) → u ≡ t → mid.program ≡ t → slice_get cs i ≡ Some c →
    to ≡ (if nat_lt (i + 1) (length cs) then at + i + 1 else after) → HavocDone t n cs at after i old mid →
    Leads (skip_arcs n (at + i) (column_number (frame_at u n) c ∷ []) to) [] false false mid new → HavocDone t n cs at after (i + 1) old new
havoc_step t u n cs at after i to c old mid new e p r d done h = λ span id q whole b loop under f k behind.
    let led : Leads (skip_arcs n (at + i) (column_number (frame_at t n) c ∷ []) to) [] false false mid new =
    subst (λ (x : TypedProgram). Leads (skip_arcs n (at + i) (column_number (frame_at x n) c ∷ []) to) [] false false mid new) e h in
    part_added n (at_statement (Havoc span cs) b loop id at under) i old mid new (done span id q whole b loop under f k behind)
    (havoc_added t n q whole f k b loop id at under span cs i c to mid new p r
    (λ x y. to_next i (length cs) to at after d (slice_get_within cs (i + 1) x y))
    (λ y. to_after i (length cs) to at after d (past_end cs (i + 1) y) ∙ behind) led)

-- ---- invariants

abbrev pub InvariantsDone : TypedProgram → ℕ → List TypedInvariant → ℕ → ℕ → ℕ → Walked → Walked → Type 0
InvariantsDone t n is id at i old new = (span : Span) (g : TypedGuard) (x b : TypedBlock) (loop : Bool) (under : List Todo) (q : TypedProcedure) (whole : TypedBlock) →
    slice_get t.procs n ≡ Some q → q.body ≡ Some whole → Adds (located n (parts_from (at_statement (While span g is x) b loop id at under) 0 i)) old new

pub plain_more : (is : List TypedInvariant) (i : ℕ) (inv : TypedInvariant) → slice_get is i ≡ Some inv → plain_invariants (take (i + 1) is) ≡ plain_invariants (take i is) + one_if (not inv.free)
plain_more [] i inv e = cc
plain_more (j ∷ is) zero inv e =
    let same : j ≡ inv = cc in
    let f : one_if (not j.free) ≡ one_if (not inv.free) = ap (λ (x : TypedInvariant). one_if (not x.free)) same in
    omega arith
plain_more (j ∷ is) (suc i) inv e =
    let s : suc i + 1 ≡ suc (i + 1) = omega arith in
    let h : plain_invariants (take (i + 1) is) ≡ plain_invariants (take i is) + one_if (not inv.free) = plain_more is i inv e in
    ap (λ (m : ℕ). plain_invariants (take m (j ∷ is))) s ∙ (let k : one_if (not j.free) + plain_invariants (take (i + 1) is) ≡ one_if (not j.free) + plain_invariants (take i is) + one_if (not inv.free) = omega arith in k)

-- its number is that of an assertion
pub number_within : (t u : TypedProgram) (is : List TypedInvariant) (first at m i number : ℕ) (inv : TypedInvariant) → u ≡ t → slice_get is i ≡ Some inv →
    HasNumbers t first at (plain_invariants is) m → number ≡ first + plain_invariants (take i is) → IsAssertion u inv.free number
number_within t u is first at m i number inv e d h k =
    subst (λ (x : TypedProgram). IsAssertion x inv.free number) (sym e)
    (λ plain.
    let one : one_if (not inv.free) ≡ 1 = ap (λ (b : Bool). one_if (not b)) plain in
    let more : plain_invariants (take (i + 1) is) ≡ plain_invariants (take i is) + one_if (not inv.free) = plain_more is i inv d in
    let less : plain_invariants (take (i + 1) is) ≤ plain_invariants is = taken_less (i + 1) is in
    let first_is : 0 < first = h.first in
    let last_is = h.last in
    (omega arith, omega arith))

pub room_behind : (t : TypedProgram) (is : List TypedInvariant) (first at m i number : ℕ) (inv : TypedInvariant) → slice_get is i ≡ Some inv →
    HasNumbers t first at (plain_invariants is) m → number ≡ first + plain_invariants (take i is) → inv.free ≡ false → number + 1 < 2 ^ 32
room_behind t is first at m i number inv d h k plain =
    let one : one_if (not inv.free) ≡ 1 = ap (λ (b : Bool). one_if (not b)) plain in
    let more : plain_invariants (take (i + 1) is) ≡ plain_invariants (take i is) + one_if (not inv.free) = plain_more is i inv d in
    let less : plain_invariants (take (i + 1) is) ≤ plain_invariants is = taken_less (i + 1) is in
    let fits : first + plain_invariants is < 2 ^ 32 = h.fits in
    omega arith

pub next_number : (is : List TypedInvariant) (first i number next : ℕ) (inv : TypedInvariant) → slice_get is i ≡ Some inv → number ≡ first + plain_invariants (take i is) →
    next ≡ (if inv.free then number else number + 1) → next ≡ first + plain_invariants (take (i + 1) is)
next_number is first i number next inv e h k = by inv.free refl k
  where
    by : (b : Bool) → inv.free ≡ b → next ≡ (if b then number else number + 1) → next ≡ first + plain_invariants (take (i + 1) is)
    by true f k =
        let one : one_if (not inv.free) ≡ 0 = ap (λ (b : Bool). one_if (not b)) f in
        omega (arith, plain_more is i inv e)
    by false f k =
        let one : one_if (not inv.free) ≡ 1 = ap (λ (b : Bool). one_if (not b)) f in
        omega (arith, plain_more is i inv e)

pub invariant_step : (t u : TypedProgram) (n : ℕ) (is : List TypedInvariant) (id at i number : ℕ) (inv : TypedInvariant) (old mid new : Walked) → u ≡ t → mid.program ≡ t → slice_get is i ≡ Some inv →
    number ≡ id + plain_invariants (take i is) → InvariantsDone t n is id at i old mid →
    MakesItem inv.span (checked_sites u inv.free number inv.span) (checked_arcs u n (at + i) inv.free number inv.cond (at + i + 1)) (checked_needed (frame_at u n) (local_count u n) inv.free inv.cond) mid new →
    InvariantsDone t n is id at (i + 1) old new
invariant_step t u n is id at i number inv old mid new e p d k done h = λ span g x b loop under q whole f l.
    let s : at + i + 1 ≡ at + (i + 1) = omega arith in
    let P : TypedProgram → ℕ → Type 0 = λ y m. MakesItem inv.span (checked_sites y inv.free number inv.span) (checked_arcs y n (at + i) inv.free number inv.cond m) (checked_needed (frame_at y n) (local_count y n) inv.free inv.cond) mid new in
    part_added n (at_statement (While span g is x) b loop id at under) i old mid new (done span g x b loop under q whole f l)
    (invariant_added t n q whole f l b loop id at under span g is x i inv number mid new p d k
    (subst (λ (m : ℕ). P t m) s (subst (λ (y : TypedProgram). P y (at + i + 1)) e h)))

-- ---- labels

ways_more : (n place : ℕ) (ks : List ℕ) (k : ℕ) → ways_arcs n place (ks ++ k ∷ []) ≡ ways_arcs n place ks ++ skip_arcs n place [] k
ways_more n place [] k = no_more (skip_arcs n place [] k)
ways_more n place (j ∷ ks) k = ap (λ xs. skip_arcs n place [] j ++ xs) (ways_more n place ks k)

pub ways_step : (n place : ℕ) (f : ℕ → ℕ) (ks : List ℕ) (i k to : ℕ) (old mid new : Walked) → i < length ks → slice_get ks i ≡ Some k → to ≡ f k →
    Leads (ways_arcs n place (map f (take i ks))) [] false false old mid → Leads (skip_arcs n place [] to) [] false false mid new →
    Leads (ways_arcs n place (map f (take (i + 1) ks))) [] false false old new
ways_step n place f ks i k to old mid new l e d h j =
    let more : take (i + 1) ks ≡ take i ks ++ k ∷ [] = takes ks i k e in
    let listed : ways_arcs n place (map f (take (i + 1) ks)) ≡ ways_arcs n place (map f (take i ks)) ++ skip_arcs n place [] to =
    ap (λ (x : List ℕ). ways_arcs n place (map f x)) more ∙ ap (ways_arcs n place) (map-append f (take i ks) (k ∷ []))
    ∙ ways_more n place (map f (take i ks)) (f k) ∙ ap (λ (x : ℕ). ways_arcs n place (map f (take i ks)) ++ skip_arcs n place [] x) (sym d) in
    subst (λ x. Leads x [] false false old new) (sym listed) (both_lead (ways_arcs n place (map f (take i ks))) (skip_arcs n place [] to) [] [] false false false false old mid new h j)
  where
    takes : {X : Type 0} (xs : List X) (i : ℕ) (x : X) → slice_get xs i ≡ Some x → take (i + 1) xs ≡ take i xs ++ x ∷ []
    takes [] i x e = cc
    takes (y ∷ ys) zero x e = let k : y ≡ x = cc in ap (λ z. z ∷ []) k
    takes (y ∷ ys) (suc i) x e =
        let s : suc i + 1 ≡ suc (i + 1) = omega arith in
        ap (λ m. take m (y ∷ ys)) s ∙ ap (λ l. y ∷ l) (takes ys i x e)

-- ---- ends

pub havoc_ends : (t : TypedProgram) (n : ℕ) (cs : List Column) (at after i : ℕ) (old new : Walked) → i ≤ length cs → length cs ≤ i → HavocDone t n cs at after i old new →
    (span : Span) (id : ℕ) → PlainlyAdds t n after (Havoc span cs) id at old new
havoc_ends t n cs at after i old new l m done = λ span id q whole b loop under f k behind.
    let e : i ≡ length cs = omega arith in
    subst (λ (j : ℕ). Adds (located n (parts_from (at_statement (Havoc span cs) b loop id at under) 0 j)) old new) e (done span id q whole b loop under f k behind)

pub invariants_end : (t : TypedProgram) (n : ℕ) (is : List TypedInvariant) (id at i m : ℕ) (old new : Walked) → i ≤ m → m ≤ i → m ≡ length is → InvariantsDone t n is id at i old new → InvariantsAdd t n is id at old new
invariants_end t n is id at i m old new l k d done = λ span g x b loop under q whole f w.
    let e : i ≡ length is = omega arith in
    subst (λ (j : ℕ). Adds (located n (parts_from (at_statement (While span g is x) b loop id at under) 0 j)) old new) e (done span g x b loop under q whole f w)

-- what holds where a call succeeds
pub on_ok : {T E : Type 0} (A B : Type 0) (r : Result T E) → (A → B) → OnOk r A → OnOk r B
on_ok A B (Ok x) f h = f h
on_ok A B (Err e) f h = h

-- the condition of that number, as the tree has it
pub seen_at : {X Y : Type 0} (f : X → Y) (xs : List X) (i : ℕ) (x : X) → i < length xs → x ≡ get_or xs i x → slice_get (map f xs) i ≡ Some (f x)
seen_at f xs i x h e = slice_get-map f xs i ∙ ap (λ o. option_map f o) (read_at xs i x h e)

-- ---- jumps

pub goes_to : (t u : TypedProgram) (n place exit : ℕ) (labels loops : List ℕ) (after : ℕ) (span : Span) (id : ℕ) (ks : List ℕ) (old new : Walked) → u ≡ t → old.program ≡ t → nat_eq (length ks) 0 ≡ false →
    Leads (ways_arcs n place (map (label_or_exit labels exit) ks)) [] false false old new → StatementAdds t n exit labels loops after (Goto span ks) id place old new
goes_to t u n place exit labels loops after span id [] old new e p h l = cc
goes_to t u n place exit labels loops after span id (k ∷ ks) old new e p h l = λ q whole b loop under body behind looped.
    goto_added t n q whole body.procedure body.statements b loop id place under span k ks (map (label_or_exit labels exit) (k ∷ ks)) old new p (all_ways q whole body (k ∷ ks)) l
  where
    all_ways : (q : TypedProcedure) (whole : TypedBlock) → IsBody t n q whole exit labels → (js : List ℕ) → map (label_or_exit labels exit) js
        ≡ map (λ j. place_number t n (point_behind (found_block t.procs j whole false (first_assertion t.procs n) (first_place t n + length (free_conditions q.specs)) []))) js
    all_ways q whole body [] = refl
    all_ways q whole body (j ∷ js) = let f : label_or_exit labels exit j ≡ place_number t n (point_behind (found_block t.procs j whole false (first_assertion t.procs n) (first_place t n + length (free_conditions q.specs)) [])) = body.ways j in
        ap (λ (x : ℕ). x ∷ map (label_or_exit labels exit) js) f ∙ ap (λ (xs : List ℕ). place_number t n (point_behind (found_block t.procs j whole false (first_assertion t.procs n) (first_place t n + length (free_conditions q.specs)) [])) ∷ xs) (all_ways q whole body js)
