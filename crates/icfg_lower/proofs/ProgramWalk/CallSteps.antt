-- The parts of a call, one after another.
use Rattle.std.proofs.Common.{◌≡◌, ℕ, zero, suc, ◌+◌, ◌<◌, ◌≤◌, ◌^◌, Bool, false, ◌||◌, List, [], ◌∷◌, ◌++◌, map, length, drop, get_or, length-append, Option, None, Some, refl, sym, ap, ◌∙◌, subst, arith}
use Rattle.std.proofs.lemmas.List.{drop_more}
use Rattle.std.specs.Prelude.{Result, Ok, Err, IfOk, OnOk, slice_get}
use Rattle.boogie_tree.specs.declared.span.Span.{Span}
use Rattle.boogie_tree.specs.declared.tree.Column.{Column}
use Rattle.typed_tree.specs.TypedTree.{TypedExpression, TypedInvariant, TypedSpecification, Call, TypedBlock, TypedProcedure, TypedProgram}
use Rattle.typed_tree.specs.TypingRules.Counts.{checked_at_call}
use Rattle.typed_tree.specs.TypingRules.TypedParts.{TypedParts, typed_program}
use Rattle.boogie_run.specs.BoogiePoints.Actions.{plain_conditions, first_assertion, first_place}
use Rattle.boogie_run.proofs.BoogiePoints.ConditionLaws.{plain_requires_counted, plain_step}
use Rattle.boogie_run.specs.BoogiePlaces.Places.{at_statement, located, parts_from}
use Rattle.lowered_graph.specs.LoweredSteps.ProgramFrames.{frame_at}
use Rattle.lowered_graph.specs.LoweredSteps.Edges.{call_letters, local_count, numbers_in}
use Rattle.lowered_graph.specs.Arcs.{error_place}
use Rattle.lowered_graph.specs.Items.{import_needed, call_needed}
use Rattle.lowered_graph.specs.LoweredParts.Parts.{Walked, Leads}
use Rattle.lowered_graph.specs.LoweredParts.Lists.{demand_arcs, demand_needed, entered_arcs}
use Rattle.lowered_graph.specs.LoweredParts.Making.{Makes, asserted, noted}
use Rattle.lowered_graph.specs.LoweredParts.Items.{site_of, PlacesMade}
use Rattle.lowered_graph.proofs.LoweredParts.OneItem.{asserted_then}
use Rattle.lowered_graph.proofs.LoweredParts.ActionArcs.{unseen_list}
use Rattle.lowered_graph.proofs.LoweredParts.Calls as calls
use Rattle.lowered_graph.proofs.LoweredParts.Bodies as bodies
use Rattle.icfg_lower.specs.ProgramLayout.Layouts.{marks_of, marks_with}
use Rattle.icfg_lower.specs.PlaceEdges.WalkedParts.{WalkedParts, walked}
use Rattle.icfg_lower.specs.ProgramWalk.Ties.Bounds.{HasNumbers}
use Rattle.icfg_lower.specs.ProgramWalk.Ties.Walks.{PlainlyAdds}
use Rattle.icfg_lower.specs.ProgramWalk.Ties.Calls.{AreLeft, PartsMade, CallMade}

pub if_ok : {T E : Type 0} (P Q : T → Type 0) (r : Result T E) → ((x : T) → P x → Q x) → IfOk r P → IfOk r Q
if_ok P Q (Ok x) f h = f x h
if_ok P Q (Err e) f h = h

-- ---- conditions that are left

drop_next : {X : Type 0} (xs : List X) (k : ℕ) (x : X) (rest : List X) → drop k xs ≡ x ∷ rest → drop (k + 1) xs ≡ rest
drop_next [] zero x rest e = cc
drop_next [] (suc k) x rest e = cc
drop_next (y ∷ ys) zero x rest e = cc
drop_next (y ∷ ys) (suc k) x rest e =
    let s : suc k + 1 ≡ suc (k + 1) = omega arith in
    ap (λ m. drop m (y ∷ ys)) s ∙ drop_next ys k x rest e

get_next : {X : Type 0} (xs : List X) (k : ℕ) (x : X) (rest : List X) → drop k xs ≡ x ∷ rest → slice_get xs k ≡ Some x
get_next [] zero x rest e = cc
get_next [] (suc k) x rest e = cc
get_next (y ∷ ys) zero x rest e = let s : y ≡ x = cc in ap (λ z. Some z) s
get_next (y ∷ ys) (suc k) x rest e = get_next ys k x rest e

-- one more is done
pub one_less : (all found rest : List TypedInvariant) (k : ℕ) (inv : TypedInvariant) → found ≡ inv ∷ [] → AreLeft all k (found ++ rest) → AreLeft all (k + 1) rest
one_less all found rest k inv e h =
    let left : drop k all ≡ inv ∷ rest = h.left ∙ ap (λ (l : List TypedInvariant). l ++ rest) e in
    let count : k + length (found ++ rest) ≡ length all = h.count in
    let same : length (found ++ rest) ≡ suc (length rest) = ap (λ (l : List TypedInvariant). length (l ++ rest)) e in
    record { left = drop_next all k inv rest left; count = omega arith }

pub first_left : (all found rest : List TypedInvariant) (k : ℕ) (inv : TypedInvariant) → found ≡ inv ∷ [] → AreLeft all k (found ++ rest) → slice_get all k ≡ Some inv
first_left all found rest k inv e h = get_next all k inv rest (h.left ∙ ap (λ (l : List TypedInvariant). l ++ rest) e)

pub all_left : (all : List TypedInvariant) → AreLeft all 0 all
all_left all = record { left = refl; count = let e : 0 + length all ≡ length all = omega arith in e }

pub none_left : (all : List TypedInvariant) (k : ℕ) → AreLeft all k [] → k ≡ length all
none_left all k h = let e : k + 0 ≡ length all = h.count in omega arith

pub room_left : (t u : TypedProgram) (all found rest : List TypedInvariant) (first at k : ℕ) → u ≡ t → AreLeft all k (found ++ rest) → HasNumbers t first at (length all) (length all + 1) →
    HasNumbers u (first + k) (at + k) (length found) 1
room_left t u all found rest first at k e l h =
    let count : k + length (found ++ rest) ≡ length all = l.count in
    let both : length (found ++ rest) ≡ length found + length rest = length-append found rest in
    let a : 0 < first = h.first in
    let b = h.last in
    let c : first + length all < 2 ^ 32 = h.fits in
    let d : at + (length all + 1) < 2 ^ 32 = h.places in
    subst (λ (x : TypedProgram). HasNumbers x (first + k) (at + k) (length found) 1) (sym e)
    (record { first = omega arith; last = omega arith; fits = omega arith; places = omega arith })

-- ---- one requires

pub demand_led : (at : Span) (number proc place to wrong : ℕ) (args : List TypedExpression) (e : TypedExpression) (w b : Bool) (lay : TypedParts) (old more new : WalkedParts) →
    more ≡ record old { sites = (asserted (walked old) (site_of (typed_program old.parts) number at)).sites } → lay ≡ more.parts → wrong ≡ error_place (typed_program lay) number →
    Leads (demand_arcs (frame_at (typed_program more.parts) proc) (local_count (typed_program more.parts) proc) proc place args e to wrong) (demand_needed (frame_at (typed_program more.parts) proc) (local_count (typed_program more.parts) proc) args e) w b (walked more) (walked new) →
    Makes (site_of (typed_program old.parts) number at ∷ []) (demand_arcs (frame_at (typed_program old.parts) proc) (local_count (typed_program old.parts) proc) proc place args e to (error_place (typed_program old.parts) number))
    (demand_needed (frame_at (typed_program old.parts) proc) (local_count (typed_program old.parts) proc) args e) w b (walked old) (walked new)
demand_led at number proc place to wrong args e w b lay old more new d l k h =
    let same : more.parts ≡ old.parts = ap (λ (x : WalkedParts). x.parts) d in
    let wrong_is : wrong ≡ error_place (typed_program old.parts) number = k ∙ ap (λ (x : TypedParts). error_place (typed_program x) number) (l ∙ same) in
    let P : TypedParts → Type 0 = λ x. Leads (demand_arcs (frame_at (typed_program x) proc) (local_count (typed_program x) proc) proc place args e to wrong) (demand_needed (frame_at (typed_program x) proc) (local_count (typed_program x) proc) args e) w b (walked more) (walked new) in
    let Q : ℕ → Type 0 = λ x. Leads (demand_arcs (frame_at (typed_program old.parts) proc) (local_count (typed_program old.parts) proc) proc place args e to x) (demand_needed (frame_at (typed_program old.parts) proc) (local_count (typed_program old.parts) proc) args e) w b (walked more) (walked new) in
    asserted_then (site_of (typed_program old.parts) number at) _ _ w b (walked old) (walked more) (walked new) (ap walked d) (subst Q wrong_is (subst P same h))

pub part_demanded : (t : TypedProgram) (n : ℕ) (sp : Span) (cs : List Column) (f : ℕ) (es : List TypedExpression) (all : List TypedInvariant) (id at i : ℕ) (inv : TypedInvariant) (w b v c x y : Bool)
    (old mid new : Walked) → slice_get all i ≡ Some inv → x ≡ (w || v) → y ≡ (b || c) →
    Makes (site_of t (id + i) sp ∷ []) (demand_arcs (frame_at t n) (local_count t n) n (at + i) es inv.cond (at + i + 1) (error_place t (id + i))) (demand_needed (frame_at t n) (local_count t n) es inv.cond) v c mid new →
    PartsMade t n sp cs f es all id at i w b old mid → PartsMade t n sp cs f es all id at (i + 1) x y old new
part_demanded t n sp cs f es all id at i inv w b v c x y old mid new e wide big m done = λ q whole rest loop under callee found body called listed.
    let s : at + i + 1 ≡ at + (i + 1) = omega arith in
    let made : Makes (site_of t (id + i) sp ∷ []) (demand_arcs (frame_at t n) (local_count t n) n (at + i) es inv.cond (at + (i + 1)) (error_place t (id + i))) (demand_needed (frame_at t n) (local_count t n) es inv.cond) v c mid new =
    subst (λ (k : ℕ). Makes (site_of t (id + i) sp ∷ []) (demand_arcs (frame_at t n) (local_count t n) n (at + i) es inv.cond k (error_place t (id + i))) (demand_needed (frame_at t n) (local_count t n) es inv.cond) v c mid new) s m in
    let get : slice_get (plain_conditions callee.specs) i ≡ Some inv = ap (λ (l : List TypedInvariant). slice_get l i) listed ∙ e in
    let both : PlacesMade t (located n (parts_from (at_statement (Call sp cs f es) rest loop id at under) 0 (i + 1))) (w || v) (b || c) old new =
    calls.part_made t n q whole found body rest loop id at under sp cs f es i w b v c old mid new (done q whole rest loop under callee found body called listed)
    (calls.demand_made t n q whole found body rest loop id at under sp cs f es callee called i inv v c mid new get made) in
    let P : Bool → Bool → Type 0 = λ j k. PlacesMade t (located n (parts_from (at_statement (Call sp cs f es) rest loop id at under) 0 (i + 1))) j k old new in
    subst (λ (j : Bool). P j y) (sym wide) (subst (λ (k : Bool). P (w || v) k) (sym big) both)

pub no_parts_made : (t : TypedProgram) (n : ℕ) (sp : Span) (cs : List Column) (f : ℕ) (es : List TypedExpression) (all : List TypedInvariant) (id at : ℕ) (old : Walked) →
    PartsMade t n sp cs f es all id at 0 false false old old
no_parts_made t n sp cs f es all id at old = λ q whole rest loop under callee found body called listed. calls.no_part_made t n q whole found body rest loop id at under sp cs f es old

-- ---- the call itself

entry_is : (t : TypedProgram) (f : ℕ) (callee : TypedProcedure) (o : Option TypedBlock) → callee.body ≡ o → (marks_of t (f, callee)).entry ≡ (marks_with t.procs callee (first_assertion t.procs f) (first_place t f) o).entry
entry_is t f callee o e = ap (λ (x : Option TypedBlock). (marks_with t.procs callee (first_assertion t.procs f) (first_place t f) x).entry) e

returns_is : (t : TypedProgram) (f : ℕ) (callee : TypedProcedure) (o : Option TypedBlock) → callee.body ≡ o → (marks_of t (f, callee)).returns ≡ (marks_with t.procs callee (first_assertion t.procs f) (first_place t f) o).returns
returns_is t f callee o e = ap (λ (x : Option TypedBlock). (marks_with t.procs callee (first_assertion t.procs f) (first_place t f) x).returns) e

pub entered : (t : TypedProgram) (n : ℕ) (sp : Span) (cs : List Column) (f : ℕ) (es : List TypedExpression) (callee : TypedProcedure) (inner : TypedBlock) (place after : ℕ) (w b : Bool) (old new : Walked) →
    callee.body ≡ Some inner →
    Leads (entered_arcs n f place (marks_of t (f, callee)).entry (marks_of t (f, callee)).returns (numbers_in (frame_at t n) cs) after (call_letters t n f es)) (call_needed t n f es ∷ []) w b old new →
    CallMade t n sp cs f es callee place after w b old new
entered t n sp cs f es callee inner place after w b old new k l = λ q whole rest loop id at under found body called is_place is_after.
    let entry = entry_is t f callee (Some inner) k ∙ sym (bodies.called_is t f callee inner called k) in
    let returns = returns_is t f callee (Some inner) k ∙ sym (bodies.return_is t f callee inner called k) in
    calls.enter_made t n q whole found body rest loop id at under sp cs f es callee called inner (marks_of t (f, callee)).entry (marks_of t (f, callee)).returns after w b old new k entry returns is_after
    (subst (λ (p : ℕ). Leads (entered_arcs n f p (marks_of t (f, callee)).entry (marks_of t (f, callee)).returns (numbers_in (frame_at t n) cs) after (call_letters t n f es)) (call_needed t n f es ∷ []) w b old new) is_place l)

pub unseen : (t : TypedProgram) (n : ℕ) (sp : Span) (cs : List Column) (f : ℕ) (es : List TypedExpression) (callee : TypedProcedure) (place after : ℕ) (w b : Bool) (old new : Walked) → callee.body ≡ None →
    Leads (unseen_list t n place callee es cs after) (import_needed (frame_at t n) (local_count t n) t.globals (Some callee) es (numbers_in (frame_at t n) cs)) w b old new →
    CallMade t n sp cs f es callee place after w b old new
unseen t n sp cs f es callee place after w b old new k l = λ q whole rest loop id at under found body called is_place is_after.
    calls.import_made t n q whole found body rest loop id at under sp cs f es callee called after w b old new k is_after
    (subst (λ (p : ℕ). Leads (unseen_list t n p callee es cs after) (import_needed (frame_at t n) (local_count t n) t.globals (Some callee) es (numbers_in (frame_at t n) cs)) w b old new) is_place l)

-- ---- all of it

pub whole_call : (t : TypedProgram) (n : ℕ) (sp : Span) (cs : List Column) (f : ℕ) (es : List TypedExpression) (callee : TypedProcedure) (id at count place after : ℕ) (w b v c x y : Bool) (old mid more new : Walked) →
    old.program ≡ t → slice_get t.procs f ≡ Some callee → count ≡ length (plain_conditions callee.specs) → place ≡ at + count → x ≡ (w || v) → y ≡ (b || c) →
    PartsMade t n sp cs f es (plain_conditions callee.specs) id at count w b old mid → CallMade t n sp cs f es callee place after v c mid more → new ≡ noted more sp x y →
    PlainlyAdds t n after (Call sp cs f es) id at old new
whole_call t n sp cs f es callee id at count place after w b v c x y old mid more new p called counted is_place wide big done made e = λ q whole rest loop under found body behind.
    let plain : ℕ = length (plain_conditions callee.specs) in
    let where_is : place ≡ at + plain = is_place ∙ ap (λ (k : ℕ). at + k) counted in
    let parts : PlacesMade t (located n (parts_from (at_statement (Call sp cs f es) rest loop id at under) 0 plain)) w b old mid =
    subst (λ (k : ℕ). PlacesMade t (located n (parts_from (at_statement (Call sp cs f es) rest loop id at under) 0 k)) w b old mid) counted (done q whole rest loop under callee found body called refl) in
    let all : PlacesMade t (located n (parts_from (at_statement (Call sp cs f es) rest loop id at under) 0 (plain + 1))) (w || v) (b || c) old more =
    calls.part_made t n q whole found body rest loop id at under sp cs f es plain w b v c old mid more parts (made q whole rest loop id at under found body called where_is behind) in
    let number : plain ≡ checked_at_call (slice_get t.procs f) = plain_requires_counted callee.specs ∙ sym (ap checked_at_call called) in
    let noted_so : new ≡ noted more sp (w || v) (b || c) = e ∙ ap (λ (j : Bool). noted more sp j y) wide ∙ ap (λ (k : Bool). noted more sp (w || v) k) big in
    calls.call_added t n q whole found body rest loop id at under sp cs f es (w || v) (b || c) old more new p
    (subst (λ (k : ℕ). PlacesMade t (located n (parts_from (at_statement (Call sp cs f es) rest loop id at under) 0 (k + 1))) (w || v) (b || c) old more) number all) noted_so

pub if_on : {T E : Type 0} (P : T → Type 0) (B : Type 0) (r : Result T E) → ((x : T) → P x → B) → IfOk r P → OnOk r B
if_on P B (Ok x) f h = f x h
if_on P B (Err e) f h = h

-- the conditions from a specification on
pub left_at : {X : Type 0} (f : X → TypedSpecification) (xs : List X) (i : ℕ) (x : X) → i < length xs → x ≡ get_or xs i x →
    plain_conditions (map f (drop i xs)) ≡ plain_conditions (f x ∷ []) ++ plain_conditions (map f (drop (i + 1) xs))
left_at f xs i x h e =
    ap (λ l. plain_conditions (map f l)) (drop_more xs i x h ∙ ap (λ y. y ∷ drop (i + 1) xs) (sym e)) ∙ plain_step (f x) (map f (drop (i + 1) xs))

drop_all : {X : Type 0} (xs : List X) (i : ℕ) → length xs ≤ i → drop i xs ≡ []
drop_all [] zero h = refl
drop_all [] (suc i) h = refl
drop_all (x ∷ xs) zero h = absurd (omega arith)
drop_all (x ∷ xs) (suc i) h = drop_all xs i (omega arith)

pub none_at_end : {X : Type 0} (f : X → TypedSpecification) (xs : List X) (i : ℕ) (all : List TypedInvariant) (k : ℕ) → length xs ≤ i → AreLeft all k (plain_conditions (map f (drop i xs))) → k ≡ length all
none_at_end f xs i all k h l = none_left all k (subst (AreLeft all k) (ap (λ ys. plain_conditions (map f ys)) (drop_all xs i h)) l)

-- ---- numbers of a call

pub call_numbers : (t : TypedProgram) (f first at : ℕ) (callee : TypedProcedure) (specs : List TypedSpecification) → slice_get t.procs f ≡ Some callee → specs ≡ callee.specs →
    HasNumbers t first at (checked_at_call (slice_get t.procs f)) (checked_at_call (slice_get t.procs f) + 1) → HasNumbers t first at (length (plain_conditions specs)) (length (plain_conditions specs) + 1)
call_numbers t f first at callee specs e s h =
    let same : checked_at_call (slice_get t.procs f) ≡ length (plain_conditions specs) =
    ap checked_at_call e ∙ sym (plain_requires_counted callee.specs) ∙ ap (λ (l : List TypedSpecification). length (plain_conditions l)) (sym s) in
    subst (λ (k : ℕ). HasNumbers t first at k (k + 1)) same h
