-- The start of a program: its edge, and the conditions behind it.
use Rattle.std.proofs.Common.{◌≡◌, ℕ, zero, suc, ◌+◌, ◌<◌, ◌≤◌, Bool, true, false, List, [], ◌∷◌, ◌++◌, map, length, take, drop, Option, None, Some, refl, sym, ap, ◌∙◌, subst, append_assoc, arith}
use Rattle.std.specs.Prelude.{slice_get, nat_lt, if◌then◌else◌}
use Rattle.std.specs.Option.{option_map}
use Rattle.std.proofs.lemmas.List.{take_all, length-append, length-map, map-append}
use Rattle.std.proofs.lemmas.Option.{slice_get_within}
use Rattle.std.proofs.lemmas.Bool.Decides.{nat_tests}
use Rattle.boogie_tree.specs.declared.span.Span.{Span}
use Rattle.boogie_tree.specs.declared.tree.Column.TheVariants as columns
use Rattle.typed_tree.specs.declared.types.TExpr.{TExpr}
use Rattle.typed_tree.specs.declared.types.TExprKind.{TExprKind}
use Rattle.typed_tree.specs.declared.types.TExprKind.TheVariants as kinds
use Rattle.typed_tree.specs.BrokenRules.{expression_span}
use Rattle.typed_tree.specs.TypedView as view
use Rattle.typed_tree.specs.TypedTree.{TypedExpression, TypedInvariant, TypedSpecification, TypedProcedure, TypedProgram}
use Rattle.typed_tree.specs.TypingRules.Counts.{checked_at_call}
use Rattle.typed_tree.specs.TypingRules.TypedParts.{TypedParts, typed_program}
use Rattle.letter_acts.specs.Acts.{PlainAct}
use Rattle.letter_acts.specs.Frames.{Columns}
use Rattle.cond_jumps.specs.FreeProducts.FrameLetters.{path_letters}
use Rattle.boogie_run.specs.BoogiePoints.Points.{Point}
use Rattle.boogie_run.specs.BoogiePoints.Actions.{plain_conditions, start_conditions}
use Rattle.boogie_run.specs.BoogiePoints.Starts.{start_point_of}
use Rattle.boogie_run.proofs.BoogiePoints.ConditionLaws.{plain_step, plain_requires_counted}
use Rattle.boogie_run.specs.BoogiePlaces.Places.{parts_from, located}
use Rattle.letter_acts.specs.LetterTable.Letters.{exact_act, inside_arc, with_arc}
use Rattle.lowered_graph.specs.LoweredSteps.ProgramFrames.{frame_at}
use Rattle.lowered_graph.specs.LoweredSteps.Edges.{local_count}
use Rattle.lowered_graph.specs.Arcs.{place_number, entering}
use Rattle.lowered_graph.specs.Items.{path_needed, condition_span, start_span}
use Rattle.boogie_tree.specs.Apart.{nowhere}
use Rattle.lowered_graph.specs.LoweredParts.Parts.{Walked, Adds}
use Rattle.lowered_graph.specs.LoweredParts.Lists.{list_arcs}
use Rattle.lowered_graph.specs.LoweredParts.Making.{MakesItem}
use Rattle.lowered_graph.proofs.LoweredParts.Numbers.{both_added, part_added}
use Rattle.lowered_graph.proofs.LoweredParts.Bodies.{start_added, starts_at}
use Rattle.icfg_lower.specs.ProgramWalk.Ties.Conditions.{starting, IsStart, StartAdds, AllStart, OneStarts, SaidStarts, Begins}

-- ---- members of lists

none_within : {X : Type 0} (xs : List X) (i : ℕ) → slice_get xs i ≡ None → length xs ≤ i
none_within [] i e = omega arith
none_within (x ∷ xs) zero e = cc
none_within (x ∷ xs) (suc i) e = let h : length xs ≤ i = none_within xs i e in omega arith

get_before : {X : Type 0} (xs ys : List X) (i : ℕ) (x : X) → slice_get xs i ≡ Some x → slice_get (xs ++ ys) i ≡ Some x
get_before [] ys i x e = cc
get_before (z ∷ xs) ys zero x e = e
get_before (z ∷ xs) ys (suc i) x e = get_before xs ys i x e

get_behind : {X : Type 0} (xs : List X) (y : X) (ys : List X) → slice_get (xs ++ y ∷ ys) (length xs) ≡ Some y
get_behind [] y ys = refl
get_behind (x ∷ xs) y ys = get_behind xs y ys

-- a member splits its list
split_at : {X : Type 0} (xs : List X) (k : ℕ) (x : X) → slice_get xs k ≡ Some x → xs ≡ take k xs ++ x ∷ drop (k + 1) xs
split_at [] k x e = cc
split_at (y ∷ ys) zero x e = let f : y ≡ x = cc in ap (λ z. z ∷ ys) f
split_at (y ∷ ys) (suc k) x e =
    let s : suc k + 1 ≡ suc (k + 1) = omega arith in
    ap (λ l. y ∷ l) (split_at ys k x e) ∙ ap (λ (m : ℕ). y ∷ (take k ys ++ x ∷ drop m (y ∷ ys))) (sym s)

take_at : {X : Type 0} (xs : List X) (k : ℕ) (x : X) → slice_get xs k ≡ Some x → take (k + 1) xs ≡ take k xs ++ x ∷ []
take_at [] k x e = cc
take_at (y ∷ ys) zero x e = let f : y ≡ x = cc in ap (λ z. z ∷ []) f
take_at (y ∷ ys) (suc k) x e =
    let s : suc k + 1 ≡ suc (k + 1) = omega arith in
    ap (λ (m : ℕ). take m (y ∷ ys)) s ∙ ap (λ l. y ∷ l) (take_at ys k x e)

-- parts that follow one another
parts_joined : (p : Point) (k a b : ℕ) → parts_from p k (a + b) ≡ parts_from p k a ++ parts_from p (k + a) b
parts_joined p k zero b =
    let e : 0 + b ≡ b = omega arith in
    let f : k ≡ k + 0 = omega arith in
    ap (parts_from p k) e ∙ ap (λ (m : ℕ). parts_from p m b) f
parts_joined p k (suc a) b =
    let e : suc a + b ≡ suc (a + b) = omega arith in
    let f : (k + 1) + a ≡ k + suc a = omega arith in
    ap (parts_from p k) e ∙ ap (λ (l : List Point). record p { part = k } ∷ l) (parts_joined p (k + 1) a b ∙ ap (λ (m : ℕ). parts_from p (k + 1) a ++ parts_from p m b) f)

-- ---- one condition

-- as many as the start has
counted_conditions : (t : TypedProgram) (n count entry : ℕ) (q : TypedProcedure) → IsStart t n count entry → slice_get t.procs t.entry ≡ Some q → count ≡ length t.axioms + length (plain_conditions q.specs)
counted_conditions t n count entry q s found =
    s.conditions ∙ ap (λ (o : Option TypedProcedure). length t.axioms + checked_at_call o) found ∙ ap (λ (m : ℕ). length t.axioms + m) (sym (plain_requires_counted q.specs))

all_conditions : (t : TypedProgram) (q : TypedProcedure) → length (start_conditions t q) ≡ length t.axioms + length (plain_conditions q.specs)
all_conditions t q =
    length-append t.axioms (map (λ i. i.cond) (plain_conditions q.specs)) ∙ ap (λ (m : ℕ). length t.axioms + m) (length-map (plain_conditions q.specs) (λ i. i.cond))

to_next : (i m to entry : ℕ) → to ≡ (if nat_lt (i + 1) m then 1 + (i + 1) else entry) → i + 1 < m → to ≡ 1 + (i + 1)
to_next i m to entry e h = grind (arith, nat_tests)

to_entry : (i m to entry : ℕ) → to ≡ (if nat_lt (i + 1) m then 1 + (i + 1) else entry) → m ≤ i + 1 → to ≡ entry
to_entry i m to entry e h = grind (arith, nat_tests)

pub one_starts : (t : TypedProgram) (n count entry number to : ℕ) (e : TypedExpression) (at : Span) (old new : Walked) → old.program ≡ t → IsStart t n count entry →
    to ≡ (if nat_lt (number + 1) count then 1 + (number + 1) else entry) →
    MakesItem at [] (list_arcs n (1 + number) [] (path_letters (frame_at t n) (local_count t n) e true) to) (path_needed (frame_at t n) (local_count t n) e true ∷ []) old new → OneStarts t number e at old new
one_starts t n count entry number to e at old new p s leads h = λ q whole found body is is_at.
    let total : length (start_conditions t q) ≡ count = all_conditions t q ∙ sym (counted_conditions t n count entry q s found) in
    let item : MakesItem at [] (list_arcs t.entry (1 + number) [] (path_letters (frame_at t t.entry) (local_count t t.entry) e true) to) (path_needed (frame_at t t.entry) (local_count t t.entry) e true ∷ []) old new =
    subst (λ (m : ℕ). MakesItem at [] (list_arcs m (1 + number) [] (path_letters (frame_at t m) (local_count t m) e true) to) (path_needed (frame_at t m) (local_count t m) e true ∷ []) old new) s.proc h in
    start_added t q whole found body number e at to old new p is
    (λ d more. to_next number count to entry leads (let l : number + 1 < length (start_conditions t q) = slice_get_within (start_conditions t q) (number + 1) d more in omega arith))
    (λ none. to_entry number count to entry leads (let l : length (start_conditions t q) ≤ number + 1 = none_within (start_conditions t q) (number + 1) none in omega arith) ∙ s.place)
    is_at item

-- ---- axioms

axiom_span : (s : Span) (k : TExprKind) → expression_span (view.kind_view s k) ≡ s
axiom_span s (kinds.Lit n) = refl
axiom_span s (kinds.Truth b) = refl
axiom_span s (kinds.Var c) = refl
axiom_span s (kinds.Old' p s1 k) = refl
axiom_span s (kinds.Not' p s1 k) = refl
axiom_span s (kinds.Neg' p s1 k) = refl
axiom_span s (kinds.Bin' op p s1 a q s2 b) = refl

span_before : (es : List TypedExpression) (is : List TypedInvariant) (i : ℕ) (e : TypedExpression) → slice_get es i ≡ Some e → start_span es is i ≡ expression_span e
span_before [] is i e h = cc
span_before (x ∷ es) is zero e h = let f : x ≡ e = cc in ap expression_span f
span_before (x ∷ es) is (suc i) e h = span_before es is i e h

span_behind : (es : List TypedExpression) (is : List TypedInvariant) (k : ℕ) → start_span es is (length es + k) ≡ condition_span nowhere (slice_get is k)
span_behind [] is k = let e : 0 + k ≡ k = omega arith in ap (λ (m : ℕ). condition_span nowhere (slice_get is m)) e
span_behind (x ∷ es) is k =
    let e : suc (length es) + k ≡ suc (length es + k) = omega arith in
    ap (start_span (x ∷ es) is) e ∙ span_behind es is k

pub axiom_starts : (t u : TypedProgram) (number index : ℕ) (stated : TExpr) (old mid new : Walked) → u ≡ t → number ≡ index → slice_get t.axioms index ≡ Some (view.expression stated) →
    StartAdds t 0 index old mid → OneStarts u number (view.expression stated) stated.span mid new → StartAdds t 0 (index + 1) old new
axiom_starts t u number index stated old mid new d i e done h = λ q whole found body.
    let one : OneStarts t index (view.expression stated) stated.span mid new =
    subst (λ (m : ℕ). OneStarts t m (view.expression stated) stated.span mid new) i (subst (λ (x : TypedProgram). OneStarts x number (view.expression stated) stated.span mid new) d h) in
    part_added t.entry starting index old mid new (done q whole found body)
    (one q whole found body (get_before t.axioms (map (λ i. i.cond) (plain_conditions q.specs)) index (view.expression stated) e)
    (span_before t.axioms (plain_conditions q.specs) index (view.expression stated) e ∙ axiom_span stated.span stated.kind))

pub axioms_end : (t : TypedProgram) (index : ℕ) (xs : List TExpr) (old new : Walked) → t.axioms ≡ map view.expression xs → index ≤ length xs → length xs ≤ index → StartAdds t 0 index old new →
    StartAdds t 0 (length t.axioms) old new
axioms_end t index xs old new d h k done =
    let l : length t.axioms ≡ length xs = ap length d ∙ length-map xs view.expression in
    let e : index ≡ length t.axioms = omega arith in
    subst (λ (m : ℕ). StartAdds t 0 m old new) e done

-- ---- requires

pub said_one : (t : TypedProgram) (number : ℕ) (i : TypedInvariant) (said rest : List TypedInvariant) (old new : Walked) → said ≡ i ∷ [] → OneStarts t number i.cond i.span old new → SaidStarts t number said rest old new
said_one t number i said rest old new e one =
    subst (λ (l : List TypedInvariant). SaidStarts t number l rest old new) (sym e)
    (λ q whole found body before split count.
    let conds : List TypedExpression = map (λ j. j.cond) (plain_conditions q.specs) in
    let listed : map (λ j. j.cond) (plain_conditions q.specs) ≡ map (λ j. j.cond) before ++ i.cond ∷ map (λ j. j.cond) rest =
    ap (map (λ j. j.cond)) split ∙ map-append (λ j. j.cond) before (i ∷ rest) in
    let place : number ≡ length (t.axioms ++ map (λ j. j.cond) before) =
    count ∙ sym (length-append t.axioms (map (λ j. j.cond) before) ∙ ap (λ (m : ℕ). length t.axioms + m) (length-map before (λ j. j.cond))) in
    let whole_list : start_conditions t q ≡ (t.axioms ++ map (λ j. j.cond) before) ++ i.cond ∷ map (λ j. j.cond) rest =
    ap (λ (l : List TypedExpression). t.axioms ++ l) listed ∙ sym (append_assoc t.axioms (map (λ j. j.cond) before) (i.cond ∷ map (λ j. j.cond) rest)) in
    one q whole found body
    (ap (slice_get (start_conditions t q)) place ∙ ap (λ (l : List TypedExpression). slice_get l (length (t.axioms ++ map (λ j. j.cond) before))) whole_list
    ∙ get_behind (t.axioms ++ map (λ j. j.cond) before) i.cond (map (λ j. j.cond) rest))
    (ap (start_span t.axioms (plain_conditions q.specs)) count ∙ span_behind t.axioms (plain_conditions q.specs) (length before)
    ∙ ap (λ (l : List TypedInvariant). condition_span nowhere (slice_get l (length before))) split ∙ ap (condition_span nowhere) (get_behind before i rest)))

plain_append : (xs ys : List TypedSpecification) → plain_conditions (xs ++ ys) ≡ plain_conditions xs ++ plain_conditions ys
plain_append [] ys = refl
plain_append (x ∷ xs) ys =
    plain_step x (xs ++ ys) ∙ ap (λ (l : List TypedInvariant). plain_conditions (x ∷ []) ++ l) (plain_append xs ys)
    ∙ sym (append_assoc (plain_conditions (x ∷ [])) (plain_conditions xs) (plain_conditions ys)) ∙ ap (λ (l : List TypedInvariant). l ++ plain_conditions ys) (sym (plain_step x xs))

plain_taken : (ss : List TypedSpecification) (k : ℕ) (s : TypedSpecification) → slice_get ss k ≡ Some s → plain_conditions (take (k + 1) ss) ≡ plain_conditions (take k ss) ++ plain_conditions (s ∷ [])
plain_taken ss k s e = ap plain_conditions (take_at ss k s e) ∙ plain_append (take k ss) (s ∷ [])

plain_split : (ss : List TypedSpecification) (k : ℕ) (s : TypedSpecification) → slice_get ss k ≡ Some s →
    plain_conditions ss ≡ plain_conditions (take k ss) ++ (plain_conditions (s ∷ []) ++ plain_conditions (drop (k + 1) ss))
plain_split ss k s e =
    ap plain_conditions (split_at ss k s e) ∙ plain_append (take k ss) (s ∷ drop (k + 1) ss)
    ∙ ap (λ (l : List TypedInvariant). plain_conditions (take k ss) ++ l) (plain_step s (drop (k + 1) ss))

pub plain_counted : (ss : List TypedSpecification) (k : ℕ) (s : TypedSpecification) (first number next : ℕ) → slice_get ss k ≡ Some s → number ≡ first + length (plain_conditions (take k ss)) →
    next ≡ number + length (plain_conditions (s ∷ [])) → next ≡ first + length (plain_conditions (take (k + 1) ss))
plain_counted ss k s first number next e h d =
    let l : length (plain_conditions (take (k + 1) ss)) ≡ length (plain_conditions (take k ss)) + length (plain_conditions (s ∷ [])) =
    ap length (plain_taken ss k s e) ∙ length-append (plain_conditions (take k ss)) (plain_conditions (s ∷ [])) in
    omega arith

pub plain_room : (t : TypedProgram) (n count entry : ℕ) (q : TypedProcedure) (ss : List TypedSpecification) (k : ℕ) (s : TypedSpecification) (first number : ℕ) → IsStart t n count entry → slice_get t.procs t.entry ≡ Some q →
    q.specs ≡ ss → first ≡ length t.axioms → slice_get ss k ≡ Some s → number ≡ first + length (plain_conditions (take k ss)) → number + length (plain_conditions (s ∷ [])) ≤ count
plain_room t n count entry q ss k s first number is found specs f e h =
    let total : count ≡ length t.axioms + length (plain_conditions ss) =
    counted_conditions t n count entry q is found ∙ ap (λ (l : List TypedSpecification). length t.axioms + length (plain_conditions l)) specs in
    let l : length (plain_conditions ss) ≡ length (plain_conditions (take k ss)) + (length (plain_conditions (s ∷ [])) + length (plain_conditions (drop (k + 1) ss))) =
    ap length (plain_split ss k s e) ∙ length-append (plain_conditions (take k ss)) (plain_conditions (s ∷ []) ++ plain_conditions (drop (k + 1) ss))
    ∙ ap (λ (m : ℕ). length (plain_conditions (take k ss)) + m) (length-append (plain_conditions (s ∷ [])) (plain_conditions (drop (k + 1) ss))) in
    omega arith

some_same : {X : Type 0} (o : Option X) (x y : X) → o ≡ Some x → o ≡ Some y → x ≡ y
some_same o x y e d = cc

pub said_starts : (t u : TypedProgram) (q : TypedProcedure) (ss : List TypedSpecification) (k : ℕ) (s : TypedSpecification) (first number : ℕ) (old mid new : Walked) → u ≡ t → slice_get t.procs t.entry ≡ Some q →
    q.specs ≡ ss → first ≡ length t.axioms → slice_get ss k ≡ Some s → number ≡ first + length (plain_conditions (take k ss)) → StartAdds t first (length (plain_conditions (take k ss))) old mid →
    ((rest : List TypedInvariant) → SaidStarts u number (plain_conditions (s ∷ [])) rest mid new) → StartAdds t first (length (plain_conditions (take (k + 1) ss))) old new
said_starts t u q ss k s first number old mid new d found specs f e h done said = λ r whole there body.
    let same : q ≡ r = some_same (slice_get t.procs t.entry) q r found there in
    let one : SaidStarts t number (plain_conditions (s ∷ [])) (plain_conditions (drop (k + 1) ss)) mid new =
    subst (λ (x : TypedProgram). SaidStarts x number (plain_conditions (s ∷ [])) (plain_conditions (drop (k + 1) ss)) mid new) d (said (plain_conditions (drop (k + 1) ss))) in
    let taken : length (plain_conditions (take (k + 1) ss)) ≡ length (plain_conditions (take k ss)) + length (plain_conditions (s ∷ [])) =
    ap length (plain_taken ss k s e) ∙ length-append (plain_conditions (take k ss)) (plain_conditions (s ∷ [])) in
    let count : number ≡ length t.axioms + length (plain_conditions (take k ss)) = omega arith in
    let more : Adds (located t.entry (parts_from starting number (length (plain_conditions (s ∷ []))))) mid new =
    one r whole there body (plain_conditions (take k ss)) (ap (λ (p : TypedProcedure). plain_conditions p.specs) (sym same) ∙ ap plain_conditions specs ∙ plain_split ss k s e) count in
    let here : Adds (located t.entry (parts_from starting (first + length (plain_conditions (take k ss))) (length (plain_conditions (s ∷ []))))) mid new =
    subst (λ (m : ℕ). Adds (located t.entry (parts_from starting m (length (plain_conditions (s ∷ []))))) mid new) h more in
    subst (λ (l : List Point). Adds (located t.entry l) old new)
    (sym (ap (parts_from starting first) taken ∙ parts_joined starting first (length (plain_conditions (take k ss))) (length (plain_conditions (s ∷ [])))))
    (both_added t.entry (parts_from starting first (length (plain_conditions (take k ss)))) _ old mid new (done r whole there body) here)

pub requires_end : (t : TypedProgram) (n : ℕ) (q : TypedProcedure) (ss : List TypedSpecification) (k first : ℕ) (old new : Walked) → n ≡ t.entry → slice_get t.procs t.entry ≡ Some q → q.specs ≡ ss → length ss ≤ k →
    StartAdds t first (length (plain_conditions (take k ss))) old new → StartAdds t first (checked_at_call (slice_get t.procs n)) old new
requires_end t n q ss k first old new m found specs h done =
    let e : length (plain_conditions (take k ss)) ≡ checked_at_call (slice_get t.procs n) =
    ap (λ (l : List TypedSpecification). length (plain_conditions l)) (take_all k ss h ∙ sym specs) ∙ plain_requires_counted q.specs
    ∙ ap checked_at_call (sym found ∙ ap (λ (i : ℕ). slice_get t.procs i) (sym m)) in
    subst (λ (c : ℕ). StartAdds t first c old new) e done

-- the procedure that was found
pub entry_found : (lay parts : TypedParts) (n : ℕ) (q : TypedProcedure) → lay ≡ parts → n ≡ parts.entry → slice_get (typed_program lay).procs n ≡ Some q → slice_get (typed_program parts).procs parts.entry ≡ Some q
entry_found lay parts n q e m h =
    ap (λ (i : ℕ). slice_get (typed_program parts).procs i) (sym m) ∙ ap (λ (x : TypedParts). slice_get (typed_program x).procs n) (sym e) ∙ h

-- ---- all conditions

pub all_start : (t u : TypedProgram) (n count entry first : ℕ) (old mid new : Walked) → u ≡ t → IsStart t n count entry → first ≡ length t.axioms → StartAdds t 0 (length t.axioms) old mid →
    StartAdds u first (checked_at_call (slice_get u.procs n)) mid new → AllStart t old new
all_start t u n count entry first old mid new d s f axioms requires = λ q whole found body.
    let begins : first ≡ 0 + length t.axioms = omega arith in
    let plain : checked_at_call (slice_get t.procs n) ≡ length (plain_conditions q.specs) =
    ap (λ (i : ℕ). checked_at_call (slice_get t.procs i)) s.proc ∙ ap checked_at_call found ∙ sym (plain_requires_counted q.specs) in
    let there : StartAdds t first (checked_at_call (slice_get t.procs n)) mid new = subst (λ (x : TypedProgram). StartAdds x first (checked_at_call (slice_get x.procs n)) mid new) d requires in
    let behind : Adds (located t.entry (parts_from starting (0 + length t.axioms) (length (plain_conditions q.specs)))) mid new =
    subst (λ (k : ℕ). Adds (located t.entry (parts_from starting k (length (plain_conditions q.specs)))) mid new) begins
    (subst (λ (k : ℕ). Adds (located t.entry (parts_from starting first k)) mid new) plain (there q whole found body)) in
    subst (λ (k : ℕ). Adds (located t.entry (parts_from starting 0 k)) old new) (sym (all_conditions t q))
    (subst (λ (l : List Point). Adds (located t.entry l) old new) (sym (parts_joined starting 0 (length t.axioms) (length (plain_conditions q.specs))))
    (both_added t.entry (parts_from starting 0 (length t.axioms)) (parts_from starting (0 + length t.axioms) (length (plain_conditions q.specs))) old mid new (axioms q whole found body) behind))

-- ---- the edge of the start

to_first : (m to entry : ℕ) → to ≡ (if nat_lt 0 m then 1 else entry) → 0 < m → to ≡ 1
to_first m to entry e h = grind (arith, nat_tests)

to_body : (m to entry : ℕ) → to ≡ (if nat_lt 0 m then 1 else entry) → m ≡ 0 → to ≡ entry
to_body m to entry e h = grind (arith, nat_tests)

-- the frame that was found
pub frame_found : {X : Type 0} (f : X → Columns) (o : Option X) (x : X) (p : Option TypedProcedure) (cs : Columns) → o ≡ Some x → option_map f o ≡ option_map (λ q. cs) p → f x ≡ cs
frame_found f o x None cs e h = let g : option_map f (Some x) ≡ None = subst (λ y. option_map f y ≡ None) e h in cc
frame_found f o x (Some q) cs e h = let g : Some (f x) ≡ Some cs = subst (λ y. option_map f y ≡ Some cs) e h in cc

pub begun : (t : TypedProgram) (n count entry to : ℕ) (act : PlainAct) (old new : Walked) (coarse : Bool) → IsStart t n count entry → to ≡ (if nat_lt 0 count then 1 else entry) → coarse ≡ false → act ≡ entering n (frame_at t n) →
    new ≡ record old { lettered = with_arc old.lettered (inside_arc 0 (record { act = act; coarse = coarse }) to) } → Begins t old new
begun t n count entry to act old new coarse s leads exact is_act e = λ q whole found body.
    let total : length (start_conditions t q) ≡ count = all_conditions t q ∙ sym (counted_conditions t n count entry q s found) in
    let place : to ≡ place_number t t.entry (start_point_of t (slice_get t.procs t.entry)) =
    starts_at t q whole found body to
    (λ some. to_first count to entry leads (omega arith)) (λ none. to_body count to entry leads (omega arith) ∙ s.place) in
    e ∙ ap (λ (c : Bool). record old { lettered = with_arc old.lettered (inside_arc 0 (record { act = act; coarse = c }) to) }) exact
    ∙ ap (λ (a : PlainAct). record old { lettered = with_arc old.lettered (inside_arc 0 (exact_act a) to) }) (is_act ∙ ap (λ (m : ℕ). entering m (frame_at t m)) s.proc)
    ∙ ap (λ (m : ℕ). record old { lettered = with_arc old.lettered (inside_arc 0 (exact_act (entering t.entry (frame_at t t.entry))) m) }) place

-- ---- old columns
