-- The statements of a block, one after another, and those inside them.
use Rattle.std.proofs.Common.{◌≡◌, ℕ, zero, suc, ◌+◌, ◌<◌, ◌≤◌, ◌^◌, Bool, true, false, List, [], ◌∷◌, ◌++◌, map, length, drop, get_or, Some, refl, sym, ap, ◌∙◌, subst, arith}
use Rattle.std.specs.Prelude.{slice_get, unwrap_or, nat_lt, nat_le, if◌then◌else◌}
use Rattle.std.specs.List.{list_all}
use Rattle.std.proofs.lemmas.List.{drop_more, drop_all, reverse-append}
use Rattle.std.proofs.lemmas.Bool.Decides.{nat_tests}
use Rattle.boogie_tree.specs.declared.span.Span.{Span}
use Rattle.boogie_tree.specs.declared.tree.Column.{Column}
use Rattle.typed_tree.specs.declared.types.TStmt.{TStmt}
use Rattle.typed_tree.specs.TypedView as view
use Rattle.typed_tree.specs.TypedTree.{TypedExpression, TypedGuard, TypedInvariant, TypedStatement, Assert, Assume, Havoc, Assign, Call, If, While, Break, Goto, Return, Label, TypedBlock, Then, TypedProcedure, TypedProgram}
use Rattle.typed_tree.specs.TypingRules.Counts.{assertions, points, block_assertions, block_points, plain_invariants}
use Rattle.letter_acts.specs.Frames.{Columns}
use Rattle.boogie_run.specs.BoogiePoints.Points.{Todo, settled, past}
use Rattle.boogie_run.specs.BoogiePoints.Stacks.{is_label}
use Rattle.boogie_run.specs.BoogiePlaces.Places.{at_statement, parts_from, located, points_in, points_of}
use Rattle.cond_jumps.specs.FreeProducts.FrameLetters.{path_letters, assign_letters}
use Rattle.lowered_graph.specs.LoweredSteps.ProgramFrames.{frame_at}
use Rattle.lowered_graph.specs.LoweredSteps.Edges.{local_count, numbers_in}
use Rattle.lowered_graph.specs.Arcs.{place_number}
use Rattle.lowered_graph.specs.Items.{path_needed}
use Rattle.lowered_graph.specs.LoweredParts.Parts.{Walked, Adds}
use Rattle.lowered_graph.specs.LoweredParts.Lists.{list_arcs, guard_arcs, guard_needed, write_needed}
use Rattle.lowered_graph.specs.LoweredParts.Making.{MakesItem}
use Rattle.lowered_graph.specs.LoweredParts.Items.{checked_sites, checked_arcs, checked_needed, only_labels}
use Rattle.lowered_graph.proofs.LoweredParts.Joining.{nothing}
use Rattle.lowered_graph.proofs.LoweredParts.Numbers.{both_added, part_added, number_here, number_ended, number_left}
use Rattle.lowered_graph.proofs.LoweredParts.Statements.{assert_added, assume_added, assign_added, if_added, if_joined, loop_added}
use Rattle.icfg_lower.specs.ProgramWalk.Ties.Bounds.{StatementFits, BlockFits}
use Rattle.icfg_lower.specs.ProgramWalk.Ties.Walks.{ForkAdds, HeadAdds, IsElse, IsInside, behind_loop, IsBody, AreLoops, InvariantsAdd, PlainlyAdds, StatementAdds, BlockAdds}

-- ---- labels at the end of a block

labels_are : (ss : List TypedStatement) → only_labels (view.block ss) ≡ list_all is_label ss
labels_are [] = refl
labels_are (Label k ∷ ss) = labels_are ss
labels_are (Assert span e ∷ ss) = refl
labels_are (Assume span e ∷ ss) = refl
labels_are (Havoc span cs ∷ ss) = refl
labels_are (Assign span cs es ∷ ss) = refl
labels_are (Call span cs f es ∷ ss) = refl
labels_are (If span g x y ∷ ss) = refl
labels_are (While span g is x ∷ ss) = refl
labels_are (Break span k ∷ ss) = refl
labels_are (Goto span ks ∷ ss) = refl
labels_are (Return span ∷ ss) = refl

abbrev pub EndsWithLabels : List TStmt → ℕ → Type 0
EndsWithLabels xs before = (k : ℕ) → list_all is_label (map view.statement (drop k xs)) ≡ nat_le before k

left_are : (xs : List TStmt) (before k : ℕ) → EndsWithLabels xs before → only_labels (view.statements (drop k xs)) ≡ nat_le before k
left_are xs before k h = labels_are (map view.statement (drop k xs)) ∙ h k

pub all_labels : (xs : List TStmt) (before first after : ℕ) → EndsWithLabels xs before → before ≡ 0 → after ≡ (if only_labels (view.statements xs) then after else first)
all_labels xs before first after h e =
    let l : only_labels (view.statements xs) ≡ nat_le before 0 = left_are xs before 0 h in
    let m : nat_le before 0 ≡ true = grind (arith, nat_tests) in
    sym (ap (λ (b : Bool). if b then after else first) (l ∙ m))

pub some_left : (xs : List TStmt) (before first after : ℕ) → EndsWithLabels xs before → (before ≡ 0 → ⊥) → first ≡ (if only_labels (view.statements xs) then after else first)
some_left xs before first after h e =
    let l : only_labels (view.statements xs) ≡ nat_le before 0 = left_are xs before 0 h in
    let m : nat_le before 0 ≡ false = grind (arith, nat_tests) in
    sym (ap (λ (b : Bool). if b then after else first) (l ∙ m))

-- the place at what is left of a block: its first statement, or what stands behind the block
module _ (t : TypedProgram) (n : ℕ) (q : TypedProcedure) (whole : TypedBlock) (found : slice_get t.procs n ≡ Some q) (body : q.body ≡ Some whole) where
  left_by : (v : Bool) (b : TypedBlock) (loop : Bool) (id at : ℕ) (under : List Todo) (next after : ℕ) → only_labels b ≡ v → next ≡ (if v then after else at) → after ≡ place_number t n (settled under) →
      next ≡ place_number t n (settled (record { rest = b; of_loop = loop; id = id; at = at } ∷ under))
  left_by true b loop id at under next after e h k = h ∙ k ∙ sym (number_ended t n q whole found body b loop id at under e)
  left_by false b loop id at under next after e h k = h ∙ sym (number_left t n q whole found body b loop id at under e)

  pub place_of_left : (b : TypedBlock) (loop : Bool) (id at : ℕ) (under : List Todo) (next after : ℕ) → next ≡ (if only_labels b then after else at) → after ≡ place_number t n (settled under) →
      next ≡ place_number t n (settled (record { rest = b; of_loop = loop; id = id; at = at } ∷ under))
  place_of_left b loop id at under next after h k = left_by (only_labels b) b loop id at under next after refl h k

turned : (before k : ℕ) (next at after : ℕ) → next ≡ (if nat_lt k before then at else after) → next ≡ (if nat_le before k then after else at)
turned before k next at after h = grind (arith, nat_tests)

-- ---- one statement after another

-- what is left to do of a block
abbrev pub BlockLeft : TypedProgram → ℕ → ℕ → List ℕ → List ℕ → ℕ → TypedBlock → ℕ → ℕ → TypedBlock → ℕ → ℕ → Walked → Walked → Type 0
BlockLeft t n exit labels loops after b id at rest i j old mid = (q : TypedProcedure) (whole : TypedBlock) (loop : Bool) (under : List Todo) → IsBody t n q whole exit labels →
    after ≡ place_number t n (settled under) → AreLoops t n loops exit loop under → (w : Walked) → Adds (located n (points_of t.procs rest loop i j under)) mid w →
    Adds (located n (points_of t.procs b loop id at under)) old w

pub block_ends : (t : TypedProgram) (n exit : ℕ) (labels loops : List ℕ) (after : ℕ) (b : TypedBlock) (id at : ℕ) (xs : List TStmt) (k i j : ℕ) (old mid : Walked) → length xs ≤ k →
    BlockLeft t n exit labels loops after b id at (view.statements (drop k xs)) i j old mid → BlockAdds t n exit labels loops after b id at old mid
block_ends t n exit labels loops after b id at xs k i j old mid h left = λ q whole loop under body behind looped.
    let none : drop k xs ≡ [] = drop_all k xs h in
    left q whole loop under body behind looped mid
    (subst (λ (ys : List TStmt). Adds (located n (points_of t.procs (view.statements ys) loop i j under)) mid mid) (sym none) (nothing mid))

pub read_next : (xs : List TStmt) (k : ℕ) (x : TStmt) → k < length xs → x ≡ get_or xs k x → view.statements (drop k xs) ≡ Then (view.statement x) (view.statements (drop (k + 1) xs))
read_next xs k x h e = ap view.statements (drop_more xs k x h ∙ ap (λ (y : TStmt). y ∷ drop (k + 1) xs) (sym e))

pub block_step : (t u : TypedProgram) (n exit : ℕ) (labels loops now : List ℕ) (after : ℕ) (b : TypedBlock) (id at : ℕ) (xs : List TStmt) (k i j ni nj before next : ℕ) (x : TStmt) (old mid new : Walked) →
    u ≡ t → now ≡ loops → k < length xs → x ≡ get_or xs k x → EndsWithLabels xs before → nj ≡ j + points t.procs (view.statement x) → ni ≡ i + assertions t.procs (view.statement x) →
    next ≡ (if nat_lt (k + 1) before then nj else after) →
    BlockLeft t n exit labels loops after b id at (view.statements (drop k xs)) i j old mid →
    StatementAdds u n exit labels now next (view.statement x) i j mid new →
    BlockLeft t n exit labels loops after b id at (view.statements (drop (k + 1) xs)) ni nj old new
block_step t u n exit labels loops now after b id at xs k i j ni nj before next x old mid new e same h r ends place number chosen left added = λ q whole loop under body behind looped w m.
    let s : TypedStatement = view.statement x in
    let rest : TypedBlock = view.statements (drop (k + 1) xs) in
    let one : StatementAdds t n exit labels loops next s i j mid new =
    subst (λ (l : List ℕ). StatementAdds t n exit labels l next s i j mid new) same (subst (λ (y : TypedProgram). StatementAdds y n exit labels now next s i j mid new) e added) in
    let told : next ≡ (if only_labels rest then after else j + points t.procs s) =
    turned before (k + 1) next nj after chosen ∙ ap (λ (v : Bool). if v then after else nj) (sym (left_are xs before (k + 1) ends)) ∙ ap (λ (z : ℕ). if only_labels rest then after else z) place in
    let where_next : next ≡ place_number t n (settled (past t.procs s rest loop i j ∷ under)) =
    place_of_left t n q whole body.procedure body.statements rest loop (i + assertions t.procs s) (j + points t.procs s) under next after told behind in
    let first : Adds (located n (points_in t.procs s rest loop i j under)) mid new = one q whole rest loop under body where_next looped in
    let others : Adds (located n (points_of t.procs rest loop (i + assertions t.procs s) (j + points t.procs s) under)) new w =
    subst (λ (z : ℕ). Adds (located n (points_of t.procs rest loop z (j + points t.procs s) under)) new w) number (subst (λ (z : ℕ). Adds (located n (points_of t.procs rest loop ni z under)) new w) place m) in
    let both : Adds (located n (points_of t.procs (Then s rest) loop i j under)) mid w =
    both_added n (points_in t.procs s rest loop i j under) (points_of t.procs rest loop (i + assertions t.procs s) (j + points t.procs s) under) mid new w first others in
    left q whole loop under body behind looped w (subst (λ (y : TypedBlock). Adds (located n (points_of t.procs y loop i j under)) mid w) (sym (read_next xs k x h r)) both)

-- ---- numbers and targets

pub rest_fits : (t : TypedProgram) (frame : Columns) (s : TypedStatement) (b : TypedBlock) (id at ni nj : ℕ) → ni ≡ id + assertions t.procs s → nj ≡ at + points t.procs s → BlockFits t frame (Then s b) id at → BlockFits t frame b ni nj
rest_fits t frame s b id at ni nj d e h =
    let a : 0 < id = h.0.first in
    let l = h.0.last in
    let f : id + (assertions t.procs s + block_assertions t.procs b) < 2 ^ 32 = h.0.fits in
    let p : at + (points t.procs s + block_points t.procs b) < 2 ^ 32 = h.0.places in
    (record { first = omega arith; last = omega arith; fits = omega arith; places = omega arith }, h.1.1, h.2.1)

-- ---- statements without others in them

pub assert_adds : (t : TypedProgram) (n exit : ℕ) (labels loops : List ℕ) (after : ℕ) (sp : Span) (e : TypedExpression) (id at : ℕ) (old new : Walked) → old.program ≡ t →
    MakesItem sp (checked_sites t false id sp) (checked_arcs t n at false id e after) (checked_needed (frame_at t n) (local_count t n) false e) old new → StatementAdds t n exit labels loops after (Assert sp e) id at old new
assert_adds t n exit labels loops after sp e id at old new p h = λ q whole b loop under body behind looped.
    assert_added t n q whole body.procedure body.statements b loop id at under sp e after old new p behind h

pub assume_adds : (t : TypedProgram) (n exit : ℕ) (labels loops : List ℕ) (after : ℕ) (sp : Span) (e : TypedExpression) (id at : ℕ) (old new : Walked) → old.program ≡ t →
    MakesItem sp [] (list_arcs n at [] (path_letters (frame_at t n) (local_count t n) e true) after) (path_needed (frame_at t n) (local_count t n) e true ∷ []) old new → StatementAdds t n exit labels loops after (Assume sp e) id at old new
assume_adds t n exit labels loops after sp e id at old new p h = λ q whole b loop under body behind looped.
    assume_added t n q whole body.procedure body.statements b loop id at under sp e after old new p behind h

pub assign_adds : (t : TypedProgram) (n exit : ℕ) (labels loops : List ℕ) (after : ℕ) (sp : Span) (cs : List Column) (es : List TypedExpression) (id at k : ℕ) (old new : Walked) → old.program ≡ t → k ≡ length es →
    MakesItem sp [] (list_arcs n at (numbers_in (frame_at t n) cs) (assign_letters (frame_at t n) (local_count t n) k es) after) (write_needed (frame_at t n) (local_count t n) es (length cs)) old new → StatementAdds t n exit labels loops after (Assign sp cs es) id at old new
assign_adds t n exit labels loops after sp cs es id at k old new p e h = λ q whole b loop under body behind looped.
    assign_added t n q whole body.procedure body.statements b loop id at under sp cs es after old new p behind
    (subst (λ (m : ℕ). MakesItem sp [] (list_arcs n at (numbers_in (frame_at t n) cs) (assign_letters (frame_at t n) (local_count t n) m es) after) (write_needed (frame_at t n) (local_count t n) es (length cs)) old new) e h)

pub plainly : (t : TypedProgram) (n exit : ℕ) (labels loops : List ℕ) (after : ℕ) (s : TypedStatement) (id at : ℕ) (old new : Walked) → PlainlyAdds t n after s id at old new → StatementAdds t n exit labels loops after s id at old new
plainly t n exit labels loops after s id at old new h = λ q whole b loop under body behind looped. h q whole b loop under body.procedure body.statements behind

-- ---- loops around a block

pub around_branch : (t : TypedProgram) (n : ℕ) (loops : List ℕ) (exit : ℕ) (s : TypedStatement) (b : TypedBlock) (loop : Bool) (id at : ℕ) (under : List Todo) → AreLoops t n loops exit loop under →
    AreLoops t n loops exit false (past t.procs s b loop id at ∷ under)
around_branch t n loops exit s b loop id at under h r i j zero = h b (id + assertions t.procs s) (at + points t.procs s) zero
around_branch t n loops exit s b loop id at under h r i j (suc k) = h b (id + assertions t.procs s) (at + points t.procs s) (suc k)

last_first : (loops : List ℕ) (after exit : ℕ) → behind_loop (loops ++ after ∷ []) exit 0 ≡ after
last_first loops after exit = ap (λ (xs : List ℕ). unwrap_or (slice_get xs 0) exit) (reverse-append loops (after ∷ []))

others_first : (loops : List ℕ) (after exit k : ℕ) → behind_loop (loops ++ after ∷ []) exit (suc k) ≡ behind_loop loops exit k
others_first loops after exit k = ap (λ (xs : List ℕ). unwrap_or (slice_get xs (suc k)) exit) (reverse-append loops (after ∷ []))

pub around_body : (t : TypedProgram) (n : ℕ) (loops : List ℕ) (exit after : ℕ) (sp : Span) (g : TypedGuard) (is : List TypedInvariant) (x b : TypedBlock) (loop : Bool) (id at : ℕ) (under : List Todo) →
    AreLoops t n loops exit loop under → after ≡ place_number t n (settled (past t.procs (While sp g is x) b loop id at ∷ under)) →
    AreLoops t n (loops ++ after ∷ []) exit true (record { rest = Then (While sp g is x) b; of_loop = loop; id = id; at = at } ∷ under)
around_body t n loops exit after sp g is x b loop id at under h behind r i j zero = last_first loops after exit ∙ behind
around_body t n loops exit after sp g is x b loop id at under h behind r i j (suc k) = others_first loops after exit k ∙ h (Then (While sp g is x) b) id at k

-- ---- an if and a loop

pub forks : (t : TypedProgram) (n after : ℕ) (sp : Span) (g : TypedGuard) (x y : TypedBlock) (id at hit miss sid sat : ℕ) (old new : Walked) →
    old.program ≡ t → sid ≡ id + block_assertions t.procs x → sat ≡ at + 1 + block_points t.procs x →
    hit ≡ (if only_labels x then after else at + 1) → miss ≡ (if only_labels y then after else sat) →
    MakesItem sp [] (guard_arcs (frame_at t n) (local_count t n) n at g hit miss) (guard_needed (frame_at t n) (local_count t n) g) old new → ForkAdds t n after sp g x y id at old new
forks t n after sp g x y id at hit miss sid sat old new p is_sid is_sat is_hit is_miss made = λ q whole b loop under found body behind.
    let stack : List Todo = past t.procs (If sp g x y) b loop id at ∷ under in
    let hit_at = place_of_left t n q whole found body x false id (at + 1) stack hit after is_hit behind in
    let miss_at = place_of_left t n q whole found body y false sid sat stack miss after is_miss behind in
    let M : ℕ → ℕ → Type 0 = λ i j. miss ≡ place_number t n (settled (record { rest = y; of_loop = false; id = i; at = j } ∷ stack)) in
    let miss_there : M (id + block_assertions t.procs x) (at + 1 + block_points t.procs x) = subst (λ (i : ℕ). M i (at + 1 + block_points t.procs x)) is_sid (subst (λ (j : ℕ). M sid j) is_sat miss_at) in
    if_added t n q whole found body b loop id at under sp g x y hit miss old new p hit_at miss_there made

pub if_walked : (t u v : TypedProgram) (n exit : ℕ) (labels loops then_loops : List ℕ) (after : ℕ) (sp : Span) (g : TypedGuard) (x y : TypedBlock) (id at tid tat sid sat : ℕ) (old head middle new : Walked) →
    u ≡ t → v ≡ t → then_loops ≡ loops → tid ≡ id → tat ≡ at + 1 → IsElse t.procs x id at sid sat → ForkAdds t n after sp g x y id at old head →
    BlockAdds u n exit labels loops after x tid tat head middle → BlockAdds v n exit labels then_loops after y sid sat middle new →
    StatementAdds t n exit labels loops after (If sp g x y) id at old new
if_walked t u v n exit labels loops then_loops after sp g x y id at tid tat sid sat old head middle new ut vt lt is_tid is_tat others forked then_adds else_adds = λ q whole b loop under body behind looped.
    let stack : List Todo = past t.procs (If sp g x y) b loop id at ∷ under in
    let around : AreLoops t n loops exit false stack = around_branch t n loops exit (If sp g x y) b loop id at under looped in
    let T : ℕ → ℕ → Type 0 = λ i j. Adds (located n (points_of t.procs x false i j stack)) head middle in
    let then_done : T id (at + 1) =
    subst (λ (i : ℕ). T i (at + 1)) is_tid (subst (λ (j : ℕ). T tid j) is_tat
    ((subst (λ (z : TypedProgram). BlockAdds z n exit labels loops after x tid tat head middle) ut then_adds) q whole false stack body behind around)) in
    let A : ℕ → ℕ → Type 0 = λ i j. Adds (located n (points_of t.procs y false i j stack)) middle new in
    let else_there : BlockAdds t n exit labels loops after y sid sat middle new =
    subst (λ (l : List ℕ). BlockAdds t n exit labels l after y sid sat middle new) lt (subst (λ (z : TypedProgram). BlockAdds z n exit labels then_loops after y sid sat middle new) vt else_adds) in
    let else_done : A (id + block_assertions t.procs x) (at + 1 + block_points t.procs x) =
    subst (λ (i : ℕ). A i (at + 1 + block_points t.procs x)) others.assertion (subst (λ (j : ℕ). A sid j) others.point (else_there q whole false stack body behind around)) in
    if_joined t n q whole body.procedure body.statements b loop id at under sp g x y old head middle new (forked q whole b loop under body.procedure body.statements behind) then_done else_done

pub heads : (t u : TypedProgram) (n after : ℕ) (sp : Span) (g : TypedGuard) (is : List TypedInvariant) (x : TypedBlock) (id at m hit fid fat : ℕ) (old invs new : Walked) →
    invs.program ≡ t → u ≡ t → m ≡ length is → fid ≡ id + plain_invariants is → fat ≡ at + m + 1 → hit ≡ (if only_labels x then at else fat) →
    InvariantsAdd t n is id at old invs → MakesItem sp [] (guard_arcs (frame_at u n) (local_count u n) n (at + m) g hit after) (guard_needed (frame_at u n) (local_count u n) g) invs new → HeadAdds t n after sp g is x id at old new
heads t u n after sp g is x id at m hit fid fat old invs new p ut is_m is_fid is_fat is_hit invariants made = λ q whole b loop under found body behind.
    let here : Todo = record { rest = Then (While sp g is x) b; of_loop = loop; id = id; at = at } in
    let again : at ≡ place_number t n (settled (here ∷ under)) = sym (number_here t n q whole found body (While sp g is x) b loop id at under) in
    let fat_is : fat ≡ at + length is + 1 = is_fat ∙ ap (λ (k : ℕ). at + k + 1) is_m in
    let hit_at = place_of_left t n q whole found body x true fid fat (here ∷ under) hit at is_hit again in
    let H : ℕ → ℕ → Type 0 = λ i j. hit ≡ place_number t n (settled (record { rest = x; of_loop = true; id = i; at = j } ∷ (here ∷ under))) in
    let hit_there : H (id + plain_invariants is) (at + length is + 1) = subst (λ (i : ℕ). H i (at + length is + 1)) is_fid (subst (λ (j : ℕ). H fid j) fat_is hit_at) in
    let G : TypedProgram → ℕ → Type 0 = λ z k. MakesItem sp [] (guard_arcs (frame_at z n) (local_count z n) n (at + k) g hit after) (guard_needed (frame_at z n) (local_count z n) g) invs new in
    let made_there : G t (length is) = subst (λ (k : ℕ). G t k) is_m (subst (λ (z : TypedProgram). G z m) ut made) in
    part_added n (at_statement (While sp g is x) b loop id at under) (length is) old invs new (invariants sp g x b loop under q whole found body)
    (loop_added t n q whole found body b loop id at under sp g is x hit after invs new p hit_there behind made_there)

pub loop_walked : (t v : TypedProgram) (n exit : ℕ) (labels loops inner_loops : List ℕ) (after : ℕ) (sp : Span) (g : TypedGuard) (is : List TypedInvariant) (x : TypedBlock) (id at fid fat : ℕ) (old head new : Walked) →
    v ≡ t → inner_loops ≡ loops ++ after ∷ [] → IsInside is id at fid fat → HeadAdds t n after sp g is x id at old head →
    BlockAdds v n exit labels inner_loops at x fid fat head new →
    StatementAdds t n exit labels loops after (While sp g is x) id at old new
loop_walked t v n exit labels loops inner_loops after sp g is x id at fid fat old head new vt lt inside headed inner = λ q whole b loop under body behind looped.
    let here : Todo = record { rest = Then (While sp g is x) b; of_loop = loop; id = id; at = at } in
    let again : at ≡ place_number t n (settled (here ∷ under)) = sym (number_here t n q whole body.procedure body.statements (While sp g is x) b loop id at under) in
    let around : AreLoops t n (loops ++ after ∷ []) exit true (here ∷ under) = around_body t n loops exit after sp g is x b loop id at under looped behind in
    let inner_there : BlockAdds t n exit labels (loops ++ after ∷ []) at x fid fat head new =
    subst (λ (l : List ℕ). BlockAdds t n exit labels l at x fid fat head new) lt (subst (λ (z : TypedProgram). BlockAdds z n exit labels inner_loops at x fid fat head new) vt inner) in
    let A : ℕ → ℕ → Type 0 = λ i j. Adds (located n (points_of t.procs x true i j (here ∷ under))) head new in
    let inner_done : A (id + plain_invariants is) (at + length is + 1) =
    subst (λ (i : ℕ). A i (at + length is + 1)) inside.assertion (subst (λ (j : ℕ). A fid j) inside.point (inner_there q whole true (here ∷ under) body again around)) in
    both_added n (parts_from (at_statement (While sp g is x) b loop id at under) 0 (length is + 1)) _ old head new (headed q whole b loop under body.procedure body.statements behind) inner_done

pub else_fits : (t u : TypedProgram) (n : ℕ) (sp : Span) (g : TypedGuard) (x y : TypedBlock) (id at sid sat : ℕ) → u ≡ t → sid ≡ id + block_assertions t.procs x → sat ≡ at + 1 + block_points t.procs x →
    StatementFits t (frame_at t n) (If sp g x y) id at → BlockFits u (frame_at u n) y sid sat
else_fits t u n sp g x y id at sid sat e d f h =
    let a : 0 < id = h.0.first in
    let l = h.0.last in
    let k : id + (block_assertions t.procs x + block_assertions t.procs y) < 2 ^ 32 = h.0.fits in
    let p : at + (1 + (block_points t.procs x + block_points t.procs y)) < 2 ^ 32 = h.0.places in
    let there : BlockFits t (frame_at t n) y sid sat = (record { first = omega arith; last = omega arith; fits = omega arith; places = omega arith }, h.1.1, h.2.2) in
    subst (λ (z : TypedProgram). BlockFits z (frame_at z n) y sid sat) (sym e) there
