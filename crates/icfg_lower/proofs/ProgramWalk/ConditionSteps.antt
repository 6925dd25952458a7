-- Steps of the loops over the free requires and the ensures of a procedure.
use Rattle.std.proofs.Common.{◌≡◌, ℕ, zero, suc, ◌+◌, ◌<◌, ◌≤◌, ◌^◌, true, List, [], ◌∷◌, ◌++◌, map, length, take, drop, get_or, Some, refl, sym, ap, ◌∙◌, subst, arith}
use Rattle.std.specs.Prelude.{slice_get}
use Rattle.std.proofs.lemmas.List.{drop_more, drop_all, length-append}
use Rattle.typed_tree.specs.TypedTree.{TypedInvariant, TypedSpecification, TypedBlock, TypedProcedure, TypedProgram}
use Rattle.typed_tree.specs.TypingRules.Counts.{one_if_plain, plain_invariants, block_assertions, block_points}
use Rattle.cond_jumps.specs.FreeProducts.FrameLetters.{path_letters}
use Rattle.boogie_run.specs.BoogiePoints.Points.{Point, at_exit}
use Rattle.boogie_run.specs.BoogiePoints.Actions.{first_assertion, first_place, free_conditions, ensured_conditions}
use Rattle.boogie_run.proofs.BoogiePoints.ConditionLaws.{free_step, ensured_step}
use Rattle.boogie_run.specs.BoogiePlaces.Places.{parts_from, located}
use Rattle.lowered_graph.specs.LoweredSteps.ProgramFrames.{frame_at}
use Rattle.lowered_graph.specs.LoweredSteps.Edges.{local_count}
use Rattle.lowered_graph.specs.Items.{path_needed}
use Rattle.lowered_graph.specs.Lowered.{program_sites}
use Rattle.lowered_graph.specs.LoweredParts.Parts.{Walked, Adds}
use Rattle.lowered_graph.specs.LoweredParts.Lists.{list_arcs}
use Rattle.lowered_graph.specs.LoweredParts.Making.{MakesItem}
use Rattle.lowered_graph.specs.LoweredParts.Items.{checked_sites, checked_arcs, checked_needed}
use Rattle.lowered_graph.proofs.LoweredParts.Numbers.{part_added, no_parts}
use Rattle.lowered_graph.proofs.LoweredParts.Bodies.{entry_added, ensures_added}
use Rattle.icfg_lower.specs.ProgramWalk.Ties.Bounds.{HasNumbers}
use Rattle.icfg_lower.specs.ProgramWalk.Ties.Conditions.{Assumed, Checked, entry_of, EntryAdds, ExitAdds}
use Rattle.icfg_lower.proofs.ProgramWalk.LoopSteps.{plain_more}

-- ---- what is left of a list

pub left_at_index : {X Y : Type 0} (f : X → Y) (xs : List X) (k : ℕ) (x : X) → k < length xs → x ≡ get_or xs k x → map f (drop k xs) ≡ f x ∷ map f (drop (k + 1) xs)
left_at_index f xs k x h e = ap (map f) (drop_more xs k x h ∙ ap (λ y. y ∷ drop (k + 1) xs) (sym e))

pub left_first : {X : Type 0} (xs : List X) (k : ℕ) (x : X) (rest : List X) → drop k xs ≡ x ∷ rest → slice_get xs k ≡ Some x
left_first [] zero x rest e = cc
left_first [] (suc k) x rest e = cc
left_first (y ∷ ys) zero x rest e = cc
left_first (y ∷ ys) (suc k) x rest e = left_first ys k x rest e

pub left_rest : {X : Type 0} (xs : List X) (k : ℕ) (x : X) (rest : List X) → drop k xs ≡ x ∷ rest → drop (k + 1) xs ≡ rest
left_rest [] zero x rest e = cc
left_rest [] (suc k) x rest e = cc
left_rest (y ∷ ys) zero x rest e = cc
left_rest (y ∷ ys) (suc k) x rest e =
    let s : suc k + 1 ≡ suc (k + 1) = omega arith in
    ap (λ (m : ℕ). drop m (y ∷ ys)) s ∙ left_rest ys k x rest e

-- nothing is left behind the last one
pub left_none : {X Y : Type 0} (f : X → Y) (xs : List X) (k : ℕ) → length xs ≤ k → map f (drop k xs) ≡ []
left_none f xs k h = ap (map f) (drop_all k xs h)

-- ---- conditions that are assumed

assumed_joined : (t : TypedProgram) (n at : ℕ) (xs ys : List TypedInvariant) (old mid new : Walked) → Assumed t n at xs old mid → Assumed t n (at + length xs) ys mid new → Assumed t n at (xs ++ ys) old new
assumed_joined t n at [] ys old mid new h k =
    let e : at + 0 ≡ at = omega arith in
    subst (λ (m : ℕ). Assumed t n m ys old new) e (subst (λ (w : Walked). Assumed t n (at + 0) ys w new) h k)
assumed_joined t n at (x ∷ xs) ys old mid new h k =
    let e : at + suc (length xs) ≡ (at + 1) + length xs = omega arith in
    (h.0, (h.1.0, assumed_joined t n (at + 1) xs ys h.0 mid new h.1.1 (subst (λ (m : ℕ). Assumed t n m ys mid new) e k)))

-- one more specification
pub assumed_more : (t u : TypedProgram) (n at place next : ℕ) (s : TypedSpecification) (left ss : List TypedSpecification) (all : List TypedInvariant) (old mid more : Walked) →
    u ≡ t → left ≡ s ∷ ss → next ≡ place + length (free_conditions (s ∷ [])) → Assumed u n place (free_conditions (s ∷ [])) mid more →
    ((w : Walked) → Assumed t n place (free_conditions left) mid w → Assumed t n at all old w) → (w : Walked) → Assumed t n next (free_conditions ss) more w → Assumed t n at all old w
assumed_more t u n at place next s left ss all old mid more e d k h done w rest =
    let here : Assumed t n place (free_conditions (s ∷ [])) mid more = subst (λ (x : TypedProgram). Assumed x n place (free_conditions (s ∷ [])) mid more) e h in
    let behind : Assumed t n (place + length (free_conditions (s ∷ []))) (free_conditions ss) more w = subst (λ (m : ℕ). Assumed t n m (free_conditions ss) more w) k rest in
    let both : Assumed t n place (free_conditions (s ∷ []) ++ free_conditions ss) mid w = assumed_joined t n place (free_conditions (s ∷ [])) (free_conditions ss) mid more w here behind in
    let listed : free_conditions left ≡ free_conditions (s ∷ []) ++ free_conditions ss = ap free_conditions d ∙ free_step s ss in
    done w (subst (λ (l : List TypedInvariant). Assumed t n place l mid w) (sym listed) both)

pub assumed_none : {X : Type 0} (t : TypedProgram) (n place : ℕ) (f : X → TypedSpecification) (xs : List X) (k : ℕ) (w : Walked) → length xs ≤ k → Assumed t n place (free_conditions (map f (drop k xs))) w w
assumed_none t n place f xs k w h = subst (λ (l : List TypedSpecification). Assumed t n place (free_conditions l) w w) (sym (left_none f xs k h)) refl

free_length : (s : TypedSpecification) (left ss : List TypedSpecification) → left ≡ s ∷ ss → length (free_conditions left) ≡ length (free_conditions (s ∷ [])) + length (free_conditions ss)
free_length s left ss d = ap (λ (l : List TypedSpecification). length (free_conditions l)) d ∙ ap length (free_step s ss) ∙ length-append (free_conditions (s ∷ [])) (free_conditions ss)

pub free_counted : (place next total : ℕ) (s : TypedSpecification) (left ss : List TypedSpecification) → left ≡ s ∷ ss → next ≡ place + length (free_conditions (s ∷ [])) →
    place + length (free_conditions left) ≡ total → next + length (free_conditions ss) ≡ total
free_counted place next total s left ss d k h = omega (arith, free_length s left ss d)

pub free_room : (place total : ℕ) (s : TypedSpecification) (left ss : List TypedSpecification) → left ≡ s ∷ ss → place + length (free_conditions left) ≡ total → total < 2 ^ 32 →
    place + length (free_conditions (s ∷ [])) < 2 ^ 32
free_room place total s left ss d h l = omega (arith, free_length s left ss d)

module _ (t : TypedProgram) (n : ℕ) (q : TypedProcedure) (body : TypedBlock) (found : slice_get t.procs n ≡ Some q) (whole : q.body ≡ Some body) where
  abbrev entry : Point
  entry = entry_of t n q body

  assumed_adds : (is : List TypedInvariant) (done : ℕ) (old mid new : Walked) → mid.program ≡ t → drop done (free_conditions q.specs) ≡ is → Adds (located n (parts_from entry 0 done)) old mid →
      Assumed t n (first_place t n + done) is mid new → Adds (located n (parts_from entry 0 (done + length is))) old new
  assumed_adds [] done old mid new p d h k =
      let e : done ≡ done + 0 = omega arith in
      subst (λ (m : ℕ). Adds (located n (parts_from entry 0 m)) old new) e (subst (λ (w : Walked). Adds (located n (parts_from entry 0 done)) old w) (sym k) h)
  assumed_adds (i ∷ is) done old mid new p d h k =
      let next : (first_place t n + done) + 1 ≡ first_place t n + (done + 1) = omega arith in
      let item : MakesItem i.span [] (list_arcs n (first_place t n + done) [] (path_letters (frame_at t n) (local_count t n) i.cond true) (first_place t n + (done + 1))) (path_needed (frame_at t n) (local_count t n) i.cond true ∷ []) mid k.0 =
      subst (λ (m : ℕ). MakesItem i.span [] (list_arcs n (first_place t n + done) [] (path_letters (frame_at t n) (local_count t n) i.cond true) m) (path_needed (frame_at t n) (local_count t n) i.cond true ∷ []) mid k.0) next k.1.0 in
      let one : Adds (located n (record entry { part = done } ∷ [])) mid k.0 =
      entry_added t n q body found whole done i mid k.0 p (left_first (free_conditions q.specs) done i is d) item in
      let more : Adds (located n (parts_from entry 0 (done + 1))) old k.0 = part_added n entry done old mid k.0 h one in
      let count : (done + 1) + length is ≡ done + suc (length is) = omega arith in
      subst (λ (m : ℕ). Adds (located n (parts_from entry 0 m)) old new) count
      (assumed_adds is (done + 1) old k.0 new (one.program ∙ p) (left_rest (free_conditions q.specs) done i is d) more (subst (λ (m : ℕ). Assumed t n m is k.0 new) next k.1.1))

  -- the numbers behind the statements
  abbrev exit : ℕ
  exit = first_place t n + length (free_conditions q.specs) + block_points t.procs body

  abbrev behind : ℕ → ℕ
  behind done = first_assertion t.procs n + (block_assertions t.procs body + plain_invariants (take done (ensured_conditions q.specs)))

  checked_adds : (is : List TypedInvariant) (done : ℕ) (old mid new : Walked) → mid.program ≡ t → drop done (ensured_conditions q.specs) ≡ is → Adds (located n (parts_from at_exit 0 done)) old mid →
      Checked t n (behind done) (exit + done) is mid new → Adds (located n (parts_from at_exit 0 (done + length is))) old new
  checked_adds [] done old mid new p d h k =
      let e : done ≡ done + 0 = omega arith in
      subst (λ (m : ℕ). Adds (located n (parts_from at_exit 0 m)) old new) e (subst (λ (w : Walked). Adds (located n (parts_from at_exit 0 done)) old w) (sym k) h)
  checked_adds (i ∷ is) done old mid new p d h k =
      let at : slice_get (ensured_conditions q.specs) done ≡ Some i = left_first (ensured_conditions q.specs) done i is d in
      let next : (exit + done) + 1 ≡ exit + (done + 1) = omega arith in
      let item : MakesItem i.span (checked_sites t i.free (behind done) i.span) (checked_arcs t n (exit + done) i.free (behind done) i.cond (exit + (done + 1))) (checked_needed (frame_at t n) (local_count t n) i.free i.cond) mid k.0 =
      subst (λ (m : ℕ). MakesItem i.span (checked_sites t i.free (behind done) i.span) (checked_arcs t n (exit + done) i.free (behind done) i.cond m) (checked_needed (frame_at t n) (local_count t n) i.free i.cond) mid k.0) next k.1.0 in
      let one : Adds (located n (record at_exit { part = done } ∷ [])) mid k.0 = ensures_added t n q body found whole done i (behind done) mid k.0 p at refl item in
      let more : Adds (located n (parts_from at_exit 0 (done + 1))) old k.0 = part_added n at_exit done old mid k.0 h one in
      let count : (done + 1) + length is ≡ done + suc (length is) = omega arith in
      let number : behind done + one_if_plain i ≡ behind (done + 1) = omega (arith, plain_more (ensured_conditions q.specs) done i at) in
      let rest : Checked t n (behind (done + 1)) (exit + (done + 1)) is k.0 new =
      subst (λ (m : ℕ). Checked t n (behind (done + 1)) m is k.0 new) next (subst (λ (m : ℕ). Checked t n m ((exit + done) + 1) is k.0 new) number k.1.1) in
      subst (λ (m : ℕ). Adds (located n (parts_from at_exit 0 m)) old new) count
      (checked_adds is (done + 1) old k.0 new (one.program ∙ p) (left_rest (ensured_conditions q.specs) done i is d) more rest)

pub entry_ends : (t : TypedProgram) (n at : ℕ) (ss : List TypedSpecification) (old new : Walked) → old.program ≡ t → Assumed t n at (free_conditions ss) old new → EntryAdds t n ss at old new
entry_ends t n at ss old new p h = λ q body found whole same begins.
    let all : List TypedInvariant = free_conditions q.specs in
    let place : at ≡ first_place t n + 0 = omega (arith, begins) in
    let assumed : Assumed t n (first_place t n + 0) (free_conditions q.specs) old new =
    subst (λ (m : ℕ). Assumed t n m (free_conditions q.specs) old new) place (subst (λ (l : List TypedSpecification). Assumed t n at (free_conditions l) old new) (sym same) h) in
    let count : 0 + length (free_conditions q.specs) ≡ length (free_conditions q.specs) = omega arith in
    subst (λ (m : ℕ). Adds (located n (parts_from (entry_of t n q body) 0 m)) old new) count
    (assumed_adds t n q body found whole (free_conditions q.specs) 0 old old new p refl (no_parts n (entry_of t n q body) old) assumed)

-- ---- conditions that are checked

checked_joined : (t : TypedProgram) (n id at : ℕ) (xs ys : List TypedInvariant) (old mid new : Walked) → Checked t n id at xs old mid → Checked t n (id + plain_invariants xs) (at + length xs) ys mid new →
    Checked t n id at (xs ++ ys) old new
checked_joined t n id at [] ys old mid new h k =
    let e : at + 0 ≡ at = omega arith in
    let d : id + 0 ≡ id = omega arith in
    subst (λ (m : ℕ). Checked t n m at ys old new) d (subst (λ (m : ℕ). Checked t n (id + 0) m ys old new) e (subst (λ (w : Walked). Checked t n (id + 0) (at + 0) ys w new) h k))
checked_joined t n id at (x ∷ xs) ys old mid new h k =
    let e : at + suc (length xs) ≡ (at + 1) + length xs = omega arith in
    let d : id + (one_if_plain x + plain_invariants xs) ≡ (id + one_if_plain x) + plain_invariants xs = omega arith in (
      h.0,
      (
        h.1.0,
        checked_joined t n (id + one_if_plain x) (at + 1) xs ys h.0 mid new h.1.1
            (subst (λ (m : ℕ). Checked t n ((id + one_if_plain x) + plain_invariants xs) m ys mid new) e (subst (λ (m : ℕ). Checked t n m (at + suc (length xs)) ys mid new) d k)),
      ),
    )

pub checked_more : (t u : TypedProgram) (n id at number place next_number next : ℕ) (s : TypedSpecification) (left ss : List TypedSpecification) (all : List TypedInvariant) (old mid more : Walked) →
    u ≡ t → left ≡ s ∷ ss → next_number ≡ number + plain_invariants (ensured_conditions (s ∷ [])) → next ≡ place + length (ensured_conditions (s ∷ [])) →
    Checked u n number place (ensured_conditions (s ∷ [])) mid more →
    ((w : Walked) → Checked t n number place (ensured_conditions left) mid w → Checked t n id at all old w) →
    (w : Walked) → Checked t n next_number next (ensured_conditions ss) more w → Checked t n id at all old w
checked_more t u n id at number place next_number next s left ss all old mid more e d j k h done w rest =
    let one : List TypedInvariant = ensured_conditions (s ∷ []) in
    let here : Checked t n number place (ensured_conditions (s ∷ [])) mid more = subst (λ (x : TypedProgram). Checked x n number place (ensured_conditions (s ∷ [])) mid more) e h in
    let behind : Checked t n (number + plain_invariants (ensured_conditions (s ∷ []))) (place + length (ensured_conditions (s ∷ []))) (ensured_conditions ss) more w =
    subst (λ (m : ℕ). Checked t n m (place + length (ensured_conditions (s ∷ []))) (ensured_conditions ss) more w) j (subst (λ (m : ℕ). Checked t n next_number m (ensured_conditions ss) more w) k rest) in
    let both : Checked t n number place (ensured_conditions (s ∷ []) ++ ensured_conditions ss) mid w =
    checked_joined t n number place (ensured_conditions (s ∷ [])) (ensured_conditions ss) mid more w here behind in
    let listed : ensured_conditions left ≡ ensured_conditions (s ∷ []) ++ ensured_conditions ss = ap ensured_conditions d ∙ ensured_step s ss in
    done w (subst (λ (l : List TypedInvariant). Checked t n number place l mid w) (sym listed) both)

pub checked_none : {X : Type 0} (t : TypedProgram) (n id place : ℕ) (f : X → TypedSpecification) (xs : List X) (k : ℕ) (w : Walked) → length xs ≤ k → Checked t n id place (ensured_conditions (map f (drop k xs))) w w
checked_none t n id place f xs k w h = subst (λ (l : List TypedSpecification). Checked t n id place (ensured_conditions l) w w) (sym (left_none f xs k h)) refl

pub exit_ends : (t : TypedProgram) (n id at : ℕ) (ss : List TypedSpecification) (old new : Walked) → old.program ≡ t → Checked t n id at (ensured_conditions ss) old new → ExitAdds t n ss id at old new
exit_ends t n id at ss old new p h = λ q body found whole same number begins.
    let place : at ≡ (first_place t n + length (free_conditions q.specs) + block_points t.procs body) + 0 = omega (arith, begins) in
    let first : id ≡ first_assertion t.procs n + (block_assertions t.procs body + 0) = omega (arith, number) in
    let checked : Checked t n (first_assertion t.procs n + (block_assertions t.procs body + 0)) ((first_place t n + length (free_conditions q.specs) + block_points t.procs body) + 0) (ensured_conditions q.specs) old new =
    subst (λ (m : ℕ). Checked t n m ((first_place t n + length (free_conditions q.specs) + block_points t.procs body) + 0) (ensured_conditions q.specs) old new) first
    (subst (λ (m : ℕ). Checked t n id m (ensured_conditions q.specs) old new) place (subst (λ (l : List TypedSpecification). Checked t n id at (ensured_conditions l) old new) (sym same) h)) in
    let count : 0 + length (ensured_conditions q.specs) ≡ length (ensured_conditions q.specs) = omega arith in
    subst (λ (m : ℕ). Adds (located n (parts_from at_exit 0 m)) old new) count
    (checked_adds t n q body found whole (ensured_conditions q.specs) 0 old old new p refl (no_parts n at_exit old) checked)

-- the numbers of what is left
ensured_length : (s : TypedSpecification) (left ss : List TypedSpecification) → left ≡ s ∷ ss → length (ensured_conditions left) ≡ length (ensured_conditions (s ∷ [])) + length (ensured_conditions ss)
ensured_length s left ss d =
    ap (λ (l : List TypedSpecification). length (ensured_conditions l)) d ∙ ap length (ensured_step s ss) ∙ length-append (ensured_conditions (s ∷ [])) (ensured_conditions ss)

plain_append : (xs ys : List TypedInvariant) → plain_invariants (xs ++ ys) ≡ plain_invariants xs + plain_invariants ys
plain_append [] ys = omega arith
plain_append (x ∷ xs) ys = omega (arith, plain_append xs ys)

ensured_plain : (s : TypedSpecification) (left ss : List TypedSpecification) → left ≡ s ∷ ss →
    plain_invariants (ensured_conditions left) ≡ plain_invariants (ensured_conditions (s ∷ [])) + plain_invariants (ensured_conditions ss)
ensured_plain s left ss d =
    ap (λ (l : List TypedSpecification). plain_invariants (ensured_conditions l)) d ∙ ap plain_invariants (ensured_step s ss) ∙ plain_append (ensured_conditions (s ∷ [])) (ensured_conditions ss)

pub numbers_here : (t u : TypedProgram) (number place : ℕ) (s : TypedSpecification) (left ss : List TypedSpecification) → u ≡ t → left ≡ s ∷ ss →
    HasNumbers t number place (plain_invariants (ensured_conditions left)) (length (ensured_conditions left)) →
    HasNumbers u number place (plain_invariants (ensured_conditions (s ∷ []))) (length (ensured_conditions (s ∷ [])))
numbers_here t u number place s left ss e d h =
    let l : length (ensured_conditions left) ≡ length (ensured_conditions (s ∷ [])) + length (ensured_conditions ss) = ensured_length s left ss d in
    let c : plain_invariants (ensured_conditions left) ≡ plain_invariants (ensured_conditions (s ∷ [])) + plain_invariants (ensured_conditions ss) = ensured_plain s left ss d in
    let last : number + plain_invariants (ensured_conditions left) ≤ 1 + length (program_sites t) = h.last in
    let fits : number + plain_invariants (ensured_conditions left) < 2 ^ 32 = h.fits in
    let places : place + length (ensured_conditions left) < 2 ^ 32 = h.places in
    subst (λ (x : TypedProgram). HasNumbers x number place (plain_invariants (ensured_conditions (s ∷ []))) (length (ensured_conditions (s ∷ [])))) (sym e)
    (record { first = h.first; last = omega arith; fits = omega arith; places = omega arith })

pub numbers_behind : (t : TypedProgram) (number place next_number next : ℕ) (s : TypedSpecification) (left ss : List TypedSpecification) → left ≡ s ∷ ss →
    next_number ≡ number + plain_invariants (ensured_conditions (s ∷ [])) → next ≡ place + length (ensured_conditions (s ∷ [])) →
    HasNumbers t number place (plain_invariants (ensured_conditions left)) (length (ensured_conditions left)) →
    HasNumbers t next_number next (plain_invariants (ensured_conditions ss)) (length (ensured_conditions ss))
numbers_behind t number place next_number next s left ss d j k h =
    let l : length (ensured_conditions left) ≡ length (ensured_conditions (s ∷ [])) + length (ensured_conditions ss) = ensured_length s left ss d in
    let c : plain_invariants (ensured_conditions left) ≡ plain_invariants (ensured_conditions (s ∷ [])) + plain_invariants (ensured_conditions ss) = ensured_plain s left ss d in
    let first : 0 < number = h.first in
    let last : number + plain_invariants (ensured_conditions left) ≤ 1 + length (program_sites t) = h.last in
    let fits : number + plain_invariants (ensured_conditions left) < 2 ^ 32 = h.fits in
    let places : place + length (ensured_conditions left) < 2 ^ 32 = h.places in
    record { first = omega arith; last = omega arith; fits = omega arith; places = omega arith }
