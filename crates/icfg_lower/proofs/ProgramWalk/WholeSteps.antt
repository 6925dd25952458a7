-- Bodies and whole programs, from their parts.
use Rattle.std.proofs.Common.{◌≡◌, ℕ, zero, suc, ◌+◌, ◌<◌, ◌≤◌, ◌^◌, false, List, [], ◌∷◌, ◌++◌, length, take, Some, refl, sym, ap, ◌∙◌, subst, arith, IsTrue}
use Rattle.std.specs.Prelude.{Result, Ok, Err, OnOk, slice_get, unwrap_or}
use Rattle.typed_tree.specs.TypedTree.{TypedSpecification, TypedBlock, TypedProcedure, TypedProgram}
use Rattle.typed_tree.specs.TypingRules.Counts.{block_assertions, block_points, body_assertions, body_points, plain_invariants, plain_ensures, all_ensures, free_requires}
use Rattle.typed_tree.specs.TypingRules.ValidProgram.{is_valid}
use Rattle.boogie_run.specs.BoogiePoints.Points.{at_exit}
use Rattle.boogie_run.specs.BoogiePoints.Actions.{assertions_before, points_before, first_assertion, first_place, free_conditions, ensured_conditions}
use Rattle.boogie_run.proofs.BoogiePoints.ConditionLaws.{free_requires_counted, plain_ensures_counted}
use Rattle.boogie_run.specs.BoogiePlaces.Places.{located, points_of, points_with, places_from}
use Rattle.letter_acts.specs.LetterTable.Letters.{with_arc, no_letters}
use Rattle.lowered_graph.specs.LoweredSteps.ProgramFrames.{frame_at}
use Rattle.lowered_graph.specs.Arcs.{place_number, first_error, start_arc}
use Rattle.lowered_graph.specs.Lowered.{program_sites}
use Rattle.lowered_graph.specs.LoweredParts.Parts.{Walked, nothing_yet, Adds, IsWalked}
use Rattle.lowered_graph.proofs.LoweredParts.Joining.{nothing}
use Rattle.lowered_graph.proofs.LoweredParts.Bodies.{exit_is, body_added, procedure_added, starts_added, all_walked}
use Rattle.icfg_lower.specs.declared.program_layout.marks.Marks.{Marks}
use Rattle.icfg_lower.specs.ProgramLayout.Layouts.{marks_of, marks_with}
use Rattle.icfg_lower.proofs.ProgramLayout.CountLaws.{ensured_counted}
use Rattle.icfg_lower.proofs.ProgramLayout.FitLaws.{errors_fit}
use Rattle.icfg_lower.proofs.ProgramLayout.PlaceCounts.{errors_behind, sites_behind}
use Rattle.icfg_lower.specs.LabelPlaces.Labels.{label_numbers}
use Rattle.icfg_lower.proofs.LabelPlaces.LabelNumbers.{label_told}
use Rattle.icfg_lower.specs.ProgramWalk.Ties.Bounds.{HasNumbers, BlockFits, BodyFits}
use Rattle.icfg_lower.specs.ProgramWalk.Ties.Walks.{IsBody, AreLoops, BlockAdds}
use Rattle.icfg_lower.specs.ProgramWalk.Ties.Conditions.{EntryAdds, ExitAdds, Begins, AllStart}
use Rattle.icfg_lower.proofs.ProgramWalk.ReadForms.{body_reads, specifications_fit}
use Rattle.icfg_lower.proofs.ProgramWalk.Targets.{body_stands}

-- ---- the numbers of a procedure are among those of the program

assertions_in : (procs ps : List TypedProcedure) (n : ℕ) (q : TypedProcedure) → slice_get ps n ≡ Some q → assertions_before procs ps n + body_assertions procs q.specs q.body ≤ assertions_before procs ps (length ps)
assertions_in procs [] n q e = cc
assertions_in procs (p ∷ ps) zero q e =
    let k : p ≡ q = cc in
    let same : body_assertions procs p.specs p.body ≡ body_assertions procs q.specs q.body = ap (λ (x : TypedProcedure). body_assertions procs x.specs x.body) k in
    omega arith
assertions_in procs (p ∷ ps) (suc n) q e = let h : assertions_before procs ps n + body_assertions procs q.specs q.body ≤ assertions_before procs ps (length ps) = assertions_in procs ps n q e in omega arith

points_in_all : (procs ps : List TypedProcedure) (n : ℕ) (q : TypedProcedure) → slice_get ps n ≡ Some q → points_before procs ps n + body_points procs q.specs q.body ≤ points_before procs ps (length ps)
points_in_all procs [] n q e = cc
points_in_all procs (p ∷ ps) zero q e =
    let k : p ≡ q = cc in
    let same : body_points procs p.specs p.body ≡ body_points procs q.specs q.body = ap (λ (x : TypedProcedure). body_points procs x.specs x.body) k in
    omega arith
points_in_all procs (p ∷ ps) (suc n) q e = let h : points_before procs ps n + body_points procs q.specs q.body ≤ points_before procs ps (length ps) = points_in_all procs ps n q e in omega arith

pub body_fits : (t : TypedProgram) (n : ℕ) (q : TypedProcedure) (whole : TypedBlock) → IsTrue (is_valid t) → slice_get t.procs n ≡ Some q → q.body ≡ Some whole → BodyFits t n q whole
body_fits t n q whole v e k =
    let a : assertions_before t.procs t.procs n + body_assertions t.procs q.specs q.body ≤ assertions_before t.procs t.procs (length t.procs) = assertions_in t.procs t.procs n q e in
    let b : points_before t.procs t.procs n + body_points t.procs q.specs q.body ≤ points_before t.procs t.procs (length t.procs) = points_in_all t.procs t.procs n q e in
    let asserted : body_assertions t.procs q.specs q.body ≡ block_assertions t.procs whole + plain_ensures q.specs = ap (body_assertions t.procs q.specs) k in
    let pointed : body_points t.procs q.specs q.body ≡ free_requires q.specs + (block_points t.procs whole + (all_ensures q.specs + 1)) = ap (body_points t.procs q.specs) k in
    let frees : length (free_conditions q.specs) ≡ free_requires q.specs = free_requires_counted q.specs in
    let ensured : length (ensured_conditions q.specs) ≡ all_ensures q.specs = ensured_counted q.specs in
    let plain : plain_invariants (ensured_conditions q.specs) ≡ plain_ensures q.specs = plain_ensures_counted q.specs in
    let sites : 1 + length (program_sites t) ≡ first_assertion t.procs (length t.procs) = sites_behind t v in
    let errors : first_error t ≡ first_place t (length t.procs) = errors_behind t v in
    let all_fit : first_error t + length (program_sites t) < 2 ^ 32 = errors_fit t v in
    record {
      specs = specifications_fit t n q v e;
      entry = omega arith;
      statements = (record { first = omega arith; last = omega arith; fits = omega arith; places = omega arith }, body_stands t n q v e whole k, body_reads t n q v e whole k);
      exit = record { first = omega arith; last = omega arith; fits = omega arith; places = omega arith };
    }

-- ---- a body

-- no loop stands around a body
no_loops : (t : TypedProgram) (n exit : ℕ) → exit ≡ place_number t n at_exit → AreLoops t n [] exit false []
no_loops t n exit e r i j zero = e
no_loops t n exit e r i j (suc k) = e

marked : (t : TypedProgram) (n : ℕ) (q : TypedProcedure) (whole : TypedBlock) → q.body ≡ Some whole → marks_of t (n, q) ≡ marks_with t.procs q (first_assertion t.procs n) (first_place t n) (Some whole)
marked t n q whole k = ap (marks_with t.procs q (first_assertion t.procs n) (first_place t n)) k

pub whole_body : (t u w : TypedProgram) (n : ℕ) (q : TypedProcedure) (whole : TypedBlock) (m : Marks) (labels loops : List ℕ) (old entries statements exits : Walked) → IsTrue (is_valid t) →
    slice_get t.procs n ≡ Some q → q.body ≡ Some whole → m ≡ marks_of t (n, q) → labels ≡ label_numbers t n → loops ≡ [] → u ≡ t → w ≡ t → exits.program ≡ t →
    EntryAdds t n q.specs m.entry old entries →
    BlockAdds u n m.exit labels loops m.exit whole m.first m.body entries statements →
    ExitAdds w n q.specs m.behind m.exit statements exits →
    Adds (located n (points_with t n q q.body)) old exits
whole_body t u w n q whole m labels loops old entries statements exits v e k marks labelled none ut wt p entry inner exit =
    let is : m ≡ marks_with t.procs q (first_assertion t.procs n) (first_place t n) (Some whole) = marks ∙ marked t n q whole k in
    let exit_at : m.exit ≡ place_number t n at_exit = ap (λ (x : Marks). x.exit) is ∙ sym (exit_is t n q whole e k) in
    let ways : (j : ℕ) → _ = λ j. label_told t n j q whole v e k in
    let body : IsBody t n q whole m.exit labels = record {
      procedure = e;
      statements = k;
      ends = exit_at;
      ways = λ j. ap (λ (x : ℕ). unwrap_or (slice_get labels j) x) exit_at ∙ ap (λ (xs : List ℕ). unwrap_or (slice_get xs j) (place_number t n at_exit)) labelled ∙ label_told t n j q whole v e k;
    } in
    let B : TypedProgram → List ℕ → Type 0 = λ x l. BlockAdds x n m.exit labels l m.exit whole m.first m.body entries statements in
    let inner_there : B t [] = subst (λ (l : List ℕ). B t l) none (subst (λ (x : TypedProgram). B x loops) ut inner) in
    let A : ℕ → ℕ → Type 0 = λ i j. Adds (located n (points_of t.procs whole false i j [])) entries statements in
    let inner_done : A (first_assertion t.procs n) (first_place t n + length (free_conditions q.specs)) =
    subst (λ (i : ℕ). A i (first_place t n + length (free_conditions q.specs))) (ap (λ (x : Marks). x.first) is)
    (subst (λ (j : ℕ). A m.first j) (ap (λ (x : Marks). x.body) is) (inner_there q whole false [] body exit_at (no_loops t n m.exit exit_at))) in
    body_added t n q whole e k old entries statements exits p (entry q whole e k refl (ap (λ (x : Marks). x.entry) is)) inner_done
    ((subst (λ (x : TypedProgram). ExitAdds x n q.specs m.behind m.exit statements exits) wt exit) q whole e k refl (ap (λ (x : Marks). x.behind) is) (ap (λ (x : Marks). x.exit) is))

-- the numbers that the parts of a body ask for, as its marks tell them
pub entry_room : (t : TypedProgram) (n : ℕ) (q : TypedProcedure) (whole : TypedBlock) (m : Marks) (specs : List TypedSpecification) → q.body ≡ Some whole → m ≡ marks_of t (n, q) → specs ≡ q.specs → BodyFits t n q whole →
    m.entry + length (free_conditions specs) < 2 ^ 32
entry_room t n q whole m specs k marks same h =
    let is : m ≡ marks_with t.procs q (first_assertion t.procs n) (first_place t n) (Some whole) = marks ∙ marked t n q whole k in
    let e : m.entry ≡ first_place t n = ap (λ (x : Marks). x.entry) is in
    let l : length (free_conditions specs) ≡ length (free_conditions q.specs) = ap (λ (x : List TypedSpecification). length (free_conditions x)) same in
    let f : first_place t n + length (free_conditions q.specs) < 2 ^ 32 = h.entry in
    omega arith

pub block_room : (t u : TypedProgram) (n : ℕ) (q : TypedProcedure) (whole : TypedBlock) (m : Marks) → u ≡ t → q.body ≡ Some whole → m ≡ marks_of t (n, q) → BodyFits t n q whole → BlockFits u (frame_at u n) whole m.first m.body
block_room t u n q whole m ut k marks h =
    let is : m ≡ marks_with t.procs q (first_assertion t.procs n) (first_place t n) (Some whole) = marks ∙ marked t n q whole k in
    let B : TypedProgram → ℕ → ℕ → Type 0 = λ x i j. BlockFits x (frame_at x n) whole i j in
    subst (λ (x : TypedProgram). B x m.first m.body) (sym ut)
    (subst (λ (i : ℕ). B t i m.body) (sym (ap (λ (x : Marks). x.first) is))
    (subst (λ (j : ℕ). B t (first_assertion t.procs n) j) (sym (ap (λ (x : Marks). x.body) is)) h.statements))

pub exit_room : (t u : TypedProgram) (n : ℕ) (q : TypedProcedure) (whole : TypedBlock) (m : Marks) (specs : List TypedSpecification) → u ≡ t → q.body ≡ Some whole → m ≡ marks_of t (n, q) → specs ≡ q.specs → BodyFits t n q whole →
    HasNumbers u m.behind m.exit (plain_invariants (ensured_conditions specs)) (length (ensured_conditions specs))
exit_room t u n q whole m specs ut k marks same h =
    let is : m ≡ marks_with t.procs q (first_assertion t.procs n) (first_place t n) (Some whole) = marks ∙ marked t n q whole k in
    let H : TypedProgram → List TypedSpecification → ℕ → ℕ → Type 0 = λ x ss i j. HasNumbers x i j (plain_invariants (ensured_conditions ss)) (length (ensured_conditions ss)) in
    subst (λ (x : TypedProgram). H x specs m.behind m.exit) (sym ut)
    (subst (λ (ss : List TypedSpecification). H t ss m.behind m.exit) (sym same)
    (subst (λ (i : ℕ). H t q.specs i m.exit) (sym (ap (λ (x : Marks). x.behind) is))
    (subst (λ (j : ℕ). H t q.specs (first_assertion t.procs n + block_assertions t.procs whole) j) (sym (ap (λ (x : Marks). x.exit) is)) h.exit)))

-- two facts where a call succeeds
pub on_both : {T E : Type 0} (A B C : Type 0) (r : Result T E) → (A → B → C) → OnOk r A → OnOk r B → OnOk r C
on_both A B C (Ok x) f h k = f h k
on_both A B C (Err e) f h k = h

-- ---- the program

pub no_procedure : (t : TypedProgram) (old : Walked) → Adds (places_from t 0 []) old old
no_procedure t old = nothing old

pub one_more_procedure : (t u : TypedProgram) (i : ℕ) (q : TypedProcedure) (old mid new : Walked) → u ≡ t → slice_get t.procs i ≡ Some q → Adds (places_from t 0 (take i t.procs)) old mid →
    Adds (located i (points_with u i q q.body)) mid new → Adds (places_from t 0 (take (i + 1) t.procs)) old new
one_more_procedure t u i q old mid new ut e h k =
    let more : take (i + 1) t.procs ≡ take i t.procs ++ q ∷ [] = taken t.procs i q e in
    let count : length (take i t.procs) ≡ i = full t.procs i q e in
    let there : Adds (located i (points_with t i q q.body)) mid new = subst (λ (x : TypedProgram). Adds (located i (points_with x i q q.body)) mid new) ut k in
    let last : Adds (located (length (take i t.procs)) (points_with t (length (take i t.procs)) q q.body)) mid new = subst (λ (j : ℕ). Adds (located j (points_with t j q q.body)) mid new) (sym count) there in
    subst (λ (ps : List TypedProcedure). Adds (places_from t 0 ps) old new) (sym more) (procedure_added t (take i t.procs) q old mid new h last)
  where
    taken : {X : Type 0} (xs : List X) (i : ℕ) (x : X) → slice_get xs i ≡ Some x → take (i + 1) xs ≡ take i xs ++ x ∷ []
    taken [] i x e = cc
    taken (y ∷ ys) zero x e = let k : y ≡ x = cc in ap (λ z. z ∷ []) k
    taken (y ∷ ys) (suc i) x e =
        let s : suc i + 1 ≡ suc (i + 1) = omega arith in
        ap (λ m. take m (y ∷ ys)) s ∙ ap (λ l. y ∷ l) (taken ys i x e)

    full : {X : Type 0} (xs : List X) (i : ℕ) (x : X) → slice_get xs i ≡ Some x → length (take i xs) ≡ i
    full [] i x e = cc
    full (y ∷ ys) zero x e = refl
    full (y ∷ ys) (suc i) x e = ap suc (full ys i x e)

take_all : {X : Type 0} (xs : List X) (i : ℕ) → length xs ≤ i → take i xs ≡ xs
take_all [] zero h = refl
take_all [] (suc i) h = refl
take_all (x ∷ xs) zero h = absurd (omega arith)
take_all (x ∷ xs) (suc i) h = ap (λ l. x ∷ l) (take_all xs i (omega arith))

pub all_procedures : (t : TypedProgram) (i : ℕ) (old new : Walked) → length t.procs ≤ i → Adds (places_from t 0 (take i t.procs)) old new → Adds (places_from t 0 t.procs) old new
all_procedures t i old new l h = subst (λ (ps : List TypedProcedure). Adds (places_from t 0 ps) old new) (take_all t.procs i l) h

pub whole_program : (t u w x : TypedProgram) (q : TypedProcedure) (b : TypedBlock) (blank begun started new : Walked) → slice_get t.procs t.entry ≡ Some q → q.body ≡ Some b → u ≡ t → w ≡ t → x ≡ t →
    blank ≡ nothing_yet t → Begins u blank begun → AllStart w begun started → Adds (places_from x 0 x.procs) started new → IsWalked t new
whole_program t u w x q b blank begun started new e k ut wt xt none begins starts all =
    let begun_is : begun ≡ record (nothing_yet t) { lettered = with_arc no_letters (start_arc t) } =
    (subst (λ (y : TypedProgram). Begins y blank begun) ut begins) q b e k
    ∙ ap (λ (y : Walked). record y { lettered = with_arc y.lettered (start_arc t) }) none in
    all_walked t begun started new (ap (λ (y : Walked). y.program) begun_is) (ap (λ (y : Walked). y.sites) begun_is) (ap (λ (y : Walked). y.fault) begun_is) (ap (λ (y : Walked). y.lettered) begun_is)
    (starts_added t q begun started e ((subst (λ (y : TypedProgram). AllStart y begun started) wt starts) q b e k))
    (subst (λ (y : TypedProgram). Adds (places_from y 0 y.procs) started new) xt all)
