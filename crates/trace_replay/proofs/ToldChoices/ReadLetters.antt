-- The positions of a word are read letter by letter.
use Rattle.std.proofs.Common.{◌≡◌, ◌∙◌, ℕ, zero, suc, ◌+◌, ◌^◌, ◌≤◌, ℤ, List, [], ◌∷◌, ◌++◌, map, length, drop, Option, None, Some, refl, sym, ap, subst, arith, append_assoc, append-nil, length-append}
use Rattle.std.specs.Prelude.{slice_get}
use Rattle.std.proofs.lemmas.List.{length-map}
use Rattle.nwa_base.specs.declared.letters.Letter.{Letter}
use Rattle.nwa_base.specs.Automata.{Automaton}
use Rattle.nwa_base.specs.Runs.{StepsOn}
use Rattle.letter_acts.specs.Frames.{Columns}
use Rattle.letter_acts.specs.Acts.{PlainAct, inside_act, call_act, back_act, Alphabet, frame_of, act_of}
use Rattle.letter_acts.specs.Invariant.{Graph, alphabet_of}
use Rattle.path_rows.specs.Versions.{PathStage, act_part, part_of, return_part, back_part}
use Rattle.letter_acts.specs.FrameRows.Rows.{columns_from}
use Rattle.path_rows.specs.Paths.{repeated, path_along, start_frame, first_stage, path_of}
use Rattle.path_rows.specs.Solutions.{read}
use Rattle.lowered_graph.specs.LoweredChoices.Traces.{TracePosition}
use Rattle.trace_replay.specs.PathTraces.Solved.{helper_columns, positions_from, next_positions}
use Rattle.trace_replay.specs.ToldChoices.Ties.Made.{columns_made, helpers_end}
use Rattle.trace_replay.proofs.ToldChoices.Steps.{drop_here, drop_past}

-- ---- lists

drop_tail : {X : Type 0} (xs : List X) (i : ℕ) (y : X) (ys : List X) → drop i xs ≡ y ∷ ys → (slice_get xs i ≡ Some y) × (drop (i + 1) xs ≡ ys)
drop_tail [] zero y ys e = absurd (let no : ⊥ = cc in no)
drop_tail [] (suc i) y ys e = absurd (let no : ⊥ = cc in no)
drop_tail (x ∷ xs) zero y ys e = let head : x ≡ y = cc in let tail : xs ≡ ys = cc in (ap Some head, tail)
drop_tail (x ∷ xs) (suc i) y ys e =
    let r = drop_tail xs i y ys e in
    let s : suc i + 1 ≡ suc (i + 1) = omega arith in
    (r.0, ap (λ (m : ℕ). drop m (x ∷ xs)) s ∙ r.1)

repeated_many : (n k : ℕ) → length (repeated n k) ≡ k
repeated_many n zero = refl
repeated_many n (suc k) = let r : length (repeated n k) ≡ k = repeated_many n k in ap suc r

columns_many : (n k : ℕ) → length (columns_from n k) ≡ k
columns_many n zero = refl
columns_many n (suc k) = let r : length (columns_from (suc n) k) ≡ k = columns_many (suc n) k in ap suc r

-- ---- what a letter makes

record MadeBy (al : Alphabet) (o : Option PlainAct) (p : PathStage) : Type 0 where
  columns : (act_part al o p).columns ≡ columns_made al o
  after : (act_part al o p).after.made ≡ p.made + columns_made al o

back_made : (caller callee : Columns) (targets : List ℕ) (made : ℕ) (exit : List ℕ) (saved : List (List ℕ)) → ((back_part caller callee targets made exit saved).columns ≡ 0) × ((back_part caller callee targets made exit saved).after.made ≡ made)
back_made caller callee targets made exit [] = (refl, refl)
back_made caller callee targets made exit (before ∷ saved) = (refl, refl)

return_made : (al : Alphabet) (targets : List ℕ) (o : Option PlainAct) (p : PathStage) → ((return_part al targets o p).columns ≡ 0) × ((return_part al targets o p).after.made ≡ p.made)
return_made al targets None p = (refl, refl)
return_made al targets (Some (inside_act q written helpers rows)) p = (refl, refl)
return_made al targets (Some (call_act caller callee helpers rows)) p = back_made (frame_of al caller) (frame_of al callee) targets p.made p.here p.saved
return_made al targets (Some (back_act c more)) p = (refl, refl)

made_by : (al : Alphabet) (o : Option PlainAct) (p : PathStage) → MadeBy al o p
made_by al None p = record { columns = refl; after = (let e : p.made ≡ p.made + 0 = omega arith in e) }
made_by al (Some (inside_act q written helpers rows)) p = record { columns = refl; after = refl }
made_by al (Some (call_act caller callee helpers rows)) p = record { columns = omega arith; after = omega arith }
made_by al (Some (back_act c targets)) p =
    let r = return_made al targets (slice_get al.acts c) p in
    record { columns = r.0; after = (let e : p.made ≡ p.made + 0 = omega arith in r.1 ∙ e) }

pub helpers_within : (al : Alphabet) (o : Option PlainAct) (made : ℕ) → helpers_end o made ≤ made + columns_made al o
helpers_within al None made = omega arith
helpers_within al (Some (inside_act q written helpers rows)) made = omega arith
helpers_within al (Some (call_act caller callee helpers rows)) made = omega arith
helpers_within al (Some (back_act c targets)) made = omega arith

-- ---- the states of a path

first_state : (al : Alphabet) (n : ℕ) (p : PathStage) (w : List Letter) → (more : List (List ℕ)) × ((path_along al n p w).states ≡ p.here ∷ more)
first_state al n p [] = ([], refl)
first_state al n p (a ∷ w) = ((path_along al (suc n) (part_of al a p).after w).states, refl)

states_many : (al : Alphabet) (n : ℕ) (p : PathStage) (w : List Letter) → length (path_along al n p w).states ≡ length w + 1
states_many al n p [] = refl
states_many al n p (a ∷ w) =
    let r : length (path_along al (suc n) (part_of al a p).after w).states ≡ length w + 1 = states_many al (suc n) (part_of al a p).after w in
    let s : suc (length w + 1) ≡ suc (length w) + 1 = omega arith in
    ap suc r ∙ s

pub versions_many : {X : Type 0} (f : X → List ℕ) (g : Graph) (w : List Letter) (versions : List X) → map f versions ≡ (path_of g w).states → length versions ≡ length w + 1
versions_many f g w versions e = sym (length-map versions f) ∙ ap length e ∙ states_many (alphabet_of g) 1 (first_stage (start_frame g)) w

pub run_many : (m : Automaton) (run : List ℕ) (front w : List Letter) (states : List ℕ) → StepsOn m run front w states → length states ≡ length w + 1
run_many m run front w [] s = absurd s
run_many m run front [] (q ∷ []) s = refl
run_many m run front [] (q ∷ e ∷ more) s = absurd s
run_many m run front (a ∷ w) (q ∷ []) s = absurd s
run_many m run front (a ∷ w) (q ∷ e ∷ more) s =
    let r : length (e ∷ more) ≡ length w + 1 = run_many m run (a ∷ front) w (e ∷ more) s.1 in
    let t : suc (length w + 1) ≡ suc (length w) + 1 = omega arith in
    ap suc r ∙ t

-- ---- the letters that are read

pub record IsRead (point : ℕ → ℤ) (al : Alphabet) (letters : List Letter) (versions : List (List ℕ)) (run : List ℕ) (i made : ℕ) (done whole : List TracePosition) : Type 0 where
  pub stage : PathStage
  pub made_is : stage.made ≡ made
  pub versions_are : (path_along al (i + 1) stage (drop i letters)).states ≡ drop i versions
  pub columns : made + length (path_along al (i + 1) stage (drop i letters)).column_at ≤ 2 ^ 32
  pub rest : done ++ positions_from point al stage (drop i letters) (drop (i + 1) run) ≡ whole

-- the columns of the next letter still have numbers
pub more_columns : (point : ℕ → ℤ) (al : Alphabet) (letters : List Letter) (versions : List (List ℕ)) (run : List ℕ) (i made : ℕ) (done whole : List TracePosition) (a : Letter) → slice_get letters i ≡ Some a →
    IsRead point al letters versions run i made done whole → made + columns_made al (act_of al a) ≤ 2 ^ 32
more_columns point al letters versions run i made done whole a e h =
    let left : drop i letters ≡ a ∷ drop (i + 1) letters = drop_here letters i a e in
    let part = part_of al a h.stage in
    let more = path_along al (suc (i + 1)) part.after (drop (i + 1) letters) in
    let columns : made + length (repeated (i + 1) part.columns ++ more.column_at) ≤ 2 ^ 32 = subst (λ (w : List Letter). made + length (path_along al (i + 1) h.stage w).column_at ≤ 2 ^ 32) left h.columns in
    let many : length (repeated (i + 1) part.columns ++ more.column_at) ≡ part.columns + length more.column_at = length-append (repeated (i + 1) part.columns) more.column_at ∙ ap (λ (k : ℕ). k + length more.column_at) (repeated_many (i + 1) part.columns) in
    let made_so = made_by al (act_of al a) h.stage in
    omega (arith, many, columns, made_so.columns)

pub read_more : (point : ℕ → ℤ) (al : Alphabet) (letters : List Letter) (versions : List (List ℕ)) (run : List ℕ) (i made : ℕ) (done whole : List TracePosition) (a : Letter) (place : ℕ) (v : List ℕ) (columns : ℕ) (x : TracePosition) →
    slice_get letters i ≡ Some a → slice_get run (i + 1) ≡ Some place → slice_get versions (i + 1) ≡ Some v → columns ≡ columns_made al (act_of al a) →
    x ≡ record { place = place; values = read point v; helpers = read point (helper_columns (act_of al a) made) } →
    IsRead point al letters versions run i made done whole → IsRead point al letters versions run (i + 1) (made + columns) (done ++ x ∷ []) whole
read_more point al letters versions run i made done whole a place v columns x e f g columns_are x_is h =
    let left : drop i letters ≡ a ∷ drop (i + 1) letters = drop_here letters i a e in
    let runs : drop (i + 1) run ≡ place ∷ drop (i + 1 + 1) run = drop_here run (i + 1) place f in
    let part = part_of al a h.stage in
    let w : List Letter = drop (i + 1) letters in
    let next : suc (i + 1) ≡ i + 1 + 1 = omega arith in
    let made_so = made_by al (act_of al a) h.stage in
    let states : drop i versions ≡ h.stage.here ∷ (path_along al (suc (i + 1)) part.after w).states = sym h.versions_are ∙ ap (λ (w : List Letter). (path_along al (i + 1) h.stage w).states) left in
    let tail = drop_tail versions i h.stage.here (path_along al (suc (i + 1)) part.after w).states states in
    let head = first_state al (suc (i + 1)) part.after w in
    let v_got = drop_tail versions (i + 1) part.after.here head.0 (tail.1 ∙ head.1) in
    let both : Some v ≡ Some part.after.here = sym g ∙ v_got.0 in
    let v_is : v ≡ part.after.here = cc in
    let cols : made + length (repeated (i + 1) part.columns ++ (path_along al (suc (i + 1)) part.after w).column_at) ≤ 2 ^ 32 = subst (λ (w : List Letter). made + length (path_along al (i + 1) h.stage w).column_at ≤ 2 ^ 32) left h.columns in
    let many : length (repeated (i + 1) part.columns ++ (path_along al (suc (i + 1)) part.after w).column_at) ≡ part.columns + length (path_along al (suc (i + 1)) part.after w).column_at =
    length-append (repeated (i + 1) part.columns) (path_along al (suc (i + 1)) part.after w).column_at ∙ ap (λ (k : ℕ). k + length (path_along al (suc (i + 1)) part.after w).column_at) (repeated_many (i + 1) part.columns) in
    let within : (made + columns) + length (path_along al (suc (i + 1)) part.after w).column_at ≤ 2 ^ 32 = omega (arith, many, cols, made_so.columns, columns_are) in
    let x_so : x ≡ record { place = place; values = read point part.after.here; helpers = read point (helper_columns (act_of al a) h.stage.made) } =
    x_is ∙ (λ k. record { place = place; values = read point (v_is k); helpers = read point (helper_columns (act_of al a) (sym h.made_is k)) }) in
    let rest : done ++ (x ∷ positions_from point al part.after w (drop (i + 1 + 1) run)) ≡ whole =
    ap (λ (y : TracePosition). done ++ (y ∷ positions_from point al part.after w (drop (i + 1 + 1) run))) x_so
    ∙ sym (λ k. done ++ positions_from point al h.stage (left k) (runs k)) ∙ h.rest in
    record {
      stage = part.after;
      made_is = made_so.after ∙ (λ k. h.made_is k + sym columns_are k);
      versions_are = ap (λ (m : ℕ). (path_along al m part.after w).states) (sym next) ∙ sym tail.1;
      columns = subst (λ (m : ℕ). (made + columns) + length (path_along al m part.after w).column_at ≤ 2 ^ 32) next within;
      rest = append_assoc done (x ∷ []) (positions_from point al part.after w (drop (i + 1 + 1) run)) ∙ rest;
    }

-- before the first letter
pub none_read : (point : ℕ → ℤ) (g : Graph) (letters : List Letter) (versions : List (List ℕ)) (run : List ℕ) (v : List ℕ) → versions ≡ (path_of g letters).states → length (path_of g letters).column_at ≤ 2 ^ 32 → length run ≡ length letters + 1 →
    slice_get versions 0 ≡ Some v → IsRead point (alphabet_of g) letters versions run 0 (length v) [] (next_positions point g letters run)
none_read point g letters versions [] v e columns many got = absurd (omega arith)
none_read point g letters versions (q ∷ states) v e columns many got =
    let al : Alphabet = alphabet_of g in
    let frame : Columns = start_frame g in
    let p : PathStage = first_stage frame in
    let head = first_state al 1 p letters in
    let both : Some v ≡ Some p.here = sym got ∙ ap (λ (l : List (List ℕ)). slice_get l 0) (e ∙ head.1) in
    let v_is : v ≡ p.here = cc in
    let wide : length v ≡ length frame = ap length v_is ∙ columns_many 0 (length frame) in
    let all : length (repeated 0 (length frame) ++ (path_along al 1 p letters).column_at) ≡ length frame + length (path_along al 1 p letters).column_at =
    length-append (repeated 0 (length frame)) (path_along al 1 p letters).column_at ∙ ap (λ (k : ℕ). k + length (path_along al 1 p letters).column_at) (repeated_many 0 (length frame)) in
    record {
      stage = p;
      made_is = sym wide;
      versions_are = sym e;
      columns = omega (arith, wide, all, columns);
      rest = refl;
    }

-- behind the last letter
pub all_read : (point : ℕ → ℤ) (al : Alphabet) (letters : List Letter) (versions : List (List ℕ)) (run : List ℕ) (i made : ℕ) (done whole : List TracePosition) → length letters ≤ i → IsRead point al letters versions run i made done whole → done ≡ whole
all_read point al letters versions run i made done whole less h =
    sym (append-nil done) ∙ ap (λ (w : List Letter). done ++ positions_from point al h.stage w (drop (i + 1) run)) (sym (drop_past letters i less)) ∙ h.rest
