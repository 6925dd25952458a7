-- The loop over a word's letters that makes their steps.
use Rattle.std.proofs.Common.{◌≡◌, ◌∙◌, ℕ, zero, suc, ◌+◌, ◌<◌, ◌≤◌, Bool, true, List, [], ◌∷◌, ◌++◌, length, drop, get_or, reverse, append_assoc, length-append, refl, sym, ap, subst, arith, Option, None, Some}
use Rattle.std.specs.Prelude.{◌-◌, slice_get, option_map, IsSome}
use Rattle.std.specs.List.{AllByRecursion}
use Rattle.std.proofs.lemmas.List.{append-nil, drop_all, drop_more, get_or-reverse, length-reverse}
use Rattle.std.proofs.lemmas.Option.{slice_get_within, get_or_from_slice_get, slice_get-map, slice_get_read}
use Rattle.nwa_base.specs.declared.letters.Letter.{Letter}
use Rattle.nwa_base.specs.Words.{are_matched}
use Rattle.lin_rows.specs.Rows.{LinearRow}
use Rattle.letter_acts.specs.Frames.{Columns}
use Rattle.letter_acts.specs.declared.acts.Act.{Act}
use Rattle.letter_acts.specs.Acts.{PlainAct, inside_act, call_act, back_act, plain_act, plain_acts, Alphabet, frame_of, act_of}
use Rattle.letter_acts.specs.Invariant.{Graph, IsActed, alphabet_of}
use Rattle.letter_acts.specs.Kept.{Keeps}
use Rattle.letter_acts.proofs.KnownLemmas.{act_found}
use Rattle.path_rows.specs.Versions.{PathStage, Part, part_of, act_part, local_columns, old_part}
use Rattle.path_rows.specs.Paths.{repeated, start_frame, first_stage, path_along, path_of}
use Rattle.farkas_check.specs.Trees.{Tree}
use Rattle.nested_itp.specs.NestedPredicates.Stamps.{stamp_of, callee_stamp, column_stamps, call_stamps, stamps_along, stamps_of}
use Rattle.nested_itp.specs.NestedPredicates.Positions.{CallScope, has_return, Position, position_at, positions_along, positions_of}
use Rattle.nested_itp.proofs.NestedPredicates.WordLaws.{later, split_first}
use Rattle.nested_itp.specs.NestedRefutations.Numbers as numbers
use Rattle.nested_itp.specs.NestedRefutations.Walked.{inside_gaps, call_gaps, return_gaps, back_gaps}
use Rattle.nested_itp.specs.NestedRefutations.Numbers.{position_here, read_on, step_by, steps_back, steps_along, steps_of}
use Rattle.nested_itp.specs.declared.triple_steps.readings.Reading.{Reading}
use Rattle.nested_itp.specs.declared.triple_steps.readings.OpenCall.{OpenCall}
use Rattle.nested_itp.specs.declared.triple_steps.making.Step.{Step}
use Rattle.nested_itp.specs.TripleSteps.Sections.{call_counts, back_counts}
use Rattle.nested_itp.specs.TripleSteps.Steps.{FitColumns, IsStep, AreSteps}
use Rattle.nested_itp.specs.TripleSteps.Ties.Readings.{IsAt, AreCalls, IsReading, start_reading, FindsCall, IsInsideStep, IsCallStep, IsBackStep, IsReturnOf, IsStepBy, IsStepBack}
use Rattle.nested_itp.proofs.TripleSteps.ReadingLaws.{matched_on, finds}

-- ---- as many columns as the path has

repeated_counted : (x n : ℕ) → length (repeated x n) ≡ n
repeated_counted x zero = refl
repeated_counted x (suc n) = ap suc (repeated_counted x n)

columns_counted : (al : Alphabet) (n : ℕ) (o : Option PlainAct) (p : PathStage) → length (column_stamps al n o (act_part al o p)) ≡ (act_part al o p).columns
columns_counted al n None p = repeated_counted (stamp_of n) 0
columns_counted al n (Some (inside_act q written helpers rows)) p = repeated_counted (stamp_of n) (length written + helpers)
columns_counted al n (Some (call_act caller callee helpers rows)) p =
    let l : ℕ = length (local_columns (frame_of al callee)) in
    let o : ℕ = length (old_part (frame_of al callee)) in
    let a = repeated_counted (callee_stamp n) l in
    let b = repeated_counted (stamp_of n) helpers in
    let c = repeated_counted (callee_stamp n) o in
    let d : length (repeated (stamp_of n) helpers ++ repeated (callee_stamp n) o) ≡ length (repeated (stamp_of n) helpers) + length (repeated (callee_stamp n) o) =
    length-append (repeated (stamp_of n) helpers) (repeated (callee_stamp n) o) in
    let e : length (call_stamps n (frame_of al callee) helpers) ≡ length (repeated (callee_stamp n) l) + length (repeated (stamp_of n) helpers ++ repeated (callee_stamp n) o) =
    length-append (repeated (callee_stamp n) l) (repeated (stamp_of n) helpers ++ repeated (callee_stamp n) o) in
    omega (arith, a, b, c, d, e)
columns_counted al n (Some (back_act c targets)) p = repeated_counted (stamp_of n) (act_part al (Some (back_act c targets)) p).columns

columns_along : (al : Alphabet) (n : ℕ) (p : PathStage) (w : List Letter) → length (stamps_along al n p w).columns ≡ length (path_along al n p w).column_at
columns_along al n p [] = refl
columns_along al n p (a ∷ w) =
    let part : Part = part_of al a p in
    let x : length (column_stamps al n (act_of al a) part ++ (stamps_along al (suc n) part.after w).columns) ≡ length (column_stamps al n (act_of al a) part) + length (stamps_along al (suc n) part.after w).columns =
    length-append (column_stamps al n (act_of al a) part) (stamps_along al (suc n) part.after w).columns in
    let y : length (repeated n part.columns ++ (path_along al (suc n) part.after w).column_at) ≡ length (repeated n part.columns) + length (path_along al (suc n) part.after w).column_at =
    length-append (repeated n part.columns) (path_along al (suc n) part.after w).column_at in
    let h = columns_along al (suc n) part.after w in
    let c : length (column_stamps al n (act_of al a) part) ≡ part.columns = columns_counted al n (act_of al a) p in
    let d = repeated_counted n part.columns in
    omega (arith, x, y, h, c, d)

pub total_is : (g : Graph) (w : List Letter) (column_at : List ℕ) (total : ℕ) → column_at ≡ (path_of g w).column_at → total ≡ length column_at → total ≡ length (stamps_of g w).columns
total_is g w column_at total e f =
    let al : Alphabet = alphabet_of g in
    let n : ℕ = length (start_frame g) in
    let rest = stamps_along al 1 (first_stage (start_frame g)) w in
    let path = path_along al 1 (first_stage (start_frame g)) w in
    let x : length (repeated (stamp_of 1) n ++ rest.columns) ≡ length (repeated (stamp_of 1) n) + length rest.columns = length-append (repeated (stamp_of 1) n) rest.columns in
    let y : length (repeated 0 n ++ path.column_at) ≡ length (repeated 0 n) + length path.column_at = length-append (repeated 0 n) path.column_at in
    let h : length rest.columns ≡ length path.column_at = columns_along al 1 (first_stage (start_frame g)) w in
    let c = repeated_counted (stamp_of 1) n in
    let d = repeated_counted 0 n in
    let k : length column_at ≡ length (path_of g w).column_at = ap (λ (l : List ℕ). length l) e in
    omega (arith, x, y, h, c, d, k, f)

-- ---- one letter

-- how many rows stand before those of each claim of its triple
inside_counted : (g : Graph) (a : Letter) (q : ℕ) (written : List ℕ) (helpers : ℕ) (rows : List LinearRow) (count : ℕ) → act_of (alphabet_of g) a ≡ Some (inside_act q written helpers rows) → length rows ≡ count →
    inside_gaps (slice_get g.acts a.id) ≡ 0 ∷ count ∷ []
inside_counted g a q written helpers rows count e n = ap inside_gaps (act_found (alphabet_of g) a (inside_act q written helpers rows) e).0 ∙ ap (λ (k : ℕ). 0 ∷ k ∷ []) n

call_counted : (g : Graph) (a : Letter) (caller callee helpers : ℕ) (rows : List LinearRow) (frame : Columns) (count : ℕ) → act_of (alphabet_of g) a ≡ Some (call_act caller callee helpers rows) →
    frame ≡ frame_of (alphabet_of g) callee → length rows ≡ count → call_gaps (alphabet_of g) (slice_get g.acts a.id) ≡ call_counts frame count
call_counted g a caller callee helpers rows frame count e f n =
    ap (call_gaps (alphabet_of g)) (act_found (alphabet_of g) a (call_act caller callee helpers rows) e).0 ∙
    ap (call_counts (frame_of (alphabet_of g) callee)) n ∙ ap (λ (x : Columns). call_counts x count) (sym f)

back_counted : (g : Graph) (letter call : ℕ) (targets : List ℕ) (caller callee helpers : ℕ) (rows : List LinearRow) (from_frame to_frame : Columns) (count : ℕ) →
    slice_get g.acts letter ≡ Some (back_act call targets) → slice_get g.acts call ≡ Some (call_act caller callee helpers rows) → from_frame ≡ frame_of (alphabet_of g) caller →
    to_frame ≡ frame_of (alphabet_of g) callee → length rows ≡ count → back_gaps (alphabet_of g) (slice_get g.acts letter) ≡ back_counts from_frame to_frame targets count
back_counted g letter call targets caller callee helpers rows from_frame to_frame count l e k m n =
    let al : Alphabet = alphabet_of g in
    ap (back_gaps al) l ∙ ap (return_gaps al targets) e ∙ ap (back_counts (frame_of al caller) (frame_of al callee) targets) n ∙
    ap (λ (x : Columns). back_counts x (frame_of al callee) targets count) (sym k) ∙ ap (λ (x : Columns). back_counts from_frame x targets count) (sym m)

-- the counts of a definition's reading are those of the code's
same_inside : (g : Graph) (w : List Letter) (t : Tree) (letter : ℕ) (r : numbers.Reading) (s : Reading) (to : Position) (frame : Columns) (written : List ℕ) (helpers : ℕ) (rows : List LinearRow) (f : Step) →
    IsReading g w r s → IsStep g w t (numbers.inside_step g w t letter (suc s.letters) s.rows s.made (position_here r) to frame written helpers rows) f →
    IsStep g w t (numbers.inside_step g w t letter (suc r.letters) r.rows r.stage.made (position_here r) to frame written helpers rows) f
same_inside g w t letter r s to frame written helpers rows f h k =
    subst (λ (n : ℕ). IsStep g w t (numbers.inside_step g w t letter (suc n) r.rows r.stage.made (position_here r) to frame written helpers rows) f) (sym h.letters)
    (subst (λ (n : ℕ). IsStep g w t (numbers.inside_step g w t letter (suc s.letters) n r.stage.made (position_here r) to frame written helpers rows) f) (sym h.rows)
    (subst (λ (n : ℕ). IsStep g w t (numbers.inside_step g w t letter (suc s.letters) s.rows n (position_here r) to frame written helpers rows) f) (sym h.made) k))

pub inside_by : (g : Graph) (w rest : List Letter) (t : Tree) (a : Letter) (r : numbers.Reading) (s : Reading) (to : Position) (q : ℕ) (written : List ℕ) (helpers : ℕ) (rows : List LinearRow)
    (frame : Columns) (ws : List ℕ) (count : ℕ) (f : Step) → act_of (alphabet_of g) a ≡ Some (inside_act q written helpers rows) → frame ≡ frame_of (alphabet_of g) q → ws ≡ written → length rows ≡ count →
    IsInsideStep s frame ws helpers count f → IsReading g w r s → IsAt g w r.letters (position_here r) → IsAt g w (suc r.letters) to → IsStepBy g w t a rest r to f
inside_by g w rest t a r s to q written helpers rows frame ws count f e k m n h is at_from at_to =
    let al : Alphabet = alphabet_of g in
    let step : numbers.Step = numbers.inside_step g w t a.id (suc r.letters) r.rows r.stage.made (position_here r) to (frame_of al q) written helpers rows in
    let given : IsStep g w t (numbers.inside_step g w t a.id (suc s.letters) s.rows s.made (position_here r) to frame ws helpers rows) f =
    h g w t a.id (position_here r) to rows n (inside_counted g a q written helpers rows count e n) (subst (λ (x : ℕ). IsAt g w x (position_here r)) is.letters at_from)
    (subst (λ (x : ℕ). IsAt g w (suc x) to) is.letters at_to) in
    let framed : IsStep g w t (numbers.inside_step g w t a.id (suc s.letters) s.rows s.made (position_here r) to (frame_of al q) written helpers rows) f =
    subst (λ (x : Columns). IsStep g w t (numbers.inside_step g w t a.id (suc s.letters) s.rows s.made (position_here r) to x written helpers rows) f) k
    (subst (λ (x : List ℕ). IsStep g w t (numbers.inside_step g w t a.id (suc s.letters) s.rows s.made (position_here r) to frame x helpers rows) f) m given) in
    record {
      step = step;
      alone = ap (λ (o : Option PlainAct). step_by g w t a.id o rest r to) e;
      is_step = same_inside g w t a.id r s to (frame_of al q) written helpers rows f is framed;
    }

pub call_by : (g : Graph) (w rest : List Letter) (t : Tree) (a : Letter) (r : numbers.Reading) (s : Reading) (to : Position) (caller callee helpers : ℕ) (rows : List LinearRow) (returns : Bool)
    (from_frame to_frame : Columns) (count : ℕ) (f : Step) → act_of (alphabet_of g) a ≡ Some (call_act caller callee helpers rows) → from_frame ≡ frame_of (alphabet_of g) caller →
    to_frame ≡ frame_of (alphabet_of g) callee → length rows ≡ count → returns ≡ has_return 0 rest → IsCallStep s returns from_frame to_frame helpers count f → IsReading g w r s → IsAt g w r.letters (position_here r) →
    IsAt g w (suc r.letters) to → IsStepBy g w t a rest r to f
call_by g w rest t a r s to caller callee helpers rows returns from_frame to_frame count f e k m n b h is at_from at_to =
    let al : Alphabet = alphabet_of g in
    let given : IsStep g w t (numbers.call_step g w t a.id (suc s.letters) s.rows s.made returns (position_here r) to from_frame to_frame helpers rows) f =
    h g w t a.id (position_here r) to rows n (call_counted g a caller callee helpers rows to_frame count e m n) (subst (λ (x : ℕ). IsAt g w x (position_here r)) is.letters at_from)
    (subst (λ (x : ℕ). IsAt g w (suc x) to) is.letters at_to) in
    let framed : IsStep g w t (numbers.call_step g w t a.id (suc s.letters) s.rows s.made (has_return 0 rest) (position_here r) to (frame_of al caller) (frame_of al callee) helpers rows) f =
    subst (λ (x : Bool). IsStep g w t (numbers.call_step g w t a.id (suc s.letters) s.rows s.made x (position_here r) to (frame_of al caller) (frame_of al callee) helpers rows) f) b
    (subst (λ (x : Columns). IsStep g w t (numbers.call_step g w t a.id (suc s.letters) s.rows s.made returns (position_here r) to x (frame_of al callee) helpers rows) f) k
    (subst (λ (x : Columns). IsStep g w t (numbers.call_step g w t a.id (suc s.letters) s.rows s.made returns (position_here r) to from_frame x helpers rows) f) m given)) in
    record {
      step = numbers.call_step g w t a.id (suc r.letters) r.rows r.stage.made (has_return 0 rest) (position_here r) to (frame_of al caller) (frame_of al callee) helpers rows;
      alone = ap (λ (o : Option PlainAct). step_by g w t a.id o rest r to) e;
      is_step =
          subst (λ (x : ℕ). IsStep g w t (numbers.call_step g w t a.id (suc x) r.rows r.stage.made (has_return 0 rest) (position_here r) to (frame_of al caller) (frame_of al callee) helpers rows) f) (sym is.letters)
          (subst (λ (x : ℕ). IsStep g w t (numbers.call_step g w t a.id (suc s.letters) x r.stage.made (has_return 0 rest) (position_here r) to (frame_of al caller) (frame_of al callee) helpers rows) f) (sym is.rows)
          (subst (λ (x : ℕ). IsStep g w t (numbers.call_step g w t a.id (suc s.letters) s.rows x (has_return 0 rest) (position_here r) to (frame_of al caller) (frame_of al callee) helpers rows) f) (sym is.made) framed));
    }

-- the act with a number, as it is stored
pub act_stored : (g : Graph) (acts : List Act) (n : ℕ) (act : Act) → plain_acts acts ≡ g.acts → n < length acts → act ≡ get_or acts n act → slice_get g.acts n ≡ Some (plain_act act)
act_stored g acts n act e l h =
    subst (λ (xs : List PlainAct). slice_get xs n ≡ Some (plain_act act)) e
    (slice_get-map plain_act acts n ∙ ap (option_map plain_act) (slice_get_read acts (length acts) n act refl l h))

-- a return, once its call's act is known
pub back_found : (g : Graph) (s : Reading) (c : OpenCall) (call : ℕ) (targets : List ℕ) (caller callee helpers : ℕ) (rows : List LinearRow) (from_frame to_frame : Columns) (count : ℕ) (f : Step) →
    slice_get g.acts call ≡ Some (call_act caller callee helpers rows) → from_frame ≡ frame_of (alphabet_of g) caller → to_frame ≡ frame_of (alphabet_of g) callee → length rows ≡ count →
    IsBackStep s c from_frame to_frame helpers count targets f → IsStepBack g s c call targets f
back_found g s c call targets caller callee helpers rows from_frame to_frame count f e k m n h =
    λ w t letter o calls exit to by opened at_exit at_to.
    let al : Alphabet = alphabet_of g in
    let given : IsStep g w t (numbers.back_step g w t letter o exit to from_frame to_frame helpers rows targets) f = h g w t letter o exit to rows n
    (back_counted g letter call targets caller callee helpers rows from_frame to_frame count by e k m n) opened at_exit at_to in (
      numbers.back_step g w t letter o exit to (frame_of al caller) (frame_of al callee) helpers rows targets,
      ap (λ (x : Option PlainAct). steps_back g w t letter targets (o ∷ calls) exit to x) e,
      subst (λ (x : Columns). IsStep g w t (numbers.back_step g w t letter o exit to x (frame_of al callee) helpers rows targets) f) k
          (subst (λ (x : Columns). IsStep g w t (numbers.back_step g w t letter o exit to from_frame x helpers rows targets) f) m given),
    )

back_open : (g : Graph) (w : List Letter) (t : Tree) (letter : ℕ) (s : Reading) (c : OpenCall) (call : ℕ) (targets : List ℕ) (os : List numbers.OpenCall) (cs : List OpenCall) (exit to : Position) (f : Step) →
    slice_get g.acts letter ≡ Some (back_act call targets) → AreCalls g w os (c ∷ cs) → IsAt g w s.letters exit → IsAt g w (suc s.letters) to → IsStepBack g s c call targets f →
    (x : numbers.Step) × (steps_back g w t letter targets os exit to (slice_get g.acts call) ≡ x ∷ []) × IsStep g w t x f
back_open g w t letter s c call targets [] cs exit to f by a at_exit at_to h = absurd a
back_open g w t letter s c call targets (o ∷ os) cs exit to f by a at_exit at_to h = h w t letter o os exit to by a.0 at_exit at_to

first_call : (cs : List OpenCall) (c d : OpenCall) → get_or cs 0 d ≡ c → 0 < length cs → (rest : List OpenCall) × (cs ≡ c ∷ rest)
first_call [] c d e l = absurd (omega (arith, l))
first_call (x ∷ xs) c d e l = (xs, ap (λ (y : OpenCall). y ∷ xs) e)

-- the last call that was opened is the innermost
pub last_call : (xs ys : List OpenCall) (c : OpenCall) → ys ≡ xs → Some c ≡ slice_get ys (length ys - 1) → (more : List OpenCall) × (reverse xs ≡ c ∷ more)
last_call xs ys c e h =
    let last : ℕ = length xs - 1 in
    let k : slice_get xs last ≡ Some c = subst (λ (l : List OpenCall). slice_get l (length l - 1) ≡ Some c) e (sym h) in
    let some : 0 < length xs = (let l = slice_get_within xs last c k in omega (arith, l)) in
    let front : get_or (reverse xs) 0 c ≡ c =
    get_or-reverse xs 0 c some ∙ ap (λ (i : ℕ). get_or xs i c) (let n : last - 0 ≡ last = omega arith in n) ∙ get_or_from_slice_get xs last c c k in
    first_call (reverse xs) c c front (let n = length-reverse xs in omega (arith, n, some))

pub back_by : (g : Graph) (w rest : List Letter) (t : Tree) (a : Letter) (r : numbers.Reading) (s : Reading) (to : Position) (call : ℕ) (targets ts : List ℕ) (c : OpenCall) (more : List OpenCall) (f : Step) →
    act_of (alphabet_of g) a ≡ Some (back_act call targets) → ts ≡ targets → reverse s.calls.items ≡ c ∷ more → IsStepBack g s c call ts f → IsReading g w r s → IsAt g w r.letters (position_here r) →
    IsAt g w (suc r.letters) to → IsStepBy g w t a rest r to f
back_by g w rest t a r s to call targets ts c more f e m k h is at_from at_to =
    let same : IsStepBack g s c call targets f = subst (λ (x : List ℕ). IsStepBack g s c call x f) m h in
    let found = back_open g w t a.id s c call targets r.calls more (position_here r) to f (act_found (alphabet_of g) a (back_act call targets) e).0 (subst (AreCalls g w r.calls) k is.calls) (subst (λ (x : ℕ). IsAt g w x (position_here r)) is.letters at_from)
    (subst (λ (x : ℕ). IsAt g w (suc x) to) is.letters at_to) same in
    record { step = found.0; alone = ap (λ (o : Option PlainAct). step_by g w t a.id o rest r to) e ∙ found.1; is_step = found.2 }

all_get : {X : Type 0} (P : X → Type 0) (xs : List X) (i : ℕ) (x : X) → slice_get xs i ≡ Some x → AllByRecursion P xs → P x
all_get P [] i x e h = absurd (cc)
all_get P (y ∷ ys) zero x e h = let k : y ≡ x = cc in subst P k h.0
all_get P (y ∷ ys) (suc i) x e h = all_get P ys i x e h.1

-- what a graph keeps of a return
pub return_known : (g : Graph) (a : Letter) (call : ℕ) (targets ts : List ℕ) → Keeps g → act_of (alphabet_of g) a ≡ Some (back_act call targets) → ts ≡ targets → IsReturnOf (alphabet_of g) call ts
unfolding Keeps
return_known g a call targets ts ok e m =
    subst (IsReturnOf (alphabet_of g) call) (sym m)
    (all_get (IsActed (alphabet_of g)) g.acts a.id (back_act call targets) (act_found (alphabet_of g) a (back_act call targets) e).0 ok.acts)

-- ---- the loop

-- i letters are read, in a word with so many columns
pub record StepsRead (g : Graph) (w : List Letter) (total i : ℕ) (s : Reading) (found : List Step) : Type 0 where
  pub reading : numbers.Reading
  pub is_reading : IsReading g w reading s
  pub number : reading.letters ≡ i
  pub positions : drop i (positions_of g w) ≡ positions_along (alphabet_of g) reading.letters reading.stage reading.scopes (drop i w)
  pub matched : are_matched (length reading.calls) (drop i w) ≡ true
  pub front : Tree → List numbers.Step
  pub whole : (t : Tree) → front t ++ steps_along g w t reading (drop i w) ≡ steps_of g w t
  pub are : (t : Tree) → AreSteps g w t (front t) found
  pub count : length found ≡ i
  pub fit : AllByRecursion (λ f. FitColumns total f.columns) found

pub steps_start : (g : Graph) (w : List Letter) (total : ℕ) (s : Reading) (found : List Step) → IsReading g w (start_reading g) s → are_matched 0 w ≡ true → found ≡ [] → StepsRead g w total 0 s found
steps_start g w total s found h m e = record {
  reading = start_reading g;
  is_reading = h;
  number = refl;
  positions = refl;
  matched = m;
  front = λ t. [];
  whole = λ t. refl;
  are = λ t. subst (AreSteps g w t []) (sym e) tt;
  count = ap (λ (l : List Step). length l) e;
  fit = subst (AllByRecursion (λ f. FitColumns total f.columns)) (sym e) tt;
}

dropped_once : {X : Type 0} (xs : List X) (i : ℕ) (x : X) (rest : List X) → drop i xs ≡ x ∷ rest → drop (i + 1) xs ≡ rest
dropped_once [] zero x rest e = absurd (cc)
dropped_once [] (suc i) x rest e = absurd (cc)
dropped_once (y ∷ ys) zero x rest e = cc
dropped_once {X} (y ∷ ys) (suc i) x rest e =
    ap (λ (n : ℕ). drop n (y ∷ ys)) (let k : suc i + 1 ≡ suc (i + 1) = omega arith in k) ∙ dropped_once ys i x rest e

got_front : {X : Type 0} (xs : List X) (i : ℕ) (x : X) (rest : List X) → drop i xs ≡ x ∷ rest → slice_get xs i ≡ Some x
got_front [] zero x rest e = absurd (cc)
got_front [] (suc i) x rest e = absurd (cc)
got_front (y ∷ ys) zero x rest e = cc
got_front (y ∷ ys) (suc i) x rest e = got_front ys i x rest e

stands_at : (g : Graph) (w v : List Letter) (i n : ℕ) (p : PathStage) (scopes : List CallScope) → n ≡ i → drop i (positions_of g w) ≡ positions_along (alphabet_of g) n p scopes v → IsAt g w n (position_at n p scopes)
stands_at g w v i n p scopes e h =
    subst (λ (k : ℕ). slice_get (positions_of g w) k ≡ Some (position_at n p scopes)) (sym e)
    (got_front (positions_of g w) i (position_at n p scopes) (later (alphabet_of g) n p scopes v) (h ∙ split_first (alphabet_of g) n p scopes v))

-- where the word stands
pub here_at : (g : Graph) (w : List Letter) (total i : ℕ) (s : Reading) (found : List Step) (h : StepsRead g w total i s found) → IsAt g w h.reading.letters (position_here h.reading)
here_at g w total i s found h = stands_at g w (drop i w) i h.reading.letters h.reading.stage h.reading.scopes h.number h.positions

pub front_is : (w : List Letter) (i : ℕ) (a d : Letter) → i < length w → a ≡ get_or w i d → drop i w ≡ a ∷ drop (i + 1) w
front_is w i a d l e = drop_more w i d l ∙ ap (λ (b : Letter). b ∷ drop (i + 1) w) (sym e)

-- the positions behind a letter
positions_next : (g : Graph) (w : List Letter) (total i : ℕ) (a : Letter) (s : Reading) (found : List Step) (h : StepsRead g w total i s found) → drop i w ≡ a ∷ drop (i + 1) w →
    (let next = read_on (alphabet_of g) a (drop (i + 1) w) h.reading in
    drop (i + 1) (positions_of g w) ≡ positions_along (alphabet_of g) next.letters next.stage next.scopes (drop (i + 1) w))
positions_next g w total i a s found h f =
    let al : Alphabet = alphabet_of g in
    let next : numbers.Reading = read_on al a (drop (i + 1) w) h.reading in
    dropped_once (positions_of g w) i (position_here h.reading) (positions_along al next.letters next.stage next.scopes (drop (i + 1) w))
    (subst (λ (v : List Letter). drop i (positions_of g w) ≡ positions_along al h.reading.letters h.reading.stage h.reading.scopes v) f h.positions)

-- and that behind it
pub next_at : (g : Graph) (w : List Letter) (total i : ℕ) (a : Letter) (s : Reading) (found : List Step) (h : StepsRead g w total i s found) → drop i w ≡ a ∷ drop (i + 1) w →
    IsAt g w (suc h.reading.letters) (position_here (read_on (alphabet_of g) a (drop (i + 1) w) h.reading))
next_at g w total i a s found h f =
    let next : numbers.Reading = read_on (alphabet_of g) a (drop (i + 1) w) h.reading in
    stands_at g w (drop (i + 1) w) (i + 1) next.letters next.stage next.scopes (let n = h.number in omega (arith, n)) (positions_next g w total i a s found h f)

pub finds_call : (g : Graph) (w : List Letter) (total i : ℕ) (a : Letter) (s : Reading) (found : List Step) (h : StepsRead g w total i s found) → drop i w ≡ a ∷ drop (i + 1) w →
    FindsCall a.kind (reverse s.calls.items)
finds_call g w total i a s found h f =
    finds g w a.kind h.reading.calls (reverse s.calls.items) (λ n. are_matched n (drop (i + 1) w)) h.is_reading.calls
    (subst (λ (v : List Letter). are_matched (length h.reading.calls) v ≡ true) f h.matched)

are_more : (g : Graph) (w : List Letter) (t : Tree) (ss : List numbers.Step) (fs : List Step) (s : numbers.Step) (f : Step) → AreSteps g w t ss fs → IsStep g w t s f → AreSteps g w t (ss ++ s ∷ []) (fs ++ f ∷ [])
are_more g w t [] [] s f h k = (k, tt)
are_more g w t [] (x ∷ fs) s f h k = absurd h
are_more g w t (x ∷ ss) [] s f h k = absurd h
are_more g w t (x ∷ ss) (y ∷ fs) s f h k = (h.0, are_more g w t ss fs s f h.1 k)

all_more : {X : Type 0} (P : X → Type 0) (xs : List X) (x : X) → AllByRecursion P xs → P x → AllByRecursion P (xs ++ x ∷ [])
all_more P [] x h k = (k, tt)
all_more P (y ∷ ys) x h k = (h.0, all_more P ys x h.1 k)

act_there : (o : Option PlainAct) → IsSome o → (act : PlainAct) × (o ≡ Some act)
act_there None h = absurd (cc)
act_there (Some act) h = (act, refl)

pub steps_next : (g : Graph) (w : List Letter) (total i : ℕ) (a : Letter) (s new : Reading) (found more : List Step) (f : Step) (h : StepsRead g w total i s found) → drop i w ≡ a ∷ drop (i + 1) w →
    IsSome (act_of (alphabet_of g) a) → ((t : Tree) → IsStepBy g w t a (drop (i + 1) w) h.reading (position_here (read_on (alphabet_of g) a (drop (i + 1) w) h.reading)) f) →
    IsReading g w (read_on (alphabet_of g) a (drop (i + 1) w) h.reading) new → more ≡ found ++ f ∷ [] → FitColumns total f.columns → StepsRead g w total (i + 1) new more
steps_next g w total i a s new found more f h e act steps is m fit =
    let al : Alphabet = alphabet_of g in
    let rest : List Letter = drop (i + 1) w in
    let next : numbers.Reading = read_on al a rest h.reading in
    let known = act_there (act_of al a) act in
    record {
      reading = next;
      is_reading = is;
      number = (let n = h.number in omega (arith, n));
      positions = positions_next g w total i a s found h e;
      matched = matched_on al a known.0 h.reading (λ n. are_matched n rest) known.1 (subst (λ (v : List Letter). are_matched (length h.reading.calls) v ≡ true) e h.matched);
      front = λ t. h.front t ++ (steps t).step ∷ [];
      whole = λ t.
          append_assoc (h.front t) ((steps t).step ∷ []) (steps_along g w t next rest) ∙
          ap (λ (x : List numbers.Step). h.front t ++ (x ++ steps_along g w t next rest)) (sym (steps t).alone) ∙
          subst (λ (v : List Letter). h.front t ++ steps_along g w t h.reading v ≡ steps_of g w t) e (h.whole t);
      are = λ t. subst (AreSteps g w t (h.front t ++ (steps t).step ∷ [])) (sym m) (are_more g w t (h.front t) found (steps t).step f (h.are t) (steps t).is_step);
      count = (let n : length (found ++ f ∷ []) ≡ length found + 1 = length-append found (f ∷ []) in let k : length more ≡ length (found ++ f ∷ []) = ap (λ (l : List Step). length l) m in
          let c = h.count in omega (arith, n, k, c));
      fit = subst (AllByRecursion (λ x. FitColumns total x.columns)) (sym m) (all_more (λ x. FitColumns total x.columns) found f h.fit fit);
    }

pub steps_done : (g : Graph) (w : List Letter) (total i : ℕ) (s : Reading) (found : List Step) → length w ≤ i → StepsRead g w total i s found → (t : Tree) → AreSteps g w t (steps_of g w t) found
steps_done g w total i s found l h =
    λ t. subst (λ (ss : List numbers.Step). AreSteps g w t ss found)
    (sym (append-nil (h.front t)) ∙ subst (λ (v : List Letter). h.front t ++ steps_along g w t h.reading v ≡ steps_of g w t) (drop_all i w l) (h.whole t)) (h.are t)
