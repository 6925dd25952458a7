-- Stamps are added letter by letter: as many as there are rows and columns.
use Rattle.std.proofs.Common.{◌≡◌, ◌∙◌, ℕ, zero, suc, ◌+◌, ◌*◌, ◌<◌, ◌≤◌, Bool, true, false, cond, List, [], ◌∷◌, ◌++◌, length, map, drop, get_or, append_assoc, length-append, refl, sym, ap, subst, arith, Option, None, Some}
use Rattle.std.specs.Prelude.{filter, slice_index, Result, Ok, Err, OnOk}
use Rattle.std.specs.List.{AllByRecursion}
use Rattle.std.proofs.lemmas.List.{append-nil, drop_more, length-map}
use Rattle.boogie_tree.specs.declared.tree.VarInfo.{VarInfo}
use Rattle.boogie_tree.specs.declared.tree.Column.{Column}
use Rattle.boogie_tree.specs.declared.tree.Ty.{Ty}
use Rattle.boogie_tree.specs.declared.tree.Ty.TheVariants.{Int, Bool as boolean}
use Rattle.nwa_base.specs.declared.letters.Letter.{Letter}
use Rattle.lin_rows.specs.Rows.{LinearRow}
use Rattle.letter_acts.specs.Frames.{Columns, added, places, is_variable, variables_of}
use Rattle.letter_acts.specs.Acts.{PlainAct, inside_act, call_act, back_act, Alphabet, frame_of, act_of}
use Rattle.letter_acts.specs.Invariant.{Graph, alphabet_of, type_at}
use Rattle.letter_acts.specs.FrameRows.Rows.{bounds, types_of, types_at}
use Rattle.path_rows.specs.Versions.{PathStage, Part, part_rows, entry_rows, local_columns, old_part, inside_part, call_part, return_part, back_part, part_of, act_part}
use Rattle.path_rows.specs.Paths.{repeated, start_frame, first_stage}
use Rattle.nested_itp.specs.declared.nested_predicates.stamps.Stamps.{Stamps}
use Rattle.nested_itp.specs.NestedPredicates.Stamps.{stamp_of, callee_stamp, row_stamps, call_stamps, column_stamps, stamps_along, stamps_of}
use Rattle.nested_itp.specs.NestedPredicates.Walking.{is_boolean, is_bool, is_bool_at, ReadsLetter}

-- ---- so many times one stamp

repeated_joined : (x m n : ℕ) → repeated x m ++ repeated x n ≡ repeated x (m + n)
repeated_joined x zero n = ap (repeated x) (let e : n ≡ 0 + n = omega arith in e)
repeated_joined x (suc m) n = ap (λ (l : List ℕ). x ∷ l) (repeated_joined x m n) ∙ ap (repeated x) (let e : suc (m + n) ≡ suc m + n = omega arith in e)

-- ---- bounds

filter_mapped : {X Y : Type 0} (p : Y → Bool) (f : X → Y) (xs : List X) → length (filter p (map f xs)) ≡ length (filter (λ x. p (f x)) xs)
filter_mapped p f [] = refl
filter_mapped {X} {Y} p f (x ∷ xs) = by_test (p (f x)) (filter_mapped p f xs)
  where
    by_test : (b : Bool) → length (filter p (map f xs)) ≡ length (filter (λ x. p (f x)) xs) →
        length (cond b (f x ∷ filter p (map f xs)) (filter p (map f xs))) ≡ length (cond b (x ∷ filter (λ x. p (f x)) xs) (filter (λ x. p (f x)) xs))
    by_test true h = ap suc h
    by_test false h = h

bounds_counted : (n : ℕ) (ts : List (Option Ty)) → length (bounds n ts) ≡ length (filter is_boolean ts) + length (filter is_boolean ts)
bounds_counted n [] = refl
bounds_counted n (None ∷ ts) = bounds_counted (suc n) ts
bounds_counted n (Some Int ∷ ts) = bounds_counted (suc n) ts
bounds_counted n (Some boolean ∷ ts) = let h = bounds_counted (suc n) ts in omega (arith, h)

pub types_counted : (n : ℕ) (frame : Columns) → length (bounds n (types_of frame)) ≡ length (filter is_bool frame) + length (filter is_bool frame)
types_counted n frame =
    let a = bounds_counted n (types_of frame) in
    let b : length (filter is_boolean (types_of frame)) ≡ length (filter is_bool frame) = filter_mapped is_boolean (λ v. Some v.1.ty) frame in
    omega (arith, a, b)

pub types_counted_at : (n : ℕ) (frame : Columns) (written : List ℕ) →
    length (bounds n (types_at frame written)) ≡ length (filter (is_bool_at frame) written) + length (filter (is_bool_at frame) written)
types_counted_at n frame written =
    let a = bounds_counted n (types_at frame written) in
    let b : length (filter is_boolean (types_at frame written)) ≡ length (filter (is_bool_at frame) written) = filter_mapped is_boolean (type_at frame) written in
    omega (arith, a, b)

pub places_counted : (test : (Column × VarInfo) → Bool) (n : ℕ) (xs : Columns) → length (places test n xs) ≡ length (filter test xs)
places_counted test n [] = refl
places_counted test n (x ∷ xs) = by_test (test x) (places_counted test (suc n) xs)
  where
    by_test : (b : Bool) → length (places test (suc n) xs) ≡ length (filter test xs) → length (added b n (places test (suc n) xs)) ≡ length (cond b (x ∷ filter test xs) (filter test xs))
    by_test true h = ap suc h
    by_test false h = h

pub entries_counted : (n : ℕ) (gs : List ℕ) → length (entry_rows n gs) ≡ length gs
entries_counted n [] = refl
entries_counted n (g ∷ gs) = ap suc (entries_counted (suc n) gs)

-- ---- letters

-- stamps added so many times, one after the other
twice : (s k : ℕ) → repeated s k ++ repeated s k ≡ repeated s (k + k)
twice s k = repeated_joined s k k

inside_rows : (al : Alphabet) (n q : ℕ) (written : List ℕ) (helpers : ℕ) (rows : List LinearRow) (p : PathStage) (old new : List ℕ) →
    (let b = length (filter (is_bool_at (frame_of al q)) written) in new ≡ (old ++ repeated (2 * n) (length rows)) ++ (repeated (2 * n) b ++ repeated (2 * n) b)) →
    new ≡ old ++ repeated (stamp_of n) (length (part_rows (inside_part (frame_of al q) written helpers rows p)))
inside_rows al n q written helpers rows p old new e =
    let b : ℕ = length (filter (is_bool_at (frame_of al q)) written) in
    let part : Part = inside_part (frame_of al q) written helpers rows p in
    let x : length part.own ≡ length rows = length-map rows _ in
    let y : length part.bounds ≡ b + b = types_counted_at p.made (frame_of al q) written in
    let z : length (part.own ++ part.bounds) ≡ length part.own + length part.bounds = length-append part.own part.bounds in
    let k : length rows + (b + b) ≡ length (part_rows part) = omega (arith, x, y, z) in
    e ∙ ap (λ (l : List ℕ). (old ++ repeated (2 * n) (length rows)) ++ l) (twice (2 * n) b) ∙ append_assoc old (repeated (2 * n) (length rows)) (repeated (2 * n) (b + b)) ∙
    ap (λ (l : List ℕ). old ++ l) (repeated_joined (2 * n) (length rows) (b + b) ∙ ap (repeated (2 * n)) k)

inside_columns : (al : Alphabet) (n q : ℕ) (written : List ℕ) (helpers : ℕ) (rows : List LinearRow) (p : PathStage) (old new : List ℕ) →
    new ≡ (old ++ repeated (2 * n) (length written)) ++ repeated (2 * n) helpers →
    new ≡ old ++ repeated (stamp_of n) (inside_part (frame_of al q) written helpers rows p).columns
inside_columns al n q written helpers rows p old new e =
    e ∙ append_assoc old (repeated (2 * n) (length written)) (repeated (2 * n) helpers) ∙ ap (λ (l : List ℕ). old ++ l) (repeated_joined (2 * n) (length written) helpers)

-- an inside letter
pub inside_read : (al : Alphabet) (n : ℕ) (a : Letter) (q : ℕ) (written : List ℕ) (helpers : ℕ) (rows : List LinearRow) (old new : Stamps) →
    act_of al a ≡ Some (inside_act q written helpers rows) →
    (let b = length (filter (is_bool_at (frame_of al q)) written) in
    new.rows.items ≡ (old.rows.items ++ repeated (2 * n) (length rows)) ++ (repeated (2 * n) b ++ repeated (2 * n) b)) →
    new.columns.items ≡ (old.columns.items ++ repeated (2 * n) (length written)) ++ repeated (2 * n) helpers → ReadsLetter al n a old new
inside_read al n a q written helpers rows old new i e f = record {
  rows = λ p. subst (λ (o : Option PlainAct). new.rows.items ≡ old.rows.items ++ row_stamps n o (act_part al o p)) (sym i)
      (inside_rows al n q written helpers rows p old.rows.items new.rows.items e);
  columns = λ p. subst (λ (o : Option PlainAct). new.columns.items ≡ old.columns.items ++ column_stamps al n o (act_part al o p)) (sym i)
      (inside_columns al n q written helpers rows p old.columns.items new.columns.items f);
}

-- four lists, one after another
four : (a b c d e : List ℕ) → (((a ++ b) ++ c) ++ d) ++ e ≡ a ++ (b ++ (c ++ (d ++ e)))
four a b c d e = append_assoc ((a ++ b) ++ c) d e ∙ append_assoc (a ++ b) c (d ++ e) ∙ append_assoc a b (c ++ (d ++ e))

call_rows : (callee : Columns) (n helpers : ℕ) (rows : List LinearRow) (p : PathStage) (old new : List ℕ) →
    (let s : ℕ = suc (2 * n) in let v : ℕ = length (filter is_variable callee) in let l : ℕ = length (filter is_bool (local_columns callee)) in let o : ℕ = length (filter is_bool (old_part callee)) in
    new ≡ (((old ++ repeated (2 * n) (length rows)) ++ repeated s v) ++ (repeated s l ++ repeated s l)) ++ (repeated s o ++ repeated s o)) →
    (let part = call_part callee helpers rows p in
    new ≡ old ++ (repeated (stamp_of n) (length part.own) ++ repeated (callee_stamp n) (length (part.entries ++ part.bounds))))
call_rows callee n helpers rows p old new e =
    let s : ℕ = suc (2 * n) in
    let v : ℕ = length (filter is_variable callee) in
    let l : ℕ = length (filter is_bool (local_columns callee)) in
    let o : ℕ = length (filter is_bool (old_part callee)) in
    let part : Part = call_part callee helpers rows p in
    let first : List LinearRow = bounds p.made (types_of (local_columns callee)) in
    let second : List LinearRow = bounds (p.made + length (local_columns callee) + helpers) (types_of (old_part callee)) in
    let x : length part.own ≡ length rows = length-map rows _ in
    let gs : List ℕ = map (slice_index p.here) (variables_of callee) in
    let y : length part.entries ≡ length gs = entries_counted (p.made + length (local_columns callee) + helpers) gs in
    let y2 : length gs ≡ length (variables_of callee) = length-map (variables_of callee) (slice_index p.here) in
    let y3 : length (variables_of callee) ≡ v = places_counted is_variable 0 callee in
    let z : length first ≡ l + l = types_counted p.made (local_columns callee) in
    let u : length second ≡ o + o = types_counted (p.made + length (local_columns callee) + helpers) (old_part callee) in
    let j : length (first ++ second) ≡ length first + length second = length-append first second in
    let k : length (part.entries ++ part.bounds) ≡ length part.entries + length part.bounds = length-append part.entries part.bounds in
    let m : v + ((l + l) + (o + o)) ≡ length (part.entries ++ part.bounds) = omega (arith, y, y2, y3, z, u, j, k) in
    let q : repeated s v ++ ((repeated s l ++ repeated s l) ++ (repeated s o ++ repeated s o)) ≡ repeated s (length (part.entries ++ part.bounds)) =
    ap (λ (t : List ℕ). repeated s v ++ (t ++ (repeated s o ++ repeated s o))) (twice s l) ∙
    ap (λ (t : List ℕ). repeated s v ++ (repeated s (l + l) ++ t)) (twice s o) ∙
    ap (λ (t : List ℕ). repeated s v ++ t) (repeated_joined s (l + l) (o + o)) ∙
    repeated_joined s v ((l + l) + (o + o)) ∙ ap (repeated s) m in
    e ∙ four old (repeated (2 * n) (length rows)) (repeated s v) (repeated s l ++ repeated s l) (repeated s o ++ repeated s o) ∙
    ap (λ (t : List ℕ). old ++ (repeated (2 * n) (length rows) ++ t)) q ∙
    ap (λ (t : ℕ). old ++ (repeated (2 * n) t ++ repeated s (length (part.entries ++ part.bounds)))) (sym x)

call_columns : (callee : Columns) (n helpers : ℕ) (old new : List ℕ) →
    (let s : ℕ = suc (2 * n) in new ≡ ((old ++ repeated s (length (local_columns callee))) ++ repeated (2 * n) helpers) ++ repeated s (length (old_part callee))) →
    new ≡ old ++ call_stamps n callee helpers
call_columns callee n helpers old new e =
    let s : ℕ = suc (2 * n) in
    e ∙ append_assoc (old ++ repeated s (length (local_columns callee))) (repeated (2 * n) helpers) (repeated s (length (old_part callee))) ∙
    append_assoc old (repeated s (length (local_columns callee))) (repeated (2 * n) helpers ++ repeated s (length (old_part callee)))

-- a call
pub call_read : (al : Alphabet) (n : ℕ) (a : Letter) (caller callee helpers : ℕ) (rows : List LinearRow) (old new : Stamps) →
    act_of al a ≡ Some (call_act caller callee helpers rows) →
    (let s : ℕ = suc (2 * n) in let f : Columns = frame_of al callee in
    let v : ℕ = length (filter is_variable f) in let l : ℕ = length (filter is_bool (local_columns f)) in let o : ℕ = length (filter is_bool (old_part f)) in
    new.rows.items ≡ (((old.rows.items ++ repeated (2 * n) (length rows)) ++ repeated s v) ++ (repeated s l ++ repeated s l)) ++ (repeated s o ++ repeated s o)) →
    (let s : ℕ = suc (2 * n) in let f : Columns = frame_of al callee in
    new.columns.items ≡ ((old.columns.items ++ repeated s (length (local_columns f))) ++ repeated (2 * n) helpers) ++ repeated s (length (old_part f))) →
    ReadsLetter al n a old new
call_read al n a caller callee helpers rows old new i e f = record {
  rows = λ p. subst (λ (o : Option PlainAct). new.rows.items ≡ old.rows.items ++ row_stamps n o (act_part al o p)) (sym i)
      (call_rows (frame_of al callee) n helpers rows p old.rows.items new.rows.items e);
  columns = λ p. subst (λ (o : Option PlainAct). new.columns.items ≡ old.columns.items ++ column_stamps al n o (act_part al o p)) (sym i)
      (call_columns (frame_of al callee) n helpers old.columns.items new.columns.items f);
}

-- ---- returns

back_rows : (caller callee : Columns) (targets : List ℕ) (made : ℕ) (exit : List ℕ) (saved : List (List ℕ)) →
    (part_rows (back_part caller callee targets made exit saved) ≡ []) × ((back_part caller callee targets made exit saved).columns ≡ 0)
back_rows caller callee targets made exit [] = (refl, refl)
back_rows caller callee targets made exit (b ∷ saved) = (refl, refl)

pub return_rows : (al : Alphabet) (targets : List ℕ) (o : Option PlainAct) (p : PathStage) → (part_rows (return_part al targets o p) ≡ []) × ((return_part al targets o p).columns ≡ 0)
return_rows al targets None p = (refl, refl)
return_rows al targets (Some (inside_act q written helpers rows)) p = (refl, refl)
return_rows al targets (Some (call_act caller callee helpers rows)) p = back_rows (frame_of al caller) (frame_of al callee) targets p.made p.here p.saved
return_rows al targets (Some (back_act c more)) p = (refl, refl)

-- a return has none
pub back_read : (al : Alphabet) (n : ℕ) (a : Letter) (c : ℕ) (targets : List ℕ) (old : Stamps) → act_of al a ≡ Some (back_act c targets) → ReadsLetter al n a old old
back_read al n a c targets old i = record {
  rows = λ p. subst (λ (o : Option PlainAct). old.rows.items ≡ old.rows.items ++ row_stamps n o (act_part al o p)) (sym i)
      (sym (ap (λ (rs : List LinearRow). old.rows.items ++ repeated (stamp_of n) (length rs)) (return_rows al targets _ p).0 ∙ append-nil old.rows.items));
  columns = λ p. subst (λ (o : Option PlainAct). old.columns.items ≡ old.columns.items ++ column_stamps al n o (act_part al o p)) (sym i)
      (sym (ap (λ (k : ℕ). old.columns.items ++ repeated (stamp_of n) k) (return_rows al targets _ p).1 ∙ append-nil old.columns.items));
}

-- ---- words

-- so many letters are read
pub record StampsLeft (g : Graph) (w : List Letter) (i : ℕ) (s : Stamps) : Type 0 where
  pub stage : PathStage
  pub rows : s.rows.items ++ (stamps_along (alphabet_of g) (suc i) stage (drop i w)).rows ≡ (stamps_of g w).rows
  pub columns : s.columns.items ++ (stamps_along (alphabet_of g) (suc i) stage (drop i w)).columns ≡ (stamps_of g w).columns

pub stamps_start : (g : Graph) (w : List Letter) (frame : Columns) (s : Stamps) → frame ≡ start_frame g →
    s.rows.items ≡ repeated 2 (length (filter is_bool frame)) ++ repeated 2 (length (filter is_bool frame)) → s.columns.items ≡ repeated 2 (length frame) → StampsLeft g w 0 s
stamps_start g w frame s f e h =
    let k : ℕ = length (filter is_bool frame) in
    let rest = stamps_along (alphabet_of g) 1 (first_stage (start_frame g)) w in
    let c : k + k ≡ length (bounds 0 (types_of frame)) = sym (types_counted 0 frame) in
    record {
      stage = first_stage (start_frame g);
      rows = ap (λ (l : List ℕ). l ++ rest.rows) (e ∙ twice 2 k ∙ ap (repeated 2) c ∙ ap (λ (x : Columns). repeated 2 (length (bounds 0 (types_of x)))) f);
      columns = ap (λ (l : List ℕ). l ++ rest.columns) (h ∙ ap (λ (x : Columns). repeated 2 (length x)) f);
    }

pub stamps_next : (g : Graph) (w : List Letter) (i : ℕ) (a d : Letter) (old new : Stamps) → i < length w → a ≡ get_or w i d → StampsLeft g w i old →
    ReadsLetter (alphabet_of g) (i + 1) a old new → StampsLeft g w (i + 1) new
stamps_next g w i a d old new l e h r =
    let al : Alphabet = alphabet_of g in
    let n : suc i ≡ i + 1 = omega arith in
    let f : drop i w ≡ a ∷ drop (i + 1) w = drop_more w i d l ∙ ap (λ (b : Letter). b ∷ drop (i + 1) w) (sym e) in
    let after : PathStage = (part_of al a h.stage).after in
    let rest = stamps_along al (suc (i + 1)) after (drop (i + 1) w) in
    record {
      stage = after;
      rows = ap (λ (l : List ℕ). l ++ rest.rows) (r.rows h.stage) ∙ append_assoc old.rows.items (row_stamps (i + 1) (act_of al a) (part_of al a h.stage)) rest.rows ∙
          subst (λ (m : ℕ). old.rows.items ++ (stamps_along al m h.stage (a ∷ drop (i + 1) w)).rows ≡ (stamps_of g w).rows) n
          (subst (λ (v : List Letter). old.rows.items ++ (stamps_along al (suc i) h.stage v).rows ≡ (stamps_of g w).rows) f h.rows);
      columns = ap (λ (l : List ℕ). l ++ rest.columns) (r.columns h.stage) ∙ append_assoc old.columns.items (column_stamps al (i + 1) (act_of al a) (part_of al a h.stage)) rest.columns ∙
          subst (λ (m : ℕ). old.columns.items ++ (stamps_along al m h.stage (a ∷ drop (i + 1) w)).columns ≡ (stamps_of g w).columns) n
          (subst (λ (v : List Letter). old.columns.items ++ (stamps_along al (suc i) h.stage v).columns ≡ (stamps_of g w).columns) f h.columns);
    }

dropped_all : (xs : List Letter) (i : ℕ) → length xs ≤ i → drop i xs ≡ []
dropped_all [] zero l = refl
dropped_all [] (suc i) l = refl
dropped_all (x ∷ xs) zero l = absurd (omega arith)
dropped_all (x ∷ xs) (suc i) l = dropped_all xs i (omega arith)

pub stamps_done : (g : Graph) (w : List Letter) (i : ℕ) (s : Stamps) → length w ≤ i → StampsLeft g w i s →
    (s.rows.items ≡ (stamps_of g w).rows) × (s.columns.items ≡ (stamps_of g w).columns)
stamps_done g w i s l h =
    let e : drop i w ≡ [] = dropped_all w i l in (
      sym (append-nil s.rows.items) ∙ subst (λ (v : List Letter). s.rows.items ++ (stamps_along (alphabet_of g) (suc i) h.stage v).rows ≡ (stamps_of g w).rows) e h.rows,
      sym (append-nil s.columns.items) ∙ subst (λ (v : List Letter). s.columns.items ++ (stamps_along (alphabet_of g) (suc i) h.stage v).columns ≡ (stamps_of g w).columns) e h.columns,
    )

pub letter_at : (P : Letter → Type 0) (w : List Letter) (i : ℕ) (d : Letter) → i < length w → AllByRecursion P w → P (get_or w i d)
letter_at P [] i d l h = absurd (omega (arith, l))
letter_at P (a ∷ w) zero d l h = h.0
letter_at P (a ∷ w) (suc i) d l h = letter_at P w i d (omega (arith, l)) h.1

pub both_ok : {A E : Type 0} (P Q R : Type 0) → (P → Q → R) → (r : Result A E) → OnOk r P → OnOk r Q → OnOk r R
both_ok P Q R f (Ok a) h k = f h k
both_ok P Q R f (Err e) h k = tt

-- ---- from what the code counted

abbrev pub InsideRows : ℕ → ℕ → Columns → List ℕ → List ℕ → List ℕ → Type 0
InsideRows n count frame ws old new =
    new ≡ (old ++ repeated (2 * n) count) ++ (repeated (2 * n) (length (filter (is_bool_at frame) ws)) ++ repeated (2 * n) (length (filter (is_bool_at frame) ws)))

pub inside_given : (al : Alphabet) (n : ℕ) (a : Letter) (q : ℕ) (written : List ℕ) (helpers : ℕ) (rows : List LinearRow) (old new : Stamps) (count : ℕ) (frame : Columns) (ws : List ℕ) →
    act_of al a ≡ Some (inside_act q written helpers rows) → count ≡ length rows → frame ≡ frame_of al q → ws ≡ written →
    InsideRows n count frame ws old.rows.items new.rows.items →
    new.columns.items ≡ (old.columns.items ++ repeated (2 * n) (length ws)) ++ repeated (2 * n) helpers → ReadsLetter al n a old new
inside_given al n a q written helpers rows old new count frame ws i c f w e h =
    inside_read al n a q written helpers rows old new i
    (subst (λ (k : ℕ). InsideRows n k (frame_of al q) written old.rows.items new.rows.items) c
    (subst (λ (x : Columns). InsideRows n count x written old.rows.items new.rows.items) f
    (subst (λ (x : List ℕ). InsideRows n count frame x old.rows.items new.rows.items) w e)))
    (subst (λ (x : List ℕ). new.columns.items ≡ (old.columns.items ++ repeated (2 * n) (length x)) ++ repeated (2 * n) helpers) w h)

abbrev pub CallRows : ℕ → ℕ → Columns → List ℕ → List ℕ → Type 0
CallRows n count f old new =
    new ≡ (((old ++ repeated (2 * n) count) ++ repeated (suc (2 * n)) (length (filter is_variable f))) ++
    (repeated (suc (2 * n)) (length (filter is_bool (local_columns f))) ++ repeated (suc (2 * n)) (length (filter is_bool (local_columns f))))) ++
    (repeated (suc (2 * n)) (length (filter is_bool (old_part f))) ++ repeated (suc (2 * n)) (length (filter is_bool (old_part f))))

abbrev pub CallColumns : ℕ → ℕ → Columns → List ℕ → List ℕ → Type 0
CallColumns n helpers f old new =
    new ≡ ((old ++ repeated (suc (2 * n)) (length (local_columns f))) ++ repeated (2 * n) helpers) ++ repeated (suc (2 * n)) (length (old_part f))

pub call_given : (al : Alphabet) (n : ℕ) (a : Letter) (caller callee helpers : ℕ) (rows : List LinearRow) (old new : Stamps) (count : ℕ) (frame : Columns) →
    act_of al a ≡ Some (call_act caller callee helpers rows) → count ≡ length rows → frame ≡ frame_of al callee →
    CallRows n count frame old.rows.items new.rows.items → CallColumns n helpers frame old.columns.items new.columns.items → ReadsLetter al n a old new
call_given al n a caller callee helpers rows old new count frame i c f e h =
    call_read al n a caller callee helpers rows old new i
    (subst (λ (k : ℕ). CallRows n k (frame_of al callee) old.rows.items new.rows.items) c
    (subst (λ (x : Columns). CallRows n count x old.rows.items new.rows.items) f e))
    (subst (λ (x : Columns). CallColumns n helpers x old.columns.items new.columns.items) f h)
