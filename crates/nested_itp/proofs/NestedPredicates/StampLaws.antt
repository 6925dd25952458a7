-- Stamps are those of letters of the word: each row and each column has one, which is counted at some position.
use Rattle.std.proofs.Common.{◌≡◌, ℕ, zero, suc, ◌+◌, ◌*◌, ◌≤◌, ◌<◌, List, [], ◌∷◌, ◌++◌, length, map, refl, ap, arith, length-append, Option, None, Some}
use Rattle.std.specs.Prelude.{slice_index}
use Rattle.std.specs.List.{AllByRecursion}
use Rattle.std.proofs.lemmas.List.{length-map}
use Rattle.nwa_base.specs.declared.letters.Letter.{Letter}
use Rattle.lin_rows.specs.Rows.{LinearRow}
use Rattle.lin_rows.specs.Tightening.{tightened}
use Rattle.letter_acts.specs.Frames.{Columns}
use Rattle.letter_acts.specs.Acts.{PlainAct, inside_act, call_act, back_act, Alphabet, frame_of, act_of}
use Rattle.letter_acts.specs.Invariant.{Graph, alphabet_of}
use Rattle.letter_acts.specs.FrameRows.Rows.{bounds, types_of}
use Rattle.path_rows.specs.Versions.{PathStage, Part, part_rows, local_columns, old_part, part_of}
use Rattle.path_rows.specs.Paths.{repeated, start_frame, first_stage, path_along, path_of}
use Rattle.nested_itp.specs.NestedPredicates.Stamps.{stamp_of, callee_stamp, row_stamps, call_stamps, column_stamps, stamps_along, stamps_of, column_stamp}
use Rattle.nested_itp.specs.NestedPredicates.Sums.{Branch, root_of, with_cut}

-- a stamp that is counted at some position below a limit
abbrev pub IsWithin : ℕ → ℕ → Type 0
IsWithin limit s = (2 ≤ s) × (s < limit)

-- ---- lists

all_joined : {X : Type 0} (P : X → Type 0) (xs ys : List X) → AllByRecursion P xs → AllByRecursion P ys → AllByRecursion P (xs ++ ys)
all_joined P [] ys h k = k
all_joined P (x ∷ xs) ys h k = (h.0, all_joined P xs ys h.1 k)

all_repeated : (P : ℕ → Type 0) (x n : ℕ) → P x → AllByRecursion P (repeated x n)
all_repeated P x zero h = tt
all_repeated P x (suc n) h = (h, all_repeated P x n h)

length-repeated : (x n : ℕ) → length (repeated x n) ≡ n
length-repeated x zero = refl
length-repeated x (suc n) = ap suc (length-repeated x n)

pub index_within : (P : ℕ → Type 0) (stamps : List ℕ) (k : ℕ) → k < length stamps → AllByRecursion P stamps → P (slice_index stamps k)
index_within P [] k l h = absurd (omega (arith, l))
index_within P (x ∷ xs) zero l h = h.0
index_within P (x ∷ xs) (suc k) l h = index_within P xs k (omega (arith, l)) h.1

pub stamp_within : (limit c : ℕ) (columns : List ℕ) → 2 < limit → AllByRecursion (IsWithin limit) columns → IsWithin limit (column_stamp columns c)
stamp_within limit c [] l h = (omega arith, omega (arith, l))
stamp_within limit zero (x ∷ xs) l h = h.0
stamp_within limit (suc c) (x ∷ xs) l h = stamp_within limit c xs l h.1

-- ---- letters

rows_within : (P : ℕ → Type 0) (n : ℕ) (act : Option PlainAct) (part : Part) → P (stamp_of n) → P (callee_stamp n) → AllByRecursion P (row_stamps n act part)
rows_within P n None part h k = all_repeated P (stamp_of n) (length (part_rows part)) h
rows_within P n (Some (inside_act q written helpers rows)) part h k = all_repeated P (stamp_of n) (length (part_rows part)) h
rows_within P n (Some (call_act caller callee helpers rows)) part h k =
    all_joined P (repeated (stamp_of n) (length part.own)) (repeated (callee_stamp n) (length (part.entries ++ part.bounds)))
    (all_repeated P (stamp_of n) (length part.own) h) (all_repeated P (callee_stamp n) (length (part.entries ++ part.bounds)) k)
rows_within P n (Some (back_act c targets)) part h k = all_repeated P (stamp_of n) (length (part_rows part)) h

call_within : (P : ℕ → Type 0) (n : ℕ) (callee : Columns) (helpers : ℕ) → P (stamp_of n) → P (callee_stamp n) → AllByRecursion P (call_stamps n callee helpers)
call_within P n callee helpers h k =
    all_joined P (repeated (callee_stamp n) (length (local_columns callee))) (repeated (stamp_of n) helpers ++ repeated (callee_stamp n) (length (old_part callee)))
    (all_repeated P (callee_stamp n) (length (local_columns callee)) k)
    (all_joined P (repeated (stamp_of n) helpers) (repeated (callee_stamp n) (length (old_part callee)))
    (all_repeated P (stamp_of n) helpers h) (all_repeated P (callee_stamp n) (length (old_part callee)) k))

columns_within : (P : ℕ → Type 0) (al : Alphabet) (n : ℕ) (act : Option PlainAct) (part : Part) → P (stamp_of n) → P (callee_stamp n) →
    AllByRecursion P (column_stamps al n act part)
columns_within P al n None part h k = all_repeated P (stamp_of n) part.columns h
columns_within P al n (Some (inside_act q written helpers rows)) part h k = all_repeated P (stamp_of n) part.columns h
columns_within P al n (Some (call_act caller callee helpers rows)) part h k = call_within P n (frame_of al callee) helpers h k
columns_within P al n (Some (back_act c targets)) part h k = all_repeated P (stamp_of n) part.columns h

rows_along_within : (limit : ℕ) (al : Alphabet) (n : ℕ) (p : PathStage) (w : List Letter) → 1 ≤ n → 2 * (n + length w) ≤ limit →
    AllByRecursion (IsWithin limit) (stamps_along al n p w).rows
rows_along_within limit al n p [] one l = tt
rows_along_within limit al n p (a ∷ w) one l =
    all_joined (IsWithin limit) (row_stamps n (act_of al a) (part_of al a p)) (stamps_along al (suc n) (part_of al a p).after w).rows
    (rows_within (IsWithin limit) n (act_of al a) (part_of al a p) (omega (arith, one, l), omega (arith, one, l)) (omega (arith, one, l), omega (arith, one, l)))
    (rows_along_within limit al (suc n) (part_of al a p).after w (omega arith) (omega (arith, l)))

columns_along_within : (limit : ℕ) (al : Alphabet) (n : ℕ) (p : PathStage) (w : List Letter) → 1 ≤ n → 2 * (n + length w) ≤ limit →
    AllByRecursion (IsWithin limit) (stamps_along al n p w).columns
columns_along_within limit al n p [] one l = tt
columns_along_within limit al n p (a ∷ w) one l =
    all_joined (IsWithin limit) (column_stamps al n (act_of al a) (part_of al a p)) (stamps_along al (suc n) (part_of al a p).after w).columns
    (columns_within (IsWithin limit) al n (act_of al a) (part_of al a p) (omega (arith, one, l), omega (arith, one, l)) (omega (arith, one, l), omega (arith, one, l)))
    (columns_along_within limit al (suc n) (part_of al a p).after w (omega arith) (omega (arith, l)))

pub columns_of_word_within : (limit : ℕ) (g : Graph) (w : List Letter) → 2 < limit → 2 * (1 + length w) ≤ limit →
    AllByRecursion (IsWithin limit) (stamps_of g w).columns
columns_of_word_within limit g w two l =
    all_joined (IsWithin limit) (repeated (stamp_of 1) (length (start_frame g))) (stamps_along (alphabet_of g) 1 (first_stage (start_frame g)) w).columns
    (all_repeated (IsWithin limit) (stamp_of 1) (length (start_frame g)) (omega arith, omega (arith, two)))
    (columns_along_within limit (alphabet_of g) 1 (first_stage (start_frame g)) w (omega arith) l)

-- ---- as many as rows

rows_of_letter : (n : ℕ) (act : Option PlainAct) (part : Part) → length (row_stamps n act part) ≡ length (part_rows part)
rows_of_letter n None part = length-repeated (stamp_of n) (length (part_rows part))
rows_of_letter n (Some (inside_act q written helpers rows)) part = length-repeated (stamp_of n) (length (part_rows part))
rows_of_letter n (Some (call_act caller callee helpers rows)) part =
    let own : List ℕ = repeated (stamp_of n) (length part.own) in
    let rest : List ℕ = repeated (callee_stamp n) (length (part.entries ++ part.bounds)) in
    let a : length (own ++ rest) ≡ length own + length rest = length-append own rest in
    let b : length own ≡ length part.own = length-repeated (stamp_of n) (length part.own) in
    let c : length rest ≡ length (part.entries ++ part.bounds) = length-repeated (callee_stamp n) (length (part.entries ++ part.bounds)) in
    let d : length (part.own ++ (part.entries ++ part.bounds)) ≡ length part.own + length (part.entries ++ part.bounds) = length-append part.own (part.entries ++ part.bounds) in
    omega (arith, a, b, c, d)
rows_of_letter n (Some (back_act c targets)) part = length-repeated (stamp_of n) (length (part_rows part))

rows_along_counted : (al : Alphabet) (n : ℕ) (p : PathStage) (w : List Letter) → length (stamps_along al n p w).rows ≡ length (path_along al n p w).rows
rows_along_counted al n p [] = refl
rows_along_counted al n p (a ∷ w) =
    let part : Part = part_of al a p in
    let s : List ℕ = row_stamps n (act_of al a) part in
    let more : List ℕ = (stamps_along al (suc n) part.after w).rows in
    let rest : List LinearRow = (path_along al (suc n) part.after w).rows in
    let x : length (s ++ more) ≡ length s + length more = length-append s more in
    let y : length (part_rows part ++ rest) ≡ length (part_rows part) + length rest = length-append (part_rows part) rest in
    let z : length s ≡ length (part_rows part) = rows_of_letter n (act_of al a) part in
    let r : length more ≡ length rest = rows_along_counted al (suc n) part.after w in
    omega (arith, x, y, z, r)

-- ---- branches

-- each row of the branch has a stamp below the limit
pub record IsStamped (limit : ℕ) (b : Branch) : Type 0 where
  pub as_many : length b.stamps ≡ length b.rows
  pub within : AllByRecursion (IsWithin limit) b.stamps

pub root_stamped : (limit : ℕ) (g : Graph) (w : List Letter) → 2 < limit → 2 * (1 + length w) ≤ limit → IsStamped limit (root_of g w)
root_stamped limit g w two l =
    let al : Alphabet = alphabet_of g in
    let frame : Columns = start_frame g in
    let first : List LinearRow = bounds 0 (types_of frame) in
    let s : List ℕ = repeated (stamp_of 1) (length first) in
    let more : List ℕ = (stamps_along al 1 (first_stage frame) w).rows in
    let rest : List LinearRow = (path_along al 1 (first_stage frame) w).rows in
    let m : length (map tightened (path_of g w).rows) ≡ length (path_of g w).rows = length-map (path_of g w).rows tightened in
    let x : length (s ++ more) ≡ length s + length more = length-append s more in
    let y : length (first ++ rest) ≡ length first + length rest = length-append first rest in
    let z : length s ≡ length first = length-repeated (stamp_of 1) (length first) in
    let r : length more ≡ length rest = rows_along_counted al 1 (first_stage frame) w in
    record {
      as_many = omega (arith, m, x, y, z, r);
      within = all_joined (IsWithin limit) s more (all_repeated (IsWithin limit) (stamp_of 1) (length first) (omega arith, omega (arith, two)))
          (rows_along_within limit al 1 (first_stage frame) w (omega arith) l);
    }

pub cut_stamped : (limit : ℕ) (b : Branch) (stamp : ℕ) (row : LinearRow) → IsWithin limit stamp → IsStamped limit b → IsStamped limit (with_cut b stamp row)
cut_stamped limit b stamp row i h =
    let x : length (b.stamps ++ stamp ∷ []) ≡ length b.stamps + 1 = length-append b.stamps (stamp ∷ []) in
    let y : length (b.rows ++ row ∷ []) ≡ length b.rows + 1 = length-append b.rows (row ∷ []) in
    record {
      as_many = omega (arith, x, y, h.as_many);
      within = all_joined (IsWithin limit) b.stamps (stamp ∷ []) h.within (i, tt);
    }
