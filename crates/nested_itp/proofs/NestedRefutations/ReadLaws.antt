-- How far a word is read: the rows and columns before the next letter, and their stamps.
use Rattle.std.proofs.Common.{◌≡◌, ◌∙◌, ◌⊎◌, inl, inr, ℕ, zero, suc, ◌+◌, ◌*◌, ◌<◌, ◌≤◌, List, [], ◌∷◌, ◌++◌, length, refl, sym, ap, arith, length-append, append_assoc, Option, None, Some}
use Rattle.std.specs.Prelude.{slice_get}
use Rattle.std.specs.List.{AllByRecursion}
use Rattle.nwa_base.specs.declared.letters.Letter.{Letter}
use Rattle.lin_rows.specs.Rows.{LinearRow}
use Rattle.letter_acts.specs.Frames.{Columns}
use Rattle.letter_acts.specs.Acts.{PlainAct, inside_act, call_act, back_act, Alphabet, frame_of, act_of}
use Rattle.letter_acts.specs.Invariant.{Graph, alphabet_of}
use Rattle.letter_acts.specs.FrameRows.Rows.{bounds, types_of}
use Rattle.path_rows.specs.Versions.{PathStage, Part, part_rows, local_columns, old_part, back_part, return_part, act_part, part_of}
use Rattle.path_rows.specs.Paths.{repeated, start_frame, first_stage, path_along, path_of}
use Rattle.nested_itp.specs.NestedPredicates.Stamps.{stamp_of, callee_stamp, row_stamps, column_stamps, stamps_along, stamps_of}
use Rattle.nested_itp.specs.NestedPredicates.Positions.{start_scope}
use Rattle.nested_itp.specs.NestedRefutations.Numbers.{bounds_in, Reading, read_on}
use Rattle.nested_itp.proofs.NestedRefutations.NamesLaws.{NamesOnly, names_weaker, all_joined, bounds_named}

-- the stamp of what the start or one of so many letters makes
abbrev pub IsEarly : ℕ → ℕ → Type 0
IsEarly letters s = (2 ≤ s) × ((s ≡ 2) ⊎ (s < 2 + 2 * letters))

-- the word is read so far, and this is its rest
pub record ReadTo (g : Graph) (w : List Letter) (r : Reading) (rest : List Letter) : Type 0 where
  pub front : List LinearRow
  pub early : List ℕ
  pub columns : List ℕ
  pub rows : (path_of g w).rows ≡ front ++ (path_along (alphabet_of g) (suc r.letters) r.stage rest).rows
  pub stamps : (stamps_of g w).rows ≡ early ++ (stamps_along (alphabet_of g) (suc r.letters) r.stage rest).rows
  pub column_stamps : (stamps_of g w).columns ≡ columns ++ (stamps_along (alphabet_of g) (suc r.letters) r.stage rest).columns
  pub row_count : length front ≡ r.rows
  pub early_count : length early ≡ length front
  pub made : length columns ≡ r.stage.made
  pub early_within : AllByRecursion (IsEarly r.letters) early
  pub columns_within : AllByRecursion (IsEarly r.letters) columns
  pub named : AllByRecursion (NamesOnly (λ x. x < r.stage.made)) front

all_repeated : (P : ℕ → Type 0) (x n : ℕ) → P x → AllByRecursion P (repeated x n)
all_repeated P x zero h = tt
all_repeated P x (suc n) h = (h, all_repeated P x n h)

length-repeated : (x n : ℕ) → length (repeated x n) ≡ n
length-repeated x zero = refl
length-repeated x (suc n) = ap suc (length-repeated x n)

all_weaker : (P Q : ℕ → Type 0) → ((s : ℕ) → P s → Q s) → (ss : List ℕ) → AllByRecursion P ss → AllByRecursion Q ss
all_weaker P Q f [] h = tt
all_weaker P Q f (s ∷ ss) h = (f s h.0, all_weaker P Q f ss h.1)

-- the stamps of a letter's rows and columns are its own two
rows_stamped : (P : ℕ → Type 0) (n : ℕ) (act : Option PlainAct) (part : Part) → P (stamp_of n) → P (callee_stamp n) → AllByRecursion P (row_stamps n act part)
rows_stamped P n None part h k = all_repeated P (stamp_of n) (length (part_rows part)) h
rows_stamped P n (Some (inside_act q written helpers rows)) part h k = all_repeated P (stamp_of n) (length (part_rows part)) h
rows_stamped P n (Some (call_act caller callee helpers rows)) part h k =
    all_joined P (repeated (stamp_of n) (length part.own)) (repeated (callee_stamp n) (length (part.entries ++ part.bounds)))
    (all_repeated P (stamp_of n) (length part.own) h) (all_repeated P (callee_stamp n) (length (part.entries ++ part.bounds)) k)
rows_stamped P n (Some (back_act c targets)) part h k = all_repeated P (stamp_of n) (length (part_rows part)) h

columns_stamped : (P : ℕ → Type 0) (al : Alphabet) (n : ℕ) (act : Option PlainAct) (part : Part) → P (stamp_of n) → P (callee_stamp n) → AllByRecursion P (column_stamps al n act part)
columns_stamped P al n None part h k = all_repeated P (stamp_of n) part.columns h
columns_stamped P al n (Some (inside_act q written helpers rows)) part h k = all_repeated P (stamp_of n) part.columns h
columns_stamped P al n (Some (call_act caller callee helpers rows)) part h k =
    all_joined P (repeated (callee_stamp n) (length (local_columns (frame_of al callee)))) (repeated (stamp_of n) helpers ++ repeated (callee_stamp n) (length (old_part (frame_of al callee))))
    (all_repeated P (callee_stamp n) (length (local_columns (frame_of al callee))) k)
    (all_joined P (repeated (stamp_of n) helpers) (repeated (callee_stamp n) (length (old_part (frame_of al callee))))
    (all_repeated P (stamp_of n) helpers h) (all_repeated P (callee_stamp n) (length (old_part (frame_of al callee))) k))
columns_stamped P al n (Some (back_act c targets)) part h k = all_repeated P (stamp_of n) part.columns h

pub rows_counted : (n : ℕ) (act : Option PlainAct) (part : Part) → length (row_stamps n act part) ≡ length (part_rows part)
rows_counted n None part = length-repeated (stamp_of n) (length (part_rows part))
rows_counted n (Some (inside_act q written helpers rows)) part = length-repeated (stamp_of n) (length (part_rows part))
rows_counted n (Some (call_act caller callee helpers rows)) part =
    let a = length-append (repeated (stamp_of n) (length part.own)) (repeated (callee_stamp n) (length (part.entries ++ part.bounds))) in
    let b = length-repeated (stamp_of n) (length part.own) in
    let c = length-repeated (callee_stamp n) (length (part.entries ++ part.bounds)) in
    let d = length-append part.own (part.entries ++ part.bounds) in
    omega (arith, a, b, c, d)
rows_counted n (Some (back_act c targets)) part = length-repeated (stamp_of n) (length (part_rows part))

back_made : (al : Alphabet) (targets : List ℕ) (o : Option PlainAct) (n : ℕ) (p : PathStage) → length (repeated (stamp_of n) (return_part al targets o p).columns) + p.made ≡ (return_part al targets o p).after.made
back_made al targets None n p = omega arith
back_made al targets (Some (inside_act q written helpers rows)) n p = omega arith
back_made al targets (Some (call_act caller callee helpers rows)) n p = by_saved p.saved
  where
    by_saved : (saved : List (List ℕ)) → length (repeated (stamp_of n) (back_part (frame_of al caller) (frame_of al callee) targets p.made p.here saved).columns) + p.made ≡
        (back_part (frame_of al caller) (frame_of al callee) targets p.made p.here saved).after.made
    by_saved [] = omega arith
    by_saved (before ∷ saved) = omega arith
back_made al targets (Some (back_act c more)) n p = omega arith

columns_counted : (al : Alphabet) (n : ℕ) (act : Option PlainAct) (p : PathStage) → length (column_stamps al n act (act_part al act p)) + p.made ≡ (act_part al act p).after.made
columns_counted al n None p = omega arith
columns_counted al n (Some (inside_act q written helpers rows)) p = let e = length-repeated (stamp_of n) (length written + helpers) in omega (arith, e)
columns_counted al n (Some (call_act caller callee helpers rows)) p =
    let locals : ℕ = length (local_columns (frame_of al callee)) in
    let olds : ℕ = length (old_part (frame_of al callee)) in
    let a = length-append (repeated (callee_stamp n) locals) (repeated (stamp_of n) helpers ++ repeated (callee_stamp n) olds) in
    let b = length-append (repeated (stamp_of n) helpers) (repeated (callee_stamp n) olds) in
    let c = length-repeated (callee_stamp n) locals in
    let d = length-repeated (stamp_of n) helpers in
    let e = length-repeated (callee_stamp n) olds in
    omega (arith, a, b, c, d, e)
columns_counted al n (Some (back_act c targets)) p = back_made al targets (slice_get al.acts c) n p

-- before the first letter
pub read_none : (g : Graph) (w : List Letter) → ReadTo g w (record {
  letters = 0;
  rows = bounds_in (start_frame g);
  stage = first_stage (start_frame g);
  scopes = start_scope g ∷ [];
  calls = [];
}) w
read_none g w =
    let frame : Columns = start_frame g in
    record {
      front = bounds 0 (types_of frame);
      early = repeated (stamp_of 1) (length (bounds 0 (types_of frame)));
      columns = repeated (stamp_of 1) (length frame);
      rows = refl;
      stamps = refl;
      column_stamps = refl;
      row_count = refl;
      early_count = length-repeated (stamp_of 1) (length (bounds 0 (types_of frame)));
      made = length-repeated (stamp_of 1) (length frame);
      early_within = all_repeated (IsEarly 0) (stamp_of 1) (length (bounds 0 (types_of frame))) (omega arith, inl refl);
      columns_within = all_repeated (IsEarly 0) (stamp_of 1) (length frame) (omega arith, inl refl);
      named = names_weaker (λ x. (0 ≤ x) × (x < 0 + length (types_of frame))) (λ x. x < length frame) (λ x h. (let a = h.1 in let b = length_types frame in omega (arith, a, b)))
          (bounds 0 (types_of frame)) (bounds_named 0 (types_of frame));
    }
  where
    length_types : (frame : Columns) → length (types_of frame) ≡ length frame
    length_types [] = refl
    length_types (c ∷ frame) = ap suc (length_types frame)

later : (n s : ℕ) → IsEarly n s → IsEarly (suc n) s
later n s (l, inl e) = (l, inl e)
later n s (l, inr k) = (l, inr (omega (arith, k)))

-- one letter more
pub read_next : (g : Graph) (w : List Letter) (r : Reading) (a : Letter) (rest : List Letter) → ReadTo g w r (a ∷ rest) →
    AllByRecursion (NamesOnly (λ x. x < (part_of (alphabet_of g) a r.stage).after.made)) (part_rows (part_of (alphabet_of g) a r.stage)) → r.stage.made ≤ (part_of (alphabet_of g) a r.stage).after.made →
    ReadTo g w (read_on (alphabet_of g) a rest r) rest
read_next g w r a rest h names grows =
    let al : Alphabet = alphabet_of g in
    let part : Part = part_of al a r.stage in
    let n : ℕ = suc r.letters in
    let rs : List ℕ = row_stamps n (act_of al a) part in
    let cs : List ℕ = column_stamps al n (act_of al a) part in
    let made = h.made in
    let count = columns_counted al n (act_of al a) r.stage in
    let both = length-append h.columns cs in
    let fr = length-append h.front (part_rows part) in
    let er = length-append h.early rs in
    let rc = rows_counted n (act_of al a) part in
    let c0 = h.row_count in
    let c1 = h.early_count in
    record {
      front = h.front ++ part_rows part;
      early = h.early ++ rs;
      columns = h.columns ++ cs;
      rows = h.rows ∙ sym (append_assoc h.front (part_rows part) (path_along al (suc n) part.after rest).rows);
      stamps = h.stamps ∙ sym (append_assoc h.early rs (stamps_along al (suc n) part.after rest).rows);
      column_stamps = h.column_stamps ∙ sym (append_assoc h.columns cs (stamps_along al (suc n) part.after rest).columns);
      row_count = omega (arith, fr, c0);
      early_count = omega (arith, fr, er, rc, c1);
      made = omega (arith, both, made, count);
      early_within = all_joined (IsEarly n) h.early rs (all_weaker (IsEarly r.letters) (IsEarly n) (λ s k. later r.letters s k) h.early h.early_within)
          (rows_stamped (IsEarly n) n (act_of al a) part (omega arith, inr (omega arith)) (omega arith, inr (omega arith)));
      columns_within = all_joined (IsEarly n) h.columns cs (all_weaker (IsEarly r.letters) (IsEarly n) (λ s k. later r.letters s k) h.columns h.columns_within)
          (columns_stamped (IsEarly n) al n (act_of al a) part (omega arith, inr (omega arith)) (omega arith, inr (omega arith)));
      named = all_joined (NamesOnly (λ x. x < part.after.made)) h.front (part_rows part)
          (names_weaker (λ x. x < r.stage.made) (λ x. x < part.after.made) (λ x l. omega (arith, l, grows)) h.front h.named) names;
    }

-- the stamps of the letters from number n on
pub stamps_from : (al : Alphabet) (n : ℕ) (p : PathStage) (w : List Letter) → AllByRecursion (λ s. 2 * n ≤ s) (stamps_along al n p w).rows × AllByRecursion (λ s. 2 * n ≤ s) (stamps_along al n p w).columns
stamps_from al n p [] = (tt, tt)
stamps_from al n p (a ∷ w) =
    let part : Part = part_of al a p in
    let h = stamps_from al (suc n) part.after w in
    let f : (s : ℕ) → 2 * suc n ≤ s → 2 * n ≤ s = λ s l. omega (arith, l) in (
      all_joined (λ s. 2 * n ≤ s) (row_stamps n (act_of al a) part) (stamps_along al (suc n) part.after w).rows
          (rows_stamped (λ s. 2 * n ≤ s) n (act_of al a) part (omega arith) (omega arith)) (all_weaker (λ s. 2 * suc n ≤ s) (λ s. 2 * n ≤ s) f (stamps_along al (suc n) part.after w).rows h.0),
      all_joined (λ s. 2 * n ≤ s) (column_stamps al n (act_of al a) part) (stamps_along al (suc n) part.after w).columns
          (columns_stamped (λ s. 2 * n ≤ s) al n (act_of al a) part (omega arith) (omega arith)) (all_weaker (λ s. 2 * suc n ≤ s) (λ s. 2 * n ≤ s) f (stamps_along al (suc n) part.after w).columns h.1),
    )
