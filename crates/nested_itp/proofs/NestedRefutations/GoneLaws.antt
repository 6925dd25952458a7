-- Which versions an inside letter leaves for good.
use Rattle.std.proofs.Common.{◌≡◌, ◌∙◌, ◌⊎◌, inl, inr, ℕ, zero, suc, ◌+◌, ◌<◌, ◌≤◌, Bool, true, false, List, [], ◌∷◌, ◌++◌, length, drop, sym, ap, subst, arith}
use Rattle.std.specs.Prelude.{slice_index}
use Rattle.std.specs.List.{AllByRecursion}
use Rattle.nwa_base.specs.declared.letters.Letter.{Letter}
use Rattle.nwa_base.specs.Members.{Member}
use Rattle.lin_rows.specs.Rows.{LinearRow}
use Rattle.letter_acts.specs.Frames.{Columns, added, is_global, places, globals_of}
use Rattle.letter_acts.specs.Acts.{frame_of}
use Rattle.letter_acts.specs.Invariant.{Graph, alphabet_of, AreDistinct}
use Rattle.path_rows.specs.Versions.{PathStage, written_over, inside_part}
use Rattle.letter_acts.specs.FrameRows.Rows.{columns_from}
use Rattle.path_rows.specs.Stages.{AreVersions, AreSaved}
use Rattle.path_rows.proofs.DifferLemmas.{length_written, place_of, dropped_at}
use Rattle.triple_rows.specs.Systems.{after_column}
use Rattle.nested_itp.specs.NestedPredicates.Walking.{unmatched}
use Rattle.nested_itp.proofs.NestedRefutations.NamesLaws.{member_dropped}
use Rattle.nested_itp.proofs.NestedRefutations.LiveLaws.{InSaved, Live}
use Rattle.nested_itp.proofs.NestedRefutations.VersionLaws.{index_left, index_right, columns_at, columns_count, places_differ, split_at, AfterAt, StaysAt, after_cases}
use Rattle.nested_itp.proofs.NestedRefutations.WordLaws.{HaveGlobals}

pub member_below : (n : ℕ) (xs : List ℕ) (x : ℕ) → AllByRecursion (λ c. c < n) xs → Member xs x → x < n
member_below n [] x h m = absurd m
member_below n (y ∷ xs) x h (inl e) = subst (λ (z : ℕ). z < n) e h.0
member_below n (y ∷ xs) x h (inr m) = member_below n xs x h.1 m

pub below_at : (n : ℕ) (xs : List ℕ) (j : ℕ) → AllByRecursion (λ c. c < n) xs → j < length xs → slice_index xs j < n
below_at n [] j h l = absurd (omega (arith, l))
below_at n (x ∷ xs) zero h l = h.0
below_at n (x ∷ xs) (suc j) h l = below_at n xs j h.1 (omega (arith, l))

-- ---- the frames before open calls

pub places_within : {X : Type 0} (test : X → Bool) (n : ℕ) (xs : List X) → length (places test n xs) ≤ length xs
places_within test n [] = omega arith
places_within test n (x ∷ xs) = by_test (test x) (places_within test (suc n) xs)
  where
    by_test : (z : Bool) → length (places test (suc n) xs) ≤ length xs → length (added z n (places test (suc n) xs)) ≤ suc (length xs)
    by_test true l = omega (arith, l)
    by_test false l = omega (arith, l)

pub saved_below : (g : Graph) (globals made : ℕ) (places : List ℕ) (saved : List (List ℕ)) (here : List ℕ) → AreSaved g made places saved here → (k x : ℕ) → InSaved globals k saved x → x < made
saved_below g globals made places saved here h zero x i = absurd i
saved_below g globals made places [] here h (suc k) x i = absurd i
saved_below g globals made [] (v ∷ saved) here h (suc k) x i = absurd h
saved_below g globals made (p ∷ places) (v ∷ saved) here h (suc k) x (inl m) =
    let b = member_below h.0 v x h.2.versions.below (member_dropped globals v x m) in
    let l = h.1 in
    omega (arith, b, l)
saved_below g globals made (p ∷ places) (v ∷ saved) here h (suc k) x (inr i) =
    let b = saved_below g globals h.0 places saved v h.4 k x i in
    let l = h.1 in
    omega (arith, b, l)

-- no version of the frame is that of a column behind the globals in a frame before an open call
pub saved_apart : (g : Graph) (globals : ℕ) → HaveGlobals g globals → (made : ℕ) (places : List ℕ) (saved : List (List ℕ)) (here : List ℕ) → AreSaved g made places saved here → (k j : ℕ) → j < length here →
    InSaved globals k saved (slice_index here j) → ⊥
saved_apart g globals have made places saved here h zero j l i = i
saved_apart g globals have made places [] here h (suc k) j l i = i
saved_apart g globals have made [] (v ∷ saved) here h (suc k) j l i = absurd h
saved_apart g globals have made (p ∷ places) (v ∷ saved) here h (suc k) j l i = by_apart (λ b m. saved_apart g globals have h.0 places saved v h.4 k j b m) (h.3 j l) i
  where
    x : ℕ
    x = slice_index here j

    frame : Columns
    frame = frame_of (alphabet_of g) h.2.proc

    by_apart : (j < length v → InSaved globals k saved (slice_index v j) → ⊥) → (h.0 ≤ x) ⊎ ((j < length (globals_of frame)) × (x ≡ slice_index v j)) → Member (drop globals v) x ⊎ InSaved globals k saved x → ⊥
    by_apart deeper (inl a) (inl m) = let b = member_below h.0 v x h.2.versions.below (member_dropped globals v x m) in omega (arith, a, b)
    by_apart deeper (inl a) (inr m) = let b = saved_below g globals h.0 places saved v h.4 k x m in omega (arith, a, b)
    by_apart deeper (inr e) (inl m) =
        let s = dropped_at globals v x m in
        let low = s.from_low in
        let within = s.within in
        let c = have h.2.proc h.2.exists in
        let b : j < length (globals_of frame) = e.0 in
        let same : j ≡ s.at = places_differ v h.2.versions.differ j s.at (omega (arith, low, within, c, b)) within (sym e.1 ∙ sym s.there) in
        omega (arith, low, c, b, same)
    by_apart deeper (inr e) (inr m) =
        let b : j < length (globals_of frame) = e.0 in
        let long = h.2.versions.long in
        let short = places_within is_global 0 frame in
        deeper (omega (arith, b, long, short)) (subst (InSaved globals k saved) e.1 m)

-- ---- an inside letter

-- the version of a column of its system which is none of the state after it is not live
pub inside_gone : (g : Graph) (globals : ℕ) → HaveGlobals g globals → (frame : Columns) (written : List ℕ) (helpers : ℕ) (rows : List LinearRow) (p : PathStage) (places : List ℕ) →
    AreVersions p.made frame p.here → AreSaved g p.made places p.saved p.here → AreDistinct written → (rest : List Letter) (x : ℕ) → x < length p.here + (length written + helpers) →
    ((j : ℕ) → j < length p.here → after_column 0 (length p.here) written j ≡ x → ⊥) →
    Live globals (inside_part frame written helpers rows p).after rest (slice_index (p.here ++ columns_from p.made (length written + helpers)) x) → ⊥
inside_gone g globals have frame written helpers rows p places v saved distinct rest x within off live = by_part (split_at n x) live
  where
    n : ℕ
    n = length p.here

    count : ℕ
    count = length written + helpers

    news : List ℕ
    news = columns_from p.made (length written)

    y : ℕ
    y = slice_index (p.here ++ columns_from p.made count) x

    old_one : x < n → y ≡ slice_index p.here x
    old_one l = index_left p.here (columns_from p.made count) x l

    new_one : (i : ℕ) → x ≡ n + i → y ≡ p.made + i
    new_one i e = ap (slice_index (p.here ++ columns_from p.made count)) e ∙ index_right p.here (columns_from p.made count) i ∙ columns_at p.made count i (omega (arith, e, within))

    new_at : (place : ℕ) → place < length written → slice_index news place ≡ p.made + place
    new_at place l = columns_at p.made (length written) place l

    -- it stands in the state after the letter
    stands_old : x < n → (j : ℕ) → j < n → slice_index (written_over p.here written news) j ≡ y → AfterAt n n written p.here news j ⊎ StaysAt n written p.here news j → ⊥
    stands_old l j b e (inl h) =
        let a : slice_index p.here x < p.made = below_at p.made p.here x v.below l in
        let c = old_one l in
        let d = h.version in
        let f = new_at h.place h.is_written in
        omega (arith, a, c, d, e, f)
    stands_old l j b e (inr h) =
        let same : j ≡ x = places_differ p.here v.differ j x b l (sym h.version ∙ e ∙ old_one l) in
        off j b (h.column ∙ same)

    stands_new : (i : ℕ) → x ≡ n + i → (j : ℕ) → j < n → slice_index (written_over p.here written news) j ≡ y → AfterAt n n written p.here news j ⊎ StaysAt n written p.here news j → ⊥
    stands_new i q j b e (inl h) =
        let c = new_one i q in
        let d = h.version in
        let f = new_at h.place h.is_written in
        off j b (h.column ∙ (let k : n + h.place ≡ x = omega (arith, q, c, d, e, f) in k))
    stands_new i q j b e (inr h) =
        let a : slice_index p.here j < p.made = below_at p.made p.here j v.below b in
        let c = new_one i q in
        let d = h.version in
        omega (arith, a, c, d, e)

    cases : (j : ℕ) → j < n → AfterAt n n written p.here news j ⊎ StaysAt n written p.here news j
    cases j b = after_cases n n written p.here news j distinct (columns_count p.made (length written)) b

    by_part : (x < n) ⊎ ((i : ℕ) × (x ≡ n + i)) → (p.made + count ≤ y) ⊎ (Member (written_over p.here written news) y ⊎ InSaved globals (unmatched rest) p.saved y) → ⊥
    by_part (inl l) (inl k) = let a : slice_index p.here x < p.made = below_at p.made p.here x v.below l in let c = old_one l in omega (arith, a, c, k)
    by_part (inl l) (inr (inl m)) =
        let s = place_of (written_over p.here written news) y m in
        let b : s.at < n = (let w = s.within in let k = length_written p.here written news in omega (arith, w, k)) in
        stands_old l s.at b s.there (cases s.at b)
    by_part (inl l) (inr (inr m)) = saved_apart g globals have p.made places p.saved p.here saved (unmatched rest) x l (subst (InSaved globals (unmatched rest) p.saved) (old_one l) m)
    by_part (inr h) (inl k) = let a = h.1 in let c = new_one h.0 h.1 in omega (arith, a, c, k, within)
    by_part (inr h) (inr (inl m)) =
        let s = place_of (written_over p.here written news) y m in
        let b : s.at < n = (let w = s.within in let k = length_written p.here written news in omega (arith, w, k)) in
        stands_new h.0 h.1 s.at b s.there (cases s.at b)
    by_part (inr h) (inr (inr m)) =
        let b = saved_below g globals p.made places p.saved p.here saved (unmatched rest) y m in
        let c = new_one h.0 h.1 in
        omega (arith, b, c)
