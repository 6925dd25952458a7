-- Where a path has come to: each letter that the automaton follows may be read there, and leads on.
use Rattle.std.proofs.Common.{◌≡◌, ◌∙◌, ℕ, zero, suc, ◌+◌, ◌-◌, ◌<◌, ◌≤◌, Bool, true, false, ℤ, List, [], ◌∷◌, ◌++◌, length, take, drop, Option, None, Some, refl, sym, ap, subst, inl, inr, arith, length-append, length-drop}
use Rattle.std.specs.Prelude.{map, not, ◌&&◌, slice_index, slice_get, IsSomeAnd}
use Rattle.std.specs.List.{AllByRecursion}
use Rattle.std.proofs.lemmas.Bool.{false≢true}
use Rattle.std.proofs.lemmas.List.{length-take-le}
use Rattle.boogie_tree.specs.declared.tree.Column.{Column}
use Rattle.boogie_tree.specs.declared.tree.Column.TheVariants.{Global, Old}
use Rattle.boogie_tree.specs.declared.tree.VarInfo.{VarInfo}
use Rattle.math_facts.specs.Terms.{IsBelow}
use Rattle.lin_rows.specs.Rows.{LinearRow}
use Rattle.nwa_base.specs.Members.{Member}
use Rattle.letter_acts.specs.Frames.{Columns, IsFrame, added, places, is_result, is_parameter, is_local_column, is_old_column, globals_from, old_columns, globals_of, variables_of, result_columns}
use Rattle.letter_acts.specs.Acts.{Alphabet, frame_of}
use Rattle.letter_acts.specs.Invariant.{Graph, alphabet_of, AreDistinct, MayWrite, MayTarget, MayName, InsideIsActed, CallIsActed, BackIsActed, inside_width}
use Rattle.letter_acts.proofs.ListLemmas.{all_weaker, some_within, below_or_from}
use Rattle.letter_acts.proofs.FrameLemmas.{variable_below}
use Rattle.path_rows.specs.Versions.{PathStage, written_over, entered_versions, returned, local_columns, old_part, inside_part, call_part}
use Rattle.letter_acts.specs.FrameRows.Rows.{columns_from, NamesDiffer}
use Rattle.path_rows.specs.Stages.{AreVersions, AreApart, AreSaved, InsideFits, CallFits, BackFits}
use Rattle.path_rows.proofs.ListLemmas.{length-columns_from}
use Rattle.path_rows.proofs.LayoutLemmas.{laid_out, length-globals_from}
use Rattle.path_rows.proofs.CallLaws.{CallFrames, olds_at, entered_length, call_names_length, call_below}
use Rattle.path_rows.proofs.OpenLemmas.{results_within, at_place}
use Rattle.path_rows.proofs.SolvedLaws.{Below, below_more, below_columns, all_written, below_entered, below_returned}
use Rattle.letter_acts.proofs.FrameRows.RenamingLaws.{numbers_differ}
use Rattle.path_rows.proofs.DifferLemmas.{member_joined, distinct_joined, distinct_written, length_written, written_cases, taken_at, dropped_at, distinct_taken, distinct_dropped, index_left, index_right, index_taken, index_dropped, columns_within, columns_distinct, columns_at, places_distinct, indexed_member, distinct_indexed, member_below, index_below}

-- ---- rows

-- each row's columns get names that differ, where these do on all columns that it may name
row_differs : (names : List ℕ) (P : ℕ → Type 0) → ((a b : ℕ) → P a → P b → slice_index names a ≡ slice_index names b → a ≡ b) → (ts : List (ℕ × ℤ)) →
    AllByRecursion (λ t. P t.0) ts → (c : ℕ) → Member (map (λ t. t.0) ts) c → P c
row_differs names P f [] h c m = absurd m
row_differs names P f (t ∷ ts) h c (inl e) = subst P e h.0
row_differs names P f (t ∷ ts) h c (inr m) = row_differs names P f ts h.1 c m

rows_differ : (names : List ℕ) (P : ℕ → Type 0) → ((a b : ℕ) → P a → P b → slice_index names a ≡ slice_index names b → a ≡ b) → (rows : List LinearRow) →
    AllByRecursion (λ r. AllByRecursion (λ t. P t.0) r.terms) rows → AllByRecursion (NamesDiffer names) rows
rows_differ names P f [] h = tt
rows_differ names P f (r ∷ rows) h =
    (λ a b m k e. f a b (row_differs names P f r.terms h.0 a m) (row_differs names P f r.terms h.0 b k) e, rows_differ names P f rows h.1)

below_all : (n : ℕ) (ts : List (ℕ × ℤ)) → IsBelow n ts → AllByRecursion (λ t. t.0 < n) ts
below_all n [] h = tt
below_all n (t ∷ ts) h = (h.0, below_all n ts h.1)

rows_below_all : (n : ℕ) (rows : List LinearRow) → AllByRecursion (λ r. IsBelow n r.terms) rows → AllByRecursion (λ r. AllByRecursion (λ t. t.0 < n) r.terms) rows
rows_below_all n [] h = tt
rows_below_all n (r ∷ rows) h = (below_all n r.terms h.0, rows_below_all n rows h.1)

-- ---- inside letters

new_absent : (here : List ℕ) (made n : ℕ) → Below made here → (c : ℕ) → Member here c → Member (columns_from made n) c → ⊥
new_absent here made n b c m k =
    let l = member_below made here c m b in
    let w = columns_within made n c k in
    let a = w.0 in
    omega (arith, l, a)

pub inside_fits : (al : Alphabet) (q : ℕ) (written : List ℕ) (helpers : ℕ) (rows : List LinearRow) (made : ℕ) (here : List ℕ) → InsideIsActed al q written helpers rows →
    AreVersions made (frame_of al q) here → InsideFits written helpers rows made here
inside_fits al q written helpers rows made here act h =
    let names : List ℕ = here ++ columns_from made (length written + helpers) in
    let l = h.long in
    let a = length-append here (columns_from made (length written + helpers)) in
    let b = length-columns_from made (length written + helpers) in
    let e : inside_width (frame_of al q) written helpers ≡ length names = omega (arith, l, a, b) in
    let within : AllByRecursion (λ r. IsBelow (length names) r.terms) rows = subst (λ (n : ℕ). AllByRecursion (λ r. IsBelow n r.terms) rows) e act.within in
    let differ : AreDistinct names = distinct_joined here (columns_from made (length written + helpers)) h.differ (columns_distinct made (length written + helpers))
    (new_absent here made (length written + helpers) h.below) in
    record {
      within = all_weaker (MayWrite (frame_of al q)) (λ c. c < length here)
          (λ c k. let w = some_within (λ v. v.1.constant ≡ false) (frame_of al q) c k in omega (arith, w, l)) written act.may_write;
      counted = let n = act.numbers_fit in omega (arith, n);
      named = record {
        within = within;
        differ = rows_differ names (λ c. c < length names) (λ a b x y z. numbers_differ names differ a b x y z) rows (rows_below_all (length names) rows within);
      };
    }

pub inside_versions : (frame : Columns) (written : List ℕ) (helpers : ℕ) (rows : List LinearRow) (p : PathStage) → AreVersions p.made frame p.here →
    AreVersions (inside_part frame written helpers rows p).after.made frame (inside_part frame written helpers rows p).after.here
inside_versions frame written helpers rows p h =
    let news : List ℕ = columns_from p.made (length written) in
    record {
      long = length_written p.here written news ∙ h.long;
      below = all_written (λ c. c < p.made + (length written + helpers)) p.here written news
          (below_more p.made (p.made + (length written + helpers)) p.here (omega arith) h.below)
          (below_columns p.made (length written) (p.made + (length written + helpers)) (omega arith));
      differ = distinct_written p.here written news h.differ (columns_distinct p.made (length written)) (new_absent p.here p.made (length written) h.below);
    }

-- versions stay apart from those before a call where later ones are written
apart_written : (m n : ℕ) (here cs news v : List ℕ) → ((c : ℕ) → Member news c → m ≤ c) → AreApart m n here v → AreApart m n (written_over here cs news) v
apart_written m n here cs news v f a j l =
    let k = length_written here cs news in
    elim (written_cases here cs news j) [
      | inl i ↦ inl (f (slice_index (written_over here cs news) j) i)
      | inr e ↦
          elim (a j (omega (arith, l, k))) [
            | inl h ↦ inl (omega (arith, h, e))
            | inr h ↦ inr (h.0, e ∙ h.1)
          ]
    ]

-- the versions before open calls stay saved where those of the callee change so
pub saved_kept : (g : Graph) (made next : ℕ) (places : List ℕ) (saved : List (List ℕ)) (here after : List ℕ) → made ≤ next →
    ((m n : ℕ) (v : List ℕ) → m ≤ made → AreApart m n here v → AreApart m n after v) → AreSaved g made places saved here → AreSaved g next places saved after
saved_kept g made next [] [] here after l f s = tt
saved_kept g made next [] (v ∷ saved) here after l f s = absurd s
saved_kept g made next (p ∷ places) [] here after l f s = absurd s
saved_kept g made next (p ∷ places) (v ∷ saved) here after l f s =
    (let k = s.1 in (s.0, omega (arith, k, l), s.2, f s.0 (length (globals_of (frame_of (alphabet_of g) s.2.proc))) v s.1 s.3, s.4))

pub inside_saved : (g : Graph) (places : List ℕ) (frame : Columns) (written : List ℕ) (helpers : ℕ) (rows : List LinearRow) (p : PathStage) → AreSaved g p.made places p.saved p.here →
    AreSaved g (inside_part frame written helpers rows p).after.made places p.saved (inside_part frame written helpers rows p).after.here
inside_saved g places frame written helpers rows p s =
    let news : List ℕ = columns_from p.made (length written) in
    saved_kept g p.made (p.made + (length written + helpers)) places p.saved p.here (written_over p.here written news) (omega arith)
    (λ m n v l a j k. apart_written m n p.here written news v (λ c i. (let w = columns_within p.made (length written) c i in let b = w.0 in omega (arith, b, l))) a j k) s

-- ---- calls

parameter_column : (v : Column × VarInfo) → is_parameter v ≡ true → is_local_column v.0 ≡ true
parameter_column v e = by_test (is_local_column v.0) v.1.constant e
  where
    by_test : (a b : Bool) → (a && b) ≡ true → a ≡ true
    by_test true b e = refl
    by_test false b e = e

result_column : (v : Column × VarInfo) → is_result v ≡ true → is_local_column v.0 ≡ true
result_column v e = by_test (is_local_column v.0) (not v.1.constant) e
  where
    by_test : (a b : Bool) → (a && b) ≡ true → a ≡ true
    by_test true b e = refl
    by_test false b e = e

get_left : (xs ys : Columns) (i : ℕ) → i < length xs → slice_get (xs ++ ys) i ≡ slice_get xs i
get_left [] ys i l = absurd (omega arith)
get_left (x ∷ xs) ys zero l = refl
get_left (x ∷ xs) ys (suc i) l = get_left xs ys i (omega arith)

no_local_global : (n : ℕ) (vs : List VarInfo) (i : ℕ) (w : Column × VarInfo) → slice_get (globals_from n vs) i ≡ Some w → is_local_column w.0 ≡ true → ⊥
no_local_global n [] i w e t = cc
no_local_global n (v ∷ vs) zero w e t =
    let k : (Global n, v) ≡ w = cc in
    false≢true (subst (λ (u : Column × VarInfo). is_local_column u.0 ≡ true) (sym k) t)
no_local_global n (v ∷ vs) (suc i) w e t = no_local_global (suc n) vs i w e t

no_local_old : (n : ℕ) (vs : List VarInfo) (i : ℕ) (w : Column × VarInfo) → slice_get (old_columns n vs) i ≡ Some w → is_local_column w.0 ≡ true → ⊥
no_local_old n [] i w e t = cc
no_local_old n (v ∷ vs) i w e t = by_test (not v.constant) i e (λ k f. no_local_old (suc n) vs k w f t)
  where
    by_test : (b : Bool) (i : ℕ) → slice_get (added b (Old n, v) (old_columns (suc n) vs)) i ≡ Some w → ((k : ℕ) → slice_get (old_columns (suc n) vs) k ≡ Some w → ⊥) → ⊥
    by_test true zero e f =
        let k : (Old n, v) ≡ w = cc in
        false≢true (subst (λ (u : Column × VarInfo). is_local_column u.0 ≡ true) (sym k) t)
    by_test true (suc i) e f = f i e
    by_test false i e f = f i e

get_right : (xs ys : Columns) (i k : ℕ) → i ≡ length xs + k → slice_get (xs ++ ys) i ≡ slice_get ys k
get_right [] ys i k e = ap (slice_get ys) (let j : i ≡ k = omega (arith, e) in j)
get_right (x ∷ xs) ys zero k e = absurd (omega (arith, e))
get_right (x ∷ xs) ys (suc i) k e = get_right xs ys i k (omega (arith, e))

-- a local stands behind the globals and the old columns
pub local_is_last : (globals : List VarInfo) (frame : Columns) → IsFrame globals frame → (i : ℕ) (w : Column × VarInfo) → slice_get frame i ≡ Some w → is_local_column w.0 ≡ true →
    length (globals_from 0 globals) + length (old_part frame) ≤ i
local_is_last globals frame f i w e t =
    let o = laid_out globals frame f in
    let front : Columns = globals_from 0 globals in
    let there : slice_get (front ++ (old_part frame ++ local_columns frame)) i ≡ Some w = ap (λ (c : Columns). slice_get c i) (sym o.parts) ∙ e in
    elim (below_or_from i (length front)) [
      | inl l ↦ absurd (no_local_global 0 globals i w (sym (get_left front (old_part frame ++ local_columns frame) i l) ∙ there) t)
      | inr h ↦
          (let k = h.1 in
          let next : slice_get (old_part frame ++ local_columns frame) h.0 ≡ Some w = sym (get_right front (old_part frame ++ local_columns frame) i h.0 k) ∙ there in
          elim (below_or_from h.0 (length (old_part frame))) [
            | inl l ↦ absurd (no_local_old 0 globals h.0 w (ap (λ (c : Columns). slice_get c h.0) (sym o.olds) ∙ sym (get_left (old_part frame) (local_columns frame) h.0 l) ∙ next) t)
            | inr r ↦ (let j = r.1 in omega (arith, k, j))
          ])
    ]

some_found : {X : Type 0} (P : X → Type 0) (o : Option X) → IsSomeAnd o P → (x : X) × (o ≡ Some x) × P x
some_found P None h = absurd h
some_found P (Some x) h = (x, refl, h)

-- which columns a call's row names, and their names: of the caller, a parameter, a helper
data Named (here : List ℕ) (made locals width helpers : ℕ) (names : List ℕ) (c : ℕ) : Type 0 where
  of_caller : c < length here → slice_index names c ≡ slice_index here c → Named here made locals width helpers names c
  of_parameter : (i : ℕ) → i < locals → c + locals ≡ length here + width + i → slice_index names c ≡ made + i → Named here made locals width helpers names c
  of_helper : (i : ℕ) → i < helpers → c ≡ length here + width + i → slice_index names c ≡ made + locals + i → Named here made locals width helpers names c

named_once : (here : List ℕ) (made locals width helpers : ℕ) (names : List ℕ) → Below made here → AreDistinct here → locals ≤ width → (a b : ℕ) →
    Named here made locals width helpers names a → Named here made locals width helpers names b → slice_index names a ≡ slice_index names b → a ≡ b
named_once here made locals width helpers names w d l a b (of_caller x e) (of_caller y f) z = numbers_differ here d a b x y (sym e ∙ z ∙ f)
named_once here made locals width helpers names w d l a b (of_caller x e) (of_parameter j y g f) z = let k = index_below made here a x w in absurd (omega (arith, k, e, f, z))
named_once here made locals width helpers names w d l a b (of_caller x e) (of_helper j y g f) z = let k = index_below made here a x w in absurd (omega (arith, k, e, f, z))
named_once here made locals width helpers names w d l a b (of_parameter i x h e) (of_caller y f) z = let k = index_below made here b y w in absurd (omega (arith, k, e, f, z))
named_once here made locals width helpers names w d l a b (of_parameter i x h e) (of_parameter j y g f) z = omega (arith, h, g, e, f, z)
named_once here made locals width helpers names w d l a b (of_parameter i x h e) (of_helper j y g f) z = absurd (omega (arith, x, e, f, z))
named_once here made locals width helpers names w d l a b (of_helper i x h e) (of_caller y f) z = let k = index_below made here b y w in absurd (omega (arith, k, e, f, z))
named_once here made locals width helpers names w d l a b (of_helper i x h e) (of_parameter j y g f) z = absurd (omega (arith, y, e, f, z))
named_once here made locals width helpers names w d l a b (of_helper i x h e) (of_helper j y g f) z = omega (arith, h, g, e, f, z)

call_named : (globals : List VarInfo) (caller callee : Columns) (helpers made : ℕ) (here : List ℕ) → CallFrames globals caller callee here → (c : ℕ) → MayName caller callee helpers c →
    Named here made (length (local_columns callee)) (length callee) helpers
    (here ++ (entered_versions callee made (olds_at callee made helpers) here ++ columns_from (made + length (local_columns callee)) helpers)) c
call_named globals caller callee helpers made here f c m =
    let entry : List ℕ = entered_versions callee made (olds_at callee made helpers) here in
    let hs : List ℕ = columns_from (made + length (local_columns callee)) helpers in
    let el = entered_length globals caller callee here f made (olds_at callee made helpers) in
    let lh = f.long in
    let w = m.within in
    elim (below_or_from c (length here)) [
      | inl l ↦ of_caller l (index_left here (entry ++ hs) c l)
      | inr r ↦
          (let e = r.1 in
          elim (below_or_from r.0 (length entry)) [
            | inl l ↦
                (let p = some_found (λ v. is_parameter v ≡ true) (slice_get callee (c - length caller)) (m.parameter (omega (arith, e, lh)) (omega (arith, e, lh, l, el))) in
                let at : c - length caller ≡ r.0 = omega (arith, e, lh) in
                let last = local_is_last globals callee f.to_frame (c - length caller) p.0 p.1 (parameter_column p.0 p.2) in
                let o = laid_out globals callee f.to_frame in
                let front : List ℕ = take (length (globals_of callee)) here in
                let os : List ℕ = columns_from (olds_at callee made helpers) (length (old_part callee)) in
                let ls : List ℕ = columns_from made (length (local_columns callee)) in
                let fl = length-take-le (length (globals_of callee)) here
                (let g1 = o.global_count in let g2 = (laid_out globals caller f.from_frame).long in omega (arith, g1, g2, lh)) in
                let gc = o.global_count in
                let ol = length-columns_from (olds_at callee made helpers) (length (old_part callee)) in
                let a1 = length-append front (os ++ ls) in
                let a2 = length-append os ls in
                let ll = length-columns_from made (length (local_columns callee)) in
                let s = below_or_from r.0 (length front + length os) in
                elim s [
                  | inl z ↦ absurd (omega (arith, z, fl, gc, ol, last, at))
                  | inr z ↦
                      (let y = z.1 in
                      of_parameter z.0 (omega (arith, y, l, a1, a2, ll)) (omega (arith, e, y, a1, a2, ll, el))
                      (index_right here (entry ++ hs) c r.0 e ∙ index_left entry hs r.0 l ∙
                      index_right front (os ++ ls) r.0 (length os + z.0) (omega (arith, y)) ∙ index_right os ls (length os + z.0) z.0 refl ∙
                      columns_at made (length (local_columns callee)) z.0 (omega (arith, y, l, a1, a2, ll))))
                ])
            | inr h ↦
                (let k = h.1 in
                of_helper h.0 (omega (arith, w, lh, el, e, k)) (omega (arith, e, k, el))
                (index_right here (entry ++ hs) c r.0 e ∙ index_right entry hs r.0 h.0 k ∙
                columns_at (made + length (local_columns callee)) helpers h.0 (omega (arith, w, lh, el, e, k))))
          ])
    ]

pub call_fits : (globals : List VarInfo) (al : Alphabet) (caller callee helpers : ℕ) (rows : List LinearRow) (made : ℕ) (here : List ℕ) → CallIsActed al caller callee helpers rows →
    IsFrame globals (frame_of al caller) → IsFrame globals (frame_of al callee) → AreVersions made (frame_of al caller) here →
    CallFits (frame_of al callee) helpers rows made here
call_fits globals al caller callee helpers rows made here act fr fe h =
    let in_callee : Columns = frame_of al callee in
    let f : CallFrames globals (frame_of al caller) in_callee here = record { from_frame = fr; to_frame = fe; long = h.long } in
    let o = laid_out globals in_callee fe in
    let long = (laid_out globals (frame_of al caller) fr).long in
    let gc = o.global_count in
    let lh = h.long in
    let p = ap length o.parts in
    let q = length-append (globals_from 0 globals) (old_part in_callee ++ local_columns in_callee) in
    let r = length-append (old_part in_callee) (local_columns in_callee) in
    let n = act.numbers_fit in
    let k = length-globals_from 0 globals in
    let names : List ℕ = here ++ (entered_versions in_callee made (olds_at in_callee made helpers) here ++ columns_from (made + length (local_columns in_callee)) helpers) in
    record {
      globals = omega (arith, long, gc, lh);
      variables = all_in (variables_of in_callee) (λ c m. (let b = variable_below globals in_callee fe c m in omega (arith, b, long, k, lh)));
      variable_count = o.variable_count;
      counted = omega (arith, n);
      part_count = omega (arith, p, q, r);
      named = record {
        within = subst (λ (z : ℕ). AllByRecursion (λ r. IsBelow z r.terms) rows)
            (call_names_length globals (frame_of al caller) in_callee helpers (record { made = made; here = here; saved = [] }) f)
            (call_below (frame_of al caller) in_callee helpers rows act.may_name);
        differ = rows_differ names (MayName (frame_of al caller) in_callee helpers)
            (λ a b x y z. named_once here made (length (local_columns in_callee)) (length in_callee) helpers names h.below h.differ (omega (arith, p, q, r)) a b
            (call_named globals (frame_of al caller) in_callee helpers made here f a x) (call_named globals (frame_of al caller) in_callee helpers made here f b y) z)
            rows act.may_name;
      };
    }
  where
    all_in : (xs : List ℕ) → ((c : ℕ) → Member xs c → c < length here) → AllByRecursion (λ c. c < length here) xs
    all_in [] f = tt
    all_in (x ∷ xs) f = (f x (inl refl), all_in xs (λ c m. f c (inr m)))

pub call_versions : (globals : List VarInfo) (caller callee : Columns) (helpers : ℕ) (rows : List LinearRow) (p : PathStage) → IsFrame globals caller → IsFrame globals callee →
    AreVersions p.made caller p.here → AreVersions (call_part callee helpers rows p).after.made callee (call_part callee helpers rows p).after.here
call_versions globals caller callee helpers rows p fr fe h =
    let f : CallFrames globals caller callee p.here = record { from_frame = fr; to_frame = fe; long = h.long } in
    let olds : ℕ = olds_at callee p.made helpers in
    let next : ℕ = (call_part callee helpers rows p).after.made in
    let front : List ℕ = take (length (globals_of callee)) p.here in
    let os : List ℕ = columns_from olds (length (old_part callee)) in
    let ls : List ℕ = columns_from p.made (length (local_columns callee)) in
    record {
      long = entered_length globals caller callee p.here f p.made olds;
      below = below_entered callee p.made olds next p.here (below_more p.made next p.here (omega arith) h.below) (omega arith) (omega arith);
      differ = distinct_joined front (os ++ ls) (distinct_taken (length (globals_of callee)) p.here h.differ)
          (distinct_joined os ls (columns_distinct olds (length (old_part callee))) (columns_distinct p.made (length (local_columns callee)))
          (λ c m k. (let a = (columns_within olds (length (old_part callee)) c m).0 in let b = (columns_within p.made (length (local_columns callee)) c k).1 in omega (arith, a, b))))
          (λ c m k.
          let t = taken_at (length (globals_of callee)) p.here c m in
          let w = t.2 in
          let e = t.3 in
          let l = index_below p.made p.here t.0 t.2 h.below in
          elim (member_joined os ls c k) [
            | inl x ↦ (let a = (columns_within olds (length (old_part callee)) c x).0 in omega (arith, a, l, e))
            | inr x ↦ (let a = (columns_within p.made (length (local_columns callee)) c x).0 in omega (arith, a, l, e))
          ]);
    }

-- the callee's versions are apart from the caller's
pub call_apart : (globals : List VarInfo) (caller callee : Columns) (helpers : ℕ) (rows : List LinearRow) (p : PathStage) → IsFrame globals caller → IsFrame globals callee →
    AreVersions p.made caller p.here → AreApart p.made (length (globals_of caller)) (call_part callee helpers rows p).after.here p.here
call_apart globals caller callee helpers rows p fr fe h j l =
    let f : CallFrames globals caller callee p.here = record { from_frame = fr; to_frame = fe; long = h.long } in
    let olds : ℕ = olds_at callee p.made helpers in
    let g1 = (laid_out globals callee fe).global_count in
    let g2 = (laid_out globals caller fr).global_count in
    let long = (laid_out globals caller fr).long in
    let lh = h.long in
    let front : List ℕ = take (length (globals_of callee)) p.here in
    let fl = length-take-le (length (globals_of callee)) p.here (omega (arith, g1, long, lh)) in
    let os : List ℕ = columns_from olds (length (old_part callee)) in
    let ls : List ℕ = columns_from p.made (length (local_columns callee)) in
    let a1 = length-append front (os ++ ls) in
    let a2 = length-append os ls in
    let ol = length-columns_from olds (length (old_part callee)) in
    let ll = length-columns_from p.made (length (local_columns callee)) in
    elim (below_or_from j (length front)) [
      | inl b ↦ inr (omega (arith, b, fl, g1, g2), index_left front (os ++ ls) j b ∙ index_taken (length (globals_of callee)) p.here j (omega (arith, b, fl)))
      | inr r ↦
          (let e = r.1 in
          elim (below_or_from r.0 (length os)) [
            | inl b ↦
                (let s = index_right front (os ++ ls) j r.0 e ∙ index_left os ls r.0 b ∙ columns_at olds (length (old_part callee)) r.0 (omega (arith, b, ol)) in
                inl (omega (arith, s)))
            | inr z ↦
                (let k = z.1 in
                let s = index_right front (os ++ ls) j r.0 e ∙ index_right os ls r.0 z.0 k ∙ columns_at p.made (length (local_columns callee)) z.0 (omega (arith, l, a1, a2, e, k, ll)) in
                inl (omega (arith, s)))
          ])
    ]

-- ---- returns

-- what is known at a return: the versions at the exit are apart from those before the call
pub record Returns (globals : List VarInfo) (caller callee : Columns) (targets exit before : List ℕ) (m made : ℕ) : Type 0 where
  pub from_frame : IsFrame globals caller
  pub to_frame : IsFrame globals callee
  pub exit_versions : AreVersions made callee exit
  pub before_versions : AreVersions m caller before
  pub earlier : m ≤ made
  pub apart : AreApart m (length (globals_of caller)) exit before

-- a result stands behind the globals
results_behind : (globals : List VarInfo) (caller callee : Columns) → IsFrame globals caller → IsFrame globals callee → (r : ℕ) → Member (result_columns callee) r → length (globals_of caller) ≤ r
results_behind globals caller callee fr fe r m =
    let a = at_place is_result 0 callee r m in
    let e = a.2 in
    let i : a.0 ≡ r = omega (arith, e) in
    let l = local_is_last globals callee fe a.0 a.1 a.3 (result_column a.1 a.4) in
    let g2 = (laid_out globals caller fr).global_count in
    omega (arith, i, l, g2)

pub back_fits : (globals : List VarInfo) (caller callee : Columns) (helpers : ℕ) (targets exit before : List ℕ) (m made : ℕ) → Returns globals caller callee targets exit before m made →
    BackIsActed caller callee helpers targets → BackFits caller callee targets exit before
back_fits globals caller callee helpers targets exit before m made r act =
    let g1 = (laid_out globals callee r.to_frame).long in
    let g2 = (laid_out globals caller r.from_frame).global_count in
    let g3 = (laid_out globals caller r.from_frame).long in
    let x = r.exit_versions.long in
    let b = r.before_versions.long in
    let n = act.numbers_fit in
    record {
      caller_count = omega (arith, n);
      callee_count = omega (arith, n);
      in_exit = omega (arith, g1, g2, x);
      in_before = omega (arith, g2, g3, b);
      results_in = results_within callee (length exit) (sym x);
      targets_in = all_weaker (MayTarget caller) (λ c. c < length before)
          (λ c k. let w = some_within (λ v. (v.1.constant ≡ false) × (is_old_column v.0 ≡ false)) caller c k in omega (arith, w, b)) targets act.may_target;
    }

-- the versions before the results are written
abbrev base_of : Columns → List ℕ → List ℕ → List ℕ
base_of caller exit before = take (length (globals_of caller)) exit ++ drop (length (globals_of caller)) before

base_length : (globals : List VarInfo) (caller callee : Columns) (targets exit before : List ℕ) (m made : ℕ) → Returns globals caller callee targets exit before m made →
    (length (take (length (globals_of caller)) exit) ≡ length (globals_of caller)) × (length (base_of caller exit before) ≡ length before)
base_length globals caller callee targets exit before m made r =
    let g1 = (laid_out globals callee r.to_frame).long in
    let g2 = (laid_out globals caller r.from_frame).global_count in
    let g3 = (laid_out globals caller r.from_frame).long in
    let x = r.exit_versions.long in
    let b = r.before_versions.long in
    let n : ℕ = length (globals_of caller) in
    let t = length-take-le n exit (omega (arith, g1, g2, x)) in
    let a = length-append (take n exit) (drop n before) in
    let d = length-drop n before in
    (t, omega (arith, t, a, d, g2, g3, b))

base_differs : (globals : List VarInfo) (caller callee : Columns) (targets exit before : List ℕ) (m made : ℕ) → Returns globals caller callee targets exit before m made →
    AreDistinct (base_of caller exit before)
base_differs globals caller callee targets exit before m made r =
    let n : ℕ = length (globals_of caller) in
    distinct_joined (take n exit) (drop n before) (distinct_taken n exit r.exit_versions.differ) (distinct_dropped n before r.before_versions.differ)
    (λ c x y.
    let a = taken_at n exit c x in
    let d = dropped_at n before c y in
    let low = index_below m before d.at d.within r.before_versions.below in
    let e = a.3 in
    let f = d.there in
    let i = a.1 in
    let k = d.from_low in
    let w = d.within in
    elim (r.apart a.0 a.2) [
      | inl z ↦ omega (arith, z, e, f, low)
      | inr z ↦
          (let s : slice_index before a.0 ≡ slice_index before d.at = sym z.1 ∙ e ∙ sym f in
          let j = numbers_differ before r.before_versions.differ a.0 d.at (omega (arith, i, k, w)) w s in
          omega (arith, j, i, k))
    ])

-- a result's version is later than those before the call
result_later : (globals : List VarInfo) (caller callee : Columns) (targets exit before : List ℕ) (m made : ℕ) → Returns globals caller callee targets exit before m made →
    (c : ℕ) → Member (map (slice_index exit) (result_columns callee)) c → m ≤ c
result_later globals caller callee targets exit before m made r c h =
    let i = indexed_member exit (result_columns callee) c h in
    let b = results_behind globals caller callee r.from_frame r.to_frame i.0 i.1 in
    let w = member_below (length exit) (result_columns callee) i.0 i.1 (results_within callee (length exit) (sym r.exit_versions.long)) in
    let e = i.2 in
    elim (r.apart i.0 w) [
      | inl z ↦ omega (arith, z, e)
      | inr z ↦ (let k = z.0 in absurd (omega (arith, k, b)))
    ]

pub back_versions : (globals : List VarInfo) (caller callee : Columns) (targets exit before : List ℕ) (m made : ℕ) → Returns globals caller callee targets exit before m made →
    AreVersions made caller (returned caller callee targets exit before)
back_versions globals caller callee targets exit before m made r =
    let n : ℕ = length (globals_of caller) in
    let news : List ℕ = map (slice_index exit) (result_columns callee) in
    let base : List ℕ = base_of caller exit before in
    record {
      long = length_written base targets news ∙ (base_length globals caller callee targets exit before m made r).1 ∙ r.before_versions.long;
      below = below_returned caller callee targets exit before made (sym r.exit_versions.long) r.exit_versions.below
          (below_more m made before r.earlier r.before_versions.below);
      differ = distinct_written base targets news (base_differs globals caller callee targets exit before m made r)
          (distinct_indexed exit (result_columns callee) r.exit_versions.differ (places_distinct is_result 0 callee) (results_within callee (length exit) (sym r.exit_versions.long)))
          (λ c x y.
          let later = result_later globals caller callee targets exit before m made r c y in
          let i = indexed_member exit (result_columns callee) c y in
          let behind = results_behind globals caller callee r.from_frame r.to_frame i.0 i.1 in
          let w = member_below (length exit) (result_columns callee) i.0 i.1 (results_within callee (length exit) (sym r.exit_versions.long)) in
          elim (member_joined (take n exit) (drop n before) c x) [
            | inl z ↦
                (let a = taken_at n exit c z in
                let j = numbers_differ exit r.exit_versions.differ a.0 i.0 a.2 w (a.3 ∙ sym i.2) in
                let k = a.1 in
                omega (arith, j, k, behind))
            | inr z ↦
                (let d = dropped_at n before c z in
                let low = index_below m before d.at d.within r.before_versions.below in
                let f = d.there in
                omega (arith, low, f, later))
          ]);
    }

-- versions that are apart from those before an outer call stay so
pub back_apart : (globals : List VarInfo) (caller callee : Columns) (targets exit before : List ℕ) (m made : ℕ) → Returns globals caller callee targets exit before m made →
    (k n : ℕ) (v : List ℕ) → k ≤ m → n ≡ length (globals_of caller) → AreApart k n before v → AreApart k n (returned caller callee targets exit before) v
back_apart globals caller callee targets exit before m made r k n v l i a =
    let news : List ℕ = map (slice_index exit) (result_columns callee) in
    let base : List ℕ = base_of caller exit before in
    apart_written k n base targets news v (λ c x. (let b = result_later globals caller callee targets exit before m made r c x in omega (arith, b, l)))
    (λ j w.
    let bl = base_length globals caller callee targets exit before m made r in
    let t = bl.0 in
    let whole = bl.1 in
    let in_exit = (let g1 = (laid_out globals callee r.to_frame).long in let g2 = (laid_out globals caller r.from_frame).global_count in let x = r.exit_versions.long in
    let z : length (globals_of caller) ≤ length exit = omega (arith, g1, g2, x) in z) in
    let c : ℕ = length (globals_of caller) in
    elim (below_or_from j c) [
      | inl b ↦
          (let e : slice_index base j ≡ slice_index exit j = index_left (take c exit) (drop c before) j (omega (arith, b, t)) ∙ index_taken c exit j b in
          elim (r.apart j (omega (arith, b, in_exit))) [
            | inl z ↦ inl (omega (arith, z, e, l))
            | inr z ↦
                elim (a j (omega (arith, w, whole))) [
                  | inl y ↦ (let f = z.1 in inl (omega (arith, y, e, f)))
                  | inr y ↦ inr (y.0, e ∙ z.1 ∙ y.1)
                ]
          ])
      | inr s ↦
          (let q = s.1 in
          let e : slice_index base j ≡ slice_index before j = index_right (take c exit) (drop c before) j s.0 (omega (arith, q, t)) ∙ index_dropped c before j s.0 q in
          elim (a j (omega (arith, w, whole))) [
            | inl y ↦ inl (omega (arith, y, e))
            | inr y ↦ inr (y.0, e ∙ y.1)
          ])
    ])
