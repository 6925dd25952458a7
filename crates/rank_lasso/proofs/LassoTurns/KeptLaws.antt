-- What a turn of inside letters keeps: its rows name its columns, and the versions of the frame's columns before and after it are columns of
-- its own, no two of them equal. A version after it is the one before it, or one that was made behind those.
use Rattle.std.proofs.Common.{◌≡◌, ◌∙◌, ℕ, suc, ◌+◌, ◌<◌, ◌≤◌, Bool, true, false, ℤ, pos, negsuc, ◌+ℤ◌, List, [], ◌∷◌, ◌++◌, length, Option, None, Some, nat_eq, nat_lt, if◌then◌else◌, inl, inr, refl, sym, subst, arith}
use Rattle.std.specs.Prelude.{map, slice_index}
use Rattle.std.proofs.lemmas.List.{length-map}
use Rattle.boogie_tree.specs.declared.tree.Ty.{Ty}
use Rattle.boogie_tree.specs.declared.tree.Ty.TheVariants as types
use Rattle.math_facts.specs.Terms.{IsBelow}
use Rattle.math_facts.proofs.TermLaws.{IsBelow_more}
use Rattle.lin_rows.specs.Rows.{LinearRow, RowsBelow}
use Rattle.lin_rows.specs.Sums.{is_zero, led_by, added_at, summed}
use Rattle.letter_acts.specs.Frames.{Columns}
use Rattle.letter_acts.specs.Acts.{inside_act, Alphabet, frame_of}
use Rattle.letter_acts.specs.Invariant.{Graph, IsGraph, alphabet_of, InsideIsActed, type_at}
use Rattle.letter_acts.proofs.ListLemmas.{all_weaker, all_append}
use Rattle.letter_acts.specs.FrameRows.Rows.{columns_from, renamed, bounds, bounds_of, types_of, types_at}
use Rattle.path_rows.specs.Versions.{PathStage, Part, part_rows, inside_part, part_of, written_over}
use Rattle.path_rows.specs.Paths.{first_stage, path_along}
use Rattle.path_rows.specs.Stages.{InsideFits}
use Rattle.path_rows.proofs.ListLemmas.{length-columns_from}
use Rattle.path_rows.proofs.SolvedLaws.{Below, below_more, below_columns}
use Rattle.path_rows.proofs.DifferLemmas.{index_below, columns_distinct, columns_within, columns_at, written_cases}
use Rattle.path_rows.proofs.SaidLaws.{acted}
use Rattle.path_rows.proofs.StageLemmas.{inside_fits, inside_versions}
use Rattle.rank_lasso.specs.LassoTurns.Turns.{inside_letter, inside_letters, AreInside, stage_after, Turn, turn_of}
use Rattle.rank_lasso.specs.LassoTurns.Stages.{AreFirstOrNew, StageIs}
use Rattle.rank_lasso.proofs.LassoTurns.TurnLaws.{InsideAct, inside_act_of, inside_part_of}

-- ---- terms and rows below a number

below_led_by : (n c : ℕ) (a : ℤ) (ts : List (ℕ × ℤ)) → c < n → IsBelow n ts → IsBelow n (led_by c a ts)
below_led_by n c a ts l h = by_test (is_zero a)
  where
    by_test : (b : Bool) → IsBelow n (if b then ts else (c, a) ∷ ts)
    by_test true = h
    by_test false = (l, h)

below_added_at : (n c : ℕ) (a : ℤ) (ts : List (ℕ × ℤ)) → c < n → IsBelow n ts → IsBelow n (added_at c a ts)
below_added_at n c a [] l h = below_led_by n c a [] l h
below_added_at n c a (t ∷ ts) l h = by_tests (nat_lt c t.0) (nat_eq c t.0) (below_added_at n c a ts l h.1)
  where
    by_tests : (x y : Bool) → IsBelow n (added_at c a ts) → IsBelow n (if x then led_by c a (t ∷ ts) else (if y then led_by c (t.1 +ℤ a) ts else t ∷ added_at c a ts))
    by_tests true y k = below_led_by n c a (t ∷ ts) l h
    by_tests false true k = below_led_by n c (t.1 +ℤ a) ts l h.1
    by_tests false false k = (h.0, k)

pub below_summed : (n : ℕ) (ts : List (ℕ × ℤ)) → IsBelow n ts → IsBelow n (summed ts)
below_summed n [] h = tt
below_summed n (t ∷ ts) h = below_added_at n t.0 t.1 (summed ts) h.0 (below_summed n ts h.1)

pub rows_more : (n m : ℕ) (rows : List LinearRow) → n ≤ m → RowsBelow n rows → RowsBelow m rows
rows_more n m rows l h = all_weaker (λ r. IsBelow n r.terms) (λ r. IsBelow m r.terms) (λ r k. IsBelow_more n m r.terms l k) rows h

-- ---- the rows of an inside letter

pub names_below : (m : ℕ) (names : List ℕ) (ts : List (ℕ × ℤ)) → Below m names → IsBelow (length names) ts → IsBelow m (map (λ t. (slice_index names t.0, t.1)) ts)
names_below m names [] b h = tt
names_below m names (t ∷ ts) b h = (index_below m names t.0 h.0 b, names_below m names ts b h.1)

renamed_below : (m : ℕ) (names : List ℕ) (rows : List LinearRow) → Below m names → RowsBelow (length names) rows → RowsBelow m (map (renamed (slice_index names)) rows)
renamed_below m names [] b h = tt
renamed_below m names (r ∷ rows) b h =
    (below_summed m (map (λ t. (slice_index names t.0, t.1)) r.terms) (names_below m names r.terms b h.0), renamed_below m names rows b h.1)

one_below : (m c : ℕ) (t : Option Ty) → c < m → RowsBelow m (bounds_of c t)
one_below m c None l = tt
one_below m c (Some types.Int) l = tt
one_below m c (Some types.Bool) l = (below_summed m ((c, negsuc 0) ∷ []) (l, tt), (below_summed m ((c, pos 1) ∷ []) (l, tt), tt))

bounds_below : (m n : ℕ) (ts : List (Option Ty)) → n + length ts ≤ m → RowsBelow m (bounds n ts)
bounds_below m n [] l = tt
bounds_below m n (t ∷ ts) l =
    all_append (λ r. IsBelow m r.terms) (bounds_of n t) (bounds (suc n) ts) (one_below m n t (omega (arith, l))) (bounds_below m (suc n) ts (omega (arith, l)))

inside_below : (frame : Columns) (written : List ℕ) (helpers : ℕ) (rows : List LinearRow) (st : PathStage) → InsideFits written helpers rows st.made st.here → Below st.made st.here →
    RowsBelow (inside_part frame written helpers rows st).after.made (part_rows (inside_part frame written helpers rows st))
inside_below frame written helpers rows st f b =
    let count : ℕ = length written + helpers in
    let m : ℕ = st.made + count in
    let names : List ℕ = st.here ++ columns_from st.made count in
    let all : Below m names =
    all_append (λ c. c < m) st.here (columns_from st.made count) (below_more st.made m st.here (omega arith) b) (below_columns st.made count m (omega arith)) in
    let e = length-map written (type_at frame) in
    all_append (λ r. IsBelow m r.terms) (map (renamed (slice_index names)) rows) (bounds st.made (types_at frame written)) (renamed_below m names rows all f.named.within)
    (bounds_below m st.made (types_at frame written) (omega (arith, e)))

-- ---- from one stage on

pub first_is : (frame : Columns) → StageIs frame (first_stage frame)
first_is frame = record {
  versions = record {
    long = length-columns_from 0 (length frame);
    below = below_columns 0 (length frame) (length frame) (omega arith);
    differ = columns_distinct 0 (length frame);
  };
  wide = omega arith;
  fresh = λ j l. inl (let e = columns_at 0 (length frame) j l in omega (arith, e));
}

fresh_written : (width made : ℕ) (here written : List ℕ) (k : ℕ) → width ≤ made → AreFirstOrNew width here → AreFirstOrNew width (written_over here written (columns_from made k))
fresh_written width made here written k w f j l =
    elim (written_cases here written (columns_from made k) j) [
      | inl m ↦ inr (let i = (columns_within made k (slice_index (written_over here written (columns_from made k)) j) m).0 in omega (arith, i, w))
      | inr e ↦ elim (f j l) [ inl h ↦ inl (e ∙ h) | inr h ↦ inr (omega (arith, e, h)) ]
    ]

inside_is : (frame : Columns) (written : List ℕ) (helpers : ℕ) (rows : List LinearRow) (st : PathStage) → StageIs frame st → StageIs frame (inside_part frame written helpers rows st).after
inside_is frame written helpers rows st h = record {
  versions = inside_versions frame written helpers rows st h.versions;
  wide = let w = h.wide in omega (arith, w);
  fresh = fresh_written (length frame) st.made st.here written (length written) h.wide h.fresh;
}

-- what one letter keeps that does this
pub record LetterKeeps (g : Graph) (p n : ℕ) (st : PathStage) (act : InsideAct (alphabet_of g) p n) : Type 0 where
  pub fits : InsideFits act.written act.helpers act.rows st.made st.here
  pub part : part_of (alphabet_of g) (inside_letter n) st ≡ inside_part (frame_of (alphabet_of g) p) act.written act.helpers act.rows st
  pub after : StageIs (frame_of (alphabet_of g) p) (part_of (alphabet_of g) (inside_letter n) st).after
  pub more : st.made ≤ (part_of (alphabet_of g) (inside_letter n) st).after.made
  pub below : RowsBelow (part_of (alphabet_of g) (inside_letter n) st).after.made (part_rows (part_of (alphabet_of g) (inside_letter n) st))

pub letter_keeps : (g : Graph) → IsGraph g → (p n : ℕ) (st : PathStage) (a : InsideAct (alphabet_of g) p n) → StageIs (frame_of (alphabet_of g) p) st → LetterKeeps g p n st a
letter_keeps g ok p n st a h =
    let al : Alphabet = alphabet_of g in
    let frame : Columns = frame_of al p in
    let kept : InsideIsActed al p a.written a.helpers a.rows = acted g ok (inside_letter n) (inside_act p a.written a.helpers a.rows) a.is in
    let fits : InsideFits a.written a.helpers a.rows st.made st.here = inside_fits al p a.written a.helpers a.rows st.made st.here kept h.versions in
    let is = inside_part_of al p n a st in
    let part : Part = inside_part frame a.written a.helpers a.rows st in
    record {
      fits = fits;
      part = is;
      after = subst (λ (r : Part). StageIs frame r.after) (sym is) (inside_is frame a.written a.helpers a.rows st h);
      more = subst (λ (r : Part). st.made ≤ r.after.made) (sym is) (omega arith);
      below = subst (λ (r : Part). RowsBelow r.after.made (part_rows r)) (sym is) (inside_below frame a.written a.helpers a.rows st fits h.versions.below);
    }

-- what letters keep
pub record StageKeeps (al : Alphabet) (p n : ℕ) (st : PathStage) (ns : List ℕ) : Type 0 where
  pub after : StageIs (frame_of al p) (stage_after al st (inside_letters ns))
  pub more : st.made ≤ (stage_after al st (inside_letters ns)).made
  pub rows : RowsBelow (stage_after al st (inside_letters ns)).made (path_along al n st (inside_letters ns)).rows

pub stage_keeps : (g : Graph) → IsGraph g → (p : ℕ) (ns : List ℕ) (n : ℕ) (st : PathStage) → AreInside (alphabet_of g) p ns → StageIs (frame_of (alphabet_of g) p) st →
    StageKeeps (alphabet_of g) p n st ns
stage_keeps g ok p [] n st i h = record { after = h; more = omega arith; rows = tt }
stage_keeps g ok p (m ∷ ns) n st i h =
    let al : Alphabet = alphabet_of g in
    let one = letter_keeps g ok p m st (inside_act_of al p m i.0) h in
    let after : PathStage = (part_of al (inside_letter m) st).after in
    let rest = stage_keeps g ok p ns (suc n) after i.1 one.after in
    let end : ℕ = (stage_after al after (inside_letters ns)).made in
    record {
      after = rest.after;
      more = let a = one.more in let b = rest.more in omega (arith, a, b);
      rows = all_append (λ r. IsBelow end r.terms) (part_rows (part_of al (inside_letter m) st)) (path_along al (suc n) after (inside_letters ns)).rows
          (rows_more after.made end (part_rows (part_of al (inside_letter m) st)) rest.more one.below) rest.rows;
    }

-- ---- the turn

pub record TurnKeeps (width : ℕ) (t : Turn) : Type 0 where
  pub rows : RowsBelow t.columns t.rows
  pub wide : width ≤ t.columns
  pub before : t.before ≡ columns_from 0 width
  pub long : length t.after ≡ width
  pub below : Below t.columns t.after
  pub fresh : AreFirstOrNew width t.after

pub turn_keeps : (g : Graph) → IsGraph g → (p : ℕ) (ns : List ℕ) → AreInside (alphabet_of g) p ns → TurnKeeps (length (frame_of (alphabet_of g) p)) (turn_of (alphabet_of g) p ns)
turn_keeps g ok p ns i =
    let al : Alphabet = alphabet_of g in
    let frame : Columns = frame_of al p in
    let k = stage_keeps g ok p ns 1 (first_stage frame) i (first_is frame) in
    let end : ℕ = (stage_after al (first_stage frame) (inside_letters ns)).made in
    let e = length-map frame (λ v. Some v.1.ty) in
    let more = k.more in
    record {
      rows = all_append (λ r. IsBelow end r.terms) (bounds 0 (types_of frame)) (path_along al 1 (first_stage frame) (inside_letters ns)).rows
          (bounds_below end 0 (types_of frame) (omega (arith, e, more))) k.rows;
      wide = more;
      before = refl;
      long = k.after.versions.long;
      below = k.after.versions.below;
      fresh = k.after.fresh;
    }
