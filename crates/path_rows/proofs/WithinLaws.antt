-- The rows that a letter makes name columns that are made by then.
use Rattle.std.proofs.Common.{◌≡◌, ◌∙◌, ℕ, suc, ◌+◌, ◌<◌, ◌≤◌, Bool, true, false, ℤ, pos, negsuc, ◌+ℤ◌, List, [], ◌∷◌, ◌++◌, length, Option, None, Some, nat_eq, nat_lt, if◌then◌else◌, sym, subst, arith}
use Rattle.std.specs.Prelude.{map, slice_index, slice_get}
use Rattle.std.specs.List.{AllByRecursion}
use Rattle.std.proofs.lemmas.List.{length-map}
use Rattle.boogie_tree.specs.declared.tree.Ty.{Ty}
use Rattle.boogie_tree.specs.declared.tree.Ty.TheVariants as types
use Rattle.math_facts.specs.Terms.{IsBelow}
use Rattle.lin_rows.specs.Rows.{LinearRow, RowsBelow}
use Rattle.lin_rows.specs.Sums.{is_zero, led_by, added_at, summed}
use Rattle.nwa_base.specs.declared.letters.Letter.{Letter}
use Rattle.letter_acts.specs.Frames.{Columns, variables_of}
use Rattle.letter_acts.specs.Acts.{PlainAct, inside_act, call_act, back_act, Alphabet, frame_of}
use Rattle.letter_acts.specs.Invariant.{Graph, IsGraph, alphabet_of, type_at}
use Rattle.letter_acts.proofs.ListLemmas.{all_weaker, all_append}
use Rattle.letter_acts.specs.FrameRows.Rows.{columns_from, renamed, bounds, bounds_of, types_of, types_at}
use Rattle.path_rows.specs.Versions.{PathStage, Part, part_rows, local_columns, old_part, entered_versions, entry_rows, inside_part, call_part, back_part, return_part, part_of}
use Rattle.path_rows.specs.Stages.{InsideFits, CallFits, GoesOnBy}
use Rattle.path_rows.proofs.SolvedLaws.{Below, below_more, below_columns, below_entered}
use Rattle.path_rows.proofs.DifferLemmas.{index_below}
use Rattle.path_rows.proofs.GoingLemmas.{acts_of, inside_goes, call_goes, back_goes}

-- ---- rows of given terms

below-led_by : (n c : ℕ) (a : ℤ) (ts : List (ℕ × ℤ)) → c < n → IsBelow n ts → IsBelow n (led_by c a ts)
below-led_by n c a ts l h = by_test (is_zero a)
  where
    by_test : (b : Bool) → IsBelow n (if b then ts else (c, a) ∷ ts)
    by_test true = h
    by_test false = (l, h)

below-added_at : (n c : ℕ) (a : ℤ) (ts : List (ℕ × ℤ)) → c < n → IsBelow n ts → IsBelow n (added_at c a ts)
below-added_at n c a [] l h = below-led_by n c a [] l h
below-added_at n c a (t ∷ ts) l h = by_tests (nat_lt c t.0) (nat_eq c t.0) (below-added_at n c a ts l h.1)
  where
    by_tests : (x y : Bool) → IsBelow n (added_at c a ts) → IsBelow n (if x then led_by c a (t ∷ ts) else (if y then led_by c (t.1 +ℤ a) ts else t ∷ added_at c a ts))
    by_tests true y k = below-led_by n c a (t ∷ ts) l h
    by_tests false true k = below-led_by n c (t.1 +ℤ a) ts l h.1
    by_tests false false k = (h.0, k)

below-summed : (n : ℕ) (ts : List (ℕ × ℤ)) → IsBelow n ts → IsBelow n (summed ts)
below-summed n [] h = tt
below-summed n (t ∷ ts) h = below-added_at n t.0 t.1 (summed ts) h.0 (below-summed n ts h.1)

terms_more : (n m : ℕ) (ts : List (ℕ × ℤ)) → n ≤ m → IsBelow n ts → IsBelow m ts
terms_more n m [] l h = tt
terms_more n m (t ∷ ts) l h = (let k = h.0 in omega (arith, l, k), terms_more n m ts l h.1)

pub rows_more : (n m : ℕ) (rows : List LinearRow) → n ≤ m → RowsBelow n rows → RowsBelow m rows
rows_more n m rows l h = all_weaker (λ r. IsBelow n r.terms) (λ r. IsBelow m r.terms) (λ r k. terms_more n m r.terms l k) rows h

-- ---- the rows of parts

-- rows whose columns have names below a number
names_below : (m : ℕ) (names : List ℕ) (ts : List (ℕ × ℤ)) → Below m names → IsBelow (length names) ts → IsBelow m (map (λ t. (slice_index names t.0, t.1)) ts)
names_below m names [] b h = tt
names_below m names (t ∷ ts) b h = (index_below m names t.0 h.0 b, names_below m names ts b h.1)

renamed_below : (m : ℕ) (names : List ℕ) (rows : List LinearRow) → Below m names → RowsBelow (length names) rows → RowsBelow m (map (renamed (slice_index names)) rows)
renamed_below m names [] b h = tt
renamed_below m names (r ∷ rows) b h =
    (below-summed m (map (λ t. (slice_index names t.0, t.1)) r.terms) (names_below m names r.terms b h.0), renamed_below m names rows b h.1)

one_below : (m c : ℕ) (t : Option Ty) → c < m → RowsBelow m (bounds_of c t)
one_below m c None l = tt
one_below m c (Some types.Int) l = tt
one_below m c (Some types.Bool) l = (below-summed m ((c, negsuc 0) ∷ []) (l, tt), (below-summed m ((c, pos 1) ∷ []) (l, tt), tt))

pub bounds_below : (m n : ℕ) (ts : List (Option Ty)) → n + length ts ≤ m → RowsBelow m (bounds n ts)
bounds_below m n [] l = tt
bounds_below m n (t ∷ ts) l =
    all_append (λ r. IsBelow m r.terms) (bounds_of n t) (bounds (suc n) ts) (one_below m n t (omega (arith, l))) (bounds_below m (suc n) ts (omega (arith, l)))

entries_below : (m n : ℕ) (gs : List ℕ) → n + length gs ≤ m → Below m gs → RowsBelow m (entry_rows n gs)
entries_below m n [] l b = tt
entries_below m n (g ∷ gs) l b =
    (below-summed m ((n, pos 1) ∷ (g, negsuc 0) ∷ []) (omega (arith, l), (b.0, tt)), entries_below m (suc n) gs (omega (arith, l)) b.1)

picked_below : (m : ℕ) (here cs : List ℕ) → Below m here → AllByRecursion (λ c. c < length here) cs → Below m (map (slice_index here) cs)
picked_below m here [] b h = tt
picked_below m here (c ∷ cs) b h = (index_below m here c h.0 b, picked_below m here cs b h.1)

-- ---- letters

-- the part of a letter names columns that are made after it
abbrev pub PartBelow : Part → Type 0
PartBelow part = RowsBelow part.after.made (part_rows part)

inside_below : (frame : Columns) (written : List ℕ) (helpers : ℕ) (rows : List LinearRow) (p : PathStage) → InsideFits written helpers rows p.made p.here → Below p.made p.here →
    PartBelow (inside_part frame written helpers rows p)
inside_below frame written helpers rows p f b =
    let count : ℕ = length written + helpers in
    let m : ℕ = p.made + count in
    let names : List ℕ = p.here ++ columns_from p.made count in
    let all : Below m names = all_append (λ c. c < m) p.here (columns_from p.made count) (below_more p.made m p.here (omega arith) b) (below_columns p.made count m (omega arith)) in
    let e = length-map written (type_at frame) in
    all_append (λ r. IsBelow m r.terms) (map (renamed (slice_index names)) rows) (bounds p.made (types_at frame written)) (renamed_below m names rows all f.named.within)
    (bounds_below m p.made (types_at frame written) (omega (arith, e)))

call_below : (callee : Columns) (helpers : ℕ) (rows : List LinearRow) (p : PathStage) → CallFits callee helpers rows p.made p.here → Below p.made p.here →
    PartBelow (call_part callee helpers rows p)
call_below callee helpers rows p f b =
    let locals : ℕ = length (local_columns callee) in
    let olds : ℕ = p.made + locals + helpers in
    let count : ℕ = locals + helpers + length (old_part callee) in
    let m : ℕ = p.made + count in
    let entry : List ℕ = entered_versions callee p.made olds p.here in
    let names : List ℕ = p.here ++ (entry ++ columns_from (p.made + locals) helpers) in
    let here : Below m p.here = below_more p.made m p.here (omega arith) b in
    let all : Below m names =
    all_append (λ c. c < m) p.here (entry ++ columns_from (p.made + locals) helpers) here
    (all_append (λ c. c < m) entry (columns_from (p.made + locals) helpers) (below_entered callee p.made olds m p.here here (omega arith) (omega arith))
    (below_columns (p.made + locals) helpers m (omega arith))) in
    let variables : List ℕ = map (slice_index p.here) (variables_of callee) in
    let e : length variables ≡ length (old_part callee) = length-map (variables_of callee) (slice_index p.here) ∙ f.variable_count in
    let i = length-map (local_columns callee) (λ v. Some v.1.ty) in
    let j = length-map (old_part callee) (λ v. Some v.1.ty) in
    let P : LinearRow → Type 0 = λ r. IsBelow m r.terms in
    all_append P (map (renamed (slice_index names)) rows) (entry_rows olds variables ++ (bounds p.made (types_of (local_columns callee)) ++ bounds olds (types_of (old_part callee))))
    (renamed_below m names rows all f.named.within)
    (all_append P (entry_rows olds variables) (bounds p.made (types_of (local_columns callee)) ++ bounds olds (types_of (old_part callee)))
    (entries_below m olds variables (omega (arith, e)) (picked_below m p.here (variables_of callee) here f.variables))
    (all_append P (bounds p.made (types_of (local_columns callee))) (bounds olds (types_of (old_part callee)))
    (bounds_below m p.made (types_of (local_columns callee)) (omega (arith, i))) (bounds_below m olds (types_of (old_part callee)) (omega (arith, j)))))

back_below : (caller callee : Columns) (targets : List ℕ) (made : ℕ) (exit : List ℕ) (saved : List (List ℕ)) → PartBelow (back_part caller callee targets made exit saved)
back_below caller callee targets made exit [] = tt
back_below caller callee targets made exit (before ∷ saved) = tt

return_below : (al : Alphabet) (targets : List ℕ) (o : Option PlainAct) (p : PathStage) → PartBelow (return_part al targets o p)
return_below al targets None p = tt
return_below al targets (Some (inside_act q written helpers rows)) p = tt
return_below al targets (Some (call_act caller callee helpers rows)) p = back_below (frame_of al caller) (frame_of al callee) targets p.made p.here p.saved
return_below al targets (Some (back_act c more)) p = tt

-- the part of a letter by which the automaton goes on
pub part_below : (g : Graph) → IsGraph g → (a : Letter) (p : PathStage) → GoesOnBy g a p → PartBelow (part_of (alphabet_of g) a p)
part_below g ok a p h = by_act (acts_of g ok a p h).act (acts_of g ok a p h).there
  where
    here : Below p.made p.here
    here = h.comes.here.versions.below

    by_act : (act : PlainAct) → slice_get g.acts a.id ≡ Some act → PartBelow (part_of (alphabet_of g) a p)
    by_act (inside_act q written helpers rows) e =
        let k = inside_goes g ok a p q written helpers rows h e in
        subst PartBelow (sym k.is) (inside_below (frame_of (alphabet_of g) q) written helpers rows p k.fits here)
    by_act (call_act caller callee helpers rows) e =
        let k = call_goes g ok a p caller callee helpers rows h e in
        subst PartBelow (sym k.is) (call_below (frame_of (alphabet_of g) callee) helpers rows p k.fits here)
    by_act (back_act c targets) e =
        let k = back_goes g ok a p c targets h e in
        subst PartBelow (sym k.is) (return_below (alphabet_of g) targets (slice_get g.acts c) p)
