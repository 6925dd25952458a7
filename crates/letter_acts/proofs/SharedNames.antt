-- The names of constants and globals, which all frames share.
use Rattle.std.proofs.Common.{◌≡◌, ◌↔◌, ◌∙◌, ℕ, suc, Bool, true, false, not, List, [], ◌∷◌, ◌++◌, map, Some, slice_get, refl, sym, ap, subst}
use Rattle.std.specs.Prelude.{filter}
use Rattle.std.specs.List.{AllByRecursion}
use Rattle.boogie_tree.specs.declared.tree.Column.TheVariants.{Old}
use Rattle.boogie_tree.specs.declared.tree.VarInfo.{VarInfo}
use Rattle.letter_acts.specs.declared.frames.Frame.{Frame}
use Rattle.letter_acts.specs.Acts.{plain_frames}
use Rattle.letter_acts.specs.Frames.{Columns, added, globals_from, old_columns, locals_from, IsFrame, is_global}
use Rattle.letter_acts.specs.Invariant.{AreDistinct, AreFrames, HasNames, names_where}
use Rattle.letter_acts.specs.Checks.{HasOwnNames}

no_global_local : (m : ℕ) (locals : List VarInfo) → filter is_global (locals_from m locals) ≡ []
no_global_local m [] = refl
no_global_local m (l ∷ ls) = no_global_local (suc m) ls

no_global_after : (n m : ℕ) (vs locals : List VarInfo) → filter is_global (old_columns n vs ++ locals_from m locals) ≡ []
no_global_after n m [] locals = no_global_local m locals
no_global_after n m (v ∷ vs) locals = by_test n m v vs locals (not v.constant) (no_global_after (suc n) m vs locals)
  where
    by_test : (n m : ℕ) (v : VarInfo) (vs locals : List VarInfo) (b : Bool) → filter is_global (old_columns (suc n) vs ++ locals_from m locals) ≡ [] →
        filter is_global (added b (Old n, v) (old_columns (suc n) vs) ++ locals_from m locals) ≡ []
    by_test n m v vs locals true k = k
    by_test n m v vs locals false k = k

names_from : (n : ℕ) (globals : List VarInfo) (rest : Columns) → filter is_global rest ≡ [] → names_where is_global (globals_from n globals ++ rest) ≡ map (λ v. v.name) globals
names_from n [] rest e = ap (λ xs. map (λ c. c.1.name) xs) e
names_from n (v ∷ vs) rest e = ap (λ xs. v.name ∷ xs) (names_from (suc n) vs rest e)

global_names : (globals : List VarInfo) (frame : Columns) → IsFrame globals frame → names_where is_global frame ≡ map (λ v. v.name) globals
global_names globals frame f =
    ap (λ xs. names_where is_global xs) f.columns
    ∙ names_from 0 globals (old_columns 0 globals ++ locals_from 0 f.locals) (no_global_after 0 0 globals f.locals)

all_named : (globals : List VarInfo) (frames : List Columns) → AllByRecursion (IsFrame globals) frames → AreDistinct (map (λ v. v.name) globals) → AllByRecursion HasOwnNames frames → AllByRecursion HasNames frames
all_named globals [] a d h = tt
all_named globals (f ∷ fs) a d h =
    (record { globals = subst (λ (xs : List (List ℕ)). AreDistinct xs) (sym (global_names globals f a.0)) d; locals = h.0.locals; spelled = h.0.spelled }, all_named globals fs a.1 d h.1)

own_named : (frames : List Columns) → AllByRecursion HasNames frames → AllByRecursion HasOwnNames frames
own_named [] h = tt
own_named (f ∷ fs) h = (record { locals = h.0.locals; spelled = h.0.spelled }, own_named fs h.1)

-- where the names of the first frame's globals differ, those of each frame do
named_by_first : (first : Columns) (frames : List Columns) → AreFrames (first ∷ frames) → AreDistinct (names_where is_global first) → AllByRecursion HasOwnNames (first ∷ frames) →
    AllByRecursion HasNames (first ∷ frames)
named_by_first first frames f d h =
    all_named f.globals (first ∷ frames) f.laid_out (subst (λ (xs : List (List ℕ)). AreDistinct xs) (global_names f.globals first f.laid_out.0) d) h

-- the names of all frames, by those of the first frame's globals and each frame's own
pub names_by_first : (frames : List Frame) (first : Frame) → Some first ≡ slice_get frames 0 → AreFrames (plain_frames frames) →
    (AreDistinct (names_where is_global first.columns.items) × AllByRecursion HasOwnNames (plain_frames frames)) ↔ AllByRecursion HasNames (plain_frames frames)
names_by_first [] first e f = absurd (cc e)
names_by_first (g ∷ gs) first e f =
    let same : g ≡ first = cc e in (
      λ h. named_by_first g.columns.items (plain_frames gs) f (subst (λ (x : Frame). AreDistinct (names_where is_global x.columns.items)) (sym same) h.0) h.1,
      λ h. (subst (λ (x : Frame). AreDistinct (names_where is_global x.columns.items)) same h.0.globals, own_named (g.columns.items ∷ plain_frames gs) h),
    )
