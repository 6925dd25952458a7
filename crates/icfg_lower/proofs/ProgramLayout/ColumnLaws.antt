-- The columns of frames: how many they are, and the number of each.
use Rattle.std.proofs.Common.{◌≡◌, ℕ, zero, suc, ◌+◌, ◌<◌, ◌≤◌, ◌^◌, Bool, true, false, not, List, [], ◌∷◌, ◌++◌, length, Option, None, Some, slice_get, refl, sym, ap, subst, ◌∙◌, arith, IsTrue}
use Rattle.std.specs.Option.{IsSome}
use Rattle.std.proofs.lemmas.Option.{same_Some}
use Rattle.boogie_tree.specs.declared.tree.Column.{Column}
use Rattle.boogie_tree.specs.declared.tree.Column.TheVariants as columns
use Rattle.boogie_tree.specs.declared.tree.VarInfo.{VarInfo}
use Rattle.typed_tree.specs.TypedTree.{TypedProgram}
use Rattle.typed_tree.specs.TypingRules.ValidProgram.{is_valid}
use Rattle.letter_acts.specs.Frames.{Columns, added, globals_from, old_columns, locals_from}
use Rattle.cond_jumps.specs.Frames.{column_place_in}
use Rattle.cond_jumps.proofs.FrameLemmas.{found_from}
use Rattle.boogie_run.specs.Needs.{locals_at}
use Rattle.lowered_graph.specs.LoweredSteps.ProgramFrames.{frame_at, column_number, column_number_if_any}
use Rattle.lowered_graph.specs.LoweredSteps.Edges.{columns_before_locals}
use Rattle.icfg_lower.specs.ProgramLayout.Layouts.{StandsIn}
use Rattle.icfg_lower.proofs.ProgramLayout.FitLaws.{local_fits}

-- ---- how many

added_length : (b : Bool) (c : Column × VarInfo) (cs : Columns) (n : ℕ) → length cs ≤ n → length (added b c cs) ≤ suc n
added_length true c cs n l = omega arith
added_length false c cs n l = omega arith

pub olds_fewer : (n : ℕ) (vs : List VarInfo) → length (old_columns n vs) ≤ length vs
olds_fewer n [] = omega arith
olds_fewer n (v ∷ vs) = added_length (not v.constant) (columns.Old n, v) (old_columns (suc n) vs) (length vs) (olds_fewer (suc n) vs)

-- ---- where columns stand

abbrev IsAt : Columns → ℕ → Column → VarInfo → Type 0
IsAt cs i c w = slice_get cs i ≡ Some (c, w)

same_column_at : (a b : Column × VarInfo) → Some a ≡ Some b → a.0 ≡ b.0
same_column_at a b e = ap (λ (x : Column × VarInfo). x.0) (same_Some a b e)

in_globals : (j : ℕ) (vs : List VarInfo) (rest : Columns) (i m : ℕ) (w : VarInfo) → ((k : ℕ) → IsAt rest k (columns.Global m) w → ⊥) → IsAt (globals_from j vs ++ rest) i (columns.Global m) w → j + i ≡ m
in_globals j [] rest i m w h e = absurd (h i e)
in_globals j (v ∷ vs) rest zero m w h e =
    let f : columns.Global j ≡ columns.Global m = same_column_at (columns.Global j, v) (columns.Global m, w) e in
    let g : j ≡ m = cc in
    omega arith
in_globals j (v ∷ vs) rest (suc i) m w h e =
    let f : suc j + i ≡ m = in_globals (suc j) vs rest i m w h e in
    omega arith

no_global_in_locals : (j : ℕ) (vs : List VarInfo) (i m : ℕ) (w : VarInfo) → IsAt (locals_from j vs) i (columns.Global m) w → ⊥
no_global_in_locals j [] i m w e = cc
no_global_in_locals j (v ∷ vs) zero m w e = let f : columns.Local j ≡ columns.Global m = same_column_at (columns.Local j, v) (columns.Global m, w) e in cc
no_global_in_locals j (v ∷ vs) (suc i) m w e = no_global_in_locals (suc j) vs i m w e

no_global_added : (b : Bool) (j : ℕ) (v : VarInfo) (cs : Columns) (m : ℕ) (w : VarInfo) → ((k : ℕ) → IsAt cs k (columns.Global m) w → ⊥) → (i : ℕ) → IsAt (added b (columns.Old j, v) cs) i (columns.Global m) w → ⊥
no_global_added true j v cs m w h zero e = let f : columns.Old j ≡ columns.Global m = same_column_at (columns.Old j, v) (columns.Global m, w) e in cc
no_global_added true j v cs m w h (suc i) e = h i e
no_global_added false j v cs m w h i e = h i e

added-append : (b : Bool) (c : Column × VarInfo) (cs rest : Columns) → added b c cs ++ rest ≡ added b c (cs ++ rest)
added-append true c cs rest = refl
added-append false c cs rest = refl

no_global_in_olds : (j : ℕ) (vs : List VarInfo) (rest : Columns) (m : ℕ) (w : VarInfo) → ((k : ℕ) → IsAt rest k (columns.Global m) w → ⊥) → (i : ℕ) → IsAt (old_columns j vs ++ rest) i (columns.Global m) w → ⊥
no_global_in_olds j [] rest m w h i e = h i e
no_global_in_olds j (v ∷ vs) rest m w h i e =
    no_global_added (not v.constant) j v (old_columns (suc j) vs ++ rest) m w (no_global_in_olds (suc j) vs rest m w h) i
    (subst (λ (cs : Columns). IsAt cs i (columns.Global m) w) (added-append (not v.constant) (columns.Old j, v) (old_columns (suc j) vs) rest) e)

-- a local that stands behind other columns
record StandsBehind (n : ℕ) (rest : Columns) (i m : ℕ) (w : VarInfo) : Type 0 where
  index : ℕ
  at : i ≡ n + index
  stands : IsAt rest index (columns.Local m) w

past_globals : (j : ℕ) (vs : List VarInfo) (rest : Columns) (i m : ℕ) (w : VarInfo) → IsAt (globals_from j vs ++ rest) i (columns.Local m) w → StandsBehind (length vs) rest i m w
past_globals j [] rest i m w e = record { index = i; at = omega arith; stands = e }
past_globals j (v ∷ vs) rest zero m w e = absurd (let f : columns.Global j ≡ columns.Local m = same_column_at (columns.Global j, v) (columns.Local m, w) e in cc)
past_globals j (v ∷ vs) rest (suc i) m w e =
    let r = past_globals (suc j) vs rest i m w e in
    let a : i ≡ length vs + r.index = r.at in
    record { index = r.index; at = omega arith; stands = r.stands }

past_added : (b : Bool) (j : ℕ) (v : VarInfo) (cs rest : Columns) (m : ℕ) (w : VarInfo) → ((i : ℕ) → IsAt (cs ++ rest) i (columns.Local m) w → StandsBehind (length cs) rest i m w) →
    (i : ℕ) → IsAt (added b (columns.Old j, v) cs ++ rest) i (columns.Local m) w → StandsBehind (length (added b (columns.Old j, v) cs)) rest i m w
past_added true j v cs rest m w h zero e = absurd (let f : columns.Old j ≡ columns.Local m = same_column_at (columns.Old j, v) (columns.Local m, w) e in cc)
past_added true j v cs rest m w h (suc i) e =
    let r = h i e in
    let a : i ≡ length cs + r.index = r.at in
    record { index = r.index; at = omega arith; stands = r.stands }
past_added false j v cs rest m w h i e = h i e

past_olds : (j : ℕ) (vs : List VarInfo) (rest : Columns) (m : ℕ) (w : VarInfo) (i : ℕ) → IsAt (old_columns j vs ++ rest) i (columns.Local m) w → StandsBehind (length (old_columns j vs)) rest i m w
past_olds j [] rest m w i e = record { index = i; at = omega arith; stands = e }
past_olds j (v ∷ vs) rest m w i e = past_added (not v.constant) j v (old_columns (suc j) vs) rest m w (past_olds (suc j) vs rest m w) i e

in_locals : (j : ℕ) (vs : List VarInfo) (i m : ℕ) (w : VarInfo) → IsAt (locals_from j vs) i (columns.Local m) w → (j + i ≡ m) × (i < length vs)
in_locals j [] i m w e = absurd (cc)
in_locals j (v ∷ vs) zero m w e =
    let f : columns.Local j ≡ columns.Local m = same_column_at (columns.Local j, v) (columns.Local m, w) e in
    let g : j ≡ m = cc in
    (omega arith, omega arith)
in_locals j (v ∷ vs) (suc i) m w e =
    let f = in_locals (suc j) vs i m w e in
    let a : suc j + i ≡ m = f.0 in
    let b : i < length vs = f.1 in
    (omega arith, omega arith)

-- ---- the numbers of columns

global_found : (t : TypedProgram) (p m : ℕ) (o : Option (ℕ × VarInfo)) → column_place_in (frame_at t p) (columns.Global m) ≡ o → IsSome o → column_number_if_any o ≡ m
global_found t p m None e s = absurd (cc)
global_found t p m (Some x) e s =
    let f = found_from 0 (frame_at t p) (columns.Global m) x e in
    let a : x.0 ≡ 0 + f.index = f.at in
    let locals : Columns = locals_from 0 (locals_at t p) in
    let b : 0 + f.index ≡ m =
    in_globals 0 t.globals (old_columns 0 t.globals ++ locals) f.index m x.1
    (no_global_in_olds 0 t.globals locals m x.1 (λ k. no_global_in_locals 0 (locals_at t p) k m x.1)) f.stands in
    omega arith

pub global_number : (t : TypedProgram) (p m : ℕ) → IsSome (column_place_in (frame_at t p) (columns.Global m)) → column_number (frame_at t p) (columns.Global m) ≡ m
global_number t p m s = global_found t p m (column_place_in (frame_at t p) (columns.Global m)) refl s

local_found : (t : TypedProgram) (p m : ℕ) (o : Option (ℕ × VarInfo)) → column_place_in (frame_at t p) (columns.Local m) ≡ o → IsSome o → (column_number_if_any o ≡ columns_before_locals t + m) × (m < length (locals_at t p))
local_found t p m None e s = absurd (cc)
local_found t p m (Some x) e s =
    let f = found_from 0 (frame_at t p) (columns.Local m) x e in
    let a : x.0 ≡ 0 + f.index = f.at in
    let locals : Columns = locals_from 0 (locals_at t p) in
    let g = past_globals 0 t.globals (old_columns 0 t.globals ++ locals) f.index m x.1 f.stands in
    let b : f.index ≡ length t.globals + g.index = g.at in
    let h = past_olds 0 t.globals locals m x.1 g.index g.stands in
    let c : g.index ≡ length (old_columns 0 t.globals) + h.index = h.at in
    let l = in_locals 0 (locals_at t p) h.index m x.1 h.stands in
    let i : 0 + h.index ≡ m = l.0 in
    let j : h.index < length (locals_at t p) = l.1 in
    (omega arith, omega arith)

pub local_number : (t : TypedProgram) (p m : ℕ) → IsSome (column_place_in (frame_at t p) (columns.Local m)) →
    (column_number (frame_at t p) (columns.Local m) ≡ columns_before_locals t + m) × (m < length (locals_at t p))
local_number t p m s = local_found t p m (column_place_in (frame_at t p) (columns.Local m)) refl s

pub global_here : (t : TypedProgram) (c : Column) (m : ℕ) → c ≡ columns.Global m → (p : ℕ) → StandsIn (frame_at t p) c → m ≡ column_number (frame_at t p) c
global_here t c m e p =
    subst (λ (d : Column). StandsIn (frame_at t p) d → m ≡ column_number (frame_at t p) d) (sym e) (λ s. sym (global_number t p m s))

pub local_here : (t : TypedProgram) (c : Column) (m b : ℕ) → c ≡ columns.Local m → b ≡ columns_before_locals t → (p : ℕ) → StandsIn (frame_at t p) c → b + m ≡ column_number (frame_at t p) c
local_here t c m b e f p =
    subst (λ (d : Column). StandsIn (frame_at t p) d → b + m ≡ column_number (frame_at t p) d) (sym e)
    (λ s. ap (λ (n : ℕ). n + m) f ∙ sym ((local_number t p m s).0))

pub local_has_number : (t : TypedProgram) → IsTrue (is_valid t) → (c : Column) (m b : ℕ) → c ≡ columns.Local m → b ≡ columns_before_locals t → (p : ℕ) → StandsIn (frame_at t p) c → b + m < 2 ^ 32
local_has_number t v c m b e f p =
    subst (λ (d : Column). StandsIn (frame_at t p) d → b + m < 2 ^ 32) (sym e)
    (λ s. let l : m < length (locals_at t p) = (local_number t p m s).1 in omega (arith, local_fits t v p m l, olds_fewer 0 t.globals))
