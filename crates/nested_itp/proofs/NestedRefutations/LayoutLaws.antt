-- Where the columns of a frame stand: its constants and globals, its old columns, its locals.
use Rattle.std.proofs.Common.{◌≡◌, ◌∙◌, ◌⊎◌, inl, inr, ℕ, zero, suc, ◌+◌, ◌<◌, ◌≤◌, Bool, true, false, cond, List, [], ◌∷◌, ◌++◌, length, refl, ap, subst, arith, length-append, append-nil}
use Rattle.std.specs.Prelude.{filter, slice_get, IsSomeAnd}
use Rattle.std.specs.List.{AllByRecursion}
use Rattle.boogie_tree.specs.declared.tree.Column.{Column}
use Rattle.boogie_tree.specs.declared.tree.Column.TheVariants.{Global, Old, Local}
use Rattle.boogie_tree.specs.declared.tree.VarInfo.{VarInfo}
use Rattle.letter_acts.specs.Frames.{Columns, IsFrame, globals_from, is_old_column, is_local_column, is_local, is_parameter, added, places, globals_of}
use Rattle.letter_acts.proofs.ListLemmas.{places-append, places_none, counted_up}
use Rattle.letter_acts.proofs.FrameLemmas.{globals_are}
use Rattle.path_rows.specs.Versions.{local_columns, old_part}
use Rattle.letter_acts.specs.FrameRows.Rows.{columns_from}
use Rattle.letter_acts.specs.FrameRows.Frames.{is_old}
use Rattle.path_rows.proofs.LayoutLemmas.{LaidOut, laid_out, length-globals_from}
use Rattle.nested_itp.proofs.NestedRefutations.VersionLaws.{split_at}
use Rattle.nested_itp.proofs.NestedRefutations.MovingLaws.{below_or}

-- how many columns of each part, and where the old ones and the locals stand
pub record Layout (infos : List VarInfo) (frame : Columns) : Type 0 where
  pub parts : frame ≡ globals_from 0 infos ++ (old_part frame ++ local_columns frame)
  pub count : length frame ≡ length infos + (length (old_part frame) + length (local_columns frame))
  pub globals : globals_of frame ≡ columns_from 0 (length infos)
  pub old_places : places is_old 0 frame ≡ columns_from (length infos) (length (old_part frame))
  pub local_places : places is_local 0 frame ≡ columns_from (length infos + length (old_part frame)) (length (local_columns frame))

pub filtered : {X : Type 0} (test : X → Bool) (xs : List X) → AllByRecursion (λ x. test x ≡ true) (filter test xs)
filtered test [] = tt
filtered test (x ∷ xs) = by_test (test x) refl (filtered test xs)
  where
    by_test : (z : Bool) → test x ≡ z → AllByRecursion (λ y. test y ≡ true) (filter test xs) → AllByRecursion (λ y. test y ≡ true) (cond z (x ∷ filter test xs) (filter test xs))
    by_test true e h = (e, h)
    by_test false e h = h

all_weaker : {X : Type 0} (P Q : X → Type 0) → ((x : X) → P x → Q x) → (xs : List X) → AllByRecursion P xs → AllByRecursion Q xs
all_weaker P Q f [] h = tt
all_weaker P Q f (x ∷ xs) h = (f x h.0, all_weaker P Q f xs h.1)

old_no_local : (c : Column) → is_old_column c ≡ true → is_local_column c ≡ false
old_no_local (Global n) e = refl
old_no_local (Old n) e = refl
old_no_local (Local n) e = absurd (cc)

local_no_old : (c : Column) → is_local_column c ≡ true → is_old_column c ≡ false
local_no_old (Global n) e = refl
local_no_old (Old n) e = absurd (cc)
local_no_old (Local n) e = refl

places_all : {X : Type 0} (test : X → Bool) (xs : List X) (n : ℕ) → AllByRecursion (λ x. test x ≡ true) xs → places test n xs ≡ columns_from n (length xs)
places_all test [] n h = refl
places_all test (x ∷ xs) n h = ap (λ (b : Bool). added b n (places test (suc n) xs)) h.0 ∙ ap (λ (l : List ℕ). n ∷ l) (places_all test xs (suc n) h.1)

no_olds : (n : ℕ) (vs : List VarInfo) → AllByRecursion (λ c. is_old c ≡ false) (globals_from n vs)
no_olds n [] = tt
no_olds n (v ∷ vs) = (refl, no_olds (suc n) vs)

no_locals : (n : ℕ) (vs : List VarInfo) → AllByRecursion (λ c. is_local c ≡ false) (globals_from n vs)
no_locals n [] = tt
no_locals n (v ∷ vs) = (refl, no_locals (suc n) vs)

pub up_from : (n k : ℕ) → counted_up n k ≡ columns_from n k
up_from n zero = refl
up_from n (suc k) = ap (λ (l : List ℕ). n ∷ l) (up_from (suc n) k)

pub layout_of : (infos : List VarInfo) (frame : Columns) → IsFrame infos frame → Layout infos frame
layout_of infos frame f =
    let laid : LaidOut infos frame = laid_out infos frame f in
    let front : Columns = globals_from 0 infos in
    let olds : Columns = old_part frame in
    let locals : Columns = local_columns frame in
    let g : length front ≡ length infos = length-globals_from 0 infos in
    let a = ap length laid.parts in
    let b = length-append front (olds ++ locals) in
    let d = length-append olds locals in
    record {
      parts = laid.parts;
      count = omega (arith, a, b, d, g);
      globals = globals_are infos frame f ∙ up_from 0 (length infos);
      old_places = ap (places is_old 0) laid.parts ∙ places-append is_old front (olds ++ locals) 0 (length infos) (omega (arith, g)) ∙
          ap (λ (l : List ℕ). l ++ places is_old (length infos) (olds ++ locals)) (places_none is_old front 0 (no_olds 0 infos)) ∙
          places-append is_old olds locals (length infos) (length infos + length olds) refl ∙
          ap (λ (l : List ℕ). places is_old (length infos) olds ++ l) (places_none is_old locals (length infos + length olds)
          (all_weaker (λ c. is_local c ≡ true) (λ c. is_old c ≡ false) (λ c e. local_no_old c.0 e) locals (filtered is_local frame))) ∙
          append-nil (places is_old (length infos) olds) ∙ places_all is_old olds (length infos) (filtered is_old frame);
      local_places = ap (places is_local 0) laid.parts ∙ places-append is_local front (olds ++ locals) 0 (length infos) (omega (arith, g)) ∙
          ap (λ (l : List ℕ). l ++ places is_local (length infos) (olds ++ locals)) (places_none is_local front 0 (no_locals 0 infos)) ∙
          places-append is_local olds locals (length infos) (length infos + length olds) refl ∙
          ap (λ (l : List ℕ). l ++ places is_local (length infos + length olds) locals) (places_none is_local olds (length infos)
          (all_weaker (λ c. is_old c ≡ true) (λ c. is_local c ≡ false) (λ c e. old_no_local c.0 e) olds (filtered is_old frame))) ∙
          places_all is_local locals (length infos + length olds) (filtered is_local frame);
    }

-- a parameter stands behind the globals and the old columns
not_front : (n : ℕ) (vs : List VarInfo) (rest : Columns) (i : ℕ) → i < length vs → IsSomeAnd (slice_get (globals_from n vs ++ rest) i) (λ v. is_parameter v ≡ true) → ⊥
not_front n [] rest i l h = omega (arith, l)
not_front n (v ∷ vs) rest zero l h = absurd (cc)
not_front n (v ∷ vs) rest (suc i) l h = not_front (suc n) vs rest i (omega (arith, l)) h

parameter_local : (c : Column × VarInfo) → is_parameter c ≡ true → is_local c ≡ true
parameter_local (c, v) e = by_column c e
  where
    by_column : (c : Column) → is_parameter (c, v) ≡ true → is_local_column c ≡ true
    by_column (Global n) e = absurd (cc)
    by_column (Old n) e = absurd (cc)
    by_column (Local n) e = refl

not_old : (olds rest : Columns) → AllByRecursion (λ c. is_old c ≡ true) olds → (i : ℕ) → i < length olds → IsSomeAnd (slice_get (olds ++ rest) i) (λ v. is_parameter v ≡ true) → ⊥
not_old [] rest a i l h = omega (arith, l)
not_old (c ∷ olds) rest a zero l h = clash (is_local c) (parameter_local c h) (old_no_local c.0 a.0)
  where
    clash : (z : Bool) → z ≡ true → z ≡ false → ⊥
    clash true e f = absurd (cc)
    clash false e f = absurd (cc)
not_old (c ∷ olds) rest a (suc i) l h = not_old olds rest a.1 i (omega (arith, l)) h

behind_front : (n : ℕ) (vs : List VarInfo) (rest : Columns) (i : ℕ) (P : Column × VarInfo → Type 0) → IsSomeAnd (slice_get (globals_from n vs ++ rest) (length vs + i)) P → IsSomeAnd (slice_get rest i) P
behind_front n [] rest i P h = subst (λ (k : ℕ). IsSomeAnd (slice_get rest k) P) (let e : 0 + i ≡ i = omega arith in e) h
behind_front n (v ∷ vs) rest i P h =
    behind_front (suc n) vs rest i P
    (subst (λ (k : ℕ). IsSomeAnd (slice_get ((Global n, v) ∷ (globals_from (suc n) vs ++ rest)) k) P) (let e : suc (length vs) + i ≡ suc (length vs + i) = omega arith in e) h)

pub parameter_behind : (infos : List VarInfo) (frame : Columns) → IsFrame infos frame → (i : ℕ) → IsSomeAnd (slice_get frame i) (λ v. is_parameter v ≡ true) → length infos + length (old_part frame) ≤ i
parameter_behind infos frame f i h =
    let lay : Layout infos frame = layout_of infos frame f in
    by_place (below_or i (length infos)) (subst (λ (l : Columns). IsSomeAnd (slice_get l i) (λ v. is_parameter v ≡ true)) lay.parts h)
  where
    by_rest : (k : ℕ) → i ≡ length infos + k → (k < length (old_part frame)) ⊎ (length (old_part frame) ≤ k) → IsSomeAnd (slice_get (old_part frame ++ local_columns frame) k) (λ v. is_parameter v ≡ true) →
        length infos + length (old_part frame) ≤ i
    by_rest k e (inl l) h = absurd (not_old (old_part frame) (local_columns frame) (filtered is_old frame) k l h)
    by_rest k e (inr l) h = omega (arith, e, l)

    by_place : (i < length infos) ⊎ (length infos ≤ i) → IsSomeAnd (slice_get (globals_from 0 infos ++ (old_part frame ++ local_columns frame)) i) (λ v. is_parameter v ≡ true) → length infos + length (old_part frame) ≤ i
    by_place (inl l) h = absurd (not_front 0 infos (old_part frame ++ local_columns frame) i l h)
    by_place (inr l) h = with_rest (split_at (length infos) i) h
      where
        with_rest : (i < length infos) ⊎ ((k : ℕ) × (i ≡ length infos + k)) → IsSomeAnd (slice_get (globals_from 0 infos ++ (old_part frame ++ local_columns frame)) i) (λ v. is_parameter v ≡ true) →
            length infos + length (old_part frame) ≤ i
        with_rest (inl b) h = absurd (omega (arith, b, l))
        with_rest (inr k) h =
            by_rest k.0 k.1 (below_or k.0 (length (old_part frame)))
            (behind_front 0 infos (old_part frame ++ local_columns frame) k.0 (λ v. is_parameter v ≡ true)
            (subst (λ (n : ℕ). IsSomeAnd (slice_get (globals_from 0 infos ++ (old_part frame ++ local_columns frame)) n) (λ v. is_parameter v ≡ true)) k.1 h))
