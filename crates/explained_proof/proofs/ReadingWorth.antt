-- Values of expressions of the tree are a reading: numbers, operations and truth values are what they are; and columns have their values.
use Rattle.std.proofs.Common.{◌≡◌, ◌∙◌, ◌⊎◌, inl, inr, ℕ, zero, suc, ◌+◌, ℤ, pos, negsuc, ◌-ℤ◌, Bool, true, false, not, List, [], ◌∷◌, ◌++◌, Option, None, Some, refl, sym, ap, arith}
use Rattle.std.specs.Prelude.{◌&&◌, ◌||◌, unsigned_abs, int_le, slice_get, if◌then◌else◌}
use Rattle.std.specs.Option.{option_map, option_and_then}
use Rattle.std.specs.Ordering.{int_eq}
use Rattle.std.proofs.lemmas.Bool.{eqb-true, eq-eqb, false≢true}
use Rattle.std.proofs.lemmas.Bool.Decides.{Decides-int_eq, same_from_decides}
use Rattle.std.proofs.lemmas.Int.{ints}
use Rattle.boogie_tree.specs.declared.tree.Column.{Column}
use Rattle.boogie_tree.specs.declared.tree.Column.TheVariants.{Global, Old, Local}
use Rattle.boogie_tree.specs.declared.tree.VarInfo.{VarInfo}
use Rattle.boogie_tree.specs.Tree.{Expression}
use Rattle.letter_acts.specs.Frames.{Columns, IsFrame, added, globals_from, old_columns, locals_from}
use Rattle.explained_proof.specs.BuiltExpressions.Building.{variable, number}
use Rattle.typed_tree.specs.Values.{State, column_value, at_entry, truth, value_is_zero, same}
use Rattle.explained_proof.specs.declared.row_expressions.scopes.Position.{Position}
use Rattle.explained_proof.specs.declared.row_expressions.scopes.Voice.{Voice}
use Rattle.explained_proof.specs.declared.row_expressions.scopes.Voice.TheVariants.{Plain, InOld}
use Rattle.explained_proof.specs.RowExpressions.Options.{passes}
use Rattle.explained_proof.specs.RowExpressions.Scopes.{ClauseScope, sees, stays, hides, is_requires, voice_of_old, voice, spoken, column_said, is_boolean, has_truth, number_text, number_spoken, column_number}
use Rattle.explained_proof.specs.RowExpressions.Worth.{HasColumns}
use Rattle.explained_proof.specs.Clauses.{KnownProcedure, scope}
use Rattle.explained_proof.specs.Worth.{IsEntryOf, IsState}
use Rattle.explained_proof.specs.Readings.{tree_value, tree_holds, ValuesAreReadings, LooksUp, column_in, frame_point, HasTruths, ConstantsStay, ClausesAreTrue}
use Rattle.explained_proof.proofs.FrameWorth.{same_column, olds_of_globals, voice_global, voice_old, voice_local}
use Rattle.explained_proof.proofs.ClauseWorth.{clauses_true}

truth_back : (b : Bool) → not (value_is_zero (truth b)) ≡ b
truth_back true = refl
truth_back false = refl

not_not : (b : Bool) → b ≡ not (not b)
not_not true = refl
not_not false = refl

number_back : (look : State → List ℕ → ℤ) (s : State) (z : ℤ) → tree_value look s (number z) ≡ z
number_back look s (pos n) = refl
number_back look s (negsuc n) = refl

apart_none : (a b : ℤ) → unsigned_abs (a -ℤ b) ≡ 0 → a ≡ b
apart_none a b h = omega (arith, ints)

none_apart : (a b : ℤ) → a ≡ b → unsigned_abs (a -ℤ b) ≡ 0
none_apart a b h = omega (arith, ints)

same_is : (a b : ℤ) → int_eq a b ≡ same a b
same_is a b =
    same_from_decides {P = a ≡ b} (int_eq a b) (same a b) (Decides-int_eq a b)
    (λ h. apart_none a b (eqb-true (unsigned_abs (a -ℤ b)) 0 h), λ h. eq-eqb (unsigned_abs (a -ℤ b)) 0 (none_apart a b h))

if_then : (x : Bool) (b : ℤ) → not (value_is_zero (if x then pos 1 else b)) ≡ (not (not x) || not (value_is_zero b))
if_then true b = refl
if_then false b = refl

both_are : (x : Bool) (b : ℤ) → not (value_is_zero (if x then pos 0 else b)) ≡ (not x && not (value_is_zero b))
both_are true b = refl
both_are false b = refl

one_is : (x : Bool) (b : ℤ) → not (value_is_zero (if x then b else pos 1)) ≡ (not x || not (value_is_zero b))
one_is true b = refl
one_is false b = refl

pub values_are_readings : ValuesAreReadings
values_are_readings look s = record {
  numbers = λ z. number_back look s z;
  sums = λ a b. refl;
  products = λ a b. refl;
  at_most = λ a b. truth_back (int_le (tree_value look s a) (tree_value look s b));
  equal = λ a b. truth_back (same (tree_value look s a) (tree_value look s b)) ∙ sym (same_is (tree_value look s a) (tree_value look s b));
  opposites = λ at e. truth_back (value_is_zero (tree_value look s e)) ∙ not_not (value_is_zero (tree_value look s e));
  conclusions = λ a b. if_then (value_is_zero (tree_value look s a)) (tree_value look s b);
  truths = record {
    truths = λ b. truth_back b;
    ands = λ a b. both_are (value_is_zero (tree_value look s a)) (tree_value look s b);
    ors = λ a b. one_is (value_is_zero (tree_value look s a)) (tree_value look s b);
  };
}

-- ---- columns

no_global_local : (k : ℕ) (ls : List VarInfo) (n g : ℕ) (v : VarInfo) → slice_get (locals_from k ls) n ≡ Some (Global g, v) → ⊥
no_global_local k [] n g v h = let no : ⊥ = cc in no
no_global_local k (l ∷ ls) zero g v h = local_no_global k g (same_column (Local k) (Global g) l v h).0
  where
    local_no_global : (k g : ℕ) → Local k ≡ Global g → ⊥
    local_no_global k g e = let no : ⊥ = cc in no
no_global_local k (l ∷ ls) (suc n) g v h = no_global_local (suc k) ls n g v h

no_global_old : (k : ℕ) (gs ls : List VarInfo) (n g : ℕ) (v : VarInfo) → slice_get (old_columns k gs ++ locals_from 0 ls) n ≡ Some (Global g, v) → ⊥
no_global_old k [] ls n g v h = no_global_local 0 ls n g v h
no_global_old k (w ∷ ws) ls n g v h = by (not w.constant) n h (λ (m : ℕ) (e : slice_get (old_columns (suc k) ws ++ locals_from 0 ls) m ≡ Some (Global g, v)). no_global_old (suc k) ws ls m g v e)
  where
    by : (b : Bool) (m : ℕ) → slice_get (added b (Old k, w) (old_columns (suc k) ws) ++ locals_from 0 ls) m ≡ Some (Global g, v) →
        ((m : ℕ) → slice_get (old_columns (suc k) ws ++ locals_from 0 ls) m ≡ Some (Global g, v) → ⊥) → ⊥
    by true zero e behind = old_no_global k g (same_column (Old k) (Global g) w v e).0
      where
        old_no_global : (k g : ℕ) → Old k ≡ Global g → ⊥
        old_no_global k g f = let no : ⊥ = cc in no
    by true (suc m) e behind = behind m e
    by false m e behind = behind m e

-- a global at its number
global_at : (k : ℕ) (gs ls all : List VarInfo) (n g : ℕ) (v : VarInfo) → slice_get (globals_from k gs ++ (old_columns 0 all ++ locals_from 0 ls)) n ≡ Some (Global g, v) →
    (g ≡ k + n) × (slice_get gs n ≡ Some v)
global_at k [] ls all n g v h = absurd (no_global_old 0 all ls n g v h)
global_at k (w ∷ ws) ls all zero g v h =
    let c = same_column (Global k) (Global g) w v h in
    let d : k ≡ g = number_same k g c.0 in
    (omega (arith, d), ap Some c.1)
  where
    number_same : (k g : ℕ) → Global k ≡ Global g → k ≡ g
    number_same k g e = cc
global_at k (w ∷ ws) ls all (suc n) g v h = let a = global_at (suc k) ws ls all n g v h in let e = a.0 in (omega (arith, e), a.1)

-- the old column of a global that may change
old_at : (k : ℕ) (gs ls : List VarInfo) (j : ℕ) (v : VarInfo) → slice_get gs j ≡ Some v → v.constant ≡ false → (m : ℕ) × (slice_get (old_columns k gs ++ locals_from 0 ls) m ≡ Some (Old (k + j), v))
old_at k [] ls j v h f = let no : ⊥ = cc in absurd no
old_at k (w ∷ ws) ls zero v h f =
    let e : w ≡ v = cc in
    let d : k ≡ k + 0 = omega arith in
    (0, first (not w.constant) (ap (λ x. not x.constant) e ∙ ap not f) ∙ ap (λ x. Some (Old k, x)) e ∙ ap (λ m. Some (Old m, v)) d)
  where
    first : (b : Bool) → b ≡ true → slice_get (added b (Old k, w) (old_columns (suc k) ws) ++ locals_from 0 ls) 0 ≡ Some (Old k, w)
    first true i = refl
    first false i = absurd (false≢true i)
old_at k (w ∷ ws) ls (suc j) v h f = by (not w.constant) (old_at (suc k) ws ls j v h f)
  where
    number : suc k + j ≡ k + suc j
    number = omega arith

    by : (b : Bool) → ((m : ℕ) × (slice_get (old_columns (suc k) ws ++ locals_from 0 ls) m ≡ Some (Old (suc k + j), v))) →
        (m : ℕ) × (slice_get (added b (Old k, w) (old_columns (suc k) ws) ++ locals_from 0 ls) m ≡ Some (Old (k + suc j), v))
    by true (m, e) = (suc m, e ∙ ap (λ i. Some (Old i, v)) number)
    by false (m, e) = (m, e ∙ ap (λ i. Some (Old i, v)) number)

behind_globals : (k : ℕ) (gs : List VarInfo) (rest : Columns) (m : ℕ) (o : Option (Column × VarInfo)) → slice_get rest m ≡ o → (n : ℕ) × (slice_get (globals_from k gs ++ rest) n ≡ o)
behind_globals k [] rest m o h = (m, h)
behind_globals k (w ∷ ws) rest m o h = let a = behind_globals (suc k) ws rest m o h in (suc a.0, a.1)

module _ (globals : List VarInfo) (frame : Columns) (is_frame : IsFrame globals frame) where
  in_parts : (n : ℕ) (o : Option (Column × VarInfo)) → slice_get frame n ≡ o → slice_get (globals_from 0 globals ++ (old_columns 0 globals ++ locals_from 0 is_frame.locals)) n ≡ o
  in_parts n o h = ap (λ x. slice_get x n) (sym is_frame.columns) ∙ h

  global_number : (n g : ℕ) (v : VarInfo) → slice_get frame n ≡ Some (Global g, v) → g ≡ n
  global_number n g v h = let e = (global_at 0 globals is_frame.locals globals n g v (in_parts n (Some (Global g, v)) h)).0 in omega (arith, e)

  changing_old : (n g : ℕ) (v : VarInfo) → slice_get frame n ≡ Some (Global g, v) → v.constant ≡ false → (m : ℕ) × (slice_get frame m ≡ Some (Old g, v))
  changing_old n g v h f =
      let a = global_at 0 globals is_frame.locals globals n g v (in_parts n (Some (Global g, v)) h) in
      let b = old_at 0 globals is_frame.locals n v a.1 f in
      let c = behind_globals 0 globals (old_columns 0 globals ++ locals_from 0 is_frame.locals) b.0 (Some (Old (0 + n), v)) b.1 in
      let d : 0 + n ≡ g = (let e = a.0 in omega (arith, e)) in
      (c.0, ap (λ x. slice_get x c.0) is_frame.columns ∙ c.1 ∙ ap (λ m. Some (Old m, v)) d)

-- ---- what columns are called, and what that is worth

truth_number : (z : ℤ) → (z ≡ pos 0) ⊎ (z ≡ pos 1) → not (value_is_zero z) ≡ int_eq z (pos 1)
truth_number z (inl e) = ap (λ y. not (value_is_zero y)) e ∙ sym (ap (λ y. int_eq y (pos 1)) e)
truth_number z (inr e) = ap (λ y. not (value_is_zero y)) e ∙ sym (ap (λ y. int_eq y (pos 1)) e)

module _ (look : State → List ℕ → ℤ) (globals : List VarInfo) (q : KnownProcedure) (position : Position) (s : State) (was : ℕ → ℤ) (frame : IsFrame globals q.frame)
    (told : is_requires position ≡ false) (names : LooksUp look q position) (truths : HasTruths q.frame (frame_point q.frame s)) (truths_then : HasTruths q.frame was)
    (constants : ConstantsStay q.frame s) (entered : IsEntryOf q (frame_point q.frame s) was) where
  abbrev plain : ClauseScope
  plain = scope q position false

  abbrev now : ℕ → ℤ
  now = frame_point q.frame s

  at_now : (n : ℕ) (c : Column × VarInfo) → slice_get q.frame n ≡ Some c → now n ≡ column_value s c.0
  at_now n c e = ap (column_in s) e

  -- the name of an old column, read at the entry
  old_name : (n g : ℕ) (v : VarInfo) → slice_get q.frame n ≡ Some (Old g, v) → hides plain v.name ≡ false → look (at_entry s) v.name ≡ column_value s (Old g)
  old_name n g v e h =
      names.names (at_entry s) g (Global g, v) (olds_of_globals globals q.frame frame n g v e) (ap (λ b. if b then None else Some Plain) h)

  record Voiced (c : Column × VarInfo) (x : Voice) (e : Expression) (make : VarInfo → Voice → Expression) : Type 0 where
    called : voice plain c ≡ Some x
    made : e ≡ make c.1 x

  voiced : (c : Column × VarInfo) (make : VarInfo → Voice → Expression) (e : Expression) (o : Option Voice) → voice plain c ≡ o → option_map (make c.1) o ≡ Some e → (x : Voice) × Voiced c x e make
  voiced c make e None f h = let no : ⊥ = cc in absurd no
  voiced c make e (Some x) f h = (x, record { called = f; made = sym (there (make c.1 x) e h) })
    where
      there : (a b : Expression) → Some a ≡ Some b → a ≡ b
      there a b k = cc

  shown : (b : Bool) (x : Voice) → (if b then None else Some Plain) ≡ Some x → (b ≡ false) × (x ≡ Plain)
  shown true x h = let no : ⊥ = cc in absurd no
  shown false x h = (refl, let e : x ≡ Plain = cc in e)

  shown_old : (b : Bool) (x y : Voice) → (if b then None else Some y) ≡ Some x → (b ≡ false) × (x ≡ y)
  shown_old true x y h = let no : ⊥ = cc in absurd no
  shown_old false x y h = (refl, let e : x ≡ y = cc in e)

  shown_local : (b c : Bool) (x : Voice) → (if b && c then Some Plain else None) ≡ Some x → (b ≡ true) × (c ≡ true) × (x ≡ Plain)
  shown_local true true x h = (refl, refl, let e : x ≡ Plain = cc in e)
  shown_local true false x h = let no : ⊥ = cc in absurd no
  shown_local false c x h = let no : ⊥ = cc in absurd no

  voice_then : voice_of_old plain ≡ InOld
  voice_then = ap (λ b. if b then Plain else InOld) told

  -- what a column is called, as a name
  name_now : (n : ℕ) (c : Column × VarInfo) (x : Voice) → slice_get q.frame n ≡ Some c → voice plain c ≡ Some x → tree_value look s (spoken c.1.name x) ≡ column_value s c.0
  name_now n (Global g, v) x e h =
      let a = shown (hides plain v.name) x h in
      ap (λ y. tree_value look s (spoken v.name y)) a.1 ∙ names.names s n (Global g, v) e (h ∙ ap Some a.1)
  name_now n (Old g, v) x e h =
      let a = shown_old (hides plain v.name) x (voice_of_old plain) h in
      ap (λ y. tree_value look s (spoken v.name y)) (a.1 ∙ voice_then) ∙ old_name n g v e a.0
  name_now n (Local k, v) x e h =
      let a = shown_local (sees plain k v.name) (stays plain k) x h in
      ap (λ y. tree_value look s (spoken v.name y)) a.2 ∙ names.names s n (Local k, v) e (h ∙ ap Some a.2)

  number_now_by : (b : Bool) (n : ℕ) (c : Column × VarInfo) (x : Voice) → has_truth c ≡ b → slice_get q.frame n ≡ Some c → voice plain c ≡ Some x →
      tree_value look s (if b then variable (number_text c.1.name x) else spoken c.1.name x) ≡ column_value s c.0
  number_now_by true n c x t e h = names.numbers s n c x e t h
  number_now_by false n c x t e h = name_now n c x e h

  columns_by : (n : ℕ) (e : Expression) (o : Option (Column × VarInfo)) → slice_get q.frame n ≡ o → option_and_then (column_number plain) o ≡ Some e → tree_value look s e ≡ column_in s o
  columns_by n e None f h = let no : ⊥ = cc in absurd no
  columns_by n e (Some c) f h =
      let w = voiced c number_spoken e (voice plain c) refl h in
      ap (tree_value look s) w.1.made ∙ number_now_by (has_truth c) n c w.0 refl f w.1.called

  truths_by : (n : ℕ) (e : Expression) (o : Option (Column × VarInfo)) → slice_get q.frame n ≡ o → passes has_truth o ≡ true → option_and_then (column_said plain) o ≡ Some e →
      tree_holds look s e ≡ int_eq (column_in s o) (pos 1)
  truths_by n e None f t h = let no : ⊥ = cc in absurd no
  truths_by n e (Some c) f t h =
      let w = voiced c (λ v x. spoken v.name x) e (voice plain c) refl h in
      ap (λ z. not (value_is_zero z)) (ap (tree_value look s) w.1.made ∙ name_now n c w.0 f w.1.called) ∙ truth_number (column_value s c.0) (by (truths n c f t))
    where
      by : (now n ≡ pos 0) ⊎ (now n ≡ pos 1) → (column_value s c.0 ≡ pos 0) ⊎ (column_value s c.0 ≡ pos 1)
      by (inl i) = inl (sym (at_now n c f) ∙ i)
      by (inr i) = inr (sym (at_now n c f) ∙ i)

  bounded_by : (point : ℕ → ℤ) → HasTruths q.frame point → (n : ℕ) (o : Option (Column × VarInfo)) → slice_get q.frame n ≡ o → passes has_truth o ≡ true → (point n ≡ pos 0) ⊎ (point n ≡ pos 1)
  bounded_by point b n None f t = let no : ⊥ = cc in absurd no
  bounded_by point b n (Some c) f t = b n c f t

  columns_now : HasColumns (tree_value look s) (tree_holds look s) plain now
  columns_now = record {
    columns = λ n e h. columns_by n e (slice_get q.frame n) refl h;
    truths = λ n e t h. truths_by n e (slice_get q.frame n) refl t h;
    bounded = λ n t. bounded_by now truths n (slice_get q.frame n) refl t;
  }

  -- ---- what premises call, at the entry

  -- a column that has the name plainly now, and at the entry the value that is asked
  record ThenAt (n : ℕ) (c : Column × VarInfo) (x : Voice) : Type 0 where
    plainly : x ≡ Plain
    place : ℕ
    column : Column × VarInfo
    is : slice_get q.frame place ≡ Some column
    same : column.1 ≡ c.1
    called : voice plain column ≡ Some Plain
    value : column_value (at_entry s) column.0 ≡ was n

  global_value : (n g : ℕ) (v : VarInfo) (b : Bool) → v.constant ≡ b → slice_get q.frame n ≡ Some (Global g, v) → column_value (at_entry s) (Global g) ≡ was n
  global_value n g v true f e = constants n g v e f ∙ sym (at_now n (Global g, v) e) ∙ sym (entered.kept n (Global g, v) e f)
  global_value n g v false f e =
      let m = changing_old globals q.frame frame n g v e f in
      sym (at_now m.0 (Old g, v) m.1) ∙ sym (entered.globals m.0 g v m.1) ∙ ap was (global_number globals q.frame frame n g v e)

  then_at : (n : ℕ) (c : Column × VarInfo) (x : Voice) → slice_get q.frame n ≡ Some c → voice (scope q position true) c ≡ Some x → ThenAt n c x
  then_at n (Global g, v) x e h =
      let called = sym (voice_global q position g v) ∙ h in
      let a = shown (hides plain v.name) x called in
      record { plainly = a.1; place = n; column = (Global g, v); is = e; same = refl; called = called ∙ ap Some a.1; value = global_value n g v v.constant refl e }
  then_at n (Old g, v) x e h =
      let called : voice plain (Global g, v) ≡ Some x = sym (voice_old q position g g v) ∙ h in
      let a = shown (hides plain v.name) x called in
      record {
        plainly = a.1;
        place = g;
        column = (Global g, v);
        is = olds_of_globals globals q.frame frame n g v e;
        same = refl;
        called = called ∙ ap Some a.1;
        value = sym (at_now n (Old g, v) e) ∙ sym (entered.kept n (Old g, v) e refl);
      }
  then_at n (Local k, v) x e h =
      let l = voice_local q position k v x h in
      let called = sym l.same ∙ h in
      let a = shown_local (sees plain k v.name) (stays plain k) x called in
      record {
        plainly = a.2;
        place = n;
        column = (Local k, v);
        is = e;
        same = refl;
        called = called ∙ ap Some a.2;
        value = sym (at_now n (Local k, v) e) ∙ sym (entered.kept n (Local k, v) e l.parameter);
      }

  name_then : (n : ℕ) (c : Column × VarInfo) (x : Voice) → ThenAt n c x → tree_value look (at_entry s) (spoken c.1.name x) ≡ was n
  name_then n c x t =
      ap (λ y. tree_value look (at_entry s) (spoken c.1.name y)) t.plainly ∙ ap (λ v. look (at_entry s) v.name) (sym t.same) ∙
      names.names (at_entry s) t.place t.column t.is t.called ∙ t.value

  number_then_by : (b : Bool) (n : ℕ) (c : Column × VarInfo) (x : Voice) → has_truth c ≡ b → ThenAt n c x →
      tree_value look (at_entry s) (if b then variable (number_text c.1.name x) else spoken c.1.name x) ≡ was n
  number_then_by true n c x e t =
      ap (λ y. look (at_entry s) (number_text c.1.name y)) t.plainly ∙ ap (λ v. look (at_entry s) (number_text v.name Plain)) (sym t.same) ∙
      names.numbers (at_entry s) t.place t.column Plain t.is (ap (λ v. is_boolean v.ty) t.same ∙ e) t.called ∙ t.value
  number_then_by false n c x e t = name_then n c x t

  record Called (c : Column × VarInfo) (e : Expression) (make : VarInfo → Voice → Expression) : Type 0 where
    voice_is : Voice
    called : voice (scope q position true) c ≡ Some voice_is
    made : e ≡ make c.1 voice_is

  called_by : (c : Column × VarInfo) (make : VarInfo → Voice → Expression) (e : Expression) (o : Option Voice) → voice (scope q position true) c ≡ o → option_map (make c.1) o ≡ Some e → Called c e make
  called_by c make e None f h = let no : ⊥ = cc in absurd no
  called_by c make e (Some x) f h = record { voice_is = x; called = f; made = sym (there (make c.1 x) e h) }
    where
      there : (a b : Expression) → Some a ≡ Some b → a ≡ b
      there a b k = cc

  columns_then_by : (n : ℕ) (e : Expression) (o : Option (Column × VarInfo)) → slice_get q.frame n ≡ o → option_and_then (column_number (scope q position true)) o ≡ Some e →
      tree_value look (at_entry s) e ≡ was n
  columns_then_by n e None f h = let no : ⊥ = cc in absurd no
  columns_then_by n e (Some c) f h =
      let w = called_by c number_spoken e (voice (scope q position true) c) refl h in
      ap (tree_value look (at_entry s)) w.made ∙ number_then_by (has_truth c) n c w.voice_is refl (then_at n c w.voice_is f w.called)

  truths_then_by : (n : ℕ) (e : Expression) (o : Option (Column × VarInfo)) → slice_get q.frame n ≡ o → passes has_truth o ≡ true → option_and_then (column_said (scope q position true)) o ≡ Some e →
      tree_holds look (at_entry s) e ≡ int_eq (was n) (pos 1)
  truths_then_by n e None f t h = let no : ⊥ = cc in absurd no
  truths_then_by n e (Some c) f t h =
      let w = called_by c (λ v x. spoken v.name x) e (voice (scope q position true) c) refl h in
      ap (λ z. not (value_is_zero z)) (ap (tree_value look (at_entry s)) w.made ∙ name_then n c w.voice_is (then_at n c w.voice_is f w.called)) ∙ truth_number (was n) (truths_then n c f t)

  columns_then : HasColumns (tree_value look (at_entry s)) (tree_holds look (at_entry s)) (scope q position true) was
  columns_then = record {
    columns = λ n e h. columns_then_by n e (slice_get q.frame n) refl h;
    truths = λ n e t h. truths_then_by n e (slice_get q.frame n) refl t h;
    bounded = λ n t. bounded_by was truths_then n (slice_get q.frame n) refl t;
  }

  is_state : IsState (tree_value look s) (tree_holds look s) (tree_value look (at_entry s)) (tree_holds look (at_entry s)) q position now was
  is_state = record {
    reading = values_are_readings look s;
    old_reading = values_are_readings look (at_entry s);
    olds = λ e. refl;
    columns = columns_now;
    old_columns = columns_then;
    entered = entered;
  }

pub clauses_are_true : ClausesAreTrue
clauses_are_true look globals q position place s was frame shallow told names truths truths_then constants entered followed =
    clauses_true (tree_value look s) (tree_holds look s) (tree_value look (at_entry s)) (tree_holds look (at_entry s)) globals q position place (frame_point q.frame s) was frame shallow told
    (is_state look globals q position s was frame told names truths truths_then constants entered) followed
