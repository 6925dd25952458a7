-- Frames: each old column is of the global that it names, and what columns are called in premises.
use Rattle.std.proofs.Common.{◌≡◌, ◌∙◌, ◌⊎◌, ℕ, zero, suc, ◌+◌, ℤ, pos, Bool, true, false, not, List, [], ◌∷◌, ◌++◌, Option, None, Some, refl, sym, ap, arith}
use Rattle.std.specs.Prelude.{◌&&◌, ◌||◌, nat_lt, slice_get, if◌then◌else◌}
use Rattle.std.specs.List.{list_any}
use Rattle.std.specs.Option.{option_map, option_and_then}
use Rattle.std.specs.Ordering.{int_eq}
use Rattle.std.specs.Str.{bytes_eq}
use Rattle.std.proofs.lemmas.Bool.{false≢true}
use Rattle.boogie_tree.specs.declared.tree.Column.{Column}
use Rattle.boogie_tree.specs.declared.tree.Column.TheVariants.{Global, Old, Local}
use Rattle.boogie_tree.specs.declared.tree.VarInfo.{VarInfo}
use Rattle.boogie_tree.specs.Tree.{Expression}
use Rattle.letter_acts.specs.Frames.{Columns, IsFrame, added, globals_from, old_columns, locals_from}
use Rattle.explained_proof.specs.declared.row_expressions.scopes.Position.{Position}
use Rattle.explained_proof.specs.declared.row_expressions.scopes.Position.TheVariants.{Requires, Ensures, Body}
use Rattle.explained_proof.specs.declared.row_expressions.scopes.Voice.{Voice}
use Rattle.explained_proof.specs.declared.row_expressions.scopes.Voice.TheVariants.{Plain}
use Rattle.explained_proof.specs.RowExpressions.Scopes.{ClauseScope, sees_at, sees, is_seen_local, hides, voice, spoken, column_said, said, has_truth, is_truth, changes, may_change, number_spoken, column_number, number_said, entry_named, entry_column}
use Rattle.explained_proof.specs.RowExpressions.Options.{passes}
use Rattle.explained_proof.specs.RowExpressions.Worth.{HasColumns}
use Rattle.explained_proof.specs.Clauses.{KnownProcedure, scope}
use Rattle.explained_proof.specs.Worth.{IsEntryOf}

-- ---- columns of frames

pub same_column : (a b : Column) (v w : VarInfo) → ◌≡◌ {A = Option (Column × VarInfo)} (Some (a, v)) (Some (b, w)) → (a ≡ b) × (v ≡ w)
same_column a b v w h = let e : ◌≡◌ {A = Column × VarInfo} (a, v) (b, w) = cc in (ap (λ x. x.0) e, ap (λ x. x.1) e)

old_no_global : (g k : ℕ) → Global k ≡ Old g → ⊥
old_no_global g k h = let no : ⊥ = cc in no

old_no_local : (g k : ℕ) → Local k ≡ Old g → ⊥
old_no_local g k h = let no : ⊥ = cc in no

same_old : (k g : ℕ) → Old k ≡ Old g → k ≡ g
same_old k g h = cc

past_globals : (k : ℕ) (gs : List VarInfo) (rest : Columns) (n g : ℕ) (v : VarInfo) → slice_get (globals_from k gs ++ rest) n ≡ Some (Old g, v) → (m : ℕ) × (slice_get rest m ≡ Some (Old g, v))
past_globals k [] rest n g v h = (n, h)
past_globals k (w ∷ ws) rest zero g v h = absurd (old_no_global g k (same_column (Global k) (Old g) w v h).0)
past_globals k (w ∷ ws) rest (suc n) g v h = past_globals (suc k) ws rest n g v h

no_local : (k : ℕ) (ls : List VarInfo) (n g : ℕ) (v : VarInfo) → slice_get (locals_from k ls) n ≡ Some (Old g, v) → ⊥
no_local k [] n g v h = let no : ⊥ = cc in no
no_local k (l ∷ ls) zero g v h = old_no_local g k (same_column (Local k) (Old g) l v h).0
no_local k (l ∷ ls) (suc n) g v h = no_local (suc k) ls n g v h

-- a global at a number
record GlobalAt (k : ℕ) (gs : List VarInfo) (g : ℕ) (v : VarInfo) : Type 0 where
  place : ℕ
  number : g ≡ k + place
  is : slice_get gs place ≡ Some v

next_global : (k : ℕ) (w : VarInfo) (ws : List VarInfo) (g : ℕ) (v : VarInfo) → GlobalAt (suc k) ws g v → GlobalAt k (w ∷ ws) g v
next_global k w ws g v a = let e = a.number in record { place = suc a.place; number = omega (arith, e); is = a.is }

of_global : (k : ℕ) (gs ls : List VarInfo) (n g : ℕ) (v : VarInfo) → slice_get (old_columns k gs ++ locals_from 0 ls) n ≡ Some (Old g, v) → GlobalAt k gs g v
of_global k [] ls n g v h = absurd (no_local 0 ls n g v h)
of_global k (w ∷ ws) ls n g v h = by (not w.constant) n h (λ (m : ℕ) (e : slice_get (old_columns (suc k) ws ++ locals_from 0 ls) m ≡ Some (Old g, v)). of_global (suc k) ws ls m g v e)
  where
    by : (b : Bool) (m : ℕ) → slice_get (added b (Old k, w) (old_columns (suc k) ws) ++ locals_from 0 ls) m ≡ Some (Old g, v) →
        ((m : ℕ) → slice_get (old_columns (suc k) ws ++ locals_from 0 ls) m ≡ Some (Old g, v) → GlobalAt (suc k) ws g v) → GlobalAt k (w ∷ ws) g v
    by true zero e behind =
        let c = same_column (Old k) (Old g) w v e in
        let d : k ≡ g = same_old k g c.0 in
        let f : w ≡ v = c.1 in
        record { place = 0; number = omega (arith, d); is = ap Some f }
    by true (suc m) e behind = next_global k w ws g v (behind m e)
    by false m e behind = next_global k w ws g v (behind m e)

global_there : (k : ℕ) (gs : List VarInfo) (rest : Columns) (j : ℕ) (v : VarInfo) → slice_get gs j ≡ Some v → slice_get (globals_from k gs ++ rest) j ≡ Some (Global (k + j), v)
global_there k [] rest j v h = let no : ⊥ = cc in absurd no
global_there k (w ∷ ws) rest zero v h =
    let e : w ≡ v = cc in
    let d : k ≡ k + 0 = omega arith in
    ap (λ x. Some (Global k, x)) e ∙ ap (λ m. Some (Global m, v)) d
global_there k (w ∷ ws) rest (suc j) v h =
    let d : suc k + j ≡ k + suc j = omega arith in
    global_there (suc k) ws rest j v h ∙ ap (λ m. Some (Global m, v)) d

-- the column of the global whose old column it is
pub olds_of_globals : (globals : List VarInfo) (frame : Columns) → IsFrame globals frame → (n g : ℕ) (v : VarInfo) → slice_get frame n ≡ Some (Old g, v) → slice_get frame g ≡ Some (Global g, v)
olds_of_globals globals frame f n g v h =
    let a : slice_get (globals_from 0 globals ++ (old_columns 0 globals ++ locals_from 0 f.locals)) n ≡ Some (Old g, v) = ap (λ x. slice_get x n) (sym f.columns) ∙ h in
    let b = past_globals 0 globals (old_columns 0 globals ++ locals_from 0 f.locals) n g v a in
    let c = of_global 0 globals f.locals b.0 g v b.1 in
    let d : g ≡ c.place = (let e = c.number in omega (arith, e)) in
    let i : slice_get (globals_from 0 globals ++ (old_columns 0 globals ++ locals_from 0 f.locals)) c.place ≡ Some (Global (0 + c.place), v) =
    global_there 0 globals (old_columns 0 globals ++ locals_from 0 f.locals) c.place v c.is in
    let j : 0 + c.place ≡ g = omega (arith, d) in
    ap (λ x. slice_get x g) f.columns ∙ ap (slice_get (globals_from 0 globals ++ (old_columns 0 globals ++ locals_from 0 f.locals))) d ∙ i ∙ ap (λ m. Some (Global m, v)) j

-- ---- what is seen does not depend on whether a clause is a premise

any_same : {X : Type 0} (p q : X → Bool) (xs : List X) → ((x : X) → p x ≡ q x) → list_any p xs ≡ list_any q xs
any_same p q [] f = refl
any_same p q (x ∷ xs) f = ap (λ b. b || list_any p xs) (f x) ∙ ap (λ b. q x || b) (any_same p q xs f)

module _ (q : KnownProcedure) (position : Position) where
  abbrev premises : ClauseScope
  premises = scope q position true

  abbrev plain : ClauseScope
  plain = scope q position false

  sees_same : (n : ℕ) (name : List ℕ) → sees premises n name ≡ sees plain n name
  sees_same n name = by position
    where
      by : (p : Position) → sees_at p premises n name ≡ sees_at p plain n name
      by Requires = refl
      by Ensures = refl
      by Body = refl

  seen_same : (name : List ℕ) (c : Column × VarInfo) → is_seen_local premises name c ≡ is_seen_local plain name c
  seen_same name (Global n, v) = refl
  seen_same name (Old n, v) = refl
  seen_same name (Local n, v) = ap (λ b. bytes_eq v.name name && b) (sees_same n name)

  hides_same : (name : List ℕ) → hides premises name ≡ hides plain name
  hides_same name = any_same (is_seen_local premises name) (is_seen_local plain name) q.frame (seen_same name)

  -- a global is called the same, and so is a parameter
  pub voice_global : (n : ℕ) (v : VarInfo) → voice premises (Global n, v) ≡ voice plain (Global n, v)
  voice_global n v = ap (λ b. if b then None else Some Plain) (hides_same v.name)

  -- what a global had at the entry is called as the global is
  pub voice_old : (n m : ℕ) (v : VarInfo) → voice premises (Old n, v) ≡ voice plain (Global m, v)
  voice_old n m v = ap (λ b. if b then None else Some Plain) (hides_same v.name)

  pub record SaidLocal (n : ℕ) (v : VarInfo) : Type 0 where
    pub parameter : nat_lt n q.params ≡ true
    pub same : voice premises (Local n, v) ≡ voice plain (Local n, v)

  voice_local_by : (a b c : Bool) → a ≡ c → (x : Voice) → (if a && b then Some Plain else None) ≡ Some x → (b ≡ true) × (◌≡◌ {A = Option Voice} (if a && b then Some Plain else None) (if c && true then Some Plain else None))
  voice_local_by true true c e x h = (refl, ap (λ d. if d && true then Some Plain else None) e)
  voice_local_by true false c e x h = let no : ⊥ = cc in absurd no
  voice_local_by false b c e x h = let no : ⊥ = cc in absurd no

  pub voice_local : (n : ℕ) (v : VarInfo) (x : Voice) → voice premises (Local n, v) ≡ Some x → SaidLocal n v
  voice_local n v x h =
      let a = voice_local_by (sees premises n v.name) (nat_lt n q.params) (sees plain n v.name) (sees_same n v.name) x h in
      record { parameter = a.0; same = a.1 }

  module _ (worth : Expression → ℤ) (holds : Expression → Bool) (now was : ℕ → ℤ) (olds : (n g : ℕ) (v : VarInfo) → slice_get q.frame n ≡ Some (Old g, v) → slice_get q.frame g ≡ Some (Global g, v))
      (entered : IsEntryOf q now was) where
    -- the columns as premises call them now: what a global had at the entry is told by its name, and so has its value now
    abbrev pub mixed_at : ℕ → Option (Column × VarInfo) → ℤ
    mixed_at n None = was n
    mixed_at n (Some (Global g, v)) = now n
    mixed_at n (Some (Old g, v)) = now g
    mixed_at n (Some (Local k, v)) = was n

    abbrev pub mixed : ℕ → ℤ
    mixed n = mixed_at n (slice_get q.frame n)

    mixed_entry_at : (n : ℕ) (o : Option (Column × VarInfo)) → slice_get q.frame n ≡ o → mixed (entry_named n o) ≡ mixed n
    mixed_entry_at n None e = refl
    mixed_entry_at n (Some (Global g, v)) e = refl
    mixed_entry_at n (Some (Old g, v)) e = ap (mixed_at g) (olds n g v e) ∙ sym (ap (mixed_at n) e)
    mixed_entry_at n (Some (Local k, v)) e = refl

    pub mixed_entry : (n : ℕ) → mixed (entry_column premises n) ≡ mixed n
    mixed_entry n = mixed_entry_at n (slice_get q.frame n) refl

    -- what does not change is what it was
    mixed_same_at : (n : ℕ) (o : Option (Column × VarInfo)) → slice_get q.frame n ≡ o → passes changes o ≡ false → mixed_at n o ≡ was n
    mixed_same_at n None e h = refl
    mixed_same_at n (Some (Global g, v)) e h = sym (entered.kept n (Global g, v) e (constant v.constant h))
      where
        constant : (b : Bool) → not b ≡ false → b ≡ true
        constant true k = refl
        constant false k = absurd (false≢true (sym k))
    mixed_same_at n (Some (Old g, v)) e h = absurd (false≢true (sym h))
    mixed_same_at n (Some (Local k, v)) e h = refl

    pub mixed_same : (n : ℕ) → may_change premises n ≡ false → mixed n ≡ was n
    mixed_same n h = mixed_same_at n (slice_get q.frame n) refl h

    module _ (columns : HasColumns worth holds plain now) (bounded : (n : ℕ) → is_truth premises n ≡ true → (was n ≡ pos 0) ⊎ (was n ≡ pos 1)) where
      -- a column at a number, as clauses call it
      at_number : (s : ClauseScope) (n : ℕ) (c : Column × VarInfo) → slice_get s.frame n ≡ Some c → number_said s n ≡ column_number s c
      at_number s n c e = ap (option_and_then (column_number s)) e

      at_said : (s : ClauseScope) (n : ℕ) (c : Column × VarInfo) → slice_get s.frame n ≡ Some c → said s n ≡ column_said s c
      at_said s n c e = ap (option_and_then (column_said s)) e

      local_number : (k : ℕ) (v : VarInfo) (e : Expression) (o : Option Voice) → voice premises (Local k, v) ≡ o → option_map (number_spoken v) o ≡ Some e → SaidLocal k v
      local_number k v e None f h = let no : ⊥ = cc in absurd no
      local_number k v e (Some x) f h = voice_local k v x f

      local_said : (k : ℕ) (v : VarInfo) (e : Expression) (o : Option Voice) → voice premises (Local k, v) ≡ o → option_map (spoken v.name) o ≡ Some e → SaidLocal k v
      local_said k v e None f h = let no : ⊥ = cc in absurd no
      local_said k v e (Some x) f h = voice_local k v x f

      mixed_number : (n : ℕ) (e : Expression) (o : Option (Column × VarInfo)) → slice_get q.frame n ≡ o → option_and_then (column_number premises) o ≡ Some e → worth e ≡ mixed_at n o
      mixed_number n e None f h = let no : ⊥ = cc in absurd no
      mixed_number n e (Some (Global g, v)) f h =
          columns.columns n e (at_number plain n (Global g, v) f ∙ ap (option_map (number_spoken v)) (sym (voice_global g v)) ∙ h)
      mixed_number n e (Some (Old g, v)) f h =
          columns.columns g e (at_number plain g (Global g, v) (olds n g v f) ∙ ap (option_map (number_spoken v)) (sym (voice_old g g v)) ∙ h)
      mixed_number n e (Some (Local k, v)) f h =
          let a = local_number k v e (voice premises (Local k, v)) refl h in
          columns.columns n e (at_number plain n (Local k, v) f ∙ ap (option_map (number_spoken v)) (sym a.same) ∙ h) ∙ sym (entered.kept n (Local k, v) f a.parameter)

      mixed_truth : (n : ℕ) (e : Expression) (o : Option (Column × VarInfo)) → slice_get q.frame n ≡ o → passes has_truth o ≡ true → option_and_then (column_said premises) o ≡ Some e →
          holds e ≡ int_eq (mixed_at n o) (pos 1)
      mixed_truth n e None f t h = let no : ⊥ = cc in absurd no
      mixed_truth n e (Some (Global g, v)) f t h =
          columns.truths n e (ap (passes has_truth) f ∙ t) (at_said plain n (Global g, v) f ∙ ap (option_map (spoken v.name)) (sym (voice_global g v)) ∙ h)
      mixed_truth n e (Some (Old g, v)) f t h =
          columns.truths g e (ap (passes has_truth) (olds n g v f) ∙ t) (at_said plain g (Global g, v) (olds n g v f) ∙ ap (option_map (spoken v.name)) (sym (voice_old g g v)) ∙ h)
      mixed_truth n e (Some (Local k, v)) f t h =
          let a = local_said k v e (voice premises (Local k, v)) refl h in
          columns.truths n e (ap (passes has_truth) f ∙ t) (at_said plain n (Local k, v) f ∙ ap (option_map (spoken v.name)) (sym a.same) ∙ h) ∙
          ap (λ z. int_eq z (pos 1)) (sym (entered.kept n (Local k, v) f a.parameter))

      mixed_bounded : (n : ℕ) (o : Option (Column × VarInfo)) → slice_get q.frame n ≡ o → passes has_truth o ≡ true → (mixed_at n o ≡ pos 0) ⊎ (mixed_at n o ≡ pos 1)
      mixed_bounded n None f t = let no : ⊥ = cc in absurd no
      mixed_bounded n (Some (Global g, v)) f t = columns.bounded n (ap (passes has_truth) f ∙ t)
      mixed_bounded n (Some (Old g, v)) f t = columns.bounded g (ap (passes has_truth) (olds n g v f) ∙ t)
      mixed_bounded n (Some (Local k, v)) f t = bounded n (ap (passes has_truth) f ∙ t)

      -- premises read now have these values
      pub mixed_columns : HasColumns worth holds premises mixed
      mixed_columns = record {
        columns = λ n e h. mixed_number n e (slice_get q.frame n) refl h;
        truths = λ n e t h. mixed_truth n e (slice_get q.frame n) refl t h;
        bounded = λ n t. mixed_bounded n (slice_get q.frame n) refl t;
      }

  -- at the entry a global is what its old column says
  entry_values_at : (now was : ℕ → ℤ) → IsEntryOf q now was → (n : ℕ) (o : Option (Column × VarInfo)) → slice_get q.frame n ≡ o → was (entry_named n o) ≡ was n
  entry_values_at now was entered n None e = refl
  entry_values_at now was entered n (Some (Global g, v)) e = refl
  entry_values_at now was entered n (Some (Old g, v)) e = entered.globals n g v e ∙ sym (entered.kept n (Old g, v) e refl)
  entry_values_at now was entered n (Some (Local k, v)) e = refl

  pub entry_values : (now was : ℕ → ℤ) → IsEntryOf q now was → (n : ℕ) → was (entry_column premises n) ≡ was n
  entry_values now was entered n = entry_values_at now was entered n (slice_get q.frame n) refl
