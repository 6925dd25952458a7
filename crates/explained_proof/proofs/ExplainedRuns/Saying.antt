-- What the columns of a frame are called where a clause stands is worth what they are.
use Rattle.std.proofs.Common.{◌≡◌, ◌∙◌, ℕ, zero, suc, ◌+◌, ◌-◌, ℤ, pos, Bool, true, false, List, [], ◌∷◌, ◌++◌, length, take, drop, Option, None, Some, refl, sym, ap, subst, arith}
use Rattle.std.specs.Prelude.{◌&&◌, codes, if◌then◌else◌, slice_get}
use Rattle.std.proofs.lemmas.Bool.{false≢true, and_parts}
use Rattle.std.proofs.lemmas.List.{length-append}
use Rattle.std.proofs.lemmas.Option.{same_Some}
use Rattle.boogie_tree.specs.declared.tree.Column.{Column}
use Rattle.boogie_tree.specs.declared.tree.Column.TheVariants.{Global, Old, Local}
use Rattle.boogie_tree.specs.declared.tree.VarInfo.{VarInfo}
use Rattle.boogie_tree.specs.declared.tree.Ty.{Ty}
use Rattle.boogie_tree.specs.declared.tree.Ty.TheVariants as types
use Rattle.boogie_tree.specs.Names.{is_spelled}
use Rattle.boogie_tree.specs.Tree.{Expression}
use Rattle.typed_tree.specs.Values.{State, member, column_value, at_entry}
use Rattle.typed_tree.specs.Laws.{IsTruth}
use Rattle.typed_tree.specs.Scope.{Scope}
use Rattle.boogie_types.specs.Meanings.{column_of}
use Rattle.lin_rows.specs.Points.{point_of}
use Rattle.letter_acts.specs.Frames.{Columns, IsValue, IsState}
use Rattle.lowered_graph.proofs.LoweredSteps.FrameColumns.{HaveValues, value_at}
use Rattle.explained_proof.specs.BuiltExpressions.Building.{variable}
use Rattle.explained_proof.specs.declared.row_expressions.scopes.Voice.{Voice}
use Rattle.explained_proof.specs.declared.row_expressions.scopes.Voice.TheVariants.{Plain, InOld}
use Rattle.explained_proof.specs.RowExpressions.Options.{passes}
use Rattle.explained_proof.specs.RowExpressions.Scopes.{ClauseScope, sees, stays, hides, is_of_entry, voice_of_old, voice, spoken, column_said, said, is_boolean, has_truth, is_truth, number_text, number_spoken, column_number, number_said}
use Rattle.explained_proof.specs.RowExpressions.Worth.{HasColumns}
use Rattle.explained_proof.proofs.ExplainedRuns.Conditions.{OfColumns, map_parts, then_parts}
use Rattle.explained_proof.proofs.ExplainedRuns.Reading.{is_one, truth_holds, at_column, within, number_in, meaning, meant, worth_in, holds_in}
use Rattle.explained_proof.proofs.ExplainedRuns.Naming.{Means}

-- ---- options

some_if : {X : Type 0} (b : Bool) (x y : X) → (if b then Some x else None) ≡ Some y → (b ≡ true) × (x ≡ y)
some_if true x y e = (refl, same_Some x y e)
some_if false x y e = absurd (cc)

none_if : {X : Type 0} (b : Bool) (x y : X) → (if b then None else Some x) ≡ Some y → (b ≡ false) × (x ≡ y)
none_if true x y e = absurd (cc)
none_if false x y e = (refl, same_Some x y e)

-- ---- the texts of numbers

take_front : (xs ys : List ℕ) (n : ℕ) → n ≡ length xs → take n (xs ++ ys) ≡ xs
take_front [] ys zero e = refl
take_front [] ys (suc n) e = absurd (omega arith)
take_front (x ∷ xs) ys zero e = absurd (omega arith)
take_front (x ∷ xs) ys (suc n) e = ap (λ (zs : List ℕ). x ∷ zs) (take_front xs ys n (omega arith))

plain_text : (name : List ℕ) → within 4 15 (number_text name Plain) ≡ name
plain_text name =
    let behind : List ℕ = codes " then 1 else 0)" in
    let many : length (name ++ behind) ≡ length name + 15 = length-append name behind in
    take_front name behind (length (number_text name Plain) - (4 + 15)) (let l : length (number_text name Plain) ≡ suc (suc (suc (suc (length (name ++ behind))))) = refl in omega arith)

old_text : (name : List ℕ) → within 8 16 (number_text name InOld) ≡ name
old_text name =
    let behind : List ℕ = codes ") then 1 else 0)" in
    let many : length (name ++ behind) ≡ length name + 16 = length-append name behind in
    take_front name behind (length (number_text name InOld) - (8 + 16)) (let l : length (number_text name InOld) ≡ suc (suc (suc (suc (suc (suc (suc (suc (length (name ++ behind))))))))) = refl in omega arith)

-- within the text of an old number stands `old(..)`
old_within : (name : List ℕ) → (m : ℕ) × (within 4 15 (number_text name InOld) ≡ 111 ∷ 108 ∷ 100 ∷ 40 ∷ take m (name ++ codes ") then 1 else 0)"))
old_within name =
    let behind : List ℕ = codes ") then 1 else 0)" in
    let many : length (name ++ behind) ≡ length name + 16 = length-append name behind in
    let l : length (number_text name InOld) ≡ suc (suc (suc (suc (suc (suc (suc (suc (length (name ++ behind))))))))) = refl in
    let n : length (number_text name InOld) - (4 + 15) ≡ suc (suc (suc (suc (length name + 1)))) = omega arith in
    (length name + 1, ap (λ (k : ℕ). take k (drop 4 (number_text name InOld))) n)

-- ---- states

-- the state in which a voice speaks
abbrev pub heard : Voice → State → State
heard Plain st = st
heard InOld st = at_entry st

-- One state tells of what is said what the other is: of an entry its globals are those at the entry.
pub record Tells (s : ClauseScope) (st u : State) : Type 0 where
  pub globals : st.globals ≡ u.globals
  pub old : st.old ≡ u.old
  pub locals : (k n : ℕ) (v : VarInfo) → slice_get s.frame k ≡ Some (Local n, v) → sees s n v.name ≡ true → stays s n ≡ true → member st.locals n ≡ member u.locals n
  pub entry : is_of_entry s ≡ true → st.globals ≡ st.old

value_of : (cs : Columns) (zs : List ℤ) (n : ℕ) (d : Column × VarInfo) → IsState cs zs → slice_get cs n ≡ Some d → IsValue d.1.ty (point_of zs n)
value_of [] zs n d h e = absurd (cc)
value_of (c ∷ cs) [] n d h e = absurd h
value_of (c ∷ cs) (z ∷ zs) zero d h e = subst (λ (x : Column × VarInfo). IsValue x.1.ty z) (same_Some c d e) h.0
value_of (c ∷ cs) (z ∷ zs) (suc n) d h e = value_of cs zs n d h.1 e

truth_of : (ty : Ty) (z : ℤ) → is_boolean ty ≡ true → IsValue ty z → IsTruth z
truth_of types.Int z b h = absurd (false≢true b)
truth_of types.Bool z b h = h

module _ (s : ClauseScope) (c : Scope) (means : Means s c) (olds : (k g : ℕ) (v : VarInfo) → slice_get s.frame k ≡ Some (Old g, v) → slice_get s.frame g ≡ Some (Global g, v)) (st u : State) (tells : Tells s st u) (zs : List ℤ)
    (have : HaveValues (column_value u) s.frame zs) (typed : IsState s.frame zs) where
  abbrev point : ℕ → ℤ
  point = point_of zs

  -- a column that is said, by its name
  record IsVoiced (n : ℕ) (v : VarInfo) (w : Voice) : Type 0 where
    column : Column
    names : column_of c v.name ≡ Some column
    is : column_value (heard w st) column ≡ point n

  has : (n : ℕ) (d : Column × VarInfo) → slice_get s.frame n ≡ Some d → column_value u d.0 ≡ point n
  has n d e = sym (value_at (column_value u) s.frame zs n d have e)

  voiced_local : (n l : ℕ) (v : VarInfo) (w : Voice) → slice_get s.frame n ≡ Some (Local l, v) → voice s (Local l, v) ≡ Some w → IsVoiced n v w
  voiced_local n l v w e h =
      let a = some_if (sees s l v.name && stays s l) Plain w h in
      let b = and_parts (sees s l v.name) (stays s l) a.0 in
      subst (IsVoiced n v) a.1 (record { column = Local l; names = means.locals n l v e b.0; is = tells.locals n l v e b.0 b.1 ∙ has n (Local l, v) e })

  voiced_global : (n g : ℕ) (v : VarInfo) (w : Voice) → slice_get s.frame n ≡ Some (Global g, v) → voice s (Global g, v) ≡ Some w → IsVoiced n v w
  voiced_global n g v w e h =
      let a = none_if (hides s v.name) Plain w h in
      subst (IsVoiced n v) a.1 (record { column = Global g; names = means.globals n g v e a.0; is = ap (λ (xs : List ℤ). member xs g) tells.globals ∙ has n (Global g, v) e })

  voiced_old : (n g : ℕ) (v : VarInfo) (w : Voice) → slice_get s.frame n ≡ Some (Old g, v) → voice s (Old g, v) ≡ Some w → IsVoiced n v w
  voiced_old n g v w e h =
      let a = none_if (hides s v.name) (voice_of_old s) w h in
      let names : column_of c v.name ≡ Some (Global g) = means.globals g g v (olds n g v e) a.0 in
      let then_is : member st.old g ≡ point n = ap (λ (xs : List ℤ). member xs g) tells.old ∙ has n (Old g, v) e in
      subst (IsVoiced n v) a.1 (by (is_of_entry s) refl names then_is)
    where
      by : (b : Bool) → is_of_entry s ≡ b → column_of c v.name ≡ Some (Global g) → member st.old g ≡ point n → IsVoiced n v (if b then Plain else InOld)
      by true b names is = record { column = Global g; names = names; is = ap (λ (xs : List ℤ). member xs g) (tells.entry b) ∙ is }
      by false b names is = record { column = Global g; names = names; is = is }

  voiced : (n : ℕ) (d : Column × VarInfo) (w : Voice) → slice_get s.frame n ≡ Some d → voice s d ≡ Some w → IsVoiced n d.1 w
  voiced n (Global g, v) w e h = voiced_global n g v w e h
  voiced n (Old g, v) w e h = voiced_old n g v w e h
  voiced n (Local l, v) w e h = voiced_local n l v w e h

  spoken_worth : (n : ℕ) (v : VarInfo) (w : Voice) → IsVoiced n v w → worth_in c st (spoken v.name w) ≡ point n
  spoken_worth n v Plain k = meant c st v.name k.column k.names ∙ k.is
  spoken_worth n v InOld k = meant c (at_entry st) v.name k.column k.names ∙ k.is

  -- a text that is no name
  no_name : (b : ℕ) (bs : List ℕ) → is_spelled (b ∷ bs) ≡ false → meaning c st (b ∷ bs) ≡ number_in c st (b ∷ bs)
  unfolding meaning
  no_name b bs h = ap (λ (o : Option Column). at_column st o (number_in c st (b ∷ bs))) (means.none b bs h)

  plain_number : (name : List ℕ) (d : Column) → column_of c name ≡ Some d → number_in c st (number_text name Plain) ≡ column_value st d
  unfolding number_in
  plain_number name d e =
      ap (λ (o : Option Column). at_column st o (at_column (at_entry st) (column_of c (within 8 16 (number_text name Plain))) (pos 0))) (ap (column_of c) (plain_text name) ∙ e)

  old_number : (name : List ℕ) (d : Column) → column_of c name ≡ Some d → number_in c st (number_text name InOld) ≡ column_value (at_entry st) d
  unfolding number_in
  old_number name d e =
      let inner = old_within name in
      let none : column_of c (within 4 15 (number_text name InOld)) ≡ None = ap (column_of c) inner.1 ∙ means.none 111 (108 ∷ 100 ∷ 40 ∷ take inner.0 (name ++ codes ") then 1 else 0)")) refl in
      ap (λ (o : Option Column). at_column st o (at_column (at_entry st) (column_of c (within 8 16 (number_text name InOld))) (pos 0))) none
      ∙ ap (λ (o : Option Column). at_column (at_entry st) o (pos 0)) (ap (column_of c) (old_text name) ∙ e)

  text_worth : (n : ℕ) (v : VarInfo) (w : Voice) → IsVoiced n v w → worth_in c st (variable (number_text v.name w)) ≡ point n
  text_worth n v Plain k = no_name 40 (105 ∷ 102 ∷ 32 ∷ (v.name ++ codes " then 1 else 0)")) refl ∙ plain_number v.name k.column k.names ∙ k.is
  text_worth n v InOld k = no_name 40 (105 ∷ 102 ∷ 32 ∷ 111 ∷ 108 ∷ 100 ∷ 40 ∷ (v.name ++ codes ") then 1 else 0)")) refl ∙ old_number v.name k.column k.names ∙ k.is

  number_worth : (n : ℕ) (v : VarInfo) (w : Voice) → IsVoiced n v w → worth_in c st (number_spoken v w) ≡ point n
  number_worth n v w k = by (is_boolean v.ty)
    where
      by : (b : Bool) → worth_in c st (if b then variable (number_text v.name w) else spoken v.name w) ≡ point n
      by true = text_worth n v w k
      by false = spoken_worth n v w k

  said_worth : (n : ℕ) (e : Expression) → said s n ≡ Some e → worth_in c st e ≡ point n
  said_worth n e h =
      let a = then_parts (column_said s) (slice_get s.frame n) e h in
      let b = map_parts (spoken a.0.1.name) (voice s a.0) e a.2 in
      subst (λ (x : Expression). worth_in c st x ≡ point n) b.2 (spoken_worth n a.0.1 b.0 (voiced n a.0 b.0 a.1 b.1))

  numbers : (n : ℕ) (e : Expression) → number_said s n ≡ Some e → worth_in c st e ≡ point n
  numbers n e h =
      let a = then_parts (column_number s) (slice_get s.frame n) e h in
      let b = map_parts (number_spoken a.0.1) (voice s a.0) e a.2 in
      subst (λ (x : Expression). worth_in c st x ≡ point n) b.2 (number_worth n a.0.1 b.0 (voiced n a.0 b.0 a.1 b.1))

  bounded : (n : ℕ) → is_truth s n ≡ true → IsTruth (point n)
  bounded n h = by (slice_get s.frame n) refl h
    where
      by : (o : Option (Column × VarInfo)) → slice_get s.frame n ≡ o → passes has_truth o ≡ true → IsTruth (point n)
      by None e b = absurd (false≢true b)
      by (Some d) e b = truth_of d.1.ty (point n) b (value_of s.frame zs n d typed e)

  pub has_columns : HasColumns (worth_in c st) (holds_in c st) s point
  has_columns = record {
    columns = numbers;
    truths = λ n e t h. ap is_one (said_worth n e h) ∙ truth_holds (point n) (bounded n t);
    bounded = bounded;
  }

  pub of_columns : OfColumns (λ e. IsTruth (worth_in c st e)) s
  of_columns n e t h = subst IsTruth (sym (said_worth n e h)) (bounded n t)
