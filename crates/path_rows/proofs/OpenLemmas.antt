-- An open call: what a call ties between the state before it and each state of the callee until it returns.
use Rattle.std.proofs.Common.{◌≡◌, ◌∙◌, ◌⊎◌, ℕ, zero, suc, ◌+◌, ◌-◌, ◌<◌, Bool, true, false, ℤ, ◌+ℤ◌, ◌*ℤ◌, List, [], ◌∷◌, ◌++◌, length, Option, None, Some, refl, sym, ap, subst, inl, inr, arith, length-append}
use Rattle.std.specs.Prelude.{not, ◌&&◌, slice_get, IsSomeAnd}
use Rattle.std.specs.List.{AllByRecursion}
use Rattle.std.proofs.lemmas.Bool.{false≢true}
use Rattle.boogie_tree.specs.declared.tree.VarInfo.{VarInfo}
use Rattle.boogie_tree.specs.declared.tree.Column.{Column}
use Rattle.boogie_tree.specs.declared.tree.Column.TheVariants.{Global, Old, Local}
use Rattle.math_facts.specs.Terms.{dot}
use Rattle.lin_rows.specs.Rows.{LinearRow, Stands, Holds}
use Rattle.lin_rows.specs.Points.{point_of}
use Rattle.nwa_base.specs.Members.{Member}
use Rattle.letter_acts.specs.Frames.{Columns, IsFrame, added, places, is_global, is_global_column, is_old_column, is_local_column, is_fixed_column, is_variable, is_parameter, is_result, olds_from, old_at, constants_of, variables_of, result_columns, olds_of}
use Rattle.letter_acts.specs.Acts.{Alphabet, frame_of}
use Rattle.letter_acts.specs.Values.{RowsHold}
use Rattle.letter_acts.specs.Meaning.{CallLeads, InsideLeads, BackLeads}
use Rattle.letter_acts.specs.Invariant.{MayWrite, MayTarget, MayName, IsOld, InsideIsActed, BackIsActed}
use Rattle.letter_acts.proofs.ListLemmas.{below_or_from, all_member}
use Rattle.letter_acts.proofs.PointLemmas.{point_of-left, point_of-right}
use Rattle.letter_acts.proofs.ReadingLemmas.{inside_read, call_read, back_read}
use Rattle.path_rows.proofs.ListLemmas.{all_from}

-- the callee's constants and old columns are the constants and globals before the call, and the call's rows hold
pub record IsOpen (callee : Columns) (helpers : ℕ) (rows : List LinearRow) (b x : List ℤ) : Type 0 where
  pub constants : AllByRecursion (λ c. point_of x c ≡ point_of b c) (constants_of callee)
  pub olds : AllByRecursion (λ o. point_of x o.0 ≡ point_of b o.1) (olds_of callee)
  pub rows_hold : RowsHold (b ++ x) helpers rows

-- ---- columns that stay

-- constant, or an old column
abbrev pub Stays : (Column × VarInfo) → Type 0
Stays v = (v.1.constant ≡ true) ⊎ (is_old_column v.0 ≡ true)

-- the columns that stay have one value in both states
pub record Keeps (frame : Columns) (x y : List ℤ) : Type 0 where
  pub long : length x ≡ length y
  pub each : (c : ℕ) (v : Column × VarInfo) → slice_get frame c ≡ Some v → Stays v → point_of y c ≡ point_of x c

-- what stands at the places that pass a test
all_places : (test : Column × VarInfo → Bool) (Q : ℕ → Type 0) (n : ℕ) (xs : Columns) →
    ((c d : ℕ) (v : Column × VarInfo) → d ≡ n + c → slice_get xs c ≡ Some v → test v ≡ true → Q d) → AllByRecursion Q (places test n xs)
all_places test Q n [] f = tt
all_places test Q n (v ∷ xs) f =
    by_test (test v) refl (all_places test Q (suc n) xs (λ c d w e g t. f (suc c) d w (omega (arith, e)) g t))
  where
    by_test : (b : Bool) → test v ≡ b → AllByRecursion Q (places test (suc n) xs) → AllByRecursion Q (added b n (places test (suc n) xs))
    by_test true e h = (f 0 n v (omega arith) refl e, h)
    by_test false e h = h

all_olds : (Q : ℕ × ℕ → Type 0) (n : ℕ) (xs : Columns) →
    ((c d g : ℕ) (v : Column × VarInfo) → d ≡ n + c → slice_get xs c ≡ Some v → is_old_column v.0 ≡ true → Q (d, g)) → AllByRecursion Q (olds_from n xs)
all_olds Q n [] f = tt
all_olds Q n (v ∷ xs) f =
    by_column v.0 refl (all_olds Q (suc n) xs (λ c d g w e k t. f (suc c) d g w (omega (arith, e)) k t))
  where
    by_column : (k : Column) → v.0 ≡ k → AllByRecursion Q (olds_from (suc n) xs) → AllByRecursion Q (old_at k n (olds_from (suc n) xs))
    by_column (Global g) e h = h
    by_column (Old g) e h = (f 0 n g v (omega arith) refl (ap is_old_column e), h)
    by_column (Local l) e h = h

constant_is : (v : Column × VarInfo) → is_fixed_column v ≡ true → v.1.constant ≡ true
constant_is v e = by_test (is_global_column v.0) v.1.constant e
  where
    by_test : (a b : Bool) → (a && b) ≡ true → b ≡ true
    by_test true b e = e
    by_test false b e = absurd (false≢true e)

parameter_is : (v : Column × VarInfo) → is_parameter v ≡ true → v.1.constant ≡ true
parameter_is v e = by_test (is_local_column v.0) v.1.constant e
  where
    by_test : (a b : Bool) → (a && b) ≡ true → b ≡ true
    by_test true b e = e
    by_test false b e = absurd (false≢true e)

some_found : {X : Type 0} (P : X → Type 0) (o : Option X) → IsSomeAnd o P → (x : X) × (o ≡ Some x) × P x
some_found P None h = absurd h
some_found P (Some x) h = (x, refl, h)

-- ---- rows over named columns

dot_named : (p q : ℕ → ℤ) (ts : List (ℕ × ℤ)) → AllByRecursion (λ t. p t.0 ≡ q t.0) ts → dot p ts ≡ dot q ts
dot_named p q [] h = refl
dot_named p q (t ∷ ts) h =
    ap (λ (z : ℤ). (t.1 *ℤ z) +ℤ dot p ts) h.0 ∙ ap (λ (z : ℤ). (t.1 *ℤ q t.0) +ℤ z) (dot_named p q ts h.1)

all_terms : (P : ℕ → Type 0) (Q : ℕ → Type 0) → ((c : ℕ) → P c → Q c) → (ts : List (ℕ × ℤ)) → AllByRecursion (λ t. P t.0) ts → AllByRecursion (λ t. Q t.0) ts
all_terms P Q f [] h = tt
all_terms P Q f (t ∷ ts) h = (f t.0 h.0, all_terms P Q f ts h.1)

holds_named : (p q : ℕ → ℤ) (P : ℕ → Type 0) → ((c : ℕ) → P c → p c ≡ q c) → (rows : List LinearRow) → AllByRecursion (λ r. AllByRecursion (λ t. P t.0) r.terms) rows →
    AllByRecursion (Holds p) rows → AllByRecursion (Holds q) rows
holds_named p q P f [] n h = tt
holds_named p q P f (r ∷ rows) n h = (
  subst (λ (z : ℤ). Stands r.kind z r.bound) (dot_named p q r.terms (all_terms P (λ c. p c ≡ q c) f r.terms n.0)) h.0,
  holds_named p q P f rows n.1 h.1,
)

-- the values that a call's rows name are the same where the columns that stay are
named_same : (caller callee : Columns) (helpers : ℕ) (b x y hs : List ℤ) → length b ≡ length caller → length x ≡ length callee → Keeps callee x y →
    (c : ℕ) → MayName caller callee helpers c → point_of ((b ++ x) ++ hs) c ≡ point_of ((b ++ y) ++ hs) c
named_same caller callee helpers b x y hs lb lx k c m =
    let long = k.long in
    let ax = length-append b x in
    let ay = length-append b y in
    elim (below_or_from c (length b)) [
      | inl l ↦
          point_of-left (b ++ x) hs c (omega (arith, ax, l)) ∙ point_of-left b x c l ∙
          sym (point_of-left (b ++ y) hs c (omega (arith, ay, l)) ∙ point_of-left b y c l)
      | inr g ↦
          (let e = g.1 in
          elim (below_or_from g.0 (length x)) [
            | inl l ↦
                (let p = some_found (λ v. is_parameter v ≡ true) (slice_get callee (c - length caller)) (m.parameter (omega (arith, lb, e)) (omega (arith, lb, lx, e, l))) in
                let i : c - length caller ≡ g.0 = omega (arith, lb, e) in
                let at : slice_get callee g.0 ≡ Some p.0 = ap (slice_get callee) (sym i) ∙ p.1 in
                point_of-left (b ++ x) hs c (omega (arith, ax, l, e)) ∙ point_of-right b x c g.0 e ∙
                sym (k.each g.0 p.0 at (inl (parameter_is p.0 p.2))) ∙
                sym (point_of-left (b ++ y) hs c (omega (arith, ay, long, l, e)) ∙ point_of-right b y c g.0 e))
            | inr h ↦
                (let f = h.1 in
                point_of-right (b ++ x) hs c h.0 (omega (arith, ax, e, f)) ∙
                sym (point_of-right (b ++ y) hs c h.0 (omega (arith, ay, long, e, f))))
          ])
    ]

-- an open call stays one while the columns that stay do
pub open_kept : (caller callee : Columns) (helpers : ℕ) (rows : List LinearRow) (b x y : List ℤ) → length b ≡ length caller → length x ≡ length callee →
    AllByRecursion (λ r. AllByRecursion (λ t. MayName caller callee helpers t.0) r.terms) rows → Keeps callee x y →
    IsOpen callee helpers rows b x → IsOpen callee helpers rows b y
open_kept caller callee helpers rows b x y lb lx n k o = record {
  constants = all_from (λ c. point_of y c ≡ point_of x c) (λ c. point_of x c ≡ point_of b c) (λ c. point_of y c ≡ point_of b c) (λ c e f. e ∙ f) (constants_of callee)
      (all_places is_fixed_column (λ c. point_of y c ≡ point_of x c) 0 callee
      (λ c d v e g t. (let i : d ≡ c = omega (arith, e) in subst (λ (j : ℕ). point_of y j ≡ point_of x j) (sym i) (k.each c v g (inl (constant_is v t))))))
      o.constants;
  olds = all_from (λ (p : ℕ × ℕ). point_of y p.0 ≡ point_of x p.0) (λ p. point_of x p.0 ≡ point_of b p.1) (λ p. point_of y p.0 ≡ point_of b p.1) (λ p e f. e ∙ f) (olds_of callee)
      (all_olds (λ p. point_of y p.0 ≡ point_of x p.0) 0 callee
      (λ c d h v e g t. (let i : d ≡ c = omega (arith, e) in subst (λ (j : ℕ). point_of y j ≡ point_of x j) (sym i) (k.each c v g (inr t)))))
      o.olds;
  rows_hold = record {
    helpers = o.rows_hold.helpers;
    as_many = o.rows_hold.as_many;
    hold = holds_named (point_of ((b ++ x) ++ o.rows_hold.helpers)) (point_of ((b ++ y) ++ o.rows_hold.helpers)) (MayName caller callee helpers)
        (named_same caller callee helpers b x y o.rows_hold.helpers lb lx k) rows n o.rows_hold.hold;
  };
}

-- ---- what opens a call, and what keeps it

constants_too : (P : ℕ → Type 0) (n : ℕ) (xs : Columns) → AllByRecursion P (places is_global n xs) → AllByRecursion P (places is_fixed_column n xs)
constants_too P n [] h = tt
constants_too P n (v ∷ xs) h = by_test (is_global_column v.0) v.1.constant h (constants_too P (suc n) xs)
  where
    by_test : (a b : Bool) → AllByRecursion P (added a n (places is_global (suc n) xs)) →
        (AllByRecursion P (places is_global (suc n) xs) → AllByRecursion P (places is_fixed_column (suc n) xs)) → AllByRecursion P (added (a && b) n (places is_fixed_column (suc n) xs))
    by_test true true h f = (h.0, f h.1)
    by_test true false h f = f h.1
    by_test false b h f = f h

pub opened : (globals : List VarInfo) (caller callee : Columns) (helpers : ℕ) (rows : List LinearRow) (s t : List ℤ) → IsFrame globals caller → IsFrame globals callee →
    CallLeads caller callee helpers rows s t → IsOpen callee helpers rows s t
opened globals caller callee helpers rows s t f g h =
    let r = (call_read globals caller callee helpers rows s t f g).0 h in
    record {
      constants = constants_too (λ c. point_of t c ≡ point_of s c) 0 callee r.globals;
      olds = r.olds;
      rows_hold = r.rows_hold;
    }

-- a column that stays is none that an inside letter writes, unless it writes old columns
not_written : (frame : Columns) (written : List ℕ) → AllByRecursion (MayWrite frame) written → AllByRecursion (λ c. IsOld frame c → ⊥) written →
    (c : ℕ) (v : Column × VarInfo) → slice_get frame c ≡ Some v → Stays v → Member written c → ⊥
not_written frame written m o c v e s w =
    let a = some_found (λ (u : Column × VarInfo). u.1.constant ≡ false) (slice_get frame c) (all_member (MayWrite frame) written c w m) in
    let k : a.0 ≡ v = let q : Some a.0 ≡ Some v = sym a.1 ∙ e in cc in
    elim s [
      | inl t ↦ false≢true (sym (subst (λ (u : Column × VarInfo). u.1.constant ≡ false) k a.2) ∙ t)
      | inr t ↦ all_member (λ d. IsOld frame d → ⊥) written c w o (subst (λ (u : Option (Column × VarInfo)). IsSomeAnd u (λ w. is_old_column w.0 ≡ true)) (sym e) t)
    ]

pub inside_keeps : (al : Alphabet) (q : ℕ) (written : List ℕ) (helpers : ℕ) (rows : List LinearRow) (s t : List ℤ) → InsideIsActed al q written helpers rows →
    AllByRecursion (λ c. IsOld (frame_of al q) c → ⊥) written → length s ≡ length t → InsideLeads (frame_of al q) written helpers rows s t → Keeps (frame_of al q) s t
inside_keeps al q written helpers rows s t act o l h =
    let r = (inside_read al q written helpers rows s t act).0 h in
    record { long = l; each = λ c v e k. r.others c (not_written (frame_of al q) written act.may_write o c v e k) }

-- what stands at a place that passes a test
pub at_place : (test : Column × VarInfo → Bool) (n : ℕ) (xs : Columns) (c : ℕ) → Member (places test n xs) c →
    (i : ℕ) × (v : Column × VarInfo) × (c ≡ n + i) × (slice_get xs i ≡ Some v) × (test v ≡ true)
at_place test n [] c m = absurd m
at_place test n (v ∷ xs) c m = by_test (test v) refl m (at_place test (suc n) xs c)
  where
    by_test : (b : Bool) → test v ≡ b → Member (added b n (places test (suc n) xs)) c →
        (Member (places test (suc n) xs) c → (i : ℕ) × (w : Column × VarInfo) × (c ≡ suc n + i) × (slice_get xs i ≡ Some w) × (test w ≡ true)) →
        (i : ℕ) × (w : Column × VarInfo) × (c ≡ n + i) × (slice_get (v ∷ xs) i ≡ Some w) × (test w ≡ true)
    by_test true e (inl h) f = (0, v, omega (arith, h), refl, e)
    by_test true e (inr h) f = let r = f h in let k = r.2 in (suc r.0, r.1, omega (arith, k), r.3, r.4)
    by_test false e h f = let r = f h in let k = r.2 in (suc r.0, r.1, omega (arith, k), r.3, r.4)

not_variable : (k : Column) (b : Bool) → (b ≡ true) ⊎ (is_old_column k ≡ true) → (is_global_column k && not b) ≡ true → ⊥
not_variable (Global g) true s t = false≢true t
not_variable (Global g) false (inl s) t = false≢true s
not_variable (Global g) false (inr s) t = false≢true s
not_variable (Old g) b s t = false≢true t
not_variable (Local l) b s t = false≢true t

stays_unvaried : (frame : Columns) (c : ℕ) (v : Column × VarInfo) → slice_get frame c ≡ Some v → Stays v → Member (variables_of frame) c → ⊥
stays_unvaried frame c v e s m =
    let r = at_place is_variable 0 frame c m in
    let k = r.2 in
    let i : r.0 ≡ c = omega (arith, k) in
    let q : Some r.1 ≡ Some v = sym (ap (slice_get frame) (sym i) ∙ r.3) ∙ e in
    let w : r.1 ≡ v = cc in
    not_variable v.0 v.1.constant s (subst (λ (u : Column × VarInfo). is_variable u ≡ true) w r.4)

stays_untaken : (frame : Columns) (targets : List ℕ) → AllByRecursion (MayTarget frame) targets → (c : ℕ) (v : Column × VarInfo) → slice_get frame c ≡ Some v → Stays v →
    Member targets c → ⊥
stays_untaken frame targets m c v e s w =
    let a = some_found (λ (u : Column × VarInfo). (u.1.constant ≡ false) × (is_old_column u.0 ≡ false)) (slice_get frame c) (all_member (MayTarget frame) targets c w m) in
    let k : a.0 ≡ v = let q : Some a.0 ≡ Some v = sym a.1 ∙ e in cc in
    let b = subst (λ (u : Column × VarInfo). (u.1.constant ≡ false) × (is_old_column u.0 ≡ false)) k a.2 in
    elim s [
      | inl t ↦ false≢true (sym b.0 ∙ t)
      | inr t ↦ false≢true (sym b.1 ∙ t)
    ]

pub back_keeps : (globals : List VarInfo) (caller callee : Columns) (helpers : ℕ) (rows : List LinearRow) (targets : List ℕ) (x b t : List ℤ) → IsFrame globals caller → IsFrame globals callee →
    BackIsActed caller callee helpers targets → length b ≡ length t → BackLeads caller callee helpers rows targets x b t → Keeps caller b t
back_keeps globals caller callee helpers rows targets x b t f g act l h =
    let r = (back_read globals caller callee helpers rows targets x b t f g act).0 h in
    record { long = l; each = λ c v e s. r.others c (stays_unvaried caller c v e s) (stays_untaken caller targets act.may_target c v e s) }

get_within : {X : Type 0} (xs : List X) (i : ℕ) (x : X) → slice_get xs i ≡ Some x → i < length xs
get_within [] i x e = absurd (cc)
get_within (y ∷ xs) zero x e = omega arith
get_within (y ∷ xs) (suc i) x e = let k = get_within xs i x e in omega (arith, k)

-- the results stand in the frame
pub results_within : (frame : Columns) (n : ℕ) → length frame ≡ n → AllByRecursion (λ c. c < n) (result_columns frame)
results_within frame n l = all_places is_result (λ c. c < n) 0 frame (λ c d v e g t. (let k = get_within frame c v g in omega (arith, k, e, l)))
