-- What a graph keeps gives of the letters of triples: what the theorems on their systems ask.
use Rattle.std.proofs.Common.{◌≡◌, ◌↔◌, ◌∙◌, ◌⊎◌, ℕ, zero, suc, ◌+◌, ◌<◌, Bool, true, false, not, cond, List, [], ◌∷◌, ◌++◌, length, Option, None, Some, refl, sym, ap, subst, inl, inr, arith}
use Rattle.std.specs.Prelude.{map, filter, slice_get, ◌&&◌, IsSomeAnd}
use Rattle.std.specs.List.{AllByRecursion}
use Rattle.std.proofs.lemmas.Bool.{false≢true}
use Rattle.boogie_tree.specs.declared.tree.Column.{Column}
use Rattle.boogie_tree.specs.declared.tree.VarInfo.{VarInfo}
use Rattle.math_facts.specs.Terms.{IsBelow}
use Rattle.lin_rows.specs.Rows.{LinearRow}
use Rattle.nwa_base.specs.Members.{Member}
use Rattle.letter_acts.specs.Frames.{Columns, IsFrame, added, places, is_global, is_fixed_column, is_variable, is_result, is_old_column, globals_of, constants_of, variables_of, result_columns, olds_of}
use Rattle.letter_acts.specs.Reading.{taken}
use Rattle.letter_acts.specs.Acts.{Alphabet, frame_of}
use Rattle.letter_acts.specs.Invariant.{AreDistinct, MayWrite, MayTarget, MayName, InsideIsActed, BackIsActed, call_width, is_global_at, written_by}
use Rattle.letter_acts.specs.Known.{FramesAgree}
use Rattle.letter_acts.proofs.ListLemmas.{all_weaker, all_member, all_from_members, some_within}
use Rattle.letter_acts.proofs.KnownLemmas.{frames_agree}
use Rattle.triple_rows.specs.Predicates.{Formula, IsOver, HasInequalities}
use Rattle.triple_rows.specs.Ties.Known.{InsideIsRead, CallIsRead, BackIsRead}
use Rattle.triple_rows.proofs.ListLaws.{all_mapped, all_joined, places_below, olds_below}

-- ---- lists

all_pairs : {X : Type 0} (P Q : X → Type 0) (xs : List X) → AllByRecursion P xs → AllByRecursion Q xs → AllByRecursion (λ x. P x × Q x) xs
all_pairs P Q [] h k = tt
all_pairs P Q (x ∷ xs) h k = ((h.0, k.0), all_pairs P Q xs h.1 k.1)

all_taken : (P Q : ℕ → Type 0) (ts rs : List ℕ) → AllByRecursion P ts → AllByRecursion Q rs → AllByRecursion (λ p. P p.0 × Q p.1) (taken ts rs)
all_taken P Q [] rs h k = tt
all_taken P Q (t ∷ ts) [] h k = tt
all_taken P Q (t ∷ ts) (r ∷ rs) h k = ((h.0, k.0), all_taken P Q ts rs h.1 k.1)

member_joined : (xs ys : List ℕ) (c : ℕ) → Member (xs ++ ys) c ↔ (Member xs c ⊎ Member ys c)
member_joined [] ys c = (λ m. inr m, λ m. elim m [ inl h ↦ absurd h | inr h ↦ h ])
member_joined (x ∷ xs) ys c =
    let r = member_joined xs ys c in (
      λ m. elim m [ inl e ↦ inl (inl e) | inr h ↦ elim (r.0 h) [ inl k ↦ inl (inr k) | inr k ↦ inr k ] ],
      λ m. elim m [ inl h ↦ elim h [ inl e ↦ inl e | inr k ↦ inr (r.1 (inl k)) ] | inr h ↦ inr (r.1 (inr h)) ],
    )

member_passed : (test : ℕ → Bool) (xs : List ℕ) (c : ℕ) → Member (filter test xs) c ↔ (Member xs c × (test c ≡ true))
member_passed test [] c = (λ m. absurd m, λ m. m.0)
member_passed test (x ∷ xs) c = by_test (test x) refl (member_passed test xs c)
  where
    by_test : (b : Bool) → test x ≡ b → Member (filter test xs) c ↔ (Member xs c × (test c ≡ true)) →
        Member (cond b (x ∷ filter test xs) (filter test xs)) c ↔ (((x ≡ c) ⊎ Member xs c) × (test c ≡ true))
    by_test true e r = (
      λ m. elim m [ inl k ↦ (inl k, ap test (sym k) ∙ e) | inr h ↦ (let p = r.0 h in (inr p.0, p.1)) ],
      λ m. elim m.0 [ inl k ↦ inl k | inr h ↦ inr (r.1 (h, m.1)) ],
    )
    by_test false e r = (
      λ m. let p = r.0 m in (inr p.0, p.1),
      λ m. elim m.0 [ inl k ↦ absurd (false≢true (sym e ∙ (ap test k ∙ m.1))) | inr h ↦ r.1 (h, m.1) ],
    )

distinct_passed : (test : ℕ → Bool) (xs : List ℕ) → AreDistinct xs → AreDistinct (filter test xs)
distinct_passed test [] d = tt
distinct_passed test (x ∷ xs) d = by_test (test x) (distinct_passed test xs d.1)
  where
    by_test : (b : Bool) → AreDistinct (filter test xs) → AreDistinct (cond b (x ∷ filter test xs) (filter test xs))
    by_test true r = (λ m. d.0 ((member_passed test xs x).0 m).0, r)
    by_test false r = r

distinct_joined : (xs ys : List ℕ) → AreDistinct xs → AreDistinct ys → ((c : ℕ) → Member xs c → Member ys c → ⊥) → AreDistinct (xs ++ ys)
distinct_joined [] ys d e n = e
distinct_joined (x ∷ xs) ys d e n = (
  λ m. elim ((member_joined xs ys x).0 m) [ inl h ↦ d.0 h | inr h ↦ n x (inl refl) h ],
  distinct_joined xs ys d.1 e (λ c h k. n c (inr h) k),
)

-- ---- places

-- a place that passes a test: what stands there passes it
record Passes {X : Type 0} (test : X → Bool) (n : ℕ) (xs : List X) (c : ℕ) : Type 0 where
  at : ℕ
  item : X
  place : c ≡ n + at
  there : slice_get xs at ≡ Some item
  passes : test item ≡ true

passes_later : {X : Type 0} (test : X → Bool) (n : ℕ) (x : X) (xs : List X) (c : ℕ) → Passes test (suc n) xs c → Passes test n (x ∷ xs) c
passes_later test n x xs c p = record {
  at = suc p.at;
  item = p.item;
  place = (let e = p.place in let k : c ≡ n + suc p.at = omega (arith, e) in k);
  there = p.there;
  passes = p.passes;
}

place_passes : {X : Type 0} (test : X → Bool) (n : ℕ) (xs : List X) (c : ℕ) → Member (places test n xs) c → Passes test n xs c
place_passes test n [] c m = absurd m
place_passes {X} test n (x ∷ xs) c m = by_test (test x) refl m (λ h. place_passes test (suc n) xs c h)
  where
    by_test : (b : Bool) → test x ≡ b → Member (added b n (places test (suc n) xs)) c → (Member (places test (suc n) xs) c → Passes test (suc n) xs c) → Passes test n (x ∷ xs) c
    by_test true e m r = elim m [
      | inl k ↦ record { at = 0; item = x; place = (let j : c ≡ n + 0 = omega (arith, k) in j); there = refl; passes = e }
      | inr h ↦ passes_later test n x xs c (r h)
    ]
    by_test false e m r = passes_later test n x xs c (r m)

place_of : {X : Type 0} (test : X → Bool) (n : ℕ) (xs : List X) (i c : ℕ) (x : X) → slice_get xs i ≡ Some x → test x ≡ true → c ≡ n + i → Member (places test n xs) c
place_of test n [] i c x e t k = absurd (cc)
place_of test n (y ∷ xs) zero c x e t k =
    let s : y ≡ x = cc in
    subst (λ (b : Bool). Member (added b n (places test (suc n) xs)) c) (sym (ap test s ∙ t)) (inl (let j : n ≡ c = omega (arith, k) in j))
place_of test n (y ∷ xs) (suc i) c x e t k = by_test (test y) (place_of test (suc n) xs i c x e t (omega (arith, k)))
  where
    by_test : (b : Bool) → Member (places test (suc n) xs) c → Member (added b n (places test (suc n) xs)) c
    by_test true m = inr m
    by_test false m = m

places_distinct : {X : Type 0} (test : X → Bool) (n : ℕ) (xs : List X) → AreDistinct (places test n xs)
places_distinct test n [] = tt
places_distinct test n (x ∷ xs) = by_test (test x) (places_distinct test (suc n) xs)
  where
    by_test : (b : Bool) → AreDistinct (places test (suc n) xs) → AreDistinct (added b n (places test (suc n) xs))
    by_test true d = (λ m. (let p = place_passes test (suc n) xs n m in let e = p.place in absurd (omega (arith, e))), d)
    by_test false d = d

-- ---- inside acts

pub inside_is_read : (al : Alphabet) (p : ℕ) (written : List ℕ) (helpers : ℕ) (rows : List LinearRow) (from to : Formula) → InsideIsActed al p written helpers rows →
    IsOver (length (frame_of al p)) from → IsOver (length (frame_of al p)) to → HasInequalities to → InsideIsRead (frame_of al p) written helpers rows from to
inside_is_read al p written helpers rows from to a f t i = record {
  distinct = a.distinct;
  exist = all_weaker (MayWrite (frame_of al p)) (λ c. c < length (frame_of al p))
      (λ c h. some_within (λ v. v.1.constant ≡ false) (frame_of al p) c h) written a.may_write;
  rows_within = a.within;
  from_over = f;
  to_over = t;
  inequalities = i;
}

-- ---- call acts

pub named_below : (caller callee : Columns) (helpers : ℕ) (rows : List LinearRow) → AllByRecursion (λ r. AllByRecursion (λ t. MayName caller callee helpers t.0) r.terms) rows →
    AllByRecursion (λ r. IsBelow (call_width caller callee helpers) r.terms) rows
named_below caller callee helpers rows h =
    all_weaker (λ r. AllByRecursion (λ t. MayName caller callee helpers t.0) r.terms) (λ r. IsBelow (call_width caller callee helpers) r.terms) (λ r k. at r.terms k) rows h
  where
    at : (ts : List (ℕ × _)) → AllByRecursion (λ t. MayName caller callee helpers t.0) ts → IsBelow (call_width caller callee helpers) ts
    at [] k = tt
    at (t ∷ ts) k = (k.0.within, at ts k.1)

-- the places of one frame are columns of another with the same globals
same_places_below : (xs ys : List ℕ) (n : ℕ) → xs ≡ ys → AllByRecursion (λ c. c < n) ys → AllByRecursion (λ c. c < n) xs
same_places_below xs ys n e h = subst (AllByRecursion (λ c. c < n)) (sym e) h

pub olds_within : (caller callee : Columns) → FramesAgree callee caller → AllByRecursion (λ o. (o.0 < length callee) × (o.1 < length caller)) (olds_of callee)
olds_within caller callee g =
    all_pairs (λ o. o.0 < length callee) (λ o. o.1 < length caller) (olds_of callee) (olds_below 0 (length callee) callee (omega arith))
    ((all_mapped (λ c. c < length caller) (λ (o : ℕ × ℕ). o.1) (olds_of callee)).0
    (same_places_below (map (λ o. o.1) (olds_of callee)) (variables_of caller) (length caller) (g.olds_are_variables ∙ g.variables)
    (places_below is_variable 0 (length caller) caller (omega arith))))

pub globals_within : (caller callee : Columns) → FramesAgree callee caller → AllByRecursion (λ c. (c < length callee) × (c < length caller)) (globals_of callee)
globals_within caller callee g =
    all_pairs (λ c. c < length callee) (λ c. c < length caller) (globals_of callee) (places_below is_global 0 (length callee) callee (omega arith))
    (same_places_below (globals_of callee) (globals_of caller) (length caller) g.globals (places_below is_global 0 (length caller) caller (omega arith)))

pub call_is_read : (globals : List VarInfo) (caller callee : Columns) (helpers : ℕ) (rows : List LinearRow) (from to : Formula) → IsFrame globals caller → IsFrame globals callee →
    AllByRecursion (λ r. AllByRecursion (λ t. MayName caller callee helpers t.0) r.terms) rows →
    IsOver (length caller) from → IsOver (length callee) to → HasInequalities to → CallIsRead caller callee helpers rows from to
call_is_read globals caller callee helpers rows from to fr fe a f t i =
    let g = frames_agree globals callee caller fe fr in
    record {
      globals_within = globals_within caller callee g;
      olds_within = olds_within caller callee g;
      rows_within = named_below caller callee helpers rows a;
      from_over = f;
      to_over = t;
      inequalities = i;
    }

-- ---- return acts

record Known {X : Type 0} (P : X → Type 0) (o : Option X) : Type 0 where
  value : X
  is : o ≡ Some value
  holds : P value

known : {X : Type 0} (P : X → Type 0) (o : Option X) → IsSomeAnd o P → Known P o
known P None h = absurd h
known P (Some x) h = record { value = x; is = refl; holds = h }

global_at : (frame : Columns) (c : ℕ) (v : Column × VarInfo) → slice_get frame c ≡ Some v → is_global_at frame c ≡ is_global v
global_at [] c v e = absurd (cc)
global_at (w ∷ frame) zero v e = ap is_global (let k : w ≡ v = cc in k)
global_at (w ∷ frame) (suc c) v e = global_at frame c v e

variable_is_global : (v : Column × VarInfo) → is_variable v ≡ true → is_global v ≡ true
variable_is_global v e = by_test (is_global v) (not v.1.constant) e
  where
    by_test : (a b : Bool) → (a && b) ≡ true → a ≡ true
    by_test true b e = refl
    by_test false b e = e

global_is_variable : (v : Column × VarInfo) → is_global v ≡ true → v.1.constant ≡ false → is_variable v ≡ true
global_is_variable v g c = ap (λ (a : Bool). a && not v.1.constant) g ∙ ap (λ (a : Bool). not a) c

variables_are_global : (caller : Columns) (c : ℕ) → Member (variables_of caller) c → is_global_at caller c ≡ true
variables_are_global caller c m =
    let p = place_passes is_variable 0 caller c m in
    let e : c ≡ p.at = (let k = p.place in omega (arith, k)) in
    global_at caller c p.item (ap (slice_get caller) e ∙ p.there) ∙ variable_is_global p.item p.passes

local_targets_unlisted : (caller : Columns) (targets : List ℕ) (c : ℕ) → Member (variables_of caller) c → Member (filter (λ t. not (is_global_at caller t)) targets) c → ⊥
local_targets_unlisted caller targets c v m =
    let p = (member_passed (λ t. not (is_global_at caller t)) targets c).0 m in
    false≢true (sym (ap not (variables_are_global caller c v)) ∙ p.1)

target_written : (caller : Columns) (targets : List ℕ) (c : ℕ) → AllByRecursion (MayTarget caller) targets → Member targets c → Member (written_by caller targets) c
target_written caller targets c a m = by_test (is_global_at caller c) refl
  where
    by_test : (b : Bool) → is_global_at caller c ≡ b → Member (written_by caller targets) c
    by_test true e =
        let k = known (λ v. (v.1.constant ≡ false) × (is_old_column v.0 ≡ false)) (slice_get caller c) (all_member (MayTarget caller) targets c m a) in
        (member_joined (variables_of caller) (filter (λ t. not (is_global_at caller t)) targets) c).1
        (inl (place_of is_variable 0 caller c c k.value k.is (global_is_variable k.value (sym (global_at caller c k.value k.is) ∙ e) k.holds.0) (omega arith)))
    by_test false e =
        (member_joined (variables_of caller) (filter (λ t. not (is_global_at caller t)) targets) c).1
        (inr ((member_passed (λ t. not (is_global_at caller t)) targets c).1 (m, ap not e)))

targets_exist : (caller : Columns) (targets : List ℕ) → AllByRecursion (MayTarget caller) targets → AllByRecursion (λ c. c < length caller) targets
targets_exist caller targets a =
    all_weaker (MayTarget caller) (λ c. c < length caller)
    (λ c h. some_within (λ v. (v.1.constant ≡ false) × (is_old_column v.0 ≡ false)) caller c h) targets a

pub back_is_read : (globals : List VarInfo) (caller callee : Columns) (helpers : ℕ) (rows : List LinearRow) (targets : List ℕ) (exit before to : Formula) →
    IsFrame globals caller → IsFrame globals callee → BackIsActed caller callee helpers targets →
    AllByRecursion (λ r. AllByRecursion (λ t. MayName caller callee helpers t.0) r.terms) rows →
    IsOver (length callee) exit → IsOver (length caller) before → IsOver (length caller) to →
    BackIsRead caller callee helpers rows targets exit before to
back_is_read globals caller callee helpers rows targets exit before to fr fe a rs x b t =
    let g = frames_agree globals callee caller fe fr in
    let locals : List ℕ = filter (λ t. not (is_global_at caller t)) targets in
    let variables = places_below is_variable 0 (length caller) caller (omega arith) in
    let exist = targets_exist caller targets a.may_target in
    record {
      ties = record {
        constants = all_pairs (λ c. c < length callee) (λ c. c < length caller) (constants_of callee) (places_below is_fixed_column 0 (length callee) callee (omega arith))
            (same_places_below (constants_of callee) (constants_of caller) (length caller) g.constants (places_below is_fixed_column 0 (length caller) caller (omega arith)));
        olds = olds_within caller callee g;
        variables = all_pairs (λ c. c < length caller) (λ c. c < length callee) (variables_of caller) variables
            (same_places_below (variables_of caller) (variables_of callee) (length callee) (sym g.variables) (places_below is_variable 0 (length callee) callee (omega arith)));
        taken = all_taken (λ c. c < length caller) (λ c. c < length callee) targets (result_columns callee) exist
            (places_below is_result 0 (length callee) callee (omega arith));
      };
      distinct = distinct_joined (variables_of caller) locals (places_distinct is_variable 0 caller)
          (distinct_passed (λ t. not (is_global_at caller t)) targets a.distinct) (local_targets_unlisted caller targets);
      exist = (all_joined (λ c. c < length caller) (variables_of caller) locals).1 (
        variables,
        all_from_members (λ c. c < length caller) locals
            (λ c m. all_member (λ c. c < length caller) targets c ((member_passed (λ t. not (is_global_at caller t)) targets c).0 m).0 exist),
      );
      variables_written = λ c m. (member_joined (variables_of caller) locals c).1 (inl m);
      targets_written = λ c m. target_written caller targets c a.may_target m;
      written_are = λ c m. elim ((member_joined (variables_of caller) locals c).0 m) [
        | inl h ↦ inl h
        | inr h ↦ inr ((member_passed (λ t. not (is_global_at caller t)) targets c).0 h).0
      ];
      rows_within = named_below caller callee helpers rows rs;
      exit_over = x;
      before_over = b;
      to_over = t;
    }
