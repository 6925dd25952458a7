-- States of a frame in a point, and back; the state after, of which some columns are written.
use Rattle.std.proofs.Common.{◌≡◌, ◌↔◌, ◌∙◌, ◌⊎◌, ℕ, zero, suc, ◌+◌, ◌<◌, ◌≤◌, Bool, ℤ, pos, List, [], ◌∷◌, ◌++◌, length, Option, None, Some, length-append, refl, sym, ap, subst, inl, inr, arith}
use Rattle.std.specs.Prelude.{slice_get, if◌then◌else◌, option_map}
use Rattle.std.specs.List.{AllByRecursion}
use Rattle.std.proofs.lemmas.Bool.{eq-eqb, ne_eqb}
use Rattle.boogie_tree.specs.declared.tree.Column.{Column}
use Rattle.boogie_tree.specs.declared.tree.VarInfo.{VarInfo}
use Rattle.lin_rows.specs.Points.{point_of}
use Rattle.nwa_base.specs.Members.{Member}
use Rattle.letter_acts.specs.Frames.{Columns, IsState, IsValue}
use Rattle.letter_acts.specs.Values.{picked}
use Rattle.letter_acts.specs.Invariant.{AreDistinct, type_at}
use Rattle.letter_acts.proofs.ListLemmas.{below_or_from, member_or_not}
use Rattle.letter_acts.proofs.PointLemmas.{point_of-left, point_of-right, values_from, length-values_from, point_of-values_from}
use Rattle.triple_rows.specs.Systems.{after_column}
use Rattle.triple_rows.proofs.ListLaws.{all_from, within, place_of_member, member_at}
use Rattle.triple_rows.proofs.SaidLaws.{HasValues}
use Rattle.letter_acts.proofs.FrameRows.RowLaws.{IsValueOf}
use Rattle.triple_rows.proofs.RowLaws.{IsTyped, AreTyped}

-- ---- states as lists

pub state_value : (frame : Columns) (s : List ℤ) (c : ℕ) (v : Column × VarInfo) → IsState frame s → slice_get frame c ≡ Some v → IsValue v.1.ty (point_of s c)
state_value [] s c v h e = absurd (cc)
state_value (w ∷ frame) [] c v h e = absurd h
state_value (w ∷ frame) (x ∷ s) zero v h e = let k : w ≡ v = cc in subst (λ (u : Column × VarInfo). IsValue u.1.ty x) k h.0
state_value (w ∷ frame) (x ∷ s) (suc c) v h e = state_value frame s c v h.1 e

pub state_made : (frame : Columns) (s : List ℤ) → length s ≡ length frame →
    ((c : ℕ) (v : Column × VarInfo) → slice_get frame c ≡ Some v → IsValue v.1.ty (point_of s c)) → IsState frame s
state_made [] [] l h = tt
state_made [] (x ∷ s) l h = absurd (omega (arith, l))
state_made (w ∷ frame) [] l h = absurd (omega (arith, l))
state_made (w ∷ frame) (x ∷ s) l h = (h 0 w refl, state_made frame s (omega (arith, l)) (λ c v e. h (suc c) v e))

pub point_of-past : (s : List ℤ) (c : ℕ) → length s ≤ c → point_of s c ≡ pos 0
point_of-past [] c l = refl
point_of-past (x ∷ s) zero l = absurd (omega arith)
point_of-past (x ∷ s) (suc c) l = point_of-past s c (omega arith)

pub picked_at : (s : List ℤ) (cs : List ℕ) (i c : ℕ) → slice_get cs i ≡ Some c → point_of (picked s cs) i ≡ point_of s c
picked_at s [] i c e = absurd (cc)
picked_at s (d ∷ cs) zero c e = ap (point_of s) (let k : d ≡ c = cc in k)
picked_at s (d ∷ cs) (suc i) c e = picked_at s cs i c e

pub length-picked : (s : List ℤ) (cs : List ℕ) → length (picked s cs) ≡ length cs
length-picked s [] = refl
length-picked s (c ∷ cs) = ap suc (length-picked s cs)

-- ---- states read off a point

-- the values that the point has at the columns of a state of length n
abbrev pub read_state : (ℕ → ℤ) → (ℕ → ℕ) → ℕ → List ℤ
read_state point to n = values_from (λ c. point (to c)) 0 n

pub read_has_values : (point : ℕ → ℤ) (to : ℕ → ℕ) (n : ℕ) → HasValues point to n (read_state point to n)
read_has_values point to n = record {
  same = λ c l. sym (point_of-values_from (λ c. point (to c)) 0 n c c l (let e : c ≡ 0 + c = omega arith in e));
}

pub read_is_state : (point : ℕ → ℤ) (to : ℕ → ℕ) (frame : Columns) → IsTyped point to frame → IsState frame (read_state point to (length frame))
read_is_state point to frame h =
    state_made frame (read_state point to (length frame)) (length-values_from (λ c. point (to c)) 0 (length frame))
    (λ c v e. subst (IsValue v.1.ty) ((read_has_values point to (length frame)).same c (within frame c v e)) (h.each c v e))

-- a state is typed where the point has its values
pub state_is_typed : (point : ℕ → ℤ) (to : ℕ → ℕ) (frame : Columns) (s : List ℤ) → HasValues point to (length frame) s → IsState frame s → IsTyped point to frame
state_is_typed point to frame s v h = record {
  each = λ c w e. subst (IsValue w.1.ty) (sym (v.same c (within frame c w e))) (state_value frame s c w h e);
}

-- ---- the columns of the state after

pub after_written : (base first : ℕ) (written : List ℕ) (i j c : ℕ) → AreDistinct written → slice_get written i ≡ Some c → j ≡ first + i →
    after_column base first written c ≡ j
after_written base first [] i j c d e l = absurd (cc)
after_written base first (w ∷ ws) zero j c d e l =
    let k : w ≡ c = cc in
    ap (λ (b : Bool). if b then first else after_column base (suc first) ws c) (eq-eqb w c k) ∙ (let m : first ≡ j = omega (arith, l) in m)
after_written base first (w ∷ ws) (suc i) j c d e l =
    ap (λ (b : Bool). if b then first else after_column base (suc first) ws c)
    (ne_eqb w c (λ k. d.0 (member_at ws i w (e ∙ ap Some (sym k))))) ∙
    after_written base (suc first) ws i j c d.1 e (omega (arith, l))

pub after_other : (base first : ℕ) (written : List ℕ) (c : ℕ) → (Member written c → ⊥) → after_column base first written c ≡ base + c
after_other base first [] c n = refl
after_other base first (w ∷ ws) c n =
    ap (λ (b : Bool). if b then first else after_column base (suc first) ws c) (ne_eqb w c (λ k. n (inl k))) ∙
    after_other base (suc first) ws c (λ m. n (inr m))

-- a column is written, or it is not
pub written_or_not : (written : List ℕ) (c : ℕ) → ((i : ℕ) × (slice_get written i ≡ Some c)) ⊎ (Member written c → ⊥)
written_or_not written c = elim (member_or_not written c) [ inl m ↦ inl (place_of_member written c m) | inr n ↦ inr n ]

-- the point has the values of the state after where it has those of the state before, and of the written columns
pub after_has_values : (point : ℕ → ℤ) (base first n : ℕ) (written : List ℕ) (s t : List ℤ) → AreDistinct written →
    HasValues point (λ c. base + c) n s →
    ((i j c : ℕ) → j ≡ first + i → slice_get written i ≡ Some c → point j ≡ point_of t c) →
    ((c : ℕ) → (Member written c → ⊥) → point_of t c ≡ point_of s c) →
    HasValues point (after_column base first written) n t
after_has_values point base first n written s t d b w o = record { same = λ c l. by_place c l (written_or_not written c) }
  where
    by_place : (c : ℕ) → c < n → ((i : ℕ) × (slice_get written i ≡ Some c)) ⊎ (Member written c → ⊥) → point (after_column base first written c) ≡ point_of t c
    by_place c l (inl h) = ap point (after_written base first written h.0 (first + h.0) c d h.1 refl) ∙ w h.0 (first + h.0) c refl h.1
    by_place c l (inr h) = ap point (after_other base first written c h) ∙ b.same c l ∙ sym (o c h)

some_type : (frame : Columns) (c : ℕ) (v : Column × VarInfo) (z : ℤ) → slice_get frame c ≡ Some v → IsValueOf (type_at frame c) z → IsValue v.1.ty z
some_type frame c v z e h = subst (λ (o : Option (Column × VarInfo)). IsValueOf (option_map (λ w. w.1.ty) o) z) e h

some_value : (frame : Columns) (c : ℕ) (z : ℤ) → ((v : Column × VarInfo) → slice_get frame c ≡ Some v → IsValue v.1.ty z) → IsValueOf (type_at frame c) z
some_value frame c z h = by_column (slice_get frame c) refl
  where
    by_column : (o : Option (Column × VarInfo)) → slice_get frame c ≡ o → IsValueOf (option_map (λ w. w.1.ty) o) z
    by_column None e = tt
    by_column (Some v) e = h v e

-- it is typed where the state before and the written columns are
pub after_is_typed : (point : ℕ → ℤ) (base first : ℕ) (frame : Columns) (written : List ℕ) → AreDistinct written → IsTyped point (λ c. base + c) frame →
    AreTyped point first frame written → IsTyped point (after_column base first written) frame
after_is_typed point base first frame written d b w = record { each = λ c v e. by_place c v e (written_or_not written c) }
  where
    by_place : (c : ℕ) (v : Column × VarInfo) → slice_get frame c ≡ Some v → ((i : ℕ) × (slice_get written i ≡ Some c)) ⊎ (Member written c → ⊥) →
        IsValue v.1.ty (point (after_column base first written c))
    by_place c v e (inl h) =
        subst (λ (k : ℕ). IsValue v.1.ty (point k)) (sym (after_written base first written h.0 (first + h.0) c d h.1 refl))
        (some_type frame c v (point (first + h.0)) e (w.each h.0 (first + h.0) c refl h.1))
    by_place c v e (inr h) = subst (λ (k : ℕ). IsValue v.1.ty (point k)) (sym (after_other base first written c h)) (b.each c v e)

-- the written columns are typed where the state after is a state
pub written_are_typed : (point : ℕ → ℤ) (first : ℕ) (frame : Columns) (written : List ℕ) (t : List ℤ) → IsState frame t →
    ((i j c : ℕ) → j ≡ first + i → slice_get written i ≡ Some c → point j ≡ point_of t c) → AreTyped point first frame written
written_are_typed point first frame written t h w = record {
  each = λ i j c e g. subst (IsValueOf (type_at frame c)) (sym (w i j c e g)) (some_value frame c (point_of t c) (λ v k. state_value frame t c v h k));
}

-- ---- a point that has two lists of values, one after the other

pub joined_agrees : (point : ℕ → ℤ) (xs ys : List ℤ) → ((c : ℕ) → c < length xs → point c ≡ point_of xs c) →
    ((k c : ℕ) → c ≡ length xs + k → k < length ys → point c ≡ point_of ys k) → (c : ℕ) → c < length (xs ++ ys) → point c ≡ point_of (xs ++ ys) c
joined_agrees point xs ys f g c l = elim (below_or_from c (length xs)) [
  | inl b ↦ f c b ∙ sym (point_of-left xs ys c b)
  | inr h ↦ g h.0 c h.1 (let e = h.1 in let m = length-append xs ys in omega (arith, e, m, l)) ∙ sym (point_of-right xs ys c h.0 h.1)
]

-- ---- columns of two states that are equal

-- columns of the point that are equal in pairs are values of two states that are
pub tied : {X : Type 0} (point : ℕ → ℤ) (to other : ℕ → ℕ) (n k : ℕ) (s t : List ℤ) (a b : X → ℕ) (xs : List X) → HasValues point to n s → HasValues point other k t →
    AllByRecursion (λ x. (a x < n) × (b x < k)) xs →
    AllByRecursion (λ x. point (to (a x)) ≡ point (other (b x))) xs ↔ AllByRecursion (λ x. point_of s (a x) ≡ point_of t (b x)) xs
tied point to other n k s t a b xs v w l = (
  λ h. all_from (λ x. (a x < n) × (b x < k)) (λ x. point (to (a x)) ≡ point (other (b x))) (λ x. point_of s (a x) ≡ point_of t (b x))
      (λ x l e. sym (v.same (a x) l.0) ∙ e ∙ w.same (b x) l.1) xs l h,
  λ h. all_from (λ x. (a x < n) × (b x < k)) (λ x. point_of s (a x) ≡ point_of t (b x)) (λ x. point (to (a x)) ≡ point (other (b x)))
      (λ x l e. v.same (a x) l.0 ∙ e ∙ sym (w.same (b x) l.1)) xs l h,
)

-- the values at columns from 0 on are those at the columns themselves
pub from_zero : (point : ℕ → ℤ) (n : ℕ) (s : List ℤ) → HasValues point (λ c. 0 + c) n s → HasValues point (λ c. c) n s
from_zero point n s v = record { same = λ c l. ap point (let e : c ≡ 0 + c = omega arith in e) ∙ v.same c l }
