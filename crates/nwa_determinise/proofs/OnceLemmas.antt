-- Equal sets get one number.
use Rattle.std.proofs.Common.{◌≡◌, ◌<◌, ◌∙◌, ◌+◌, ℕ, suc, List, [], ◌∷◌, ◌++◌, length, refl, sym, ap, subst, Bool, true, false, cond, ◌&&◌, ◌||◌, eqb, eq-eqb, slice_index_or, inl, inr, arith, not}
use Rattle.std.specs.List.{list_any, position_or_len}
use Rattle.std.specs.Global.{Vec}
use Rattle.std.proofs.lemmas.Slice.Eq.{slice_eq-Decides}
use Rattle.std.proofs.lemmas.List.{map-append}
use lib.Pointwise.{pointwise}
use Rattle.nwa_base.specs.Automata.{Automaton}
use Rattle.nwa_base.proofs.LetterLemmas.{and_both}
use Rattle.nwa_base.proofs.MemberLemmas.{same_pair}
use Rattle.nwa_determinise.specs.Kept.{AreOthers, HasOneNumber, lists_of}

-- the test of sets
abbrev pub same_set : Vec (ℕ × ℕ) → Vec (ℕ × ℕ) → Bool
same_set s k = pointwise (λ (a b : ℕ × ℕ). eqb a.0 b.0 && eqb a.1 b.1) s.items k.items

passes : (s k : Vec (ℕ × ℕ)) → s.items ≡ k.items → same_set s k ≡ true
passes s k e =
    (slice_eq-Decides {E = λ (a b : ℕ × ℕ). eqb a.0 b.0 && eqb a.1 b.1}
    (λ a b. (
      λ h. same_pair a b h,
      λ h. and_both _ _ (eq-eqb a.0 b.0 (ap (λ (z : ℕ × ℕ). z.0) h)) (eq-eqb a.1 b.1 (ap (λ (z : ℕ × ℕ). z.1) h)),
    ))
    s.items k.items _ refl).1 e

or_false_left : (a b : Bool) → a || b ≡ false → a ≡ false
or_false_left true b e = e
or_false_left false b e = refl

or_false_right : (a b : Bool) → a || b ≡ false → b ≡ false
or_false_right true b e = let f : true ≡ false = e in cc
or_false_right false b e = e

not_among : (set : Vec (ℕ × ℕ)) (sets : List (Vec (ℕ × ℕ))) → list_any (same_set set) sets ≡ false → AreOthers (lists_of sets) set.items
not_among set [] e h = absurd h
not_among set (s ∷ sets) e (inl q) =
    absurd (let f : true ≡ false = sym (passes set s (sym q)) ∙ or_false_left (same_set set s) (list_any (same_set set) sets) e in cc)
not_among set (s ∷ sets) e (inr h) = not_among set sets (or_false_right (same_set set s) (list_any (same_set set) sets) e) h

one_more : (m n : ℕ) → m ≡ n → 1 + m ≡ suc n
one_more m n e = omega arith

at_end : {X : Type 0} (p : X → Bool) (xs : List X) → list_any p xs ≡ false → position_or_len p xs ≡ length xs
at_end p [] e = refl
at_end p (x ∷ xs) e =
    let here : p x ≡ false = or_false_left (p x) (list_any p xs) e in
    let rest = at_end p xs (or_false_right (p x) (list_any p xs) e) in
    subst (λ (b : Bool). cond (not b) (1 + position_or_len p xs) 0 ≡ suc (length xs)) (sym here) (one_more _ _ rest)

as_long : (sets : List (Vec (ℕ × ℕ))) → length (lists_of sets) ≡ length sets
as_long [] = refl
as_long (s ∷ sets) = ap suc (as_long sets)

once_by : (m : Automaton) (old new : List (Vec (ℕ × ℕ))) (set : Vec (ℕ × ℕ)) (t : ℕ) (b : Bool) → list_any (same_set set) old ≡ b →
    new ≡ cond b old (old ++ set ∷ []) → t ≡ position_or_len (same_set set) old → t < length new → slice_index_or (lists_of new) t [] ≡ set.items →
    HasOneNumber (record { nwa = m; sets = lists_of old }) (record { nwa = m; sets = lists_of new }) t
once_by m old new set t true f e i l s =
    let fewer : t < length old = subst (λ (z : List (Vec (ℕ × ℕ))). t < length z) e l in
    let long = as_long old in
    inl (ap (λ (z : List (Vec (ℕ × ℕ))). record { nwa = m; sets = lists_of z }) e, omega arith)
once_by m old new set t false f e i l s = inr (
  subst (AreOthers (lists_of old)) (sym s) (not_among set old f),
  ap lists_of e ∙ map-append (λ (s : Vec (ℕ × ℕ)). s.items) old (set ∷ []) ∙ ap (λ (z : List (ℕ × ℕ)). lists_of old ++ z ∷ []) (sym s),
  i ∙ at_end (same_set set) old f ∙ sym (as_long old),
)

-- the set that is kept under a number was kept already, or is put behind the others
pub once : (m : Automaton) (old new : List (Vec (ℕ × ℕ))) (set : Vec (ℕ × ℕ)) (t : ℕ) →
    new ≡ cond (list_any (same_set set) old) old (old ++ set ∷ []) → t ≡ position_or_len (same_set set) old → t < length new →
    slice_index_or (lists_of new) t [] ≡ set.items →
    HasOneNumber (record { nwa = m; sets = lists_of old }) (record { nwa = m; sets = lists_of new }) t
once m old new set t e i l s = once_by m old new set t (list_any (same_set set) old) refl e i l s
