-- Sets and lists with the same members.
use Rattle.std.proofs.Common.{◌≡◌, ◌∙◌, ◌<◌, ◌≤◌, ◌+◌, ◌&&◌, ℕ, zero, suc, Bool, true, false, cond, List, [], ◌∷◌, ◌++◌, Option, None, Some, length, take, get_or, append_assoc, refl, sym, ap, subst, inl, inr, eqb, eq-eqb, arith}
use Rattle.std.specs.Prelude.{map, filter}
use Rattle.std.specs.List.{filter_map, flat_map, cons_option}
use Rattle.std.proofs.lemmas.Bool.{eqb-true}
use Rattle.std.proofs.lemmas.List.{take_more, take_all, append-nil}
use Rattle.indexmap.specs.IndexSet.{insert_key}
use Rattle.nwa_base.specs.Members.{Member, SameMembers}
use Rattle.nwa_base.proofs.LetterLemmas.{and_left, and_right, and_both}
use Rattle.nwa_base.proofs.MemberLemmas.{member_front, member_rest, member_split}
use Rattle.nwa_difference.proofs.PairLemmas.{IsTest, key_added}
use Rattle.proof_reuse.specs.Ties.Sets.{Inserts, InsertsAll}

-- ---- one key more

pub test_threes : IsTest (λ (x y : ℕ × ℕ × ℕ). (eqb x.0 y.0 && eqb x.1 y.1) && eqb x.2 y.2)
test_threes = record {
  there = λ x y h.
      let l = and_left _ _ h in
      let i : x.0 ≡ y.0 = eqb-true _ _ (and_left _ _ l) in
      let j : x.1 ≡ y.1 = eqb-true _ _ (and_right _ _ l) in
      let k : x.2 ≡ y.2 = eqb-true _ _ (and_right _ _ h) in
      λ n. (i n, j n, k n);
  back = λ x y e. and_both _ _
      (and_both _ _ (eq-eqb x.0 y.0 (ap (λ (z : ℕ × ℕ × ℕ). z.0) e)) (eq-eqb x.1 y.1 (ap (λ (z : ℕ × ℕ × ℕ). z.1) e)))
      (eq-eqb x.2 y.2 (ap (λ (z : ℕ × ℕ × ℕ). z.2) e));
}

pub inserted : {X : Type 0} (eq : X → X → Bool) (old new : List X) (x : X) → IsTest eq → new ≡ insert_key eq old x → Inserts old x new
inserted {X} eq old new x t e =
    let a = key_added eq old new x t e in
    λ y. (
      λ m. a.only y m,
      λ m. elim m [ inl k ↦ subst (λ (l : List X). Member l y) (sym a.list) (member_front old a.more y k) | inr f ↦ subst (λ (z : X). Member new z) f a.there ],
    )

pub inserts_none : {X : Type 0} (old now : List X) → now ≡ old → InsertsAll old [] now
inserts_none {X} old now e = λ y. (λ m. inl (subst (λ (l : List X). Member l y) e m), λ m. elim m [ inl k ↦ subst (λ (l : List X). Member l y) (sym e) k | inr n ↦ absurd n ])

pub inserts_more : {X : Type 0} (old now new xs : List X) (x : X) → InsertsAll old xs now → Inserts now x new → InsertsAll old (xs ++ x ∷ []) new
inserts_more {X} old now new xs x h k = λ y. (
  λ m. elim ((k y).0 m) [
    | inl n ↦ elim ((h y).0 n) [ inl o ↦ inl o | inr i ↦ inr (member_front xs (x ∷ []) y i) ]
    | inr e ↦ inr (member_rest xs (x ∷ []) y (inl e))
  ],
  λ m. elim m [
    | inl o ↦ (k y).1 (inl ((h y).1 (inl o)))
    | inr i ↦ elim (member_split xs (x ∷ []) y i) [
      | inl j ↦ (k y).1 (inl ((h y).1 (inr j)))
      | inr j ↦ elim j [ inl e ↦ (k y).1 (inr e) | inr none ↦ absurd none ]
    ]
  ],
)

-- ---- beside a list

pub same_none : {X : Type 0} (keys : List X) → keys ≡ [] → SameMembers keys []
same_none {X} keys e = record { there = λ x m. subst (λ (l : List X). Member l x) e m; back = λ x m. absurd m }

pub same_inserts : {X : Type 0} (old new xs : List X) (y : X) → SameMembers old xs → Inserts old y new → SameMembers new (xs ++ y ∷ [])
same_inserts old new xs y s k = record {
  there = λ x m. elim ((k x).0 m) [ inl o ↦ member_front xs (y ∷ []) x (s.there x o) | inr e ↦ member_rest xs (y ∷ []) x (inl e) ];
  back = λ x m. elim (member_split xs (y ∷ []) x m) [
    | inl i ↦ (k x).1 (inl (s.back x i))
    | inr j ↦ elim j [ inl e ↦ (k x).1 (inr e) | inr none ↦ absurd none ]
  ];
}

pub same_all : {X : Type 0} (old new xs ys : List X) → SameMembers old xs → InsertsAll old ys new → SameMembers new (xs ++ ys)
same_all old new xs ys s k = record {
  there = λ x m. elim ((k x).0 m) [ inl o ↦ member_front xs ys x (s.there x o) | inr i ↦ member_rest xs ys x i ];
  back = λ x m. elim (member_split xs ys x m) [ inl i ↦ (k x).1 (inl (s.back x i)) | inr j ↦ (k x).1 (inr j) ];
}

pub same_along : {X : Type 0} (keys xs ys : List X) → xs ≡ ys → SameMembers keys xs → SameMembers keys ys
same_along {X} keys xs ys e s = subst (λ (l : List X). SameMembers keys l) e s

pub same_start : {X : Type 0} (keys xs ys : List X) → keys ≡ xs → SameMembers xs ys → SameMembers keys ys
same_start {X} keys xs ys e s = subst (λ (l : List X). SameMembers l ys) (sym e) s

-- two reads of one place
pub got_any : {X : Type 0} (xs : List X) (i : ℕ) (d e : X) → i < length xs → get_or xs i d ≡ get_or xs i e
got_any [] i d e l = absurd (omega arith)
got_any (x ∷ xs) zero d e l = refl
got_any (x ∷ xs) (suc i) d e l = got_any xs i d e (omega arith)

-- ---- what is collected from lines

-- the same lines, by the same numbers
pub collected_same : {A B Y : Type 0} (f : A → B → Option Y) (keys : List Y) (m n : A) (xs ys : List B) → m ≡ n → xs ≡ ys → SameMembers keys (filter_map (f m) xs) → SameMembers keys (filter_map (f n) ys)
collected_same {A} {B} f keys m n xs ys e h s =
    same_along keys (filter_map (f m) xs) (filter_map (f n) ys) (ap (λ (a : A). filter_map (f a) xs) e ∙ ap (λ (l : List B). filter_map (f n) l) h) s

module _ {A B Y : Type 0} (f : B → Option Y) (h : A → B) where
  collected_push : (xs : List A) (x : A) → filter_map f (map h (xs ++ x ∷ [])) ≡ filter_map f (map h xs) ++ cons_option (f (h x)) []
  collected_push [] x = refl
  collected_push (z ∷ xs) x = by_first (f (h z)) (collected_push xs x)
    where
      by_first : (o : Option Y) → filter_map f (map h (xs ++ x ∷ [])) ≡ filter_map f (map h xs) ++ cons_option (f (h x)) [] →
          cons_option o (filter_map f (map h (xs ++ x ∷ []))) ≡ cons_option o (filter_map f (map h xs)) ++ cons_option (f (h x)) []
      by_first None e = e
      by_first (Some y) e = ap (λ l. y ∷ l) e

  pub collected_next : (xs : List A) (i : ℕ) (x : A) → i < length xs → x ≡ get_or xs i x →
      filter_map f (map h (take (i + 1) xs)) ≡ filter_map f (map h (take i xs)) ++ cons_option (f (h x)) []
  collected_next xs i x l e =
      ap (λ (zs : List A). filter_map f (map h zs)) (take_more xs i x l ∙ ap (λ (z : A). take i xs ++ z ∷ []) (sym e)) ∙ collected_push (take i xs) x

  pub collected_puts : (xs : List A) (i : ℕ) (x : A) (y : Y) (old new : List Y) → i < length xs → x ≡ get_or xs i x → Some y ≡ f (h x) → Inserts old y new →
      SameMembers old (filter_map f (map h (take i xs))) → SameMembers new (filter_map f (map h (take (i + 1) xs)))
  collected_puts xs i x y old new l e s k m =
      same_along new (filter_map f (map h (take i xs)) ++ y ∷ []) (filter_map f (map h (take (i + 1) xs)))
      (ap (λ (o : Option Y). filter_map f (map h (take i xs)) ++ cons_option o []) s ∙ sym (collected_next xs i x l e))
      (same_inserts old new (filter_map f (map h (take i xs))) y m k)

  pub collected_skips : (xs : List A) (i : ℕ) (x : A) (old : List Y) → i < length xs → x ≡ get_or xs i x → None ≡ f (h x) →
      SameMembers old (filter_map f (map h (take i xs))) → SameMembers old (filter_map f (map h (take (i + 1) xs)))
  collected_skips xs i x old l e s m =
      same_along old (filter_map f (map h (take i xs))) (filter_map f (map h (take (i + 1) xs)))
      (sym (append-nil (filter_map f (map h (take i xs)))) ∙ ap (λ (o : Option Y). filter_map f (map h (take i xs)) ++ cons_option o []) s ∙ sym (collected_next xs i x l e)) m

  pub collected_all : (xs : List A) (i : ℕ) (keys : List Y) → length xs ≤ i → SameMembers keys (filter_map f (map h (take i xs))) → SameMembers keys (filter_map f (map h xs))
  collected_all xs i keys l m = same_along keys _ (filter_map f (map h xs)) (ap (λ (zs : List A). filter_map f (map h zs)) (take_all i xs l)) m

-- ---- what is chosen: some, and all that comes of members that pass a test

module _ {X : Type 0} (base : List X) (f : X → List X) (p : X → Bool) where
  abbrev chosen : List X → List X
  chosen xs = base ++ flat_map f (filter p xs)

  flat_push : (xs : List X) (x : X) (b : Bool) → p x ≡ b → flat_map f (filter p (xs ++ x ∷ [])) ≡ flat_map f (filter p xs) ++ cond b (f x) []
  flat_push [] x true e = rw e (append-nil (f x))
  flat_push [] x false e = rw e refl
  flat_push (z ∷ xs) x b e = by_first (p z) (flat_push xs x b e)
    where
      by_first : (c : Bool) → flat_map f (filter p (xs ++ x ∷ [])) ≡ flat_map f (filter p xs) ++ cond b (f x) [] →
          flat_map f (cond c (z ∷ filter p (xs ++ x ∷ [])) (filter p (xs ++ x ∷ []))) ≡ flat_map f (cond c (z ∷ filter p xs) (filter p xs)) ++ cond b (f x) []
      by_first true k = ap (λ l. f z ++ l) k ∙ sym (append_assoc (f z) (flat_map f (filter p xs)) (cond b (f x) []))
      by_first false k = k

  chosen_next : (xs : List X) (i : ℕ) (x : X) (b : Bool) → i < length xs → x ≡ get_or xs i x → p x ≡ b → chosen (take (i + 1) xs) ≡ chosen (take i xs) ++ cond b (f x) []
  chosen_next xs i x b l e k =
      ap chosen (take_more xs i x l ∙ ap (λ (z : X). take i xs ++ z ∷ []) (sym e)) ∙ ap (λ zs. base ++ zs) (flat_push (take i xs) x b k) ∙
      sym (append_assoc base (flat_map f (filter p (take i xs))) (cond b (f x) []))

  pub chosen_puts : (xs : List X) (i : ℕ) (x : X) (old new : List X) → i < length xs → x ≡ get_or xs i x → p x ≡ true → InsertsAll old (f x) new →
      SameMembers old (chosen (take i xs)) → SameMembers new (chosen (take (i + 1) xs))
  chosen_puts xs i x old new l e k h m = same_along new _ (chosen (take (i + 1) xs)) (sym (chosen_next xs i x true l e k)) (same_all old new (chosen (take i xs)) (f x) m h)

  pub chosen_skips : (xs : List X) (i : ℕ) (x : X) (old : List X) → i < length xs → x ≡ get_or xs i x → p x ≡ false →
      SameMembers old (chosen (take i xs)) → SameMembers old (chosen (take (i + 1) xs))
  chosen_skips xs i x old l e k m =
      same_along old _ (chosen (take (i + 1) xs)) (sym (append-nil (chosen (take i xs))) ∙ sym (chosen_next xs i x false l e k)) m

  pub chosen_all : (xs : List X) (i : ℕ) (keys : List X) → length xs ≤ i → SameMembers keys (chosen (take i xs)) → SameMembers keys (chosen xs)
  chosen_all xs i keys l m = same_along keys _ (chosen xs) (ap chosen (take_all i xs l)) m

  pub chosen_none : (keys : List X) → SameMembers keys base → SameMembers keys (chosen [])
  chosen_none keys m = same_along keys base (chosen []) (sym (append-nil base)) m

-- ---- lists of lists

flat_next : {X Y : Type 0} (f : X → List Y) (xs : List X) (x : X) → flat_map f (xs ++ x ∷ []) ≡ flat_map f xs ++ f x
flat_next f [] x = append-nil (f x)
flat_next f (z ∷ xs) x = ap (λ l. f z ++ l) (flat_next f xs x) ∙ sym (append_assoc (f z) (flat_map f xs) (f x))

pub flat_grows : {X Y : Type 0} (f : X → List Y) (xs : List X) (x : X) (old more new : List Y) → old ≡ flat_map f xs → more ≡ f x → new ≡ old ++ more → new ≡ flat_map f (xs ++ x ∷ [])
flat_grows f xs x old more new h k e = e ∙ ap (λ l. l ++ more) h ∙ ap (λ l. flat_map f xs ++ l) k ∙ sym (flat_next f xs x)
