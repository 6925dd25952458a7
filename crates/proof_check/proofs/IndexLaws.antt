-- Indexes that are made member by member of a list.
use Rattle.std.proofs.Common.{◌≡◌, ◌∙◌, ◌↔◌, ◌⊎◌, ℕ, ◌+◌, ◌<◌, ◌≤◌, Bool, true, false, cond, List, [], ◌∷◌, ◌++◌, length, take, get_or, Option, None, Some, refl, sym, ap, subst, inl, inr}
use Rattle.std.proofs.lemmas.Bool.{false≢true}
use Rattle.std.proofs.lemmas.List.{take_more, take_all}
use Rattle.std.proofs.lemmas.Option.{same_Some}
use Rattle.nwa_base.specs.Members.{Member}
use Rattle.nwa_base.proofs.MemberLemmas.{member_front, member_rest, member_split}

-- some member of the list makes this entry
abbrev pub Enters : {X E : Type 0} → (X → Option E) → List X → E → Type 0
Enters {X} entry xs e = (x : X) × Member xs x × (entry x ≡ Some e)

enters_old : {X E : Type 0} (entry : X → Option E) (xs : List X) (x : X) (e : E) → Enters entry xs e → Enters entry (xs ++ x ∷ []) e
enters_old entry xs x e h = (h.0, member_front xs (x ∷ []) h.0 h.1, h.2)

enters_new : {X E : Type 0} (entry : X → Option E) (xs : List X) (x : X) (e : E) → entry x ≡ Some e → Enters entry (xs ++ x ∷ []) e
enters_new entry xs x e h = (x, member_rest xs (x ∷ []) x (inl refl), h)

enters_split : {X E : Type 0} (entry : X → Option E) (xs : List X) (x : X) (e : E) → Enters entry (xs ++ x ∷ []) e → Enters entry xs e ⊎ (entry x ≡ Some e)
enters_split {X} entry xs x e h = elim (member_split xs (x ∷ []) h.0 h.1) [
  | inl m ↦ inl (h.0, m, h.2)
  | inr m ↦ inr (last m)
]
  where
    last : Member (x ∷ []) h.0 → entry x ≡ Some e
    last (inl i) = ap entry i ∙ h.2
    last (inr n) = absurd n

-- the test tells equal keys
pub record TellsKeys {K : Type 0} (test : K → K → Bool) : Type 0 where
  pub same : (k l : K) → test k l ≡ true → k ≡ l
  pub itself : (k : K) → test k k ≡ true

-- ---- groups

-- each group has exactly what the members of the list enter under its key
abbrev pub HasGroups : {X K V : Type 0} → (X → Option (K × V)) → List X → (K → List V) → Type 0
HasGroups {X} {K} {V} entry xs groups = (k : K) (v : V) → Member (groups k) v ↔ Enters entry xs (k, v)

abbrev pub GrowsAt : {K V : Type 0} → (K → K → Bool) → K → V → (K → List V) → (K → List V) → Type 0
GrowsAt {K} test key value old new = (k : K) → new k ≡ cond (test key k) (old k ++ value ∷ []) (old k)

in_grown : {V : Type 0} (b : Bool) (xs : List V) (v w : V) → Member (cond b (xs ++ v ∷ []) xs) w → Member xs w ⊎ ((b ≡ true) × (v ≡ w))
in_grown {V} true xs v w h = elim (member_split xs (v ∷ []) w h) [ inl m ↦ inl m | inr m ↦ inr (refl, only m) ]
  where
    only : Member (v ∷ []) w → v ≡ w
    only (inl e) = e
    only (inr n) = absurd n
in_grown false xs v w h = inl h

grown_keeps : {V : Type 0} (b : Bool) (xs : List V) (v w : V) → Member xs w → Member (cond b (xs ++ v ∷ []) xs) w
grown_keeps true xs v w h = member_front xs (v ∷ []) w h
grown_keeps false xs v w h = h

grown_has : {V : Type 0} (b : Bool) (xs : List V) (v : V) → b ≡ true → Member (cond b (xs ++ v ∷ []) xs) v
grown_has true xs v e = member_rest xs (v ∷ []) v (inl refl)
grown_has false xs v e = absurd (false≢true e)

groups_on : {X K V : Type 0} (entry : X → Option (K × V)) (test : K → K → Bool) (xs : List X) (x : X) (k : K) (v : V) (old new : K → List V) →
    TellsKeys test → HasGroups entry xs old → entry x ≡ Some (k, v) → GrowsAt test k v old new → HasGroups entry (xs ++ x ∷ []) new
groups_on {X} {K} {V} entry test xs x k v old new t h e g j w = (there, back)
  where
    there : Member (new j) w → Enters entry (xs ++ x ∷ []) (j, w)
    there m = elim (in_grown (test k j) (old j) v w (subst (λ (l : List V). Member l w) (g j) m)) [
      | inl o ↦ enters_old entry xs x (j, w) ((h j w).0 o)
      | inr n ↦ enters_new entry xs x (j, w) (e ∙ ap (λ (i : K). Some (i, v)) (t.same k j n.0) ∙ ap (λ (u : V). Some (j, u)) n.1)
    ]

    back : Enters entry (xs ++ x ∷ []) (j, w) → Member (new j) w
    back n = subst (λ (l : List V). Member l w) (sym (g j)) (elim (enters_split entry xs x (j, w) n) [
      | inl o ↦ grown_keeps (test k j) (old j) v w ((h j w).1 o)
      | inr i ↦
          let p : (k, v) ≡ (j, w) = same_Some (k, v) (j, w) (sym e ∙ i) in
          subst (λ (u : V). Member (cond (test k j) (old j ++ v ∷ []) (old j)) u) (ap (λ (q : K × V). q.1) p)
          (grown_has (test k j) (old j) v (subst (λ (i : K). test k i ≡ true) (ap (λ (q : K × V). q.0) p) (t.itself k)))
    ])

groups_skip : {X K V : Type 0} (entry : X → Option (K × V)) (xs : List X) (x : X) (old : K → List V) → HasGroups entry xs old → entry x ≡ None → HasGroups entry (xs ++ x ∷ []) old
groups_skip entry xs x old h e k v = (
  λ m. enters_old entry xs x (k, v) ((h k v).0 m),
  λ n. elim (enters_split entry xs x (k, v) n) [
    | inl o ↦ (h k v).1 o
    | inr i ↦ absurd (let no : ⊥ = cc in no)
  ],
)

-- what is there already is not entered again
groups_again : {X K V : Type 0} (entry : X → Option (K × V)) (xs : List X) (x : X) (k : K) (v : V) (old : K → List V) → HasGroups entry xs old → entry x ≡ Some (k, v) →
    Enters entry xs (k, v) → HasGroups entry (xs ++ x ∷ []) old
groups_again {X} {K} {V} entry xs x k v old h e a j w = (
  λ m. enters_old entry xs x (j, w) ((h j w).0 m),
  λ n. elim (enters_split entry xs x (j, w) n) [
    | inl o ↦ (h j w).1 o
    | inr i ↦
        let p : (k, v) ≡ (j, w) = same_Some (k, v) (j, w) (sym e ∙ i) in
        let q : Member (old k) v = (h k v).1 a in
        subst (λ (u : V). Member (old j) u) (ap (λ (q : K × V). q.1) p) (subst (λ (i : K). Member (old i) v) (ap (λ (q : K × V). q.0) p) q)
  ],
)

pub next_taken : {X : Type 0} (xs : List X) (i : ℕ) (x : X) → i < length xs → x ≡ get_or xs i x → take (i + 1) xs ≡ take i xs ++ x ∷ []
next_taken xs i x l e = take_more xs i x l ∙ ap (λ y. take i xs ++ y ∷ []) (sym e)

-- the groups of the first members
pub record Groups {X K V : Type 0} (entry : X → Option (K × V)) (xs : List X) (i : ℕ) (groups : K → List V) : Type 0 where
  pub so_far : HasGroups entry (take i xs) groups

pub groups_none : {X K V : Type 0} (entry : X → Option (K × V)) (xs : List X) (i : ℕ) (groups : K → List V) → i ≡ 0 → ((k : K) → groups k ≡ []) → Groups entry xs i groups
groups_none {X} {K} {V} entry xs i groups e h = record {
  so_far = λ k v. (
    λ m. absurd (subst (λ (l : List V). Member l v) (h k) m),
    λ n. absurd (subst (λ (j : ℕ). Member (take j xs) n.0) e n.1),
  );
}

pub groups_next : {X K V : Type 0} (entry : X → Option (K × V)) (test : K → K → Bool) (xs : List X) (i : ℕ) (x : X) (k : K) (v : V) (old new : K → List V) →
    TellsKeys test → Groups entry xs i old → i < length xs → x ≡ get_or xs i x → entry x ≡ Some (k, v) → GrowsAt test k v old new → Groups entry xs (i + 1) new
groups_next entry test xs i x k v old new t h l e f g = record {
  so_far = subst (λ ys. HasGroups entry ys new) (sym (next_taken xs i x l e)) (groups_on entry test (take i xs) x k v old new t h.so_far f g);
}

pub groups_pass : {X K V : Type 0} (entry : X → Option (K × V)) (xs : List X) (i : ℕ) (x : X) (old : K → List V) → Groups entry xs i old → i < length xs →
    x ≡ get_or xs i x → entry x ≡ None → Groups entry xs (i + 1) old
groups_pass entry xs i x old h l e f = record {
  so_far = subst (λ ys. HasGroups entry ys old) (sym (next_taken xs i x l e)) (groups_skip entry (take i xs) x old h.so_far f);
}

pub groups_twice : {X K V : Type 0} (entry : X → Option (K × V)) (xs : List X) (i : ℕ) (x : X) (k : K) (v : V) (old : K → List V) → Groups entry xs i old → i < length xs →
    x ≡ get_or xs i x → entry x ≡ Some (k, v) → Enters entry (take i xs) (k, v) → Groups entry xs (i + 1) old
groups_twice entry xs i x k v old h l e f a = record {
  so_far = subst (λ ys. HasGroups entry ys old) (sym (next_taken xs i x l e)) (groups_again entry (take i xs) x k v old h.so_far f a);
}

pub groups_all : {X K V : Type 0} (entry : X → Option (K × V)) (xs : List X) (i : ℕ) (groups : K → List V) → Groups entry xs i groups → length xs ≤ i → HasGroups entry xs groups
groups_all entry xs i groups h l = subst (λ ys. HasGroups entry ys groups) (take_all i xs l) h.so_far

-- ---- sets

-- the test passes exactly at what the members of the list enter
abbrev pub HasKeys : {X K : Type 0} → (X → Option K) → List X → (K → Bool) → Type 0
HasKeys {X} {K} entry xs has = (k : K) → (has k ≡ true) ↔ Enters entry xs k

abbrev pub GainsKey : {K : Type 0} → (K → K → Bool) → K → (K → Bool) → (K → Bool) → Type 0
GainsKey {K} test key old new = (k : K) → new k ≡ cond (test key k) true (old k)

pub either_key : (b c : Bool) → cond b true c ≡ true → (b ≡ true) ⊎ (c ≡ true)
either_key true c e = inl refl
either_key false c e = inr e

pub key_here : (b c : Bool) → b ≡ true → cond b true c ≡ true
key_here true c e = refl
key_here false c e = absurd (false≢true e)

pub key_there : (b c : Bool) → c ≡ true → cond b true c ≡ true
key_there true c e = refl
key_there false c e = e

keys_on : {X K : Type 0} (entry : X → Option K) (test : K → K → Bool) (xs : List X) (x : X) (k : K) (old new : K → Bool) →
    TellsKeys test → HasKeys entry xs old → entry x ≡ Some k → GainsKey test k old new → HasKeys entry (xs ++ x ∷ []) new
keys_on {X} {K} entry test xs x k old new t h e g j = (there, back)
  where
    there : new j ≡ true → Enters entry (xs ++ x ∷ []) j
    there m = elim (either_key (test k j) (old j) (sym (g j) ∙ m)) [
      | inl n ↦ enters_new entry xs x j (e ∙ ap Some (t.same k j n))
      | inr o ↦ enters_old entry xs x j ((h j).0 o)
    ]

    back : Enters entry (xs ++ x ∷ []) j → new j ≡ true
    back n = g j ∙ elim (enters_split entry xs x j n) [
      | inl o ↦ key_there (test k j) (old j) ((h j).1 o)
      | inr i ↦
          let p : k ≡ j = same_Some k j (sym e ∙ i) in
          key_here (test k j) (old j) (subst (λ (l : K). test k l ≡ true) p (t.itself k))
    ]

keys_skip : {X K : Type 0} (entry : X → Option K) (xs : List X) (x : X) (old : K → Bool) → HasKeys entry xs old → entry x ≡ None → HasKeys entry (xs ++ x ∷ []) old
keys_skip entry xs x old h e k = (
  λ m. enters_old entry xs x k ((h k).0 m),
  λ n. elim (enters_split entry xs x k n) [
    | inl o ↦ (h k).1 o
    | inr i ↦ absurd (let no : ⊥ = cc in no)
  ],
)

pub record Keys {X K : Type 0} (entry : X → Option K) (xs : List X) (i : ℕ) (has : K → Bool) : Type 0 where
  pub so_far : HasKeys entry (take i xs) has

pub keys_next : {X K : Type 0} (entry : X → Option K) (test : K → K → Bool) (xs : List X) (i : ℕ) (x : X) (k : K) (old new : K → Bool) →
    TellsKeys test → Keys entry xs i old → i < length xs → x ≡ get_or xs i x → entry x ≡ Some k → GainsKey test k old new → Keys entry xs (i + 1) new
keys_next entry test xs i x k old new t h l e f g = record {
  so_far = subst (λ ys. HasKeys entry ys new) (sym (next_taken xs i x l e)) (keys_on entry test (take i xs) x k old new t h.so_far f g);
}

pub keys_pass : {X K : Type 0} (entry : X → Option K) (xs : List X) (i : ℕ) (x : X) (old : K → Bool) → Keys entry xs i old → i < length xs →
    x ≡ get_or xs i x → entry x ≡ None → Keys entry xs (i + 1) old
keys_pass entry xs i x old h l e f = record {
  so_far = subst (λ ys. HasKeys entry ys old) (sym (next_taken xs i x l e)) (keys_skip entry (take i xs) x old h.so_far f);
}

pub keys_all : {X K : Type 0} (entry : X → Option K) (xs : List X) (i : ℕ) (has : K → Bool) → Keys entry xs i has → length xs ≤ i → HasKeys entry xs has
keys_all entry xs i has h l = subst (λ ys. HasKeys entry ys has) (take_all i xs l) h.so_far
