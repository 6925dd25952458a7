-- Keys of a table and what they stand for: one is there as the other is.
use Rattle.std.proofs.Common.{◌≡◌, ◌∙◌, ℕ, Bool, true, false, not, ◌&&◌, ◌||◌, ◌⊎◌, ◌↔◌, List, [], ◌∷◌, ◌++◌, map, refl, sym, ap, subst, inl, inr, eqb, if◌then◌else◌}
use Rattle.std.specs.Prelude.{IsTrue}
use Rattle.std.specs.List.{list_any}
use Rattle.std.proofs.lemmas.Bool.{false≢true, eqb-true}
use Rattle.std.proofs.lemmas.List.{map-append}
use Rattle.nwa_base.specs.Members.{Member}
use Rattle.nwa_base.proofs.LetterLemmas.{and_left, and_right, and_both, eqb-refl}
use Rattle.proof_names.specs.declared.outlines.Listed.{Listed}
use Rattle.proof_build.specs.declared.noted.NotedKey.{NotedKey}
use Rattle.proof_build.specs.declared.noted.NotedKey.TheVariants.{Inside, Call, Back}
use Rattle.proof_build.specs.contracts.noted.NotedKeyPartialEq.TheImpl as noted_test
use Rattle.proof_build.specs.Ties.Noted.{plain_key, IsInserted}

or_here : (a b : Bool) → a ≡ true → a || b ≡ true
or_here true b e = refl
or_here false b e = absurd (false≢true e)

or_there : (a b : Bool) → b ≡ true → a || b ≡ true
or_there true b e = refl
or_there false b e = e

or_one : (a b : Bool) → a || b ≡ true → (a ≡ true) ⊎ (b ≡ true)
or_one true b e = inl refl
or_one false b e = inr e

-- ---- any keys

any_there : {K X : Type 0} (test : K → K → Bool) (plain : K → X) (keys : List K) (k : K) → ((x : K) → test k x ≡ true → plain k ≡ plain x) → list_any (test k) keys ≡ true →
    Member (map plain keys) (plain k)
any_there test plain [] k f e = absurd (false≢true e)
any_there test plain (x ∷ keys) k f e = elim (or_one (test k x) (list_any (test k) keys) e) [ inl h ↦ inl (sym (f x h)) | inr h ↦ inr (any_there test plain keys k f h) ]

there_any : {K X : Type 0} (test : K → K → Bool) (plain : K → X) (keys : List K) (k : K) → ((x : K) → plain k ≡ plain x → test k x ≡ true) → Member (map plain keys) (plain k) →
    list_any (test k) keys ≡ true
there_any test plain [] k f m = absurd m
there_any test plain (x ∷ keys) k f (inl e) = or_here (test k x) (list_any (test k) keys) (f x (sym e))
there_any test plain (x ∷ keys) k f (inr m) = or_there (test k x) (list_any (test k) keys) (there_any test plain keys k f m)

-- ---- keys of numbers of triples

abbrev pub noted_same : NotedKey → NotedKey → Bool
noted_same a b = noted_test.eq-value.it a b

three_same : (q l r a b d : ℕ) → eqb q a && (eqb l b && eqb r d) ≡ true → (q ≡ a) × (l ≡ b) × (r ≡ d)
three_same q l r a b d h =
    let i = and_right (eqb q a) (eqb l b && eqb r d) h in
    (eqb-true q a (and_left (eqb q a) (eqb l b && eqb r d) h), eqb-true l b (and_left (eqb l b) (eqb r d) i), eqb-true r d (and_right (eqb l b) (eqb r d) i))

noted_sound : (a b : NotedKey) → noted_same a b ≡ true → plain_key a ≡ plain_key b
noted_sound (Inside q l r) (Inside a b d) h = let s = three_same q l r a b d h in λ j. plain_key (Inside (s.0 j) (s.1 j) (s.2 j))
noted_sound (Inside q l r) (Call a b d) h = absurd (false≢true h)
noted_sound (Inside q l r) (Back a e b d) h = absurd (false≢true h)
noted_sound (Call q l r) (Inside a b d) h = absurd (false≢true h)
noted_sound (Call q l r) (Call a b d) h = let s = three_same q l r a b d h in λ j. plain_key (Call (s.0 j) (s.1 j) (s.2 j))
noted_sound (Call q l r) (Back a e b d) h = absurd (false≢true h)
noted_sound (Back q p l r) (Inside a b d) h = absurd (false≢true h)
noted_sound (Back q p l r) (Call a b d) h = absurd (false≢true h)
noted_sound (Back q p l r) (Back a e b d) h =
    let f : q ≡ a = eqb-true q a (and_left (eqb q a) (eqb p e && (eqb l b && eqb r d)) h) in
    let s = three_same p l r e b d (and_right (eqb q a) (eqb p e && (eqb l b && eqb r d)) h) in
    λ j. plain_key (Back (f j) (s.0 j) (s.1 j) (s.2 j))

noted_itself : (a : NotedKey) → noted_same a a ≡ true
noted_itself (Inside q l r) = and_both _ _ (eqb-refl q) (and_both _ _ (eqb-refl l) (eqb-refl r))
noted_itself (Call q l r) = and_both _ _ (eqb-refl q) (and_both _ _ (eqb-refl l) (eqb-refl r))
noted_itself (Back q p l r) = and_both _ _ (eqb-refl q) (and_both _ _ (eqb-refl p) (and_both _ _ (eqb-refl l) (eqb-refl r)))

-- the key is determined by its numbers
key_again : (a b : NotedKey) → plain_key a ≡ plain_key b → a ≡ b
key_again (Inside q l r) (Inside a b d) h = cc
key_again (Inside q l r) (Call a b d) h = absurd (cc)
key_again (Inside q l r) (Back a e b d) h = absurd (cc)
key_again (Call q l r) (Inside a b d) h = absurd (cc)
key_again (Call q l r) (Call a b d) h = cc
key_again (Call q l r) (Back a e b d) h = absurd (cc)
key_again (Back q p l r) (Inside a b d) h = absurd (cc)
key_again (Back q p l r) (Call a b d) h = absurd (cc)
key_again (Back q p l r) (Back a e b d) h = cc

noted_complete : (a b : NotedKey) → plain_key a ≡ plain_key b → noted_same a b ≡ true
noted_complete a b h = subst (λ (k : NotedKey). noted_same a k ≡ true) (key_again a b h) (noted_itself a)

pub noted_there : (keys : List NotedKey) (k : NotedKey) (t : Listed) (b : Bool) → plain_key k ≡ t → b ≡ list_any (noted_same k) keys → IsTrue b ↔ Member (map plain_key keys) t
noted_there keys k t b e h = (
  λ i. subst (λ (x : Listed). Member (map plain_key keys) x) e (any_there noted_same plain_key keys k (noted_sound k) (sym h ∙ i)),
  λ m. h ∙ there_any noted_same plain_key keys k (noted_complete k) (subst (λ (x : Listed). Member (map plain_key keys) x) (sym e) m),
)

noted_by : (keys new : List NotedKey) (k : NotedKey) (t : Listed) (there : Bool) → plain_key k ≡ t → list_any (noted_same k) keys ≡ there →
    new ≡ (if there then keys else keys ++ k ∷ []) → IsInserted (map plain_key keys) t (not there) (map plain_key new)
noted_by keys new k t true e h n = (
  subst (λ (x : Listed). Member (map plain_key keys) x) e (any_there noted_same plain_key keys k (noted_sound k) h),
  ap (map plain_key) n,
)
noted_by keys new k t false e h n = (
  λ m. false≢true (sym h ∙ there_any noted_same plain_key keys k (noted_complete k) (subst (λ (x : Listed). Member (map plain_key keys) x) (sym e) m)),
  ap (map plain_key) n ∙ map-append plain_key keys (k ∷ []) ∙ ap (λ (x : Listed). map plain_key keys ++ x ∷ []) e,
)

-- a key that is inserted
pub noted_inserted : (keys new : List NotedKey) (k : NotedKey) (t : Listed) (b : Bool) → plain_key k ≡ t → b ≡ not (list_any (noted_same k) keys) →
    new ≡ (if list_any (noted_same k) keys then keys else keys ++ k ∷ []) → IsInserted (map plain_key keys) t b (map plain_key new)
noted_inserted keys new k t b e h n =
    subst (λ (x : Bool). IsInserted (map plain_key keys) t x (map plain_key new)) (sym h) (noted_by keys new k t (list_any (noted_same k) keys) e refl n)
