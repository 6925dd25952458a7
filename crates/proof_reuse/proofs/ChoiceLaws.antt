-- Numbers of predicates and what is chosen of them, and which triples these are.
use Rattle.std.proofs.Common.{◌≡◌, ◌∙◌, ◌⊎◌, ◌<◌, ◌≤◌, ◌+◌, ℕ, zero, suc, Bool, true, false, List, [], ◌∷◌, ◌++◌, Some, length, take, get_or, refl, sym, ap, subst, inl, inr, eq-eqb, arith}
use Rattle.std.specs.Prelude.{map, filter, nat_eq, slice_get, if◌then◌else◌}
use Rattle.std.specs.List.{flat_map}
use Rattle.std.proofs.lemmas.List.{take_more, take_all}
use Rattle.nwa_base.specs.Members.{Member}
use Rattle.nwa_base.proofs.LetterLemmas.{and_both}
use Rattle.nwa_base.proofs.MemberLemmas.{member_front, member_rest, member_split, member_map, member_filter, filter_member}
use Rattle.triple_rows.specs.declared.triples.Scoped.{Scoped}
use Rattle.proof_names.specs.Naming.{scoped_at}
use Rattle.itp_automaton.proofs.StateLaws.{member_at}
use Rattle.proof_reuse.specs.Ties.Choices.{is_of, is_in, numbers_from, numbers_in, sources, pair_sources, pair_fits, pair_choices, three_sources, three_fits, three_choices}

-- ---- the numbers of a procedure

by_test : (b : Bool) (k : ℕ) (xs ys : List ℕ) → (if b then k ∷ xs ++ ys else xs ++ ys) ≡ (if b then k ∷ xs else xs) ++ ys
by_test true k xs ys = refl
by_test false k xs ys = refl

numbers_push : (p k : ℕ) (ss : List Scoped) (s : Scoped) → numbers_from p k (ss ++ s ∷ []) ≡ numbers_from p k ss ++ (if nat_eq s.proc p then (k + length ss) ∷ [] else [])
numbers_push p k [] s = let e : k ≡ k + 0 = omega arith in ap (λ (n : ℕ). if nat_eq s.proc p then n ∷ [] else []) e
numbers_push p k (z ∷ ss) s =
    let e : suc k + length ss ≡ k + suc (length ss) = omega arith in
    ap (λ (l : List ℕ). if nat_eq z.proc p then k ∷ l else l)
    (numbers_push p (suc k) ss s ∙ ap (λ (n : ℕ). numbers_from p (suc k) ss ++ (if nat_eq s.proc p then n ∷ [] else [])) e) ∙
    by_test (nat_eq z.proc p) k (numbers_from p (suc k) ss) (if nat_eq s.proc p then (k + suc (length ss)) ∷ [] else [])

taken_length : (ss : List Scoped) (i : ℕ) → i ≤ length ss → length (take i ss) ≡ i
taken_length [] zero l = refl
taken_length [] (suc i) l = absurd (omega arith)
taken_length (s ∷ ss) zero l = refl
taken_length (s ∷ ss) (suc i) l = ap suc (taken_length ss i (omega arith))

numbers_next : (p : ℕ) (ss : List Scoped) (i : ℕ) (s : Scoped) (b : Bool) → i < length ss → s ≡ get_or ss i s → nat_eq s.proc p ≡ b →
    numbers_in (take (i + 1) ss) p ≡ numbers_in (take i ss) p ++ (if b then (i + 2) ∷ [] else [])
numbers_next p ss i s b l e f =
    let n : 2 + length (take i ss) ≡ i + 2 = let k = taken_length ss i (omega arith) in omega (arith, k) in
    ap (numbers_from p 2) (take_more ss i s l ∙ ap (λ (z : Scoped). take i ss ++ z ∷ []) (sym e)) ∙ numbers_push p 2 (take i ss) s ∙
    ap (λ (c : Bool). numbers_in (take i ss) p ++ (if c then (2 + length (take i ss)) ∷ [] else [])) f ∙
    ap (λ (m : ℕ). numbers_in (take i ss) p ++ (if b then m ∷ [] else [])) n

pub numbers_more : (p : ℕ) (ss : List Scoped) (i : ℕ) (s : Scoped) (old new : List ℕ) → i < length ss → s ≡ get_or ss i s → nat_eq s.proc p ≡ true →
    old ≡ numbers_in (take i ss) p → new ≡ old ++ (i + 2) ∷ [] → new ≡ numbers_in (take (i + 1) ss) p
numbers_more p ss i s old new l e f h k = k ∙ ap (λ ns. ns ++ (i + 2) ∷ []) h ∙ sym (numbers_next p ss i s true l e f)

nothing_behind : (xs : List ℕ) → xs ≡ xs ++ []
nothing_behind [] = refl
nothing_behind (x ∷ xs) = ap (λ l. x ∷ l) (nothing_behind xs)

pub numbers_same : (p : ℕ) (ss : List Scoped) (i : ℕ) (s : Scoped) (old : List ℕ) → i < length ss → s ≡ get_or ss i s → nat_eq s.proc p ≡ false →
    old ≡ numbers_in (take i ss) p → old ≡ numbers_in (take (i + 1) ss) p
numbers_same p ss i s old l e f h = h ∙ nothing_behind (numbers_in (take i ss) p) ∙ sym (numbers_next p ss i s false l e f)

pub numbers_all : (p : ℕ) (ss : List Scoped) (i : ℕ) (ns : List ℕ) → length ss ≤ i → ns ≡ numbers_in (take i ss) p → ns ≡ numbers_in ss p
numbers_all p ss i ns l h = h ∙ ap (λ (zs : List Scoped). numbers_in zs p) (take_all i ss l)

-- a number of the procedure is that of a place
record IsNumberOf (p k n : ℕ) (ss : List Scoped) : Type 0 where
  place : ℕ
  scoped : Scoped
  is : n ≡ k + place
  stands : slice_get ss place ≡ Some scoped

number_at : (p k n : ℕ) (ss : List Scoped) → Member (numbers_from p k ss) n → IsNumberOf p k n ss
number_at p k n [] m = absurd m
number_at p k n (s ∷ ss) m = by_first (nat_eq s.proc p) (λ h. number_at p (suc k) n ss h) m
  where
    further : IsNumberOf p (suc k) n ss → IsNumberOf p k n (s ∷ ss)
    further r = record { place = suc r.place; scoped = r.scoped; is = let e = r.is in omega (arith, e); stands = r.stands }

    by_first : (b : Bool) → (Member (numbers_from p (suc k) ss) n → IsNumberOf p (suc k) n ss) →
        Member (if b then k ∷ numbers_from p (suc k) ss else numbers_from p (suc k) ss) n → IsNumberOf p k n (s ∷ ss)
    by_first true f (inl e) = record { place = 0; scoped = s; is = omega (arith, e); stands = refl }
    by_first true f (inr h) = further (f h)
    by_first false f h = further (f h)

number_there : (p k q : ℕ) (ss : List Scoped) (s : Scoped) → slice_get ss q ≡ Some s → s.proc ≡ p → Member (numbers_from p k ss) (k + q)
number_there p k q [] s e f = absurd (cc)
number_there p k zero (z ∷ ss) s e f =
    let i : z ≡ s = cc in
    let h : nat_eq z.proc p ≡ true = eq-eqb z.proc p (ap (λ (x : Scoped). x.proc) i ∙ f) in
    rw h (inl (let n : k ≡ k + 0 = omega arith in n))
number_there p k (suc q) (z ∷ ss) s e f =
    let r = number_there p (suc k) q ss s e f in
    let n : suc k + q ≡ k + suc q = omega arith in
    by_first (nat_eq z.proc p) (subst (λ (m : ℕ). Member (numbers_from p (suc k) ss) m) n r)
  where
    by_first : (b : Bool) → Member (numbers_from p (suc k) ss) (k + suc q) → Member (if b then k ∷ numbers_from p (suc k) ss else numbers_from p (suc k) ss) (k + suc q)
    by_first true m = inr m
    by_first false m = m

-- ---- predicates by number

module _ (preds : List Scoped) where
  -- a number of the procedure is that of a predicate in the list
  pub here_listed : (p n : ℕ) (s : Scoped) → Member (numbers_in preds p) n → scoped_at (slice_get preds) p n ≡ Some s → Member preds s
  here_listed p n s m e =
      let r = number_at p 2 n preds m in
      let f : n ≡ suc (suc r.place) = let i = r.is in omega (arith, i) in
      member_at preds r.place s (sym (ap (scoped_at (slice_get preds) p) f) ∙ e)

  pub listed_here : (p q : ℕ) (s : Scoped) → slice_get preds q ≡ Some s → s.proc ≡ p → Member (numbers_in preds p) (suc (suc q))
  listed_here p q s e f = subst (λ (n : ℕ). Member (numbers_in preds p) n) (let n : 2 + q ≡ suc (suc q) = omega arith in n) (number_there p 2 q preds s e f)

  pub in_there : (p k : ℕ) (s : Scoped) → scoped_at (slice_get preds) p k ≡ Some s → s.proc ≡ p → is_in preds p k ≡ true
  in_there p k s e f = ap (is_of p) e ∙ eq-eqb s.proc p f

  pub true_in : (p : ℕ) → is_in preds p 0 ≡ true
  true_in p = eq-eqb p p refl

-- ---- sources

-- the source itself, or where it is true one of the others
abbrev pub ComesFrom : List ℕ → ℕ → ℕ → Type 0
ComesFrom here k s = (s ≡ k) ⊎ ((k ≡ 0) × Member here s)

source_from : (here : List ℕ) (k s : ℕ) → Member (sources here k) s → ComesFrom here k s
source_from here zero s (inl e) = inl (sym e)
source_from here zero s (inr m) = inr (refl, m)
source_from here (suc k) s (inl e) = inl (sym e)
source_from here (suc k) s (inr none) = absurd none

source_self : (here : List ℕ) (k : ℕ) → Member (sources here k) k
source_self here zero = inl refl
source_self here (suc k) = inl refl

from_source : (here : List ℕ) (k s : ℕ) → ComesFrom here k s → Member (sources here k) s
from_source here k s (inl e) = subst (λ (n : ℕ). Member (sources here k) n) (sym e) (source_self here k)
from_source here k s (inr h) = subst (λ (n : ℕ). Member (sources here n) s) (sym h.0) (inr h.1)

-- ---- members of images

record IsImage {X Y : Type 0} (f : X → Y) (xs : List X) (y : Y) : Type 0 where
  origin : X
  listed : Member xs origin
  is : f origin ≡ y

image_of : {X Y : Type 0} (f : X → Y) (xs : List X) (y : Y) → Member (map f xs) y → IsImage f xs y
image_of f [] y m = absurd m
image_of f (x ∷ xs) y (inl e) = record { origin = x; listed = inl refl; is = e }
image_of f (x ∷ xs) y (inr m) = let r = image_of f xs y m in record { origin = r.origin; listed = inr r.listed; is = r.is }

record IsPartOf {X Y : Type 0} (f : X → List Y) (xs : List X) (y : Y) : Type 0 where
  origin : X
  listed : Member xs origin
  part : Member (f origin) y

part_of : {X Y : Type 0} (f : X → List Y) (xs : List X) (y : Y) → Member (flat_map f xs) y → IsPartOf f xs y
part_of f [] y m = absurd m
part_of f (x ∷ xs) y m = elim (member_split (f x) (flat_map f xs) y m) [
  | inl h ↦ record { origin = x; listed = inl refl; part = h }
  | inr h ↦ let r = part_of f xs y h in record { origin = r.origin; listed = inr r.listed; part = r.part }
]

part_there : {X Y : Type 0} (f : X → List Y) (xs : List X) (x : X) (y : Y) → Member xs x → Member (f x) y → Member (flat_map f xs) y
part_there f [] x y m h = absurd m
part_there {X} {Y} f (z ∷ xs) x y (inl e) h = member_front (f z) (flat_map f xs) y (subst (λ (w : X). Member (f w) y) (sym e) h)
part_there f (z ∷ xs) x y (inr m) h = member_rest (f z) (flat_map f xs) y (part_there f xs x y m h)

-- ---- pairs

-- true to true, false to false, or a pair with a source that its source stands for
abbrev pub IsPairChoice : List Scoped → List (ℕ × ℕ) → ℕ → (ℕ × ℕ) → Type 0
IsPairChoice preds pairs p c = (c ≡ (0, 0)) ⊎ ((c ≡ (1, 1)) ⊎ ((x : ℕ × ℕ) × Member pairs x × (c.1 ≡ x.1) × ComesFrom (numbers_in preds p) x.0 c.0))

pub pair_chosen : (preds : List Scoped) (pairs : List (ℕ × ℕ)) (p q : ℕ) (c : ℕ × ℕ) → Member (pair_choices preds pairs p q) c → IsPairChoice preds pairs p c
pair_chosen preds pairs p q c (inl e) = inl (sym e)
pair_chosen preds pairs p q c (inr (inl e)) = inr (inl (sym e))
pair_chosen preds pairs p q c (inr (inr m)) =
    let r = part_of (pair_sources (numbers_in preds p)) (filter (pair_fits preds p q) pairs) c m in
    let i = image_of (λ (s : ℕ). (s, r.origin.1)) (sources (numbers_in preds p) r.origin.0) c r.part in
    let f = filter_member (pair_fits preds p q) pairs r.origin r.listed in
    let from = source_from (numbers_in preds p) r.origin.0 i.origin i.listed in
    inr (inr (r.origin, f.0, sym (ap (λ (z : ℕ × ℕ). z.1) i.is), subst (λ (n : ℕ). ComesFrom (numbers_in preds p) r.origin.0 n) (ap (λ (z : ℕ × ℕ). z.0) i.is) from))

pub pair_there : (preds : List Scoped) (pairs : List (ℕ × ℕ)) (p q s : ℕ) (x : ℕ × ℕ) → Member pairs x → is_in preds p x.0 ≡ true → is_in preds q x.1 ≡ true →
    ComesFrom (numbers_in preds p) x.0 s → Member (pair_choices preds pairs p q) (s, x.1)
pair_there preds pairs p q s x m a b h =
    inr (inr (part_there (pair_sources (numbers_in preds p)) (filter (pair_fits preds p q) pairs) x (s, x.1) (member_filter (pair_fits preds p q) pairs x m (and_both _ _ a b))
    (member_map (λ (n : ℕ). (n, x.1)) (sources (numbers_in preds p) x.0) s (from_source (numbers_in preds p) x.0 s h))))

-- ---- threes

abbrev pub IsThreeChoice : List Scoped → List (ℕ × ℕ × ℕ) → ℕ → ℕ → (ℕ × ℕ × ℕ) → Type 0
IsThreeChoice preds threes callee caller c =
    (c ≡ (0, 0, 0)) ⊎ ((c ≡ (1, 0, 1)) ⊎ ((c ≡ (0, 1, 1)) ⊎
    ((x : ℕ × ℕ × ℕ) × Member threes x × (c.2 ≡ x.2) × ComesFrom (numbers_in preds callee) x.0 c.0 × ComesFrom (numbers_in preds caller) x.1 c.1)))

pub three_chosen : (preds : List Scoped) (threes : List (ℕ × ℕ × ℕ)) (p q : ℕ) (c : ℕ × ℕ × ℕ) → Member (three_choices preds threes p q) c → IsThreeChoice preds threes p q c
three_chosen preds threes p q c (inl e) = inl (sym e)
three_chosen preds threes p q c (inr (inl e)) = inr (inl (sym e))
three_chosen preds threes p q c (inr (inr (inl e))) = inr (inr (inl (sym e)))
three_chosen preds threes p q c (inr (inr (inr m))) =
    let r = part_of (three_sources (numbers_in preds p) (numbers_in preds q)) (filter (three_fits preds p q) threes) c m in
    let x = r.origin in
    let o = part_of (λ (s : ℕ). map (λ (b : ℕ). (s, b, x.2)) (sources (numbers_in preds q) x.1)) (sources (numbers_in preds p) x.0) c r.part in
    let i = image_of (λ (b : ℕ). (o.origin, b, x.2)) (sources (numbers_in preds q) x.1) c o.part in
    let f = filter_member (three_fits preds p q) threes x r.listed in
    inr (inr (inr (
      x,
      f.0,
      sym (ap (λ (z : ℕ × ℕ × ℕ). z.2) i.is),
      subst (λ (n : ℕ). ComesFrom (numbers_in preds p) x.0 n) (ap (λ (z : ℕ × ℕ × ℕ). z.0) i.is) (source_from (numbers_in preds p) x.0 o.origin o.listed),
      subst (λ (n : ℕ). ComesFrom (numbers_in preds q) x.1 n) (ap (λ (z : ℕ × ℕ × ℕ). z.1) i.is) (source_from (numbers_in preds q) x.1 i.origin i.listed),
    )))

pub three_there : (preds : List Scoped) (threes : List (ℕ × ℕ × ℕ)) (p q s b : ℕ) (x : ℕ × ℕ × ℕ) → Member threes x → is_in preds p x.0 ≡ true → is_in preds q x.1 ≡ true →
    is_in preds q x.2 ≡ true → ComesFrom (numbers_in preds p) x.0 s → ComesFrom (numbers_in preds q) x.1 b → Member (three_choices preds threes p q) (s, b, x.2)
three_there preds threes p q s b x m i j k h g =
    inr (inr (inr (part_there (three_sources (numbers_in preds p) (numbers_in preds q)) (filter (three_fits preds p q) threes) x (s, b, x.2)
    (member_filter (three_fits preds p q) threes x m (and_both _ _ i (and_both _ _ j k)))
    (part_there (λ (y : ℕ). map (λ (c : ℕ). (y, c, x.2)) (sources (numbers_in preds q) x.1)) (sources (numbers_in preds p) x.0) s (s, b, x.2)
    (from_source (numbers_in preds p) x.0 s h) (member_map (λ (c : ℕ). (s, c, x.2)) (sources (numbers_in preds q) x.1) b (from_source (numbers_in preds q) x.1 b g))))))

-- ---- images of choices

pub image_there : {X Y : Type 0} (f : X → Y) (xs : List X) (x : X) → Member xs x → Member (map f xs) (f x)
image_there f xs x m = member_map f xs x m

pub origin_of : {X Y : Type 0} (f : X → Y) (xs : List X) (y : Y) → Member (map f xs) y → (x : X) × Member xs x × (f x ≡ y)
origin_of f xs y m = let r = image_of f xs y m in (r.origin, r.listed, r.is)
