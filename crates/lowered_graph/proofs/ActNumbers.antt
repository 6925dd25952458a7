-- The numbers of acts by first occurrence: each act has one, in each longer list of acts, too.
use Rattle.std.proofs.Common.{◌≡◌, ◌∙◌, ℕ, zero, suc, ◌+◌, Bool, true, false, List, [], ◌∷◌, ◌++◌, map, length, Option, None, Some, inl, inr, refl, sym, ap, subst, arith, if◌then◌else◌}
use Rattle.std.specs.Prelude.{slice_get, unwrap_or}
use Rattle.std.proofs.lemmas.Bool.{false≢true}
use Rattle.nwa_base.specs.Members.{Member}
use Rattle.nwa_base.specs.Letters.{same_letter}
use Rattle.nwa_base.proofs.LetterLemmas.{same_letter-refl}
use Rattle.letter_acts.specs.Acts.{PlainAct, Alphabet, letter_of, named_act, act_of}
use Rattle.letter_acts.specs.Invariant.{AreDistinct}
use Rattle.letter_acts.specs.LetterTable.Letters.{MarkedAct, same_marked, act_place_from, or_last, act_number, unless_there, with_act}
use Rattle.letter_acts.proofs.LetterTable.SameActs.{same_marked_so, same_marked_back}
use Rattle.lowered_graph.proofs.Lists.{before_or_last, get_front, get_member}

-- ---- members of lists

get_last : {X : Type 0} (xs : List X) (x : X) → slice_get (xs ++ x ∷ []) (length xs) ≡ Some x
get_last [] x = refl
get_last (y ∷ xs) x = get_last xs x

-- in a list without equal members an index is that of one member
pub one_index : {X : Type 0} (xs : List X) (m n : ℕ) (x : X) → AreDistinct xs → slice_get xs m ≡ Some x → slice_get xs n ≡ Some x → m ≡ n
one_index [] m n x d e f = absurd (cc)
one_index (y ∷ xs) zero zero x d e f = refl
one_index (y ∷ xs) zero (suc n) x d e f =
    let is : y ≡ x = cc in
    absurd (d.0 (get_member xs n y (f ∙ ap Some (sym is))))
one_index (y ∷ xs) (suc m) zero x d e f =
    let is : y ≡ x = cc in
    absurd (d.0 (get_member xs m y (e ∙ ap Some (sym is))))
one_index (y ∷ xs) (suc m) (suc n) x d e f = ap suc (one_index xs m n x d.1 e f)

-- ---- the place of an act

-- the act stands so far behind n
pub record IsFound (n : ℕ) (acts : List MarkedAct) (a : MarkedAct) (k : ℕ) : Type 0 where
  pub index : ℕ
  pub at : k ≡ n + index
  pub stands : slice_get acts index ≡ Some a

found_by : (n : ℕ) (b : MarkedAct) (bs : List MarkedAct) (a : MarkedAct) (k : ℕ) (test : Bool) → same_marked b a ≡ test → (if test then Some n else act_place_from (suc n) bs a) ≡ Some k →
    (act_place_from (suc n) bs a ≡ Some k → IsFound (suc n) bs a k) → IsFound n (b ∷ bs) a k
found_by n b bs a k true e h rest = record {
  index = 0;
  at = (let same : n ≡ k = cc in omega arith);
  stands = ap Some (same_marked_so b a e);
}
found_by n b bs a k false e h rest =
    let f : IsFound (suc n) bs a k = rest h in
    let at : k ≡ suc n + f.index = f.at in
    record { index = suc f.index; at = omega arith; stands = f.stands }

found : (n : ℕ) (acts : List MarkedAct) (a : MarkedAct) (k : ℕ) → act_place_from n acts a ≡ Some k → IsFound n acts a k
found n [] a k h = absurd (cc)
found n (b ∷ bs) a k h = found_by n b bs a k (same_marked b a) refl h (λ e. found (suc n) bs a k e)

missing_by : (n : ℕ) (b : MarkedAct) (bs : List MarkedAct) (a : MarkedAct) (test : Bool) → same_marked b a ≡ test → (if test then Some n else act_place_from (suc n) bs a) ≡ None →
    (act_place_from (suc n) bs a ≡ None → Member bs a → ⊥) → Member (b ∷ bs) a → ⊥
missing_by n b bs a true e h rest m = cc
missing_by n b bs a false e h rest (inl is) = false≢true (sym e ∙ same_marked_back b a is)
missing_by n b bs a false e h rest (inr m) = rest h m

missing : (n : ℕ) (acts : List MarkedAct) (a : MarkedAct) → act_place_from n acts a ≡ None → Member acts a → ⊥
missing n [] a h m = m
missing n (b ∷ bs) a h m = missing_by n b bs a (same_marked b a) refl h (λ e. missing (suc n) bs a e) m

-- ---- with an act

numbered_by : (acts : List MarkedAct) (a : MarkedAct) (o : Option ℕ) → act_place_from 0 acts a ≡ o → slice_get (unless_there acts a o) (or_last acts o) ≡ Some a
numbered_by acts a None e = get_last acts a
numbered_by acts a (Some n) e =
    let f : IsFound 0 acts a n = found 0 acts a n e in
    let at : f.index ≡ n = (let k : n ≡ 0 + f.index = f.at in omega arith) in
    subst (λ (i : ℕ). slice_get acts i ≡ Some a) at f.stands

-- an act has its number in the list with it
pub act_numbered : (acts : List MarkedAct) (a : MarkedAct) → slice_get (with_act acts a) (act_number acts a) ≡ Some a
act_numbered acts a = numbered_by acts a (act_place_from 0 acts a) refl

-- the list is a longer one
abbrev pub IsLonger : List MarkedAct → List MarkedAct → Type 0
IsLonger acts more = (rest : List MarkedAct) × (more ≡ acts ++ rest)

pub longer_get : (acts more : List MarkedAct) (n : ℕ) (a : MarkedAct) → IsLonger acts more → slice_get acts n ≡ Some a → slice_get more n ≡ Some a
longer_get acts more n a l e = ap (λ (xs : List MarkedAct). slice_get xs n) l.1 ∙ get_front acts l.0 n a e

itself_by : (acts : List MarkedAct) → acts ≡ acts ++ []
itself_by [] = refl
itself_by (a ∷ acts) = ap (λ (xs : List MarkedAct). a ∷ xs) (itself_by acts)

pub longer_itself : (acts : List MarkedAct) → IsLonger acts acts
longer_itself acts = ([], itself_by acts)

append_after : (xs ys zs : List MarkedAct) → (xs ++ ys) ++ zs ≡ xs ++ (ys ++ zs)
append_after [] ys zs = refl
append_after (x ∷ xs) ys zs = ap (λ (l : List MarkedAct). x ∷ l) (append_after xs ys zs)

pub longer_than : (acts more most : List MarkedAct) → IsLonger acts more → IsLonger more most → IsLonger acts most
longer_than acts more most l m = (l.0 ++ m.0, m.1 ∙ ap (λ (xs : List MarkedAct). xs ++ m.0) l.1 ∙ append_after acts l.0 m.0)

unless_longer : (acts : List MarkedAct) (a : MarkedAct) (o : Option ℕ) → IsLonger acts (unless_there acts a o)
unless_longer acts a None = (a ∷ [], refl)
unless_longer acts a (Some n) = longer_itself acts

pub with_longer : (acts : List MarkedAct) (a : MarkedAct) → IsLonger acts (with_act acts a)
with_longer acts a = unless_longer acts a (act_place_from 0 acts a)

-- ---- distinct acts

distinct_last : {X : Type 0} (xs : List X) (y : X) → AreDistinct xs → (Member xs y → ⊥) → AreDistinct (xs ++ y ∷ [])
distinct_last [] y d n = (λ m. m, tt)
distinct_last (x ∷ xs) y d n = (
  λ m. elim (before_or_last xs y x m) [ inl k ↦ d.0 k | inr e ↦ n (inl (sym e)) ],
  distinct_last xs y d.1 (λ m. n (inr m)),
)

unless_distinct : (acts : List MarkedAct) (a : MarkedAct) (o : Option ℕ) → act_place_from 0 acts a ≡ o → AreDistinct acts → AreDistinct (unless_there acts a o)
unless_distinct acts a None e d = distinct_last acts a d (missing 0 acts a e)
unless_distinct acts a (Some n) e d = d

pub with_distinct : (acts : List MarkedAct) (a : MarkedAct) → AreDistinct acts → AreDistinct (with_act acts a)
with_distinct acts a d = unless_distinct acts a (act_place_from 0 acts a) refl d

-- ---- acts without their marks

pub act_got : (acts : List MarkedAct) (n : ℕ) (a : MarkedAct) → slice_get acts n ≡ Some a → slice_get (map (λ m. m.act) acts) n ≡ Some a.act
act_got [] n a e = absurd (cc)
act_got (b ∷ acts) zero a e =
    let is : b ≡ a = cc in
    ap (λ (m : MarkedAct). Some m.act) is
act_got (b ∷ acts) (suc n) a e = act_got acts n a e

-- and the marks
pub mark_got : (acts : List MarkedAct) (n : ℕ) (a : MarkedAct) → slice_get acts n ≡ Some a → unwrap_or (slice_get (map (λ m. m.coarse) acts) n) false ≡ a.coarse
mark_got [] n a e = absurd (cc)
mark_got (b ∷ acts) zero a e =
    let is : b ≡ a = cc in
    ap (λ (m : MarkedAct). m.coarse) is
mark_got (b ∷ acts) (suc n) a e = mark_got acts n a e

-- ---- the letter of an act

if_same : (test : Bool) (act : PlainAct) → test ≡ true → (if test then Some act else None) ≡ Some act
if_same true act e = refl
if_same false act e = absurd (false≢true e)

pub act_of_letter : (al : Alphabet) (n : ℕ) (act : PlainAct) → slice_get al.acts n ≡ Some act → act_of al (letter_of n act) ≡ Some act
act_of_letter al n act e =
    ap (named_act (letter_of n act)) e ∙ if_same (same_letter (letter_of n act) (letter_of n act)) act (same_letter-refl (letter_of n act))
