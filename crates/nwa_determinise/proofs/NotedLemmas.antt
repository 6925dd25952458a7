-- What is noted of sets and letters.
use Rattle.std.proofs.Common.{◌≡◌, ◌<◌, ◌⊎◌, ◌∙◌, ℕ, Bool, true, false, cond, ◌&&◌, eqb, List, [], ◌∷◌, length, Option, None, Some, refl, sym, ap, subst, inl, inr}
use Rattle.std.specs.Prelude.{IsTrue, Result, Ok, Err, OnOk, OnErr}
use Rattle.std.specs.HashMap.{HashMap, get, Updates, IsUnchanged}
use Rattle.std.specs.Map.{lookup}
use Rattle.std.proofs.lemmas.Bool.{eqb-true}
use Rattle.nwa_base.specs.declared.letters.Kind.TheVariants.{Inside, Call, Back}
use Rattle.nwa_base.specs.declared.letters.Letter.{Letter}
use Rattle.nwa_base.proofs.EdgeLemmas.{letter_test}
use Rattle.nwa_base.proofs.LetterLemmas.{sameb-same_kind, same_letter-true, and_left, and_right}
use Rattle.nwa_base.specs.Automata.{Automaton}
use Rattle.nwa_base.specs.Pairs.{IsInsideOf, IsCallOf, IsBackOf}
use Rattle.nwa_determinise.specs.Kept.{Kept, set_at, Grows}
use Rattle.nwa_determinise.specs.Reads.{LeadsTo}
use Rattle.nwa_determinise.specs.Ties.Noted.{AreNoted}
use Rattle.nwa_determinise.proofs.KeptLemmas.{leads_stays, number_stays, set_stays}

by_test : (b : Bool) (o : Option ℕ) (v n : ℕ) → cond b (Some v) o ≡ Some n → (o ≡ Some n) ⊎ ((b ≡ true) × (n ≡ v))
by_test true o v n e = let f : Some v ≡ Some n = e in let g : n ≡ v = cc in inr (refl, g)
by_test false o v n e = inl e

-- what stands under a key after a value was noted, or was not
pub noted_or_old : {K S X E : Type 0} (eq : K → K → Bool) (r : Result X E) (old new : HashMap K ℕ S) (key : K) (value : ℕ) →
    OnOk r (Updates eq old new key (Some value)) → OnErr r (IsUnchanged old new) → (k : K) (n : ℕ) → get eq new k ≡ Some n →
    (get eq old k ≡ Some n) ⊎ (IsTrue (eq key k) × (n ≡ value))
noted_or_old eq (Ok x) old new key value u s k n e = by_test (eq key k) (get eq old k) value n (sym (u.0 k) ∙ e)
noted_or_old {K} eq (Err x) old new key value u s k n e = inl (ap (lookup (eq k)) (sym s) ∙ e)

-- what a table has after a value was noted under a key
abbrev pub IsNoted : {K : Type 0} → (K → K → Bool) → K → ℕ → (K → Option ℕ) → (K → Option ℕ) → Type 0
IsNoted {K} eq key value old new = (k : K) (n : ℕ) → new k ≡ Some n → (old k ≡ Some n) ⊎ (IsTrue (eq key k) × (n ≡ value))

-- the derived tests of keys
abbrev pub step_test : ℕ × Letter → ℕ × Letter → Bool
step_test k l = eqb k.0 l.0 && letter_test k.1 l.1

abbrev pub back_test : ℕ × ℕ × Letter → ℕ × ℕ × Letter → Bool
back_test k l = (eqb k.0 l.0 && eqb k.1 l.1) && letter_test k.2 l.2

letter_tested : (a b : Letter) → letter_test a b ≡ true → a ≡ b
letter_tested a b h =
    same_letter-true a b (sym (ap (λ (k : Bool). eqb a.id b.id && (k && eqb a.call b.call)) (sameb-same_kind a.kind b.kind)) ∙ h)

-- nothing is noted
pub noted_none : (d : Kept) (i c : ℕ × Letter → Option ℕ) (b : ℕ × ℕ × Letter → Option ℕ) →
    ((k : ℕ × Letter) → i k ≡ None) → ((k : ℕ × Letter) → c k ≡ None) → ((k : ℕ × ℕ × Letter) → b k ≡ None) → AreNoted d i c b
noted_none d i c b ni nc nb = record {
  insides = λ s t a e. let f : None ≡ Some t = sym (ni (s, a)) ∙ e in cc;
  calls = λ s t a e. let f : None ≡ Some t = sym (nc (s, a)) ∙ e in cc;
  backs = λ s p t a e. let f : None ≡ Some t = sym (nb (s, p, a)) ∙ e in cc;
}

-- what is noted stays right while more sets are kept
pub noted_stays : (d e : Kept) (i c : ℕ × Letter → Option ℕ) (b : ℕ × ℕ × Letter → Option ℕ) → Grows d e → AreNoted d i c b → AreNoted e i c b
noted_stays d e i c b g n = record {
  insides = λ s t a h. leads_stays d e Inside a [] [] s t g (n.insides s t a h);
  calls = λ s t a h. leads_stays d e Call a [] (s ∷ []) s t g (n.calls s t a h);
  backs = λ s p t a h. leads_stays d e Back a (p ∷ []) [] s t g (n.backs s p t a h);
}

-- one step more
pub noted_inside : (d : Kept) (old new c : ℕ × Letter → Option ℕ) (b : ℕ × ℕ × Letter → Option ℕ) (s t : ℕ) (a : Letter) → AreNoted d old c b →
    IsNoted step_test (s, a) t old new → LeadsTo d Inside a [] s [] t → AreNoted d new c b
noted_inside d old new c b s t a n u h = record { insides = λ p q l e. here p q l (u (p, l) q e); calls = n.calls; backs = n.backs }
  where
    here : (p q : ℕ) (l : Letter) → (old (p, l) ≡ Some q) ⊎ (IsTrue (step_test (s, a) (p, l)) × (q ≡ t)) → LeadsTo d Inside l [] p [] q
    here p q l (inl e) = n.insides p q l e
    here p q l (inr e) =
        let f : s ≡ p = eqb-true s p (and_left (eqb s p) (letter_test a l) e.0) in
        let g : a ≡ l = letter_tested a l (and_right (eqb s p) (letter_test a l) e.0) in
        subst (λ (m : ℕ). LeadsTo d Inside l [] m [] q) f
        (subst (λ (m : Letter). LeadsTo d Inside m [] s [] q) g
        (subst (λ (m : ℕ). LeadsTo d Inside a [] s [] m) (sym e.1) h))

pub noted_call : (d : Kept) (i old new : ℕ × Letter → Option ℕ) (b : ℕ × ℕ × Letter → Option ℕ) (s t : ℕ) (a : Letter) → AreNoted d i old b →
    IsNoted step_test (s, a) t old new → LeadsTo d Call a [] s (s ∷ []) t → AreNoted d i new b
noted_call d i old new b s t a n u h = record { insides = n.insides; calls = λ p q l e. here p q l (u (p, l) q e); backs = n.backs }
  where
    here : (p q : ℕ) (l : Letter) → (old (p, l) ≡ Some q) ⊎ (IsTrue (step_test (s, a) (p, l)) × (q ≡ t)) → LeadsTo d Call l [] p (p ∷ []) q
    here p q l (inl e) = n.calls p q l e
    here p q l (inr e) =
        let f : s ≡ p = eqb-true s p (and_left (eqb s p) (letter_test a l) e.0) in
        let g : a ≡ l = letter_tested a l (and_right (eqb s p) (letter_test a l) e.0) in
        subst (λ (m : ℕ). LeadsTo d Call l [] m (m ∷ []) q) f
        (subst (λ (m : Letter). LeadsTo d Call m [] s (s ∷ []) q) g
        (subst (λ (m : ℕ). LeadsTo d Call a [] s (s ∷ []) m) (sym e.1) h))

pub noted_back : (d : Kept) (i c : ℕ × Letter → Option ℕ) (old new : ℕ × ℕ × Letter → Option ℕ) (s before t : ℕ) (a : Letter) → AreNoted d i c old →
    IsNoted back_test (s, before, a) t old new → LeadsTo d Back a (before ∷ []) s [] t → AreNoted d i c new
noted_back d i c old new s before t a n u h = record { insides = n.insides; calls = n.calls; backs = λ p o q l e. here p o q l (u (p, o, l) q e) }
  where
    here : (p o q : ℕ) (l : Letter) → (old (p, o, l) ≡ Some q) ⊎ (IsTrue (back_test (s, before, a) (p, o, l)) × (q ≡ t)) → LeadsTo d Back l (o ∷ []) p [] q
    here p o q l (inl e) = n.backs p o q l e
    here p o q l (inr e) =
        let r : eqb s p && eqb before o ≡ true = and_left (eqb s p && eqb before o) (letter_test a l) e.0 in
        let f : s ≡ p = eqb-true s p (and_left (eqb s p) (eqb before o) r) in
        let k : before ≡ o = eqb-true before o (and_right (eqb s p) (eqb before o) r) in
        let g : a ≡ l = letter_tested a l (and_right (eqb s p && eqb before o) (letter_test a l) e.0) in
        subst (λ (m : ℕ). LeadsTo d Back l (o ∷ []) m [] q) f
        (subst (λ (m : ℕ). LeadsTo d Back l (m ∷ []) s [] q) k
        (subst (λ (m : Letter). LeadsTo d Back m (before ∷ []) s [] q) g
        (subst (λ (m : ℕ). LeadsTo d Back a (before ∷ []) s [] m) (sym e.1) h)))

-- a set that was computed and is kept now is where the letter leads
pub led_inside : (d e : Kept) (m : Automaton) (s t : ℕ) (a : Letter) (pairs set : List (ℕ × ℕ)) → Grows d e → s < length d.sets → t < length e.sets →
    m ≡ d.nwa → pairs ≡ set_at d s → set_at e t ≡ set → IsInsideOf m a pairs set → LeadsTo e Inside a [] s [] t
led_inside d e m s t a pairs set g i j n p q h = (
  number_stays d e s g i,
  j,
  subst (λ (x : Automaton). IsInsideOf x a (set_at e s) (set_at e t)) (n ∙ sym g.nwa)
      (subst (λ (x : List (ℕ × ℕ)). IsInsideOf m a x (set_at e t)) (p ∙ sym (set_stays d e s g i))
      (subst (λ (x : List (ℕ × ℕ)). IsInsideOf m a pairs x) (sym q) h)),
  refl,
)

pub led_call : (d e : Kept) (m : Automaton) (s t : ℕ) (a : Letter) (pairs set : List (ℕ × ℕ)) → Grows d e → s < length d.sets → t < length e.sets →
    m ≡ d.nwa → pairs ≡ set_at d s → set_at e t ≡ set → IsCallOf m a pairs set → LeadsTo e Call a [] s (s ∷ []) t
led_call d e m s t a pairs set g i j n p q h = (
  number_stays d e s g i,
  j,
  subst (λ (x : Automaton). IsCallOf x a (set_at e s) (set_at e t)) (n ∙ sym g.nwa)
      (subst (λ (x : List (ℕ × ℕ)). IsCallOf m a x (set_at e t)) (p ∙ sym (set_stays d e s g i))
      (subst (λ (x : List (ℕ × ℕ)). IsCallOf m a pairs x) (sym q) h)),
  refl,
)

pub led_back : (d e : Kept) (m : Automaton) (s before t : ℕ) (a : Letter) (outer pairs set : List (ℕ × ℕ)) → Grows d e →
    s < length d.sets → before < length d.sets → t < length e.sets → m ≡ d.nwa → outer ≡ set_at d before → pairs ≡ set_at d s →
    set_at e t ≡ set → IsBackOf m a outer pairs set → LeadsTo e Back a (before ∷ []) s [] t
led_back d e m s before t a outer pairs set g i b j n o p q h = (
  number_stays d e before g b,
  number_stays d e s g i,
  j,
  subst (λ (x : Automaton). IsBackOf x a (set_at e before) (set_at e s) (set_at e t)) (n ∙ sym g.nwa)
      (subst (λ (x : List (ℕ × ℕ)). IsBackOf m a x (set_at e s) (set_at e t)) (o ∙ sym (set_stays d e before g b))
      (subst (λ (x : List (ℕ × ℕ)). IsBackOf m a outer x (set_at e t)) (p ∙ sym (set_stays d e s g i))
      (subst (λ (x : List (ℕ × ℕ)). IsBackOf m a outer pairs x) (sym q) h))),
  refl,
)
