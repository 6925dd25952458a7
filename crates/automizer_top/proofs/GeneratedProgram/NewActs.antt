-- Acts of a procedure that has none among the letters yet are new letters, where they differ from each other.
use Rattle.std.proofs.Common.{◌≡◌, ℕ, suc, ◌+◌, ◌<◌, ◌≤◌, Bool, true, false, List, [], ◌∷◌, ◌++◌, length, Option, None, Some, if◌then◌else◌, refl, ap, sym, ◌∙◌, subst, arith}
use Rattle.std.specs.Prelude.{nat_eq, ◌&&◌}
use Rattle.std.proofs.lemmas.Bool.Decides.{nat_tests}
use lib.Pointwise.{pointwise}
use Rattle.letter_acts.specs.Acts.{PlainAct, inside_act, call_act, back_act}
use Rattle.letter_acts.specs.LetterTable.Letters.{MarkedAct, exact_act, Arc, inside_arc, call_arc, same_row, same_act, same_marked, act_place_from, or_last, act_number, unless_there, with_act, Lettered, with_arc, with_arcs}
use Rattle.letter_acts.proofs.LetterTable.SameActs.{same_mark}

-- the act is of procedure n, and none of a return
abbrev is_act_of : ℕ → PlainAct → Bool
is_act_of n (inside_act p written helpers rows) = nat_eq p n
is_act_of n (call_act p f helpers rows) = nat_eq p n
is_act_of n (back_act c targets) = false

abbrev pub is_own : ℕ → MarkedAct → Bool
is_own n a = is_act_of n a.act

-- the act is none of these
abbrev pub is_none_of : List MarkedAct → MarkedAct → Bool
is_none_of [] a = true
is_none_of (b ∷ ys) a = if same_marked b a then false else is_none_of ys a

-- the acts of these arcs, but for returns, are of procedure n, and differ from each other and from those before
abbrev pub are_new : ℕ → List MarkedAct → List Arc → Bool
are_new n before [] = true
are_new n before (inside_arc q a e ∷ more) = is_own n a && (is_none_of before a && are_new n (before ++ a ∷ []) more)
are_new n before (call_arc q a e x targets k ∷ more) = is_own n a && (is_none_of before a && are_new n (before ++ a ∷ []) more)

-- a call has a letter, and so has its return
abbrev pub letters_of : List Arc → ℕ
letters_of [] = 0
letters_of (inside_arc q a e ∷ more) = 1 + letters_of more
letters_of (call_arc q a e x targets k ∷ more) = 2 + letters_of more

-- Of procedure n the letters have no acts but these, of later ones none, and returns of letters that they have.
pub record HaveOf (n : ℕ) (own acts : List MarkedAct) : Type 0 where
  pub these : (a : MarkedAct) → is_own n a ≡ true → is_none_of own a ≡ true → is_none_of acts a ≡ true
  pub later : (p : ℕ) → n < p → (a : MarkedAct) → is_own p a ≡ true → is_none_of acts a ≡ true
  pub returns : (c : ℕ) (targets : List ℕ) → length acts ≤ c → is_none_of acts (exact_act (back_act c targets)) ≡ true

-- ---- lists of acts

none_of_both : (xs ys : List MarkedAct) (a : MarkedAct) → is_none_of xs a ≡ true → is_none_of ys a ≡ true → is_none_of (xs ++ ys) a ≡ true
none_of_both [] ys a e f = f
none_of_both (b ∷ xs) ys a e f = by (same_marked b a) (is_none_of xs a) (is_none_of (xs ++ ys) a) (λ g. none_of_both xs ys a g f) e
  where
    by : (s x y : Bool) → (x ≡ true → y ≡ true) → (if s then false else x) ≡ true → (if s then false else y) ≡ true
    by true x y h e = cc
    by false x y h e = h e

none_of_front : (xs ys : List MarkedAct) (a : MarkedAct) → is_none_of (xs ++ ys) a ≡ true → is_none_of xs a ≡ true
none_of_front [] ys a e = refl
none_of_front (b ∷ xs) ys a e = by (same_marked b a) (is_none_of (xs ++ ys) a) (is_none_of xs a) (λ g. none_of_front xs ys a g) e
  where
    by : (s x y : Bool) → (x ≡ true → y ≡ true) → (if s then false else x) ≡ true → (if s then false else y) ≡ true
    by true x y h e = cc
    by false x y h e = h e

none_of_back : (xs ys : List MarkedAct) (a : MarkedAct) → is_none_of (xs ++ ys) a ≡ true → is_none_of ys a ≡ true
none_of_back [] ys a e = e
none_of_back (b ∷ xs) ys a e = by (same_marked b a) (is_none_of (xs ++ ys) a) (is_none_of ys a) (λ g. none_of_back xs ys a g) e
  where
    by : (s x y : Bool) → (x ≡ true → y ≡ true) → (if s then false else x) ≡ true → y ≡ true
    by true x y h e = cc
    by false x y h e = h e

-- one act
alone : (b a : MarkedAct) → same_marked b a ≡ false → is_none_of (b ∷ []) a ≡ true
alone b a e = ap (λ (s : Bool). if s then false else true) e

never_placed : (k : ℕ) (xs : List MarkedAct) (a : MarkedAct) → is_none_of xs a ≡ true → act_place_from k xs a ≡ None
never_placed k [] a e = refl
never_placed k (b ∷ xs) a e = by k (same_marked b a) (is_none_of xs a) (act_place_from (suc k) xs a) (λ g. never_placed (suc k) xs a g) e
  where
    by : (k : ℕ) (s x : Bool) (o : Option ℕ) → (x ≡ true → o ≡ None) → (if s then false else x) ≡ true → (if s then Some k else o) ≡ None
    by k true x o h e = cc
    by k false x o h e = h e

added : (xs : List MarkedAct) (a : MarkedAct) → is_none_of xs a ≡ true → with_act xs a ≡ xs ++ a ∷ []
added xs a e = ap (unless_there xs a) (never_placed 0 xs a e)

numbered : (xs : List MarkedAct) (a : MarkedAct) → is_none_of xs a ≡ true → act_number xs a ≡ length xs
numbered xs a e = ap (or_last xs) (never_placed 0 xs a e)

one_longer : (xs : List MarkedAct) (a : MarkedAct) → length (xs ++ a ∷ []) ≡ suc (length xs)
one_longer [] a = refl
one_longer (b ∷ xs) a = ap suc (one_longer xs a)

both : (a b : Bool) → a && b ≡ true → (a ≡ true) × (b ≡ true)
both true b e = (refl, e)
both false b e = cc

-- ---- acts that differ

other : (p n : ℕ) → p < n → nat_eq p n ≡ false
other p n l = grind (arith, nat_tests)

and_false : (a b : Bool) → a ≡ false → a && b ≡ false
and_false a b e = ap (λ (c : Bool). c && b) e

same_number : (p n : ℕ) → nat_eq p n ≡ true → p ≡ n
same_number p n e = grind (arith, nat_tests)

-- an act of a procedure is none of a later one
not_later_act : (n p : ℕ) (a b : PlainAct) → n < p → is_act_of n a ≡ true → is_act_of p b ≡ true → same_act a b ≡ false
not_later_act n p (inside_act r w h rows) (inside_act s x k others) l e f =
    let m : r ≡ n = same_number r n e in
    let o : s ≡ p = same_number s p f in
    and_false (nat_eq r s) (pointwise nat_eq w x && (nat_eq h k && pointwise same_row rows others)) (other r s (omega (arith, l, m, o)))
not_later_act n p (inside_act r w h rows) (call_act s g k others) l e f = refl
not_later_act n p (inside_act r w h rows) (back_act c ts) l e f = refl
not_later_act n p (call_act r f' h rows) (inside_act s x k others) l e f = refl
not_later_act n p (call_act r f' h rows) (call_act s g k others) l e f =
    let m : r ≡ n = same_number r n e in
    let o : s ≡ p = same_number s p f in
    and_false (nat_eq r s) (nat_eq f' g && (nat_eq h k && pointwise same_row rows others)) (other r s (omega (arith, l, m, o)))
not_later_act n p (call_act r f' h rows) (back_act c ts) l e f = refl
not_later_act n p (back_act c ts) b l e f = cc

-- nor a return
not_return_act : (n c : ℕ) (a : PlainAct) (ts : List ℕ) → is_act_of n a ≡ true → same_act a (back_act c ts) ≡ false
not_return_act n c (inside_act r w h rows) ts e = refl
not_return_act n c (call_act r f h rows) ts e = refl
not_return_act n c (back_act d us) ts e = cc

return_not_act : (n c : ℕ) (a : PlainAct) (ts : List ℕ) → is_act_of n a ≡ true → same_act (back_act c ts) a ≡ false
return_not_act n c (inside_act r w h rows) ts e = refl
return_not_act n c (call_act r f h rows) ts e = refl
return_not_act n c (back_act d us) ts e = cc

-- the same of acts with their marks
not_later : (n p : ℕ) (a b : MarkedAct) → n < p → is_own n a ≡ true → is_own p b ≡ true → same_marked a b ≡ false
not_later n p a b l e f = and_false (same_act a.act b.act) (same_mark a.coarse b.coarse) (not_later_act n p a.act b.act l e f)

not_return : (n c : ℕ) (a : MarkedAct) (ts : List ℕ) → is_own n a ≡ true → same_marked a (exact_act (back_act c ts)) ≡ false
not_return n c a ts e = and_false (same_act a.act (back_act c ts)) (same_mark a.coarse false) (not_return_act n c a.act ts e)

return_not : (n c : ℕ) (a : MarkedAct) (ts : List ℕ) → is_own n a ≡ true → same_marked (exact_act (back_act c ts)) a ≡ false
return_not n c a ts e = and_false (same_act (back_act c ts) a.act) (same_mark false a.coarse) (return_not_act n c a.act ts e)

-- ---- one act more

with_own : (n : ℕ) (own acts : List MarkedAct) (a : MarkedAct) → HaveOf n own acts → is_own n a ≡ true → HaveOf n (own ++ a ∷ []) (acts ++ a ∷ [])
with_own n own acts a h o = record {
  these = λ b p none. none_of_both acts (a ∷ []) b (h.these b p (none_of_front own (a ∷ []) b none)) (none_of_back own (a ∷ []) b none);
  later = λ p l b q. none_of_both acts (a ∷ []) b (h.later p l b q) (alone a b (not_later n p a b l o q));
  returns = λ c ts l. none_of_both acts (a ∷ []) (exact_act (back_act c ts)) (h.returns c ts (let m = one_longer acts a in omega (arith, l, m))) (alone a (exact_act (back_act c ts)) (not_return n c a ts o));
}

-- and its return
with_return : (n d : ℕ) (own acts : List MarkedAct) (us : List ℕ) → HaveOf n own acts → d < length acts → HaveOf n own (acts ++ exact_act (back_act d us) ∷ [])
with_return n d own acts us h less = record {
  these = λ b p none. none_of_both acts (exact_act (back_act d us) ∷ []) b (h.these b p none) (alone (exact_act (back_act d us)) b (return_not n d b us p));
  later = λ p l b q. none_of_both acts (exact_act (back_act d us) ∷ []) b (h.later p l b q) (alone (exact_act (back_act d us)) b (return_not p d b us q));
  returns = λ c ts l.
      let m = one_longer acts (exact_act (back_act d us)) in
      none_of_both acts (exact_act (back_act d us) ∷ []) (exact_act (back_act c ts)) (h.returns c ts (omega (arith, l, m)))
      (alone (exact_act (back_act d us)) (exact_act (back_act c ts)) (and_false (nat_eq d c && pointwise nat_eq us ts) true (and_false (nat_eq d c) (pointwise nat_eq us ts) (other d c (omega (arith, l, m, less))))));
}

-- the return of a call that is new
return_is_new : (n : ℕ) (own acts : List MarkedAct) (a : MarkedAct) (ts : List ℕ) → HaveOf n own acts → is_own n a ≡ true → is_none_of acts a ≡ true →
    is_none_of (with_act acts a) (exact_act (back_act (act_number acts a) ts)) ≡ true
return_is_new n own acts a ts h o new =
    let number : act_number acts a ≡ length acts = numbered acts a new in
    let c : ℕ = act_number acts a in
    ap (λ (xs : List MarkedAct). is_none_of xs (exact_act (back_act c ts))) (added acts a new)
    ∙ none_of_both acts (a ∷ []) (exact_act (back_act c ts)) (h.returns c ts (omega (arith, number))) (alone a (exact_act (back_act c ts)) (not_return n c a ts o))

-- ---- arcs

pub record Grown (n : ℕ) (before : ℕ) (arcs : List Arc) (acts : List MarkedAct) : Type 0 where
  pub longer : length acts ≡ before + letters_of arcs
  pub own : List MarkedAct
  pub have : HaveOf n own acts

pub grown : (n : ℕ) (own : List MarkedAct) (d : Lettered) (arcs : List Arc) → HaveOf n own d.acts → are_new n own arcs ≡ true → Grown n (length d.acts) arcs (with_arcs d arcs).acts
grown n own d [] h e = record { longer = omega arith; own = own; have = h }
grown n own d (inside_arc q a to ∷ more) h e =
    let p = both (is_own n a) (is_none_of own a && are_new n (own ++ a ∷ []) more) e in
    let r = both (is_none_of own a) (are_new n (own ++ a ∷ []) more) p.1 in
    let new : is_none_of d.acts a ≡ true = h.these a p.0 r.0 in
    let is : with_act d.acts a ≡ d.acts ++ a ∷ [] = added d.acts a new in
    let have : HaveOf n (own ++ a ∷ []) (with_act d.acts a) = subst (HaveOf n (own ++ a ∷ [])) (sym is) (with_own n own d.acts a h p.0) in
    let rest : Grown n (length (with_act d.acts a)) more (with_arcs (with_arc d (inside_arc q a to)) more).acts = grown n (own ++ a ∷ []) (with_arc d (inside_arc q a to)) more have r.1 in
    let long : length (with_act d.acts a) ≡ suc (length d.acts) = ap length is ∙ one_longer d.acts a in
    record { longer = let l = rest.longer in omega (arith, l, long); own = rest.own; have = rest.have }
grown n own d (call_arc q a to x targets k ∷ more) h e =
    let p = both (is_own n a) (is_none_of own a && are_new n (own ++ a ∷ []) more) e in
    let r = both (is_none_of own a) (are_new n (own ++ a ∷ []) more) p.1 in
    let new : is_none_of d.acts a ≡ true = h.these a p.0 r.0 in
    let called : List MarkedAct = with_act d.acts a in
    let is : called ≡ d.acts ++ a ∷ [] = added d.acts a new in
    let have : HaveOf n (own ++ a ∷ []) called = subst (HaveOf n (own ++ a ∷ [])) (sym is) (with_own n own d.acts a h p.0) in
    let long : length called ≡ suc (length d.acts) = ap length is ∙ one_longer d.acts a in
    let number : act_number d.acts a ≡ length d.acts = numbered d.acts a new in
    let back : MarkedAct = exact_act (back_act (act_number d.acts a) targets) in
    let newer : is_none_of called back ≡ true = return_is_new n own d.acts a targets h p.0 new in
    let is_back : with_act called back ≡ called ++ back ∷ [] = added called back newer in
    let have_back : HaveOf n (own ++ a ∷ []) (with_act called back) =
    subst (HaveOf n (own ++ a ∷ [])) (sym is_back) (with_return n (act_number d.acts a) (own ++ a ∷ []) called targets have (omega (arith, long, number))) in
    let rest : Grown n (length (with_act called back)) more (with_arcs (with_arc d (call_arc q a to x targets k)) more).acts =
    grown n (own ++ a ∷ []) (with_arc d (call_arc q a to x targets k)) more have_back r.1 in
    let longer : length (with_act called back) ≡ suc (length called) = ap length is_back ∙ one_longer called back in
    record { longer = let l = rest.longer in omega (arith, l, long, longer); own = rest.own; have = rest.have }

-- arcs behind arcs
pub arcs_behind : (d : Lettered) (xs ys : List Arc) → with_arcs d (xs ++ ys) ≡ with_arcs (with_arcs d xs) ys
arcs_behind d [] ys = refl
arcs_behind d (a ∷ xs) ys = arcs_behind (with_arc d a) xs ys

-- the next procedure has none
pub next_has_none : (n : ℕ) (own acts : List MarkedAct) → HaveOf n own acts → HaveOf (n + 1) [] acts
next_has_none n own acts h = record {
  these = λ a o none. h.later (n + 1) (omega arith) a o;
  later = λ p l a o. h.later p (omega (arith, l)) a o;
  returns = h.returns;
}

pub none_has_any : (n : ℕ) → HaveOf n [] []
none_has_any n = record { these = λ a o none. refl; later = λ p l a o. refl; returns = λ c ts l. refl }
