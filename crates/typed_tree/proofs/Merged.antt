-- The fronts of two ascending lists of terms, and their sum.
use Rattle.std.proofs.Common.{◌≡◌, ◌⊎◌, inl, inr, ℕ, ◌+◌, ◌<◌, Bool, true, false, ◌&&◌, ℤ, ◌+ℤ◌, List, [], ◌∷◌, ◌++◌, Option, None, Some, length, if◌then◌else◌, ap, refl, sym, ◌∙◌, subst, arith, append_assoc, append-nil, pos, negsuc, suc, ◌^◌}
use Rattle.std.specs.List.{list_all}
use Rattle.std.proofs.lemmas.Bool.{and_parts, and_from, and_left, and_right, both_ways, eqb-true, lt-ltb}
use Rattle.std.proofs.lemmas.List.Folds.{list_all-append}
use Rattle.boogie_tree.specs.declared.tree.Column.{Column}
use Rattle.typed_tree.specs.AffineForm.{is_before, form_is_zero, form_led_by, form_added_at, added_to, fits}
use Rattle.typed_tree.specs.Ties.FormOrder.{stands_before, ascends, terms_fit}
use Rattle.typed_tree.specs.Ties.Merging.{kept, put, AreTerms, IsFront}
use Rattle.typed_tree.specs.declared.merging.Front.{Front}
use Rattle.typed_tree.proofs.ColumnOrder.{before_one_way, same_place, before_trans}

-- ---- a term that stands before all others

pub stands_before_trans : (c d : Column) (ts : List (Column × ℤ)) → is_before c d ≡ true → stands_before d ts ≡ true → stands_before c ts ≡ true
stands_before_trans c d [] e h = refl
stands_before_trans c d (t ∷ ts) e h =
    let p = and_parts (is_before d t.0) (stands_before d ts) h in
    and_from (is_before c t.0) (stands_before c ts) (before_trans c d t.0 e p.0) (stands_before_trans c d ts e p.1)

-- terms behind the first leave it in front
pub added_behind : (t : Column × ℤ) (ts us : List (Column × ℤ)) → stands_before t.0 us ≡ true → added_to (t ∷ ts) us ≡ t ∷ added_to ts us
added_behind t ts [] h = refl
added_behind t ts (u ∷ us) h =
    let p = and_parts (is_before t.0 u.0) (stands_before t.0 us) h in
    rw (before_one_way t.0 u.0 p.0, p.0) (added_behind t (form_added_at u.0 u.1 ts) us p.1)

-- a sum whose first term is taken, or cancels
pub led : (c : Column) (a : ℤ) (ts us : List (Column × ℤ)) → stands_before c us ≡ true → added_to (form_led_by c a ts) us ≡ put (kept c a) (added_to ts us)
led c a ts us h = by_test (form_is_zero a)
  where
    by_test : (z : Bool) → added_to (if z then ts else (c, a) ∷ ts) us ≡ put (if z then None else Some (c, a)) (added_to ts us)
    by_test true = refl
    by_test false = added_behind (c, a) ts us h

-- ---- the fronts

pub first_alone : (t u : Column × ℤ) (ts us : List (Column × ℤ)) → is_before t.0 u.0 ≡ true → ascends (u ∷ us) ≡ true →
    added_to (t ∷ ts) (u ∷ us) ≡ t ∷ added_to ts (u ∷ us)
first_alone t u ts us e h =
    let p = and_parts (stands_before u.0 us) (ascends us) h in
    added_behind t ts (u ∷ us) (and_from (is_before t.0 u.0) (stands_before t.0 us) e (stands_before_trans t.0 u.0 us e p.0))

pub second_alone : (u : Column × ℤ) (us : List (Column × ℤ)) → ascends (u ∷ us) ≡ true → added_to [] (u ∷ us) ≡ put (kept u.0 u.1) (added_to [] us)
second_alone u us h = led u.0 u.1 [] us (and_parts (stands_before u.0 us) (ascends us) h).0

pub second_first : (t u : Column × ℤ) (ts us : List (Column × ℤ)) → is_before u.0 t.0 ≡ true → ascends (u ∷ us) ≡ true →
    added_to (t ∷ ts) (u ∷ us) ≡ put (kept u.0 u.1) (added_to (t ∷ ts) us)
second_first t u ts us e h = rw e (led u.0 u.1 (t ∷ ts) us (and_parts (stands_before u.0 us) (ascends us) h).0)

pub both_first : (t u : Column × ℤ) (ts us : List (Column × ℤ)) → is_before t.0 u.0 ≡ false → is_before u.0 t.0 ≡ false → ascends (u ∷ us) ≡ true →
    added_to (t ∷ ts) (u ∷ us) ≡ put (kept u.0 (t.1 +ℤ u.1)) (added_to ts us)
both_first t u ts us e f h = rw (f, e) (led u.0 (t.1 +ℤ u.1) ts us (and_parts (stands_before u.0 us) (ascends us) h).0)

-- ---- the terms of lists

terms_rest : (t : Column × ℤ) (ts : List (Column × ℤ)) → AreTerms (t ∷ ts) → AreTerms ts
terms_rest t ts h = record {
  in_order = (and_parts (stands_before t.0 ts) (ascends ts) h.in_order).1;
  fit = (and_parts (fits t.1) (terms_fit ts) h.fit).1;
}

terms_first : (t : Column × ℤ) (ts : List (Column × ℤ)) → AreTerms (t ∷ ts) → terms_fit (t ∷ []) ≡ true
terms_first t ts h = and_from (fits t.1) true (and_parts (fits t.1) (terms_fit ts) h.fit).0 refl

kept_fits : (c : Column) (a : ℤ) → fits a ≡ true → terms_fit (put (kept c a) []) ≡ true
kept_fits c a h = by_test (form_is_zero a)
  where
    by_test : (z : Bool) → terms_fit (put (if z then None else Some (c, a)) []) ≡ true
    by_test true = refl
    by_test false = and_from (fits a) true h refl

-- ---- what `first_of` answers

pub front_second_alone : (a b : List (Column × ℤ)) (u : Column × ℤ) (f : Front) → a ≡ [] → b ≡ u ∷ f.right.now → AreTerms a → AreTerms b →
    f.term ≡ kept u.0 u.1 → f.left.now ≡ a → IsFront a b f
front_second_alone a b u f e g p q k l =
    let s : AreTerms (u ∷ f.right.now) = subst AreTerms g q in
    record {
      whole = rw (k, l, e, g) (second_alone u f.right.now s.in_order);
      fits = rw k (kept_fits u.0 u.1 (and_parts (fits u.1) (terms_fit f.right.now) s.fit).0);
      left_terms = rw l p;
      right_terms = terms_rest u f.right.now s;
      fewer = rw (l, g) (omega arith);
    }

pub front_first : (a b : List (Column × ℤ)) (t u : Column × ℤ) (us : List (Column × ℤ)) (f : Front) → a ≡ t ∷ f.left.now → b ≡ u ∷ us → AreTerms a → AreTerms b →
    is_before t.0 u.0 ≡ true → f.term ≡ Some t → f.right.now ≡ b → IsFront a b f
front_first a b t u us f e g p q h k l =
    let r : AreTerms (t ∷ f.left.now) = subst AreTerms e p in
    let s : AreTerms (u ∷ us) = subst AreTerms g q in
    record {
      whole = rw (k, l, e, g) (first_alone t u f.left.now us h s.in_order);
      fits = rw k (terms_first t f.left.now r);
      left_terms = terms_rest t f.left.now r;
      right_terms = rw l q;
      fewer = rw (l, e) (omega arith);
    }

pub front_second : (a b : List (Column × ℤ)) (t u : Column × ℤ) (ts : List (Column × ℤ)) (f : Front) → a ≡ t ∷ ts → b ≡ u ∷ f.right.now → AreTerms a → AreTerms b →
    is_before u.0 t.0 ≡ true → f.term ≡ kept u.0 u.1 → f.left.now ≡ a → IsFront a b f
front_second a b t u ts f e g p q h k l =
    let s : AreTerms (u ∷ f.right.now) = subst AreTerms g q in
    record {
      whole = rw (k, l, e, g) (second_first t u ts f.right.now h s.in_order);
      fits = rw k (kept_fits u.0 u.1 (and_parts (fits u.1) (terms_fit f.right.now) s.fit).0);
      left_terms = rw l p;
      right_terms = terms_rest u f.right.now s;
      fewer = rw (l, g) (omega arith);
    }

pub front_both : (a b : List (Column × ℤ)) (t u : Column × ℤ) (z : ℤ) (f : Front) → a ≡ t ∷ f.left.now → b ≡ u ∷ f.right.now → AreTerms a → AreTerms b →
    is_before t.0 u.0 ≡ false → is_before u.0 t.0 ≡ false → z ≡ t.1 +ℤ u.1 → fits (t.1 +ℤ u.1) ≡ true → f.term ≡ kept u.0 z → IsFront a b f
front_both a b t u z f e g p q h i j w k =
    let r : AreTerms (t ∷ f.left.now) = subst AreTerms e p in
    let s : AreTerms (u ∷ f.right.now) = subst AreTerms g q in
    record {
      whole = rw (k, e, g, j) (both_first t u f.left.now f.right.now h i s.in_order);
      fits = rw (k, j) (kept_fits u.0 (t.1 +ℤ u.1) w);
      left_terms = terms_rest t f.left.now r;
      right_terms = terms_rest u f.right.now s;
      fewer = rw (e, g) (omega arith);
    }

-- a coefficient that does not fit is not 0, and stands in the sum
pub front_too_big : (a b : List (Column × ℤ)) (t u : Column × ℤ) (ts us : List (Column × ℤ)) → a ≡ t ∷ ts → b ≡ u ∷ us → AreTerms b →
    is_before t.0 u.0 ≡ false → is_before u.0 t.0 ≡ false → fits (t.1 +ℤ u.1) ≡ false → terms_fit (added_to a b) ≡ false
front_too_big a b t u ts us e g q h i w =
    let s : AreTerms (u ∷ us) = subst AreTerms g q in
    rw (e, g) (ap terms_fit (both_first t u ts us h i s.in_order) ∙ big u.0 (t.1 +ℤ u.1) (added_to ts us) w)
  where
    zero_fits : (z : ℤ) → form_is_zero z ≡ true → fits z ≡ true
    zero_fits (pos n) k = lt-ltb n (2 ^ 127) (omega (arith, eqb-true n 0 k))
    zero_fits (negsuc n) k = absurd (omega (arith, eqb-true (suc n) 0 k))

    big : (c : Column) (z : ℤ) (ts : List (Column × ℤ)) → fits z ≡ false → terms_fit (put (kept c z) ts) ≡ false
    big c z ts k = by_test (form_is_zero z) refl
      where
        by_test : (y : Bool) → form_is_zero z ≡ y → terms_fit (put (if y then None else Some (c, z)) ts) ≡ false
        by_test true l = absurd (both_ways (fits z) k (zero_fits z l))
        by_test false l = and_left (fits z) (terms_fit ts) k

-- ---- the loop

-- what came out so far, and what is left
pub record IsMerging (a b sum left right : List (Column × ℤ)) : Type 0 where
  pub whole : sum ++ added_to left right ≡ added_to a b
  pub fit : terms_fit sum ≡ true
  pub left_terms : AreTerms left
  pub right_terms : AreTerms right

pub merging_goes : (a b sum left right : List (Column × ℤ)) (f : Front) (next : List (Column × ℤ)) → IsMerging a b sum left right → IsFront left right f →
    next ≡ sum ++ put f.term [] → IsMerging a b next f.left.now f.right.now
merging_goes a b sum left right f next m h e = record {
  whole = rw e (put_behind sum f.term (added_to f.left.now f.right.now) ∙ ap (λ (ts : List (Column × ℤ)). sum ++ ts) (sym h.whole) ∙ m.whole);
  fit = rw (e, list_all-append (λ t. fits t.1) sum (put f.term [])) (and_from (terms_fit sum) (terms_fit (put f.term [])) m.fit h.fits);
  left_terms = h.left_terms;
  right_terms = h.right_terms;
}
  where
    put_behind : (sum : List (Column × ℤ)) (o : Option (Column × ℤ)) (ts : List (Column × ℤ)) → (sum ++ put o []) ++ ts ≡ sum ++ put o ts
    put_behind sum None ts = ap (λ (us : List (Column × ℤ)). us ++ ts) (append-nil sum)
    put_behind sum (Some t) ts = append_assoc sum (t ∷ []) ts

-- a sum whose rest does not fit does not fit
pub merging_fails : (a b sum left right : List (Column × ℤ)) → IsMerging a b sum left right → terms_fit (added_to left right) ≡ false → terms_fit (added_to a b) ≡ false
merging_fails a b sum left right m h =
    ap terms_fit (sym m.whole) ∙ list_all-append (λ t. fits t.1) sum (added_to left right) ∙ and_right (terms_fit sum) (terms_fit (added_to left right)) h

pub merging_ends : (a b sum left right out : List (Column × ℤ)) → IsMerging a b sum left right → right ≡ [] → out ≡ sum ++ left → out ≡ added_to a b
merging_ends a b sum left right out m e f = f ∙ ap (λ (ts : List (Column × ℤ)). sum ++ added_to left ts) (sym e) ∙ m.whole

-- ---- the sum ascends

stands_before-led_by : (x c : Column) (a : ℤ) (ts : List (Column × ℤ)) → is_before x c ≡ true → stands_before x ts ≡ true → stands_before x (form_led_by c a ts) ≡ true
stands_before-led_by x c a ts e h = by_test (form_is_zero a)
  where
    by_test : (z : Bool) → stands_before x (if z then ts else (c, a) ∷ ts) ≡ true
    by_test true = h
    by_test false = and_from (is_before x c) (stands_before x ts) e h

stands_before-added_at : (x c : Column) (a : ℤ) (ts : List (Column × ℤ)) → is_before x c ≡ true → stands_before x ts ≡ true → stands_before x (form_added_at c a ts) ≡ true
stands_before-added_at x c a [] e h = stands_before-led_by x c a [] e h
stands_before-added_at x c a (t ∷ ts) e h =
    let p = and_parts (is_before x t.0) (stands_before x ts) h in
    by_tests (is_before c t.0) (is_before t.0 c) p.0 p.1 (stands_before-added_at x c a ts e p.1)
  where
    by_tests : (k l : Bool) → is_before x t.0 ≡ true → stands_before x ts ≡ true → stands_before x (form_added_at c a ts) ≡ true →
        stands_before x (if k then form_led_by c a (t ∷ ts) else (if l then t ∷ form_added_at c a ts else form_led_by c (t.1 +ℤ a) ts)) ≡ true
    by_tests true l p q r = stands_before-led_by x c a (t ∷ ts) e h
    by_tests false true p q r = and_from (is_before x t.0) (stands_before x (form_added_at c a ts)) p r
    by_tests false false p q r = stands_before-led_by x c (t.1 +ℤ a) ts e q

ascends-led_by : (c : Column) (a : ℤ) (ts : List (Column × ℤ)) → stands_before c ts ≡ true → ascends ts ≡ true → ascends (form_led_by c a ts) ≡ true
ascends-led_by c a ts e h = by_test (form_is_zero a)
  where
    by_test : (z : Bool) → ascends (if z then ts else (c, a) ∷ ts) ≡ true
    by_test true = h
    by_test false = and_from (stands_before c ts) (ascends ts) e h

ascends-added_at : (c : Column) (a : ℤ) (ts : List (Column × ℤ)) → ascends ts ≡ true → ascends (form_added_at c a ts) ≡ true
ascends-added_at c a [] h = ascends-led_by c a [] refl refl
ascends-added_at c a (t ∷ ts) h =
    let p = and_parts (stands_before t.0 ts) (ascends ts) h in
    by_tests (is_before c t.0) (is_before t.0 c) refl refl p.0 p.1 (ascends-added_at c a ts p.1)
  where
    by_tests : (k l : Bool) → is_before c t.0 ≡ k → is_before t.0 c ≡ l → stands_before t.0 ts ≡ true → ascends ts ≡ true → ascends (form_added_at c a ts) ≡ true →
        ascends (if k then form_led_by c a (t ∷ ts) else (if l then t ∷ form_added_at c a ts else form_led_by c (t.1 +ℤ a) ts)) ≡ true
    by_tests true l e f p q r = ascends-led_by c a (t ∷ ts) (and_from (is_before c t.0) (stands_before c ts) e (stands_before_trans c t.0 ts e p)) h
    by_tests false true e f p q r = and_from (stands_before t.0 (form_added_at c a ts)) (ascends (form_added_at c a ts)) (stands_before-added_at t.0 c a ts f p) r
    by_tests false false e f p q r =
        ascends-led_by c (t.1 +ℤ a) ts (subst (λ (d : Column). stands_before d ts ≡ true) (sym (same_place c t.0 e f)) p) q

pub ascends-added_to : (ts us : List (Column × ℤ)) → ascends ts ≡ true → ascends (added_to ts us) ≡ true
ascends-added_to ts [] h = h
ascends-added_to ts (u ∷ us) h = ascends-added_to (form_added_at u.0 u.1 ts) us (ascends-added_at u.0 u.1 ts h)

pub merging_valid : (a b sum left right out : List (Column × ℤ)) → AreTerms a → IsMerging a b sum left right → right ≡ [] → out ≡ sum ++ left → AreTerms out
merging_valid a b sum left right out h m e f = record {
  in_order = ap ascends (merging_ends a b sum left right out m e f) ∙ ascends-added_to a b h.in_order;
  fit = ap terms_fit f ∙ list_all-append (λ t. fits t.1) sum left ∙ and_from (terms_fit sum) (terms_fit left) m.fit m.left_terms.fit;
}
