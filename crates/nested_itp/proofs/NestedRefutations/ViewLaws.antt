-- The views of triples with a source and a target that count from one stamp on: of inside letters, and of calls that do not return.
use Rattle.std.proofs.Common.{◌≡◌, ◌∙◌, ℕ, zero, suc, ◌<◌, ◌≤◌, Bool, true, false, List, [], ◌∷◌, refl, sym, ap, subst, arith, None, Some}
use Rattle.std.specs.Prelude.{◌&&◌, nat_lt, slice_get, if◌then◌else◌}
use Rattle.std.proofs.lemmas.Bool.{lt-ltb, le-ltb, ltb-true, ltb-false}
use Rattle.nested_itp.specs.NestedPredicates.Positions.{Position, is_counted}
use Rattle.nested_itp.specs.NestedPredicates.Simplifying.{is_same}
use Rattle.nested_itp.specs.NestedRefutations.Refutations.{Claim, View, own_cut, told_by, meeting_of}
use Rattle.nested_itp.proofs.NestedRefutations.HeldLaws.{asks_each}
use Rattle.nested_itp.proofs.NestedRefutations.StopLaws.{AreClaims, IsView}
use Rattle.nested_itp.proofs.NestedRefutations.WayLaws.{is_own_meeting, is_own}

-- a source and a target, which counts from the same stamp on, and up to a later one
pub record TwoClaims (v : View) : Type 0 where
  pub before : Claim
  pub after : Claim
  pub claims : v.claims ≡ before ∷ after ∷ []
  pub returns : v.returns ≡ false
  pub holds : before.is_denied ≡ false
  pub fails : after.is_denied ≡ true
  pub own : before.position.scope.own ≡ after.position.scope.own
  pub upto : before.position.upto ≤ after.position.upto
  pub counts : before.position.scope.own ≤ before.position.upto

and_is : (x y : Bool) → (x && y) ≡ true → (x ≡ true) × (y ≡ true)
and_is true true e = (refl, refl)
and_is true false e = absurd (cc)
and_is false y e = absurd (cc)

pub counted_is : (q : Position) (s : ℕ) → is_counted q s ≡ true → (q.scope.own < s) × (s < suc q.upto)
counted_is q s e = let h = and_is (nat_lt q.scope.own s) (nat_lt s (suc q.upto)) e in (ltb-true q.scope.own s h.0, ltb-true s (suc q.upto) h.1)

pub is_counted_in : (q : Position) (s : ℕ) → q.scope.own < s → s < suc q.upto → is_counted q s ≡ true
is_counted_in q s l m = rw (lt-ltb q.scope.own s l) (lt-ltb s (suc q.upto) m)

counted_not_low : (q : Position) (s : ℕ) → s < suc q.scope.own → is_counted q s ≡ false
counted_not_low q s l = rw (le-ltb q.scope.own s (omega (arith, l))) refl

counted_not_high : (q : Position) (s : ℕ) → q.upto < s → is_counted q s ≡ false
counted_not_high q s l = by_test (nat_lt q.scope.own s) (le-ltb s (suc q.upto) (omega (arith, l)))
  where
    by_test : (z : Bool) → nat_lt s (suc q.upto) ≡ false → (z && nat_lt s (suc q.upto)) ≡ false
    by_test true e = e
    by_test false e = refl

-- what the source counts, the target does
counted_too : (v : View) (h : TwoClaims v) (s : ℕ) → is_counted h.before.position s ≡ true → is_counted h.after.position s ≡ true
counted_too v h s e =
    let c = counted_is h.before.position s e in
    let a = c.0 in
    let b = c.1 in
    let o = h.own in
    let u = h.upto in
    is_counted_in h.after.position s (omega (arith, a, o)) (omega (arith, b, u))

not_both : (x : Bool) → x ≡ true → x ≡ false → ⊥
not_both true e f = absurd (cc)
not_both false e f = absurd (cc)

source_asks : (v : View) (h : TwoClaims v) (s : ℕ) → asks_each h.before s ≡ false → is_counted h.before.position s ≡ true
source_asks v h s e = by_test (is_counted h.before.position s) (ap (is_same (is_counted h.before.position s)) (sym h.holds) ∙ e)
  where
    by_test : (z : Bool) → is_same z false ≡ false → z ≡ true
    by_test true q = refl
    by_test false q = absurd (cc)

target_asks : (v : View) (h : TwoClaims v) (s : ℕ) → asks_each h.after s ≡ false → is_counted h.after.position s ≡ false
target_asks v h s e = by_test (is_counted h.after.position s) (ap (is_same (is_counted h.after.position s)) (sym h.fails) ∙ e)
  where
    by_test : (z : Bool) → is_same z true ≡ false → z ≡ false
    by_test true q = absurd (cc)
    by_test false q = refl

none_some : {X : Type 0} (x : X) → None ≡ Some x → ⊥
none_some x e = absurd (cc)

same_some : {X : Type 0} (x y : X) → Some x ≡ Some y → x ≡ y
same_some x y e = cc

pub two_view : (v : View) → TwoClaims v → IsView v
two_view v h = record {
  claims = subst AreClaims (sym h.claims) (h.holds, h.fails);
  one_source = λ e. absurd (not_both v.returns e h.returns);
  one_asks = λ s i j c d e f used also asks other. one s i j c d (ap (λ (l : List Claim). slice_get l i) (sym h.claims) ∙ e) (ap (λ (l : List Claim). slice_get l j) (sym h.claims) ∙ f) asks other;
}
  where
    clash : (s : ℕ) → asks_each h.before s ≡ false → asks_each h.after s ≡ false → ⊥
    clash s x y = not_both (is_counted h.after.position s) (counted_too v h s (source_asks v h s x)) (target_asks v h s y)

    one : (s i j : ℕ) (c d : Claim) → slice_get (h.before ∷ h.after ∷ []) i ≡ Some c → slice_get (h.before ∷ h.after ∷ []) j ≡ Some d → asks_each c s ≡ false → asks_each d s ≡ false → i ≡ j
    one s zero zero c d e f x y = refl
    one s zero (suc zero) c d e f x y =
        absurd (clash s (ap (λ (k : Claim). asks_each k s) (same_some h.before c e) ∙ x) (ap (λ (k : Claim). asks_each k s) (same_some h.after d f) ∙ y))
    one s zero (suc (suc j)) c d e f x y = absurd (none_some d f)
    one s (suc zero) zero c d e f x y =
        absurd (clash s (ap (λ (k : Claim). asks_each k s) (same_some h.before d f) ∙ y) (ap (λ (k : Claim). asks_each k s) (same_some h.after c e) ∙ x))
    one s (suc zero) (suc zero) c d e f x y = refl
    one s (suc zero) (suc (suc j)) c d e f x y = absurd (none_some d f)
    one s (suc (suc i)) j c d e f x y = absurd (none_some c e)

-- own cuts are those that the target counts and the source does not
pub two_own : (v : View) → (h : TwoClaims v) → (s : ℕ) →
    (s < suc h.before.position.upto → is_own v s ≡ false) × (h.before.position.upto < s → s < suc h.after.position.upto → is_own v s ≡ true) × (h.after.position.upto < s → is_own v s ≡ false)
two_own v h s = (
  λ l. meets_is ∙ low (is_counted h.before.position s) refl l,
  λ l m. meets_is ∙ rw (counted_not_high h.before.position s l)
      (rw (is_counted_in h.after.position s (let o = h.own in let c = h.counts in omega (arith, o, c, l)) m) refl),
  λ l. meets_is ∙ rw (counted_not_high h.before.position s (let u = h.upto in omega (arith, u, l))) (rw (counted_not_high h.after.position s l) refl),
)
  where
    meets_is : is_own v s ≡ is_own_meeting (if is_counted h.before.position s then told_by 0 h.before else (if is_counted h.after.position s then own_cut else told_by 1 h.after))
    meets_is = ap (λ (r : Bool). is_own_meeting (meeting_of r 0 v.claims s)) h.returns ∙ ap (λ (l : List Claim). is_own_meeting (meeting_of false 0 l s)) h.claims

    low : (z : Bool) → is_counted h.before.position s ≡ z → s < suc h.before.position.upto →
        is_own_meeting (if z then told_by 0 h.before else (if is_counted h.after.position s then own_cut else told_by 1 h.after)) ≡ false
    low true e l = refl
    low false e l = rw (counted_not_low h.after.position s (not_above (nat_lt h.before.position.scope.own s) refl)) refl
      where
        not_above : (y : Bool) → nat_lt h.before.position.scope.own s ≡ y → s < suc h.after.position.scope.own
        not_above true q = absurd (not_both (is_counted h.before.position s) (is_counted_in h.before.position s (ltb-true h.before.position.scope.own s q) l) e)
        not_above false q = let k = ltb-false h.before.position.scope.own s q in let o = h.own in omega (arith, k, o)
