-- What a whole search over the product shows.
use Rattle.std.proofs.Common.{◌≡◌, ◌∙◌, ◌⊎◌, ◌<◌, ◌≤◌, ◌+◌, ◌↔◌, ℕ, zero, suc, List, [], ◌∷◌, ◌++◌, length, Option, None, Some, slice_get, sym, ap, subst, inl, inr, arith}
use Rattle.std.proofs.lemmas.Bool.{cases_lt}
use Rattle.nwa_base.specs.declared.letters.Letter.{Letter}
use Rattle.nwa_base.specs.Members.{Member}
use Rattle.nwa_base.specs.Automata.{Automaton}
use Rattle.nwa_base.specs.Acceptance.{Accepts}
use Rattle.nwa_difference.specs.Product.{IsProduct}
use Rattle.nwa_difference.specs.Ties.Making.{first_at, set_of, NoReturns}
use Rattle.nwa_difference.specs.Ties.Stages.{Stage, IsStage, InsidesFollowed, CallsFollowed, BacksFollowed, Expanded}
use Rattle.nwa_difference.proofs.ProductLemmas.{product_exact}
use Rattle.nwa_difference.proofs.StageLemmas.{pair_stays, state_stays, no_returns_stay, insides_followed_stay, calls_followed_stay, backs_followed_stay, none_followed}

-- places of lists
get_front : {X : Type 0} (xs ys : List X) (i : ℕ) (y : X) → slice_get xs i ≡ Some y → slice_get (xs ++ ys) i ≡ Some y
get_front [] ys i y e = let f : None ≡ Some y = e in cc
get_front (x ∷ xs) ys zero y e = e
get_front (x ∷ xs) ys (suc i) y e = get_front xs ys i y e

get_back : {X : Type 0} (xs ys : List X) (i : ℕ) (x : X) → i < length xs → slice_get (xs ++ ys) i ≡ Some x → slice_get xs i ≡ Some x
get_back [] ys i x l e = absurd (omega arith)
get_back (y ∷ xs) ys zero x l e = e
get_back (y ∷ xs) ys (suc i) x l e = get_back xs ys i x (omega arith) e

get_member : {X : Type 0} (xs : List X) (x : X) → Member xs x → (i : ℕ) × (slice_get xs i ≡ Some x)
get_member [] x h = absurd h
get_member (y ∷ xs) x (inl e) = (0, ap (λ z. Some z) e)
get_member (y ∷ xs) x (inr h) = let r = get_member xs x h in (suc r.0, r.1)

pub member_get : {X : Type 0} (xs : List X) (i : ℕ) (x : X) → slice_get xs i ≡ Some x → Member xs x
member_get [] i x e = let f : None ≡ Some x = e in cc
member_get (y ∷ xs) zero x e = let f : Some y ≡ Some x = e in let g : y ≡ x = cc in inl g
member_get (y ∷ xs) (suc i) x e = inr (member_get xs i x e)

get_within : {X : Type 0} (xs : List X) (i : ℕ) (x : X) → slice_get xs i ≡ Some x → i < length xs
get_within [] i x e = let f : None ≡ Some x = e in cc
get_within (y ∷ xs) zero x e = omega arith
get_within (y ∷ xs) (suc i) x e = let r = get_within xs i x e in omega arith

pub past : {X : Type 0} (xs : List X) (i : ℕ) → slice_get xs i ≡ None → length xs ≤ i
past [] i e = omega arith
past (y ∷ xs) zero e = let f : Some y ≡ None = e in cc
past (y ∷ xs) (suc i) e = let r = past xs i e in omega arith

abbrev Pair : Type 0
Pair = Option ℕ × ℕ

one_some : (x y : Pair) → Some x ≡ Some y → x ≡ y
one_some x y e = cc

-- The letters lead from the pairs at places below n to pairs of the list, and each return from two of them.
pub record IsDone (s : Stage) (n : ℕ) : Type 0 where
  pub within : n ≤ length s.found.pairs
  pub start : Member s.found.pairs (None, s.product.product.start)
  pub inside : (i : ℕ) (k : Option ℕ) (x : ℕ) → i < n → slice_get s.found.pairs i ≡ Some (k, x) → InsidesFollowed s k x
  pub call : (i : ℕ) (k : Option ℕ) (x : ℕ) → i < n → slice_get s.found.pairs i ≡ Some (k, x) → CallsFollowed s x
  pub caller : (i : ℕ) (k : Option ℕ) (x : ℕ) → i < n → slice_get s.found.pairs i ≡ Some (k, x) → Member (s.found.callers x) k
  pub exit : (i m x : ℕ) → i < n → slice_get s.found.pairs i ≡ Some (Some m, x) → NoReturns s.product x ⊎ Member (s.found.exits m) x
  pub back : (i j : ℕ) (k : Option ℕ) (p m x : ℕ) (c : Letter) → i < n → j < n → slice_get s.found.pairs i ≡ Some (k, p) →
      Member s.product.product.calls (p, c, m) → slice_get s.found.pairs j ≡ Some (Some m, x) → BacksFollowed s k p x

pub done_none : (s : Stage) → Member s.found.pairs (None, s.product.product.start) → IsDone s 0
done_none s h = record {
  within = omega arith;
  start = h;
  inside = λ i k x l e. absurd (omega arith);
  call = λ i k x l e. absurd (omega arith);
  caller = λ i k x l e. absurd (omega arith);
  exit = λ i m x l e. absurd (omega arith);
  back = λ i j k p m x c l o e f g. absurd (omega arith);
}

-- one pair more is done
module _ (a b : Stage) (place : ℕ) (k : Option ℕ) (x : ℕ) (here : slice_get a.found.pairs place ≡ Some (k, x)) (v : IsStage a) (d : IsDone a place)
    (s : Expanded a b k x) where
  still : slice_get b.found.pairs place ≡ Some (k, x)
  still = subst (λ (l : List Pair). slice_get l place ≡ Some (k, x)) (sym s.goes.pairs) (get_front a.found.pairs s.goes.more place (k, x) here)

  -- what stands in the first places stood there before
  before : (i : ℕ) (y : Pair) → i < place + 1 → slice_get b.found.pairs i ≡ Some y → slice_get a.found.pairs i ≡ Some y
  before i y l e =
      let w = get_within a.found.pairs place (k, x) here in
      get_back a.found.pairs s.goes.more i y (omega arith) (subst (λ (z : List Pair). slice_get z i ≡ Some y) s.goes.pairs e)

  below : (i : ℕ) → i < place + 1 → (i < place) ⊎ (place ≡ i)
  below i l = elim (cases_lt i place) [ inl h ↦ inl h | inr h ↦ inr (omega arith) ]

  same : (i : ℕ) (y : Pair) → place ≡ i → slice_get a.found.pairs i ≡ Some y → (k, x) ≡ y
  same i y e h = one_some (k, x) y (sym here ∙ subst (λ (z : ℕ). slice_get a.found.pairs z ≡ Some y) (sym e) h)

  inside_more : (i : ℕ) (j : Option ℕ) (y : ℕ) → i < place + 1 → slice_get b.found.pairs i ≡ Some (j, y) → InsidesFollowed b j y
  inside_more i j y l e =
      let e' = before i (j, y) l e in
      elim (below i l) [
        | inl h ↦ insides_followed_stay a b j y s.goes (d.inside i j y h e')
        | inr h ↦ subst (λ (z : Pair). InsidesFollowed b z.0 z.1) (same i (j, y) h e') s.insides
      ]

  call_more : (i : ℕ) (j : Option ℕ) (y : ℕ) → i < place + 1 → slice_get b.found.pairs i ≡ Some (j, y) → CallsFollowed b y
  call_more i j y l e =
      let e' = before i (j, y) l e in
      elim (below i l) [
        | inl h ↦ calls_followed_stay a b y s.goes (d.call i j y h e')
        | inr h ↦ subst (λ (z : Pair). CallsFollowed b z.1) (same i (j, y) h e') s.calls
      ]

  caller_more : (i : ℕ) (j : Option ℕ) (y : ℕ) → i < place + 1 → slice_get b.found.pairs i ≡ Some (j, y) → Member (b.found.callers y) j
  caller_more i j y l e =
      let e' = before i (j, y) l e in
      elim (below i l) [
        | inl h ↦ s.goes.callers y j (d.caller i j y h e')
        | inr h ↦ subst (λ (z : Pair). Member (b.found.callers z.1) z.0) (same i (j, y) h e') s.caller
      ]

  state_of : (i : ℕ) (y : Pair) → slice_get a.found.pairs i ≡ Some y → y.1 < length a.product.states
  state_of i y e = v.pairs y (member_get a.found.pairs i y e)

  exit_more : (i m y : ℕ) → i < place + 1 → slice_get b.found.pairs i ≡ Some (Some m, y) → NoReturns b.product y ⊎ Member (b.found.exits m) y
  exit_more i m y l e =
      let e' = before i (Some m, y) l e in
      elim (below i l) [
        | inl h ↦
            elim (d.exit i m y h e') [
              | inl n ↦ inl (no_returns_stay a b y s.goes (state_of i (Some m, y) e') n)
              | inr n ↦ inr (s.goes.exits m y n)
            ]
        | inr h ↦
            let q = same i (Some m, y) h e' in
            subst (λ (z : ℕ). NoReturns b.product z ⊎ Member (b.found.exits m) z) (ap (λ (z : Pair). z.1) q) (s.exit m (ap (λ (z : Pair). z.0) q))
      ]

  -- the returns to the pair that is new among those done
  outer_more : (j m y : ℕ) (c : Letter) → j < place → Member b.product.product.calls (x, c, m) → slice_get a.found.pairs j ≡ Some (Some m, y) →
      BacksFollowed b k x y
  outer_more j m y c l g f =
      elim (d.exit j m y l f) [
        | inl n ↦
            let w = state_of j (Some m, y) f in
            none_followed b k x y s.goes.stage.made (state_stays a b y s.goes w) (no_returns_stay a b y s.goes w n)
        | inr n ↦ s.exits c m g y n
      ]

  -- the returns from the pair that is new among those done
  exit_from : (i : ℕ) (j : Option ℕ) (p m : ℕ) (c : Letter) → i < place + 1 → Member b.product.product.calls (p, c, m) → k ≡ Some m →
      slice_get a.found.pairs i ≡ Some (j, p) → BacksFollowed b j p x
  exit_from i j p m c l g e f =
      elim (below i l) [
        | inl h ↦ s.callers m p c j e g (inl (d.caller i j p h f, (d.inside i j p h f).0))
        | inr h ↦ let q = same i (j, p) h f in s.callers m p c j e g (inr (ap (λ (z : Pair). z.0) q, ap (λ (z : Pair). z.1) q))
      ]

  old_call : (i : ℕ) (j : Option ℕ) (p m : ℕ) (c : Letter) → i < place → slice_get a.found.pairs i ≡ Some (j, p) → Member b.product.product.calls (p, c, m) →
      Member a.product.product.calls (p, c, m)
  old_call i j p m c l e g = elim (s.goes.product.new_calls (p, c, m) g) [ inl o ↦ o | inr n ↦ absurd (n (d.inside i j p l e).0) ]

  back_more : (i j : ℕ) (n : Option ℕ) (p m y : ℕ) (c : Letter) → i < place + 1 → j < place + 1 → slice_get b.found.pairs i ≡ Some (n, p) →
      Member b.product.product.calls (p, c, m) → slice_get b.found.pairs j ≡ Some (Some m, y) → BacksFollowed b n p y
  back_more i j n p m y c l o e g f =
      let e' = before i (n, p) l e in
      let f' = before j (Some m, y) o f in
      elim (below j o) [
        | inr h ↦
            let q = same j (Some m, y) h f' in
            subst (λ (z : ℕ). BacksFollowed b n p z) (ap (λ (z : Pair). z.1) q) (exit_from i n p m c l g (ap (λ (z : Pair). z.0) q) e')
        | inl h ↦
            elim (below i l) [
              | inl u ↦ backs_followed_stay a b n p y s.goes (d.back i j n p m y c u h e' (old_call i n p m c u e' g) f')
              | inr u ↦
                  let q = same i (n, p) u e' in
                  subst (λ (z : Pair). BacksFollowed b z.0 z.1 y) q
                  (outer_more j m y c h (subst (λ (z : ℕ). Member b.product.product.calls (z, c, m)) (sym (ap (λ (z : Pair). z.1) q)) g) f')
            ]
      ]

  pub done_more : IsDone b (place + 1)
  done_more = record {
    within = let w = get_within b.found.pairs place (k, x) still in omega arith;
    start =
        subst (λ (z : ℕ). Member b.found.pairs (None, z)) (sym s.goes.product.start) (pair_stays a b (None, a.product.product.start) s.goes d.start);
    inside = inside_more;
    call = call_more;
    caller = caller_more;
    exit = exit_more;
    back = back_more;
  }

-- all pairs are done
module _ (s : Stage) (a b : Automaton) (n : ℕ) (v : IsStage s) (first : s.product.first ≡ a) (second : s.product.sets.nwa ≡ b) (d : IsDone s n)
    (l : length s.found.pairs ≤ n) where
  place : (y : Pair) → Member s.found.pairs y → (i : ℕ) × (slice_get s.found.pairs i ≡ Some y) × (i < n)
  place y m =
      let r = get_member s.found.pairs y m in
      let w = get_within s.found.pairs r.0 y r.1 in
      (r.0, r.1, let o : r.0 < n = omega arith in o)

  follows_back : (k : Option ℕ) (p m x : ℕ) (c : Letter) → Member s.found.pairs (k, p) → Member s.product.product.calls (p, c, m) →
      Member s.found.pairs (Some m, x) → BacksFollowed s k p x
  follows_back k p m x c h g f =
      let i = place (k, p) h in
      let j = place (Some m, x) f in
      d.back i.0 j.0 k p m x c i.2 j.2 i.1 g j.1

  product_there : IsProduct s.product.first s.product.sets.nwa s.product.product (first_at s.product) (set_of s.product) s.found.pairs
  product_there = record {
    start = v.made.start;
    start_set = v.made.start_set;
    are = v.made.are;
    on = record {
      start = d.start;
      inside = λ k x y c h g. let i = place (k, x) h in (d.inside i.0 k x i.2 i.1).1 c y g;
      call = λ k x y c h g. let i = place (k, x) h in (d.call i.0 k x i.2 i.1).1 c y g;
      back = λ k p m x y c r h g f e. (follows_back k p m x c h g f).1 r y e;
    };
    has = record {
      inside = λ k x e c h g.
          let i = place (k, x) h in elim ((v.opened x (d.inside i.0 k x i.2 i.1).0).1 c e g) [ inl y ↦ inl y | inr o ↦ inr o.1 ];
      call = λ k x e c h g.
          let i = place (k, x) h in elim ((v.opened x (d.inside i.0 k x i.2 i.1).0).2 c e g) [ inl y ↦ inl y | inr o ↦ inr o.1 ];
      back = λ k p m x e c r h g f t.
          elim (follows_back k p m x c h g f).0 [
            | inl o ↦ elim ((v.joined (x, p) o).2 r e t) [ inl y ↦ inl y | inr z ↦ inr z.2 ]
            | inr o ↦ absurd (o.1 (first_at s.product p) r e t)
          ];
    };
    finals = λ k x h. v.made.finals x (v.pairs (k, x) h);
  }

  pub product_is : (w : List Letter) → Accepts s.product.product w ↔ (Accepts a w × (Accepts b w → ⊥))
  product_is w =
      subst (λ (z : Automaton). Accepts s.product.product w ↔ (Accepts z w × (Accepts b w → ⊥))) first
      (subst (λ (z : Automaton). Accepts s.product.product w ↔ (Accepts s.product.first w × (Accepts z w → ⊥))) second
      (product_exact s.product.first s.product.sets.nwa s.product.product (first_at s.product) (set_of s.product) s.found.pairs product_there w))

-- the same automaton
pub accepts_same : (d e a b : Automaton) (w : List Letter) → e ≡ d → Accepts d w ↔ (Accepts a w × (Accepts b w → ⊥)) → Accepts e w ↔ (Accepts a w × (Accepts b w → ⊥))
accepts_same d e a b w f h = subst (λ (z : Automaton). Accepts z w ↔ (Accepts a w × (Accepts b w → ⊥))) (sym f) h
