-- A product with one state more.
use Rattle.std.proofs.Common.{◌≡◌, ◌∙◌, ◌<◌, ◌+◌, ◌^◌, ◌↔◌, ℕ, zero, suc, List, [], ◌∷◌, ◌++◌, length, Bool, true, false, cond, IsTrue, refl, sym, ap, subst, inl, inr, slice_index_or, slice_get, eqb, ◌&&◌, Some, None, Result, Ok, arith, length-append, append-nil}
use Rattle.std.specs.Result.{OnOk}
use Rattle.std.specs.List.{AllByRecursion}
use Rattle.std.proofs.lemmas.Bool.{cases_lt}
use Rattle.nwa_base.specs.declared.letters.Kind.TheVariants as kinds
use Rattle.nwa_base.specs.Members.{Member}
use Rattle.nwa_base.specs.Automata.{Automaton, IsAutomaton, IsEdge, IsBackEdge}
use Rattle.nwa_base.specs.Pairs.{IsInsideOf, IsCallOf, IsBackOf}
use Rattle.nwa_base.proofs.StateLemmas.{one_more}
use Rattle.nwa_base.proofs.MemberLemmas.{member_front, member_rest, member_split, same_pair}
use Rattle.nwa_determinise.specs.Kept.{set_at}
use Rattle.nwa_determinise.proofs.KeptLemmas.{grows_none}
use Rattle.nwa_difference.specs.Product.{AreEdges}
use Rattle.nwa_difference.specs.Ties.Making.{Made, first_at, number_at, set_of, Ends, IsMade, Extends, Nowhere, NoReturn}

pub front_at : {X : Type 0} (xs ys : List X) (n : ℕ) (d : X) → n < length xs → slice_index_or (xs ++ ys) n d ≡ slice_index_or xs n d
front_at [] ys n d l = absurd (omega arith)
front_at (x ∷ xs) ys zero d l = refl
front_at (x ∷ xs) ys (suc n) d l = front_at xs ys n d (omega arith)

pub last_at : {X : Type 0} (xs : List X) (x d : X) → slice_index_or (xs ++ x ∷ []) (length xs) d ≡ x
last_at [] x d = refl
last_at (y ∷ xs) x d = last_at xs x d

pub all_member : {X : Type 0} (P : X → Type 0) (xs : List X) (x : X) → AllByRecursion P xs → Member xs x → P x
all_member P [] x h m = absurd m
all_member P (y ∷ ys) x h (inl e) = subst P e h.0
all_member P (y ∷ ys) x h (inr m) = all_member P ys x h.1 m

pub all_push : {X : Type 0} (P : X → Type 0) (xs : List X) (x : X) → AllByRecursion P xs → P x → AllByRecursion P (xs ++ x ∷ [])
all_push P [] x h p = (p, tt)
all_push P (y ∷ ys) x h p = (h.0, all_push P ys x h.1 p)

-- the final states with the new one, if it is final
abbrev pub finals_with : Bool → List ℕ → ℕ → List ℕ
finals_with b finals n = cond b (finals ++ n ∷ []) finals

-- the product with the new state
abbrev pub with_state : Made → ℕ → ℕ → Bool → Made
with_state p q s b = record p {
  product = record p.product { states = p.product.states + 1; finals = finals_with b p.product.finals p.product.states };
  states = p.states ++ (q, s) ∷ [];
}

is_automaton : (m : Automaton) (b : Bool) → IsAutomaton m → IsAutomaton (record m { states = m.states + 1; finals = finals_with b m.finals m.states })
is_automaton m true h =
    let g = one_more m h in
    record { start = g.start; finals = all_push (λ q. q < m.states + 1) m.finals m.states g.finals (omega arith); insides = g.insides; calls = g.calls; backs = g.backs }
is_automaton m false h =
    let g = one_more m h in
    record { start = g.start; finals = g.finals; insides = g.insides; calls = g.calls; backs = g.backs }

-- the edges are right where each state stands for what it stood for
pub are_stay : (a b d : Automaton) (f g : ℕ → ℕ) (s t : ℕ → List (ℕ × ℕ)) → IsAutomaton d → ((x : ℕ) → x < d.states → g x ≡ f x) →
    ((x : ℕ) → x < d.states → t x ≡ s x) → AreEdges a b d f s → AreEdges a b d g t
are_stay a b d f g s t v first set are = record {
  inside = λ x y l m.
      let e = all_member (IsEdge d.states kinds.Inside) d.insides (x, l, y) v.insides m in
      let r = are.inside x y l m in (
        subst (λ (z : ℕ). Member a.insides (z, l, g y)) (sym (first x e.«from»))
            (subst (λ (z : ℕ). Member a.insides (f x, l, z)) (sym (first y e.to)) r.0),
        subst (λ (z : List (ℕ × ℕ)). IsInsideOf b l z (t y)) (sym (set x e.«from»))
            (subst (λ (z : List (ℕ × ℕ)). IsInsideOf b l (s x) z) (sym (set y e.to)) r.1),
      );
  call = λ x y l m.
      let e = all_member (IsEdge d.states kinds.Call) d.calls (x, l, y) v.calls m in
      let r = are.call x y l m in (
        subst (λ (z : ℕ). Member a.calls (z, l, g y)) (sym (first x e.«from»))
            (subst (λ (z : ℕ). Member a.calls (f x, l, z)) (sym (first y e.to)) r.0),
        subst (λ (z : List (ℕ × ℕ)). IsCallOf b l z (t y)) (sym (set x e.«from»))
            (subst (λ (z : List (ℕ × ℕ)). IsCallOf b l (s x) z) (sym (set y e.to)) r.1),
      );
  back = λ x w y l m.
      let e = all_member (IsBackEdge d.states) d.backs (x, w, l, y) v.backs m in
      let r = are.back x w y l m in (
        subst (λ (z : ℕ). Member a.backs (z, g w, l, g y)) (sym (first x e.«from»))
            (subst (λ (z : ℕ). Member a.backs (f x, z, l, g y)) (sym (first w e.before))
            (subst (λ (z : ℕ). Member a.backs (f x, f w, l, z)) (sym (first y e.to)) r.0)),
        subst (λ (z : List (ℕ × ℕ)). IsBackOf b l z (t x) (t y)) (sym (set w e.before))
            (subst (λ (z : List (ℕ × ℕ)). IsBackOf b l (s w) z (t y)) (sym (set x e.«from»))
            (subst (λ (z : List (ℕ × ℕ)). IsBackOf b l (s w) (s x) z) (sym (set y e.to)) r.1)),
      );
}

module _ (p : Made) (q s : ℕ) (b : Bool) (v : IsMade p) where
  abbrev n : ℕ
  n = length p.states

  abbrev new : Made
  new = with_state p q s b

  old_at : (x : ℕ) → x < n → slice_index_or new.states x (0, 0) ≡ slice_index_or p.states x (0, 0)
  old_at x l = front_at p.states ((q, s) ∷ []) x (0, 0) l

  old_first : (x : ℕ) → x < n → first_at new x ≡ first_at p x
  old_first x l = ap (λ (z : ℕ × ℕ). z.0) (old_at x l)

  old_number : (x : ℕ) → x < n → number_at new x ≡ number_at p x
  old_number x l = ap (λ (z : ℕ × ℕ). z.1) (old_at x l)

  old_set : (x : ℕ) → x < n → set_of new x ≡ set_of p x
  old_set x l = ap (set_at p.sets) (old_number x l)

  new_at : slice_index_or new.states n (0, 0) ≡ (q, s)
  new_at = last_at p.states (q, s) (0, 0)

  in_range : (x : ℕ) → x < p.product.states → x < n
  in_range x l = let c = v.count in omega arith

  at_start : p.product.start < n
  at_start = let c = v.count in let i = v.automaton.start in omega arith

  are_edges : AreEdges p.first p.sets.nwa new.product (first_at new) (set_of new)
  are_edges =
      let r = are_stay p.first p.sets.nwa p.product (first_at p) (first_at new) (set_of p) (set_of new) v.automaton
      (λ x l. old_first x (in_range x l)) (λ x l. old_set x (in_range x l)) v.are in
      record { inside = r.inside; call = r.call; back = r.back }

finals_old : (b : Bool) (finals : List ℕ) (n x : ℕ) → x < n → Member (finals_with b finals n) x ↔ Member finals x
finals_old true finals n x l = (
  λ h. elim (member_split finals (n ∷ []) x h) [ inl a ↦ a | inr c ↦ elim c [ inl e ↦ absurd (omega arith) | inr z ↦ absurd z ] ],
  λ h. member_front finals (n ∷ []) x h,
)
finals_old false finals n x l = (λ h. h, λ h. h)

finals_new : (b : Bool) (finals : List ℕ) (n : ℕ) (P : Type 0) → (Member finals n → ⊥) → IsTrue b ↔ P → Member (finals_with b finals n) n ↔ P
finals_new true finals n P none t = (λ h. t.0 refl, λ h. member_rest finals (n ∷ []) n (inl refl))
finals_new false finals n P none t = (λ h. absurd (none h), λ h. absurd (let e : false ≡ true = t.1 h in cc))

finals_right : (p : Made) (q s : ℕ) (b : Bool) → IsMade p → IsTrue b ↔ Ends p.first p.sets q s → (x : ℕ) → x < length p.states + 1 →
    Member (with_state p q s b).product.finals x ↔ Ends p.first p.sets (first_at (with_state p q s b) x) (number_at (with_state p q s b) x)
finals_right p q s b v t x l =
    let c = v.count in
    elim (cases_lt x (length p.states)) [
      | inl i ↦
          let f = finals_old b p.product.finals p.product.states x (omega arith) in
          let g = v.finals x i in
          subst (λ (z : ℕ × ℕ). Member (with_state p q s b).product.finals x ↔ Ends p.first p.sets z.0 z.1) (sym (old_at p q s b v x i))
          (λ h. g.0 (f.0 h), λ h. f.1 (g.1 h))
      | inr i ↦
          let e : length p.states ≡ x = omega arith in
          let none : Member p.product.finals p.product.states → ⊥ =
          λ h. let k = all_member (λ z. z < p.product.states) p.product.finals p.product.states v.automaton.finals h in omega arith in
          subst (λ (y : ℕ). Member (with_state p q s b).product.finals y ↔ Ends p.first p.sets (first_at (with_state p q s b) y) (number_at (with_state p q s b) y)) e
          (subst (λ (z : ℕ × ℕ). Member (with_state p q s b).product.finals (length p.states) ↔ Ends p.first p.sets z.0 z.1) (sym (new_at p q s b v))
          (subst (λ (y : ℕ). Member (with_state p q s b).product.finals y ↔ Ends p.first p.sets q s) (sym c)
          (finals_new b p.product.finals p.product.states (Ends p.first p.sets q s) none t)))
    ]

numbers_right : (p : Made) (q s : ℕ) (b : Bool) → IsMade p → s < length p.sets.sets → (x : ℕ) → x < length p.states + 1 →
    number_at (with_state p q s b) x < length p.sets.sets
numbers_right p q s b v t x l =
    elim (cases_lt x (length p.states)) [
      | inl i ↦ subst (λ (z : ℕ). z < length p.sets.sets) (sym (old_number p q s b v x i)) (v.numbers x i)
      | inr i ↦
          let e : length p.states ≡ x = omega arith in
          subst (λ (y : ℕ). number_at (with_state p q s b) y < length p.sets.sets) e
          (subst (λ (z : ℕ × ℕ). z.1 < length p.sets.sets) (sym (new_at p q s b v)) t)
    ]

-- the product with one state more
pub state_made : (p : Made) (q s : ℕ) (b : Bool) → IsMade p → p.product.states + 1 < 2 ^ 32 → s < length p.sets.sets → IsTrue b ↔ Ends p.first p.sets q s → IsMade (with_state p q s b)
state_made p q s b v m t e =
    let c = v.count in
    let l : length (p.states ++ (q, s) ∷ []) ≡ length p.states + 1 = omega (arith, length-append p.states ((q, s) ∷ [])) in
    record {
      automaton = is_automaton p.product b v.automaton;
      count = omega arith;
      small = m;
      covers = v.covers;
      numbers = λ x i. numbers_right p q s b v t x (omega arith);
      are = are_edges p q s b v;
      finals = λ x i. finals_right p q s b v e x (omega arith);
      start = old_first p q s b v p.product.start (at_start p q s b v) ∙ v.start;
      start_set = old_set p q s b v p.product.start (at_start p q s b v) ∙ v.start_set;
    }

pub state_extends : (p : Made) (q s : ℕ) (b : Bool) → IsMade p → p.product.states + 1 < 2 ^ 32 → s < length p.sets.sets → IsTrue b ↔ Ends p.first p.sets q s → Extends p (with_state p q s b) Nowhere NoReturn
state_extends p q s b v m t e = record {
  made = state_made p q s b v m t e;
  first = refl;
  sets = grows_none p.sets;
  more = (q, s) ∷ [];
  states = refl;
  start = refl;
  insides = λ x h. h;
  calls = λ x h. h;
  backs = λ x h. h;
  new_insides = λ x h. inl h;
  new_calls = λ x h. inl h;
  new_backs = λ x h. inl h;
}

pub extends_none : (p : Made) → IsMade p → Extends p p Nowhere NoReturn
extends_none p v = record {
  made = v;
  first = refl;
  sets = grows_none p.sets;
  more = [];
  states = sym (append-nil p.states);
  start = refl;
  insides = λ x h. h;
  calls = λ x h. h;
  backs = λ x h. h;
  new_insides = λ x h. inl h;
  new_calls = λ x h. inl h;
  new_backs = λ x h. inl h;
}

pub state_extends_at : (p : Made) (q s : ℕ) (b : Bool) (product : Automaton) (states : List (ℕ × ℕ)) → IsMade p → p.product.states + 1 < 2 ^ 32 →
    s < length p.sets.sets → IsTrue b ↔ Ends p.first p.sets q s → product ≡ (with_state p q s b).product → states ≡ p.states ++ (q, s) ∷ [] →
    Extends p (record p { product = product; states = states }) Nowhere NoReturn
state_extends_at p q s b product states v m t e f g =
    subst (λ (z : Automaton). Extends p (record p { product = z; states = states }) Nowhere NoReturn) (sym f)
    (subst (λ (z : List (ℕ × ℕ)). Extends p (record p { product = (with_state p q s b).product; states = z }) Nowhere NoReturn) (sym g)
    (state_extends p q s b v m t e))

pub extends_same : (p : Made) (states : List (ℕ × ℕ)) → IsMade p → states ≡ p.states → Extends p (record p { states = states }) Nowhere NoReturn
extends_same p states v e = subst (λ (z : List (ℕ × ℕ)). Extends p (record p { states = z }) Nowhere NoReturn) (sym e) (extends_none p v)

-- a key that was there already
is_old : {X : Type 0} (b : Bool) (old new : List X) (x : X) → new ≡ cond b old (old ++ x ∷ []) → length new ≡ length old → new ≡ old
is_old true old new x e l = e
is_old false old new x e l = absurd (let f = ap length e in omega (arith, length-append old (x ∷ [])))

is_more : {X : Type 0} (b : Bool) (old new : List X) (x : X) → new ≡ cond b old (old ++ x ∷ []) → length new ≡ length old + 1 → new ≡ old ++ x ∷ []
is_more true old new x e l = absurd (let f = ap length e in omega arith)
is_more false old new x e l = e

pub not_new : {X : Type 0} (b c : Bool) (old new : List X) (x : X) → new ≡ cond b old (old ++ x ∷ []) → length new ≡ length old + cond c 1 0 → c ≡ false → new ≡ old
not_new b true old new x e l f = cc
not_new b false old new x e l f = is_old b old new x e (let g : length new ≡ length old + 0 = l in omega arith)

pub is_new : {X : Type 0} (b c : Bool) (old new : List X) (x : X) → new ≡ cond b old (old ++ x ∷ []) → length new ≡ length old + cond c 1 0 → c ≡ true → new ≡ old ++ x ∷ []
is_new b true old new x e l f = is_more b old new x e l
is_new b false old new x e l f = cc

pub fits_more : (n : ℕ) (b : Bool) → IsTrue b ↔ (n + 1 ≡ 2 ^ 32) → b ≡ false → n < 2 ^ 32 → n + 1 < 2 ^ 32
fits_more n true h e l = cc
fits_more n false h e l =
    elim (cases_lt (n + 1) (2 ^ 32)) [ inl a ↦ a | inr c ↦ absurd (let g : n + 1 ≡ 2 ^ 32 = omega arith in let k : false ≡ true = h.1 g in cc) ]

some_same : {X : Type 0} (x y : X) → Some x ≡ Some y → x ≡ y
some_same x y e = cc

found_at : (xs : List (ℕ × ℕ)) (i : ℕ) (y d : ℕ × ℕ) → slice_get xs i ≡ Some y → slice_index_or xs i d ≡ y
found_at [] i y d e = let f : None ≡ Some y = e in cc
found_at (x ∷ xs) zero y d e = some_same x y e
found_at (x ∷ xs) (suc i) y d e = found_at xs i y d e

-- the state that was there already
pub state_there : (p : Made) (place q s : ℕ) (y : ℕ × ℕ) → place < length p.states → slice_get p.states place ≡ Some y → eqb q y.0 && eqb s y.1 ≡ true →
    (place < length p.states) × (first_at p place ≡ q) × (number_at p place ≡ s)
state_there p place q s y l e t =
    let f = found_at p.states place y (0, 0) e in
    let g = same_pair (q, s) y t in
    (l, ap (λ (z : ℕ × ℕ). z.0) f ∙ sym (ap (λ (z : ℕ × ℕ). z.0) g), ap (λ (z : ℕ × ℕ). z.1) f ∙ sym (ap (λ (z : ℕ × ℕ). z.1) g))

-- the state that is new
pub state_last : (p : Made) (old : List (ℕ × ℕ)) (state q s : ℕ) → p.states ≡ old ++ (q, s) ∷ [] → state ≡ length old →
    (state < length p.states) × (first_at p state ≡ q) × (number_at p state ≡ s)
state_last p old state q s e h =
    let f : slice_index_or p.states state (0, 0) ≡ (q, s) = (λ i. slice_index_or (e i) (h i) (0, 0)) ∙ last_at old (q, s) (0, 0) in
    let l : length p.states ≡ length old + 1 = ap length e ∙ length-append old ((q, s) ∷ []) in
    (omega arith, ap (λ (z : ℕ × ℕ). z.0) f, ap (λ (z : ℕ × ℕ). z.1) f)

pub place_small : {X : Type 0} (old new : List X) (place n : ℕ) → place < length new → new ≡ old → length old ≡ n → n < 2 ^ 32 → place < 2 ^ 32
place_small old new place n l e c m = let f = ap length e in omega arith

pub at_ok : {X E : Type 0} (r : Result X E) (x : X) (P : Type 0) → r ≡ Ok x → OnOk r P → P
at_ok {X} {E} r x P e h = subst (λ (z : Result X E). OnOk z P) e h

pub product_final : (old grown made : Automaton) (state : ℕ) → grown ≡ record old { states = old.states + 1 } → state ≡ old.states →
    made ≡ record grown { finals = grown.finals ++ state ∷ [] } → made ≡ record old { states = old.states + 1; finals = old.finals ++ old.states ∷ [] }
product_final old grown made state g e h =
    h ∙ ap (λ (z : Automaton). record z { finals = z.finals ++ state ∷ [] }) g ∙
    ap (λ (k : ℕ). record old { states = old.states + 1; finals = old.finals ++ k ∷ [] }) e
