-- A product with more sets, and with one edge more.
use Rattle.std.proofs.Common.{◌≡◌, ◌≢◌, ◌∙◌, ◌<◌, ◌↔◌, ℕ, List, [], ◌∷◌, ◌++◌, length, Result, Ok, Err, refl, sym, ap, subst, inl, inr, slice_index_or, arith, length-append, append_assoc, append-nil}
use Rattle.nwa_base.specs.declared.letters.Kind.{Kind}
use Rattle.nwa_base.specs.declared.letters.Kind.TheVariants as kinds
use Rattle.nwa_base.specs.declared.faults.NwaFault.{NwaFault}
use Rattle.nwa_base.specs.Automata.{Automaton}
use Rattle.nwa_base.specs.Pairs.{HasFinal}
use Rattle.nwa_determinise.specs.Kept.{Kept, set_at, Grows}
use Rattle.nwa_determinise.proofs.KeptLemmas.{grows_on, set_stays, number_stays}
use Rattle.nwa_difference.specs.Covering.{HaveCovers}
use Rattle.nwa_difference.specs.Product.{AreEdges}
use Rattle.nwa_difference.specs.Ties.Making.{Made, first_at, number_at, set_of, Ends, IsMade, Extends, Nowhere, NoReturn}
use Rattle.nwa_difference.proofs.MakingLemmas.{front_at, are_stay, extends_none}

-- steps one after another
pub extends_on : (a b c : Made) (P : ℕ → Type 0) (Q : ℕ → ℕ → Type 0) → Extends a b P Q → Extends b c P Q → Extends a c P Q
extends_on a b c P Q g h = record {
  made = h.made;
  first = h.first ∙ g.first;
  sets = grows_on a.sets b.sets c.sets g.sets h.sets;
  more = g.more ++ h.more;
  states = h.states ∙ ap (λ (l : List (ℕ × ℕ)). l ++ h.more) g.states ∙ append_assoc a.states g.more h.more;
  start = h.start ∙ g.start;
  insides = λ e m. h.insides e (g.insides e m);
  calls = λ e m. h.calls e (g.calls e m);
  backs = λ e m. h.backs e (g.backs e m);
  new_insides = λ e m. elim (h.new_insides e m) [ inl o ↦ g.new_insides e o | inr n ↦ inr n ];
  new_calls = λ e m. elim (h.new_calls e m) [ inl o ↦ g.new_calls e o | inr n ↦ inr n ];
  new_backs = λ e m. elim (h.new_backs e m) [ inl o ↦ g.new_backs e o | inr n ↦ inr n ];
}

-- fewer edges are new
pub extends_less : (a b : Made) (P P' : ℕ → Type 0) (Q Q' : ℕ → ℕ → Type 0) → ((x : ℕ) → P x → P' x) → ((x p : ℕ) → Q x p → Q' x p) →
    Extends a b P Q → Extends a b P' Q'
extends_less a b P P' Q Q' f k g = record {
  made = g.made;
  first = g.first;
  sets = g.sets;
  more = g.more;
  states = g.states;
  start = g.start;
  insides = g.insides;
  calls = g.calls;
  backs = g.backs;
  new_insides = λ e m. elim (g.new_insides e m) [ inl o ↦ inl o | inr n ↦ inr (f e.0 n) ];
  new_calls = λ e m. elim (g.new_calls e m) [ inl o ↦ inl o | inr n ↦ inr (f e.0 n) ];
  new_backs = λ e m. elim (g.new_backs e m) [ inl o ↦ inl o | inr n ↦ inr (k e.0 e.1 n) ];
}

-- no edge is new
pub extends_more : (a b : Made) (P : ℕ → Type 0) (Q : ℕ → ℕ → Type 0) → Extends a b Nowhere NoReturn → Extends a b P Q
extends_more a b P Q g = extends_less a b Nowhere P NoReturn Q (λ x h. absurd h) (λ x p h. absurd h) g

pub extends_not : (p : Made) (P : ℕ → Type 0) (Q : ℕ → ℕ → Type 0) → IsMade p → Extends p p P Q
extends_not p P Q v = extends_more p p P Q (extends_none p v)

-- a state stays
pub part_stays : (a b : Made) (P : ℕ → Type 0) (Q : ℕ → ℕ → Type 0) (x : ℕ) → Extends a b P Q → x < length a.states →
    slice_index_or b.states x (0, 0) ≡ slice_index_or a.states x (0, 0)
part_stays a b P Q x g l =
    ap (λ (s : List (ℕ × ℕ)). slice_index_or s x (0, 0)) g.states ∙ front_at a.states g.more x (0, 0) l

pub first_stays : (a b : Made) (P : ℕ → Type 0) (Q : ℕ → ℕ → Type 0) (x : ℕ) → Extends a b P Q → x < length a.states → first_at b x ≡ first_at a x
first_stays a b P Q x g l = ap (λ (z : ℕ × ℕ). z.0) (part_stays a b P Q x g l)

pub number_of_stays : (a b : Made) (P : ℕ → Type 0) (Q : ℕ → ℕ → Type 0) (x : ℕ) → Extends a b P Q → x < length a.states → number_at b x ≡ number_at a x
number_of_stays a b P Q x g l = ap (λ (z : ℕ × ℕ). z.1) (part_stays a b P Q x g l)

pub set_of_stays : (a b : Made) (P : ℕ → Type 0) (Q : ℕ → ℕ → Type 0) (x : ℕ) → IsMade a → Extends a b P Q → x < length a.states → set_of b x ≡ set_of a x
set_of_stays a b P Q x v g l =
    ap (λ (n : ℕ). set_at b.sets n) (number_of_stays a b P Q x g l) ∙ set_stays a.sets b.sets (number_at a x) g.sets (v.numbers x l)

pub within_stays : (a b : Made) (P : ℕ → Type 0) (Q : ℕ → ℕ → Type 0) (x : ℕ) → Extends a b P Q → x < length a.states → x < length b.states
within_stays a b P Q x g l =
    let e : length b.states ≡ length (a.states ++ g.more) = ap length g.states in
    omega (arith, length-append a.states g.more)

-- the final states are right while sets are added
ends_stay : (first : Automaton) (d e : Kept) (q s : ℕ) → Grows d e → s < length d.sets → Ends first d q s ↔ Ends first e q s
ends_stay first d e q s g l =
    let h = set_stays d e s g l in (
      λ r. (r.0, λ t. r.1 (subst (λ (m : Automaton). HasFinal m (set_at d s)) g.nwa (subst (HasFinal e.nwa) h t))),
      λ r. (r.0, λ t. r.1 (subst (HasFinal e.nwa) (sym h) (subst (λ (m : Automaton). HasFinal m (set_at d s)) (sym g.nwa) t))),
    )

-- the product with more sets
pub sets_made : (p : Made) (sets : Kept) → IsMade p → Grows p.sets sets → IsMade (record p { sets = sets })
sets_made p sets v g =
    let set : (x : ℕ) → x < length p.states → set_at sets (number_at p x) ≡ set_of p x =
    λ x l. set_stays p.sets sets (number_at p x) g (v.numbers x l) in
    let range : (x : ℕ) → x < p.product.states → x < length p.states = λ x l. let c = v.count in omega arith in
    record {
      automaton = v.automaton;
      count = v.count;
      small = v.small;
      covers = subst (λ (b : Automaton). HaveCovers p.first b p.covers) (sym g.nwa) v.covers;
      numbers = λ x l. number_stays p.sets sets (number_at p x) g (v.numbers x l);
      are =
          subst (λ (b : Automaton). AreEdges p.first b p.product (first_at p) (λ x. set_at sets (number_at p x))) (sym g.nwa)
          (are_stay p.first p.sets.nwa p.product (first_at p) (first_at p) (set_of p) (λ x. set_at sets (number_at p x)) v.automaton
          (λ x l. refl) (λ x l. set x (range x l)) v.are);
      finals = λ x l.
          let f = v.finals x l in
          let k = ends_stay p.first p.sets sets (first_at p x) (number_at p x) g (v.numbers x l) in
          (λ h. k.0 (f.0 h), λ h. f.1 (k.1 h));
      start = v.start;
      start_set =
          set p.product.start (range p.product.start v.automaton.start) ∙ v.start_set ∙
          ap (λ (m : Automaton). (m.start, m.start) ∷ []) (sym g.nwa);
    }

pub sets_extend : (p : Made) (sets : Kept) → IsMade p → Grows p.sets sets → Extends p (record p { sets = sets }) Nowhere NoReturn
sets_extend p sets v g = record {
  made = sets_made p sets v g;
  first = refl;
  sets = g;
  more = [];
  states = sym (append-nil p.states);
  start = refl;
  insides = λ x h. h;
  calls = λ x h. h;
  backs = λ x h. h;
  new_insides = λ x h. inl h;
  new_calls = λ x h. inl h;
  new_backs = λ x h. inl h;
}

-- a kind that is no other
pub is_inside : (k : Kind) → (k ≢ kinds.Inside → ⊥) → k ≡ kinds.Inside
is_inside kinds.Inside h = refl
is_inside kinds.Call h = absurd (h (λ e. let f : kinds.Call ≡ kinds.Inside = e in cc))
is_inside kinds.Back h = absurd (h (λ e. let f : kinds.Back ≡ kinds.Inside = e in cc))

pub is_call : (k : Kind) → (k ≢ kinds.Call → ⊥) → k ≡ kinds.Call
is_call kinds.Call h = refl
is_call kinds.Inside h = absurd (h (λ e. let f : kinds.Inside ≡ kinds.Call = e in cc))
is_call kinds.Back h = absurd (h (λ e. let f : kinds.Back ≡ kinds.Call = e in cc))

pub is_back : (k : Kind) → (k ≢ kinds.Back → ⊥) → k ≡ kinds.Back
is_back kinds.Back h = refl
is_back kinds.Inside h = absurd (h (λ e. let f : kinds.Inside ≡ kinds.Back = e in cc))
is_back kinds.Call h = absurd (h (λ e. let f : kinds.Call ≡ kinds.Back = e in cc))

-- what was made has no fault
pub no_fault : {X : Type 0} (r : Result X NwaFault) (x : X) (f : NwaFault) → r ≡ Ok x → r ≡ Err f → ⊥
no_fault r x f e h = let g : Ok x ≡ Err f = sym e ∙ h in cc
