-- Edges found by their state, and by their state and letter.
use Rattle.std.proofs.Common.{◌≡◌, ◌∙◌, ℕ, Bool, true, false, cond, ◌&&◌, eqb, List, [], ◌∷◌, ◌++◌, refl, sym, ap}
use Rattle.std.proofs.lemmas.Bool.{eqb-true}
use Rattle.std.proofs.lemmas.List.{map-append}
use Rattle.std.specs.Prelude.{map, filter}
use denote.Enum.Bare.{sameb}
use Rattle.nwa_base.specs.contracts.letters.Kind.{the_type}
use Rattle.nwa_base.specs.declared.letters.Letter.{Letter}
use Rattle.nwa_base.specs.Letters.{same_letter}
use Rattle.nwa_base.specs.Edges.{leaving, entering, ends, backs_leaving, backs_between, back_ends, IsIndexed, IsBackIndexed}
use Rattle.nwa_base.proofs.LetterLemmas.{sameb-same_kind, eqb-refl, and_left, and_right, and_both}

-- the derived test of letters
abbrev pub letter_test : Letter → Letter → Bool
letter_test a b = eqb a.id b.id && (sameb the_type a.kind b.kind && eqb a.call b.call)

letter_test-same : (a b : Letter) → letter_test a b ≡ same_letter a b
letter_test-same a b = ap (λ k. eqb a.id b.id && (k && eqb a.call b.call)) (sameb-same_kind a.kind b.kind)

filter_step : {X : Type 0} (y x : X) (new old : List X) (b c : Bool) → new ≡ cond c (old ++ x ∷ []) old →
    cond b (y ∷ new) new ≡ cond c (cond b (y ∷ old) old ++ x ∷ []) (cond b (y ∷ old) old)
filter_step y x new old true true h = ap (λ l. y ∷ l) h
filter_step y x new old true false h = ap (λ l. y ∷ l) h
filter_step y x new old false true h = h
filter_step y x new old false false h = h

-- a filter of one element more
pub filter_push : {X : Type 0} (p : X → Bool) (xs : List X) (x : X) → filter p (xs ++ x ∷ []) ≡ cond (p x) (filter p xs ++ x ∷ []) (filter p xs)
filter_push p [] x = refl
filter_push p (y ∷ xs) x = filter_step y x _ _ (p y) (p x) (filter_push p xs x)

map_cond : {X Y : Type 0} (f : X → Y) (xs : List X) (x : X) (b : Bool) →
    map f (cond b (xs ++ x ∷ []) xs) ≡ cond b (map f xs ++ f x ∷ []) (map f xs)
map_cond f xs x true = map-append f xs (x ∷ [])
map_cond f xs x false = refl

-- what is kept in groups after one value more
abbrev pub GrowsAt : {K V : Type 0} → (K → K → Bool) → K → V → (K → List V) → (K → List V) → Type 0
GrowsAt {K} test key value old new = (k : K) → new k ≡ cond (test key k) (old k ++ value ∷ []) (old k)

pub indexed_none : (edges : List (ℕ × Letter × ℕ)) (s : ℕ → List (ℕ × Letter × ℕ)) (t : ℕ × Letter → List ℕ) →
    edges ≡ [] → ((q : ℕ) → s q ≡ []) → ((k : ℕ × Letter) → t k ≡ []) → IsIndexed edges s (λ q a. t (q, a))
indexed_none edges s t e h k = record {
  states = λ q. h q ∙ sym (ap (leaving q) e);
  letters = λ q a. k (q, a) ∙ sym (ap (ends q a) e);
}

pub indexed_push : (edges new : List (ℕ × Letter × ℕ)) (s s' : ℕ → List (ℕ × Letter × ℕ)) (t t' : ℕ × Letter → List ℕ) (edge : ℕ × Letter × ℕ) →
    IsIndexed edges s (λ q a. t (q, a)) → new ≡ edges ++ edge ∷ [] →
    GrowsAt eqb edge.0 edge s s' →
    GrowsAt (λ (k l : ℕ × Letter). eqb k.0 l.0 && letter_test k.1 l.1) (edge.0, edge.1) edge.2 t t' →
    IsIndexed new s' (λ q a. t' (q, a))
indexed_push edges new s s' t t' edge v e h k = record {
  states = λ q.
      h q ∙ ap (λ (l : List (ℕ × Letter × ℕ)). cond (eqb edge.0 q) (l ++ edge ∷ []) l) (v.states q) ∙
      sym (filter_push (λ (e : ℕ × Letter × ℕ). eqb e.0 q) edges edge) ∙ sym (ap (leaving q) e);
  letters = λ q a.
      k (q, a) ∙ ap (λ (l : List ℕ). cond (eqb edge.0 q && letter_test edge.1 a) (l ++ edge.2 ∷ []) l) (v.letters q a) ∙
      ap (λ (b : Bool). cond (eqb edge.0 q && b) (ends q a edges ++ edge.2 ∷ []) (ends q a edges)) (letter_test-same edge.1 a) ∙
      sym (map_cond (λ (e : ℕ × Letter × ℕ). e.2) (filter (λ e. eqb e.0 q && same_letter e.1 a) edges) edge (eqb edge.0 q && same_letter edge.1 a)) ∙
      sym (ap (map (λ (e : ℕ × Letter × ℕ). e.2)) (filter_push (λ (e : ℕ × Letter × ℕ). eqb e.0 q && same_letter e.1 a) edges edge)) ∙
      sym (ap (ends q a) e);
}

-- groups that are as they were
pub indexed_stays : (edges new : List (ℕ × Letter × ℕ)) (s s' : ℕ → List (ℕ × Letter × ℕ)) (t t' : ℕ × Letter → List ℕ) →
    IsIndexed edges s (λ q a. t (q, a)) → new ≡ edges → ((q : ℕ) → s' q ≡ s q) → ((k : ℕ × Letter) → t' k ≡ t k) →
    IsIndexed new s' (λ q a. t' (q, a))
indexed_stays edges new s s' t t' v e h k = record {
  states = λ q. h q ∙ v.states q ∙ sym (ap (leaving q) e);
  letters = λ q a. k (q, a) ∙ v.letters q a ∙ sym (ap (ends q a) e);
}

pub back_indexed_none : (edges : List (ℕ × ℕ × Letter × ℕ)) (s : ℕ → List (ℕ × ℕ × Letter × ℕ)) (u : ℕ × ℕ → List (ℕ × ℕ × Letter × ℕ)) (t : ℕ × ℕ × Letter → List ℕ) →
    edges ≡ [] → ((q : ℕ) → s q ≡ []) → ((k : ℕ × ℕ) → u k ≡ []) → ((k : ℕ × ℕ × Letter) → t k ≡ []) →
    IsBackIndexed edges s (λ q p. u (q, p)) (λ q p a. t (q, p, a))
back_indexed_none edges s u t e h g k = record {
  states = λ q. h q ∙ sym (ap (backs_leaving q) e);
  pairs = λ q p. g (q, p) ∙ sym (ap (backs_between q p) e);
  letters = λ q p a. k (q, p, a) ∙ sym (ap (back_ends q p a) e);
}

pub back_indexed_push : (edges new : List (ℕ × ℕ × Letter × ℕ)) (s s' : ℕ → List (ℕ × ℕ × Letter × ℕ)) (u u' : ℕ × ℕ → List (ℕ × ℕ × Letter × ℕ)) (t t' : ℕ × ℕ × Letter → List ℕ) (edge : ℕ × ℕ × Letter × ℕ) →
    IsBackIndexed edges s (λ q p. u (q, p)) (λ q p a. t (q, p, a)) → new ≡ edges ++ edge ∷ [] →
    GrowsAt eqb edge.0 edge s s' →
    GrowsAt (λ (k l : ℕ × ℕ). eqb k.0 l.0 && eqb k.1 l.1) (edge.0, edge.1) edge u u' →
    GrowsAt (λ (k l : ℕ × ℕ × Letter). (eqb k.0 l.0 && eqb k.1 l.1) && letter_test k.2 l.2) (edge.0, edge.1, edge.2) edge.3 t t' →
    IsBackIndexed new s' (λ q p. u' (q, p)) (λ q p a. t' (q, p, a))
back_indexed_push edges new s s' u u' t t' edge v e h g k = record {
  states = λ q.
      h q ∙ ap (λ (l : List (ℕ × ℕ × Letter × ℕ)). cond (eqb edge.0 q) (l ++ edge ∷ []) l) (v.states q) ∙
      sym (filter_push (λ (e : ℕ × ℕ × Letter × ℕ). eqb e.0 q) edges edge) ∙ sym (ap (backs_leaving q) e);
  pairs = λ q p.
      g (q, p) ∙ ap (λ (l : List (ℕ × ℕ × Letter × ℕ)). cond (eqb edge.0 q && eqb edge.1 p) (l ++ edge ∷ []) l) (v.pairs q p) ∙
      sym (filter_push (λ (e : ℕ × ℕ × Letter × ℕ). eqb e.0 q && eqb e.1 p) edges edge) ∙ sym (ap (backs_between q p) e);
  letters = λ q p a.
      k (q, p, a) ∙ ap (λ (l : List ℕ). cond ((eqb edge.0 q && eqb edge.1 p) && letter_test edge.2 a) (l ++ edge.3 ∷ []) l) (v.letters q p a) ∙
      ap (λ (b : Bool). cond ((eqb edge.0 q && eqb edge.1 p) && b) (back_ends q p a edges ++ edge.3 ∷ []) (back_ends q p a edges)) (letter_test-same edge.2 a) ∙
      sym (map_cond (λ (e : ℕ × ℕ × Letter × ℕ). e.3) (filter (λ e. (eqb e.0 q && eqb e.1 p) && same_letter e.2 a) edges) edge ((eqb edge.0 q && eqb edge.1 p) && same_letter edge.2 a)) ∙
      sym (ap (map (λ (e : ℕ × ℕ × Letter × ℕ). e.3)) (filter_push (λ (e : ℕ × ℕ × Letter × ℕ). (eqb e.0 q && eqb e.1 p) && same_letter e.2 a) edges edge)) ∙
      sym (ap (back_ends q p a) e);
}

-- groups that are as they were
pub back_indexed_stays : (edges new : List (ℕ × ℕ × Letter × ℕ)) (s s' : ℕ → List (ℕ × ℕ × Letter × ℕ)) (u u' : ℕ × ℕ → List (ℕ × ℕ × Letter × ℕ)) (t t' : ℕ × ℕ × Letter → List ℕ) →
    IsBackIndexed edges s (λ q p. u (q, p)) (λ q p a. t (q, p, a)) → new ≡ edges → ((q : ℕ) → s' q ≡ s q) → ((k : ℕ × ℕ) → u' k ≡ u k) → ((k : ℕ × ℕ × Letter) → t' k ≡ t k) →
    IsBackIndexed new s' (λ q p. u' (q, p)) (λ q p a. t' (q, p, a))
back_indexed_stays edges new s s' u u' t t' v e h g k = record {
  states = λ q. h q ∙ v.states q ∙ sym (ap (backs_leaving q) e);
  pairs = λ q p. g (q, p) ∙ v.pairs q p ∙ sym (ap (backs_between q p) e);
  letters = λ q p a. k (q, p, a) ∙ v.letters q p a ∙ sym (ap (back_ends q p a) e);
}

drop_case : {K V : Type 0} (test : K → K → Bool) (key k : K) (value : V) (old grown : K → List V) → (test key k ≡ true → key ≡ k) →
    grown k ≡ cond (test key k) (old k ++ value ∷ []) (old k) → (b : Bool) → test key k ≡ b → cond b (old key) (grown k) ≡ old k
drop_case test key k value old grown t g true e = ap old (t e)
drop_case test key k value old grown t g false e = g ∙ ap (λ b. cond b (old k ++ value ∷ []) (old k)) e

-- taking out the last value of a group undoes adding it
drop_undoes_at : {K V : Type 0} (test : K → K → Bool) (key : K) (value : V) (old grown back : K → List V) →
    ((k : K) → test key k ≡ true → key ≡ k) → test key key ≡ true → GrowsAt test key value old grown →
    ((k : K) (rest : List V) (v : V) → grown key ≡ rest ++ v ∷ [] → back k ≡ cond (test key k) rest (grown k)) →
    (k : K) → back k ≡ old k
drop_undoes_at test key value old grown back t r g d k =
    let top : grown key ≡ old key ++ value ∷ [] = g key ∙ ap (λ b. cond b (old key ++ value ∷ []) (old key)) r in
    d k (old key) value top ∙
    drop_case test key k value old grown (t k) (g k) (test key k) refl

pub drop_undoes : {V : Type 0} (key : ℕ) (value : V) (old grown back : ℕ → List V) →
    GrowsAt eqb key value old grown →
    ((k : ℕ) (rest : List V) (v : V) → grown key ≡ rest ++ v ∷ [] → back k ≡ cond (eqb key k) rest (grown k)) →
    (k : ℕ) → back k ≡ old k
drop_undoes key value old grown back g d k =
    drop_undoes_at eqb key value old grown back (λ k e. eqb-true key k e) (eqb-refl key) g d k

pub drop_undoes_pair : {V : Type 0} (key : ℕ × ℕ) (value : V) (old grown back : ℕ × ℕ → List V) →
    GrowsAt (λ (k l : ℕ × ℕ). eqb k.0 l.0 && eqb k.1 l.1) key value old grown →
    ((k : ℕ × ℕ) (rest : List V) (v : V) → grown key ≡ rest ++ v ∷ [] → back k ≡ cond (eqb key.0 k.0 && eqb key.1 k.1) rest (grown k)) →
    (k : ℕ × ℕ) → back k ≡ old k
drop_undoes_pair key value old grown back g d k =
    drop_undoes_at (λ (k l : ℕ × ℕ). eqb k.0 l.0 && eqb k.1 l.1) key value old grown back
    (λ k e.
    let i : key.0 ≡ k.0 = eqb-true _ _ (and_left _ _ e) in
    let j : key.1 ≡ k.1 = eqb-true _ _ (and_right _ _ e) in
    λ n. (i n, j n))
    (and_both _ _ (eqb-refl key.0) (eqb-refl key.1)) g d k

-- call edges found by their ends
pub entering_none : (edges : List (ℕ × Letter × ℕ)) (s : ℕ → List (ℕ × Letter × ℕ)) →
    edges ≡ [] → ((q : ℕ) → s q ≡ []) → (q : ℕ) → s q ≡ entering q edges
entering_none edges s e h q = h q ∙ sym (ap (entering q) e)

pub entering_push : (edges new : List (ℕ × Letter × ℕ)) (s s' : ℕ → List (ℕ × Letter × ℕ)) (edge : ℕ × Letter × ℕ) →
    ((q : ℕ) → s q ≡ entering q edges) → new ≡ edges ++ edge ∷ [] → GrowsAt eqb edge.2 edge s s' → (q : ℕ) → s' q ≡ entering q new
entering_push edges new s s' edge v e h q =
    h q ∙ ap (λ (l : List (ℕ × Letter × ℕ)). cond (eqb edge.2 q) (l ++ edge ∷ []) l) (v q) ∙
    sym (filter_push (λ (e : ℕ × Letter × ℕ). eqb e.2 q) edges edge) ∙ sym (ap (entering q) e)

pub entering_stays : (edges new : List (ℕ × Letter × ℕ)) (s s' : ℕ → List (ℕ × Letter × ℕ)) →
    ((q : ℕ) → s q ≡ entering q edges) → new ≡ edges → ((q : ℕ) → s' q ≡ s q) → (q : ℕ) → s' q ≡ entering q new
entering_stays edges new s s' v e h q = h q ∙ v q ∙ sym (ap (entering q) e)

-- the same where only two of the groupings were touched
pub back_indexed_kept : (edges new : List (ℕ × ℕ × Letter × ℕ)) (s s' : ℕ → List (ℕ × ℕ × Letter × ℕ)) (u u' : ℕ × ℕ → List (ℕ × ℕ × Letter × ℕ)) (t : ℕ → ℕ → Letter → List ℕ) →
    IsBackIndexed edges s (λ q p. u (q, p)) t → new ≡ edges → ((q : ℕ) → s' q ≡ s q) → ((k : ℕ × ℕ) → u' k ≡ u k) →
    IsBackIndexed new s' (λ q p. u' (q, p)) t
back_indexed_kept edges new s s' u u' t v e h g = record {
  states = λ q. h q ∙ v.states q ∙ sym (ap (backs_leaving q) e);
  pairs = λ q p. g (q, p) ∙ v.pairs q p ∙ sym (ap (backs_between q p) e);
  letters = λ q p a. v.letters q p a ∙ sym (ap (back_ends q p a) e);
}
