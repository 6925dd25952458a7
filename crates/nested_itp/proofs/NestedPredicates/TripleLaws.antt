-- The loop over the letters that makes their triples.
use Rattle.std.proofs.Common.{◌≡◌, ◌∙◌, ℕ, zero, suc, ◌+◌, ◌<◌, ◌≤◌, Bool, true, List, [], ◌∷◌, ◌++◌, length, drop, get_or, reverse, append_assoc, refl, sym, ap, subst, arith}
use Rattle.std.specs.List.{AllByRecursion}
use Rattle.std.proofs.lemmas.List.{append-nil, reverse-reverse}
use Rattle.std.proofs.lemmas.Grind.{reverse_onto}
use Rattle.nwa_base.specs.declared.letters.Kind.{Kind}
use Rattle.nwa_base.specs.declared.letters.Kind.TheVariants.{Inside, Call, Back}
use Rattle.nwa_base.specs.declared.letters.Letter.{Letter}
use Rattle.nwa_base.specs.Words.{goes_on, are_matched}
use Rattle.triple_rows.specs.declared.triples.Scoped.{Scoped}
use Rattle.triple_rows.specs.declared.triples.Triple.{Triple}
use Rattle.triple_rows.specs.declared.triples.Triple.TheVariants as triples
use Rattle.nested_itp.specs.NestedPredicates.Interpolants.{letter_triple, saved_after, triples_along}
use Rattle.nested_itp.specs.NestedPredicates.Ties.Saved.{scoped_in, saved_at, calls_after, FindsCall}
use Rattle.nested_itp.proofs.NestedPredicates.WordLaws.{front_letter}

pub scoped_found : (preds : List Scoped) (k : ℕ) (d : Scoped) → k < length preds → get_or preds k d ≡ scoped_in preds k
scoped_found [] k d l = absurd (omega (arith, l))
scoped_found (p ∷ ps) zero d l = refl
scoped_found (p ∷ ps) (suc k) d l = scoped_found ps k d (omega (arith, l))

-- i letters are read
pub record TriplesRead (w : List Letter) (preds : List Scoped) (i : ℕ) (calls : List ℕ) (triples : List Triple) : Type 0 where
  pub matched : are_matched (length (reverse calls)) (drop i w) ≡ true
  pub within : AllByRecursion (λ k. k < length preds) calls
  pub rest : triples ++ triples_along (drop i w) (drop i preds) (saved_at preds (reverse calls)) ≡ triples_along w preds []

pub no_triples : (w : List Letter) (preds : List Scoped) (calls : List ℕ) (triples : List Triple) → are_matched 0 w ≡ true → calls ≡ [] → triples ≡ [] → TriplesRead w preds 0 calls triples
no_triples w preds calls triples m e f = record {
  matched = ap (λ (l : List ℕ). are_matched (length (reverse l)) w) e ∙ m;
  within = subst (AllByRecursion (λ k. k < length preds)) (sym e) tt;
  rest = ap (λ (l : List Triple). l ++ triples_along w preds (saved_at preds (reverse calls))) f ∙ ap (λ (l : List ℕ). triples_along w preds (saved_at preds (reverse l))) e;
}

pub finds : (kind : Kind) (calls : List ℕ) (rest : ℕ → Bool) → goes_on kind (length calls) rest ≡ true → FindsCall kind calls
finds Inside calls rest h = tt
finds Call calls rest h = tt
finds Back [] rest h = absurd (cc)
finds Back (k ∷ calls) rest h = tt

pub finds_call : (w : List Letter) (preds : List Scoped) (i : ℕ) (a d : Letter) (calls : List ℕ) (triples : List Triple) → i < length w → a ≡ get_or w i d → TriplesRead w preds i calls triples →
    FindsCall a.kind (reverse calls)
finds_call w preds i a d calls triples l e h =
    finds a.kind (reverse calls) (λ n. are_matched n (drop (i + 1) w))
    (subst (λ (v : List Letter). are_matched (length (reverse calls)) v ≡ true) (front_letter w i a d l e) h.matched)

pub matched_after : (kind : Kind) (at : ℕ) (calls : List ℕ) (rest : ℕ → Bool) → goes_on kind (length calls) rest ≡ true → rest (length (calls_after kind at calls)) ≡ true
matched_after Inside at calls rest h = h
matched_after Call at calls rest h = h
matched_after Back at [] rest h = absurd (cc)
matched_after Back at (k ∷ calls) rest h = h

saved_calls : (preds : List Scoped) (kind : Kind) (at : ℕ) (calls : List ℕ) →
    saved_after kind (scoped_in preds at) (saved_at preds calls) ≡ saved_at preds (calls_after kind at calls)
saved_calls preds Inside at calls = refl
saved_calls preds Call at calls = refl
saved_calls preds Back at [] = refl
saved_calls preds Back at (k ∷ calls) = refl

all_joined : (P : ℕ → Type 0) (xs ys : List ℕ) → AllByRecursion P xs → AllByRecursion P ys → AllByRecursion P (xs ++ ys)
all_joined P [] ys h k = k
all_joined P (x ∷ xs) ys h k = (h.0, all_joined P xs ys h.1 k)

all_back : (P : ℕ → Type 0) (xs : List ℕ) → AllByRecursion P xs → AllByRecursion P (reverse xs)
all_back P [] h = tt
all_back P (x ∷ xs) h = subst (AllByRecursion P) (sym (reverse_onto xs x [])) (all_joined P (reverse xs) (x ∷ []) (all_back P xs h.1) (h.0, tt))

within_after : (P : ℕ → Type 0) (kind : Kind) (at : ℕ) (calls : List ℕ) → P at → AllByRecursion P calls → AllByRecursion P (calls_after kind at calls)
within_after P Inside at calls p h = h
within_after P Call at calls p h = (p, h)
within_after P Back at [] p h = tt
within_after P Back at (k ∷ calls) p h = h.1

two_front : (preds : List Scoped) (i : ℕ) → suc i < length preds → drop i preds ≡ scoped_in preds i ∷ scoped_in preds (suc i) ∷ drop (suc (suc i)) preds
two_front [] i l = absurd (omega (arith, l))
two_front (p ∷ []) i l = absurd (omega (arith, l))
two_front (p ∷ q ∷ ps) zero l = refl
two_front (p ∷ q ∷ ps) (suc i) l = two_front (q ∷ ps) i (omega (arith, l))

one_front : (preds : List Scoped) (i : ℕ) → i < length preds → drop i preds ≡ scoped_in preds i ∷ drop (suc i) preds
one_front [] i l = absurd (omega (arith, l))
one_front (p ∷ ps) zero l = refl
one_front (p ∷ ps) (suc i) l = one_front ps i (omega (arith, l))

pub triples_next : (w : List Letter) (preds : List Scoped) (i : ℕ) (a d : Letter) (calls new : List ℕ) (triples more : List Triple) (t : Triple) → i < length w → length preds ≡ suc (length w) →
    a ≡ get_or w i d → TriplesRead w preds i calls triples →
    t ∷ [] ≡ letter_triple a.kind a.id (scoped_in preds i) (saved_at preds (reverse calls)) (scoped_in preds (suc i)) → reverse new ≡ calls_after a.kind i (reverse calls) →
    more ≡ triples ++ t ∷ [] → TriplesRead w preds (i + 1) new more
triples_next w preds i a d calls new triples more t l n e h k c m =
    let f : drop i w ≡ a ∷ drop (i + 1) w = front_letter w i a d l e in
    let old : List ℕ = reverse calls in
    let from : Scoped = scoped_in preds i in
    let to : Scoped = scoped_in preds (suc i) in
    let rest : List Letter = drop (i + 1) w in
    let p : drop i preds ≡ from ∷ to ∷ drop (suc (suc i)) preds = two_front preds i (omega (arith, l, n)) in
    let q : to ∷ drop (suc (suc i)) preds ≡ drop (i + 1) preds = sym (one_front preds (suc i) (omega (arith, l, n))) ∙ ap (λ (x : ℕ). drop x preds) (let s : suc i ≡ i + 1 = omega arith in s) in
    let saved : saved_after a.kind from (saved_at preds old) ≡ saved_at preds (reverse new) = saved_calls preds a.kind i old ∙ ap (saved_at preds) (sym c) in
    let whole : triples ++ (letter_triple a.kind a.id from (saved_at preds old) to ++ triples_along rest (to ∷ drop (suc (suc i)) preds) (saved_after a.kind from (saved_at preds old))) ≡ triples_along w preds [] =
    subst (λ (ps : List Scoped). triples ++ triples_along (a ∷ rest) ps (saved_at preds old) ≡ triples_along w preds []) p
    (subst (λ (v : List Letter). triples ++ triples_along v (drop i preds) (saved_at preds old) ≡ triples_along w preds []) f h.rest) in
    record {
      matched = ap (λ (x : List ℕ). are_matched (length x) rest) c ∙ matched_after a.kind i old (λ x. are_matched x rest) (subst (λ (v : List Letter). are_matched (length old) v ≡ true) f h.matched);
      within = subst (AllByRecursion (λ x. x < length preds)) (reverse-reverse new)
          (all_back (λ x. x < length preds) (reverse new) (subst (AllByRecursion (λ x. x < length preds)) (sym c)
          (within_after (λ x. x < length preds) a.kind i old (omega (arith, l, n)) (all_back (λ x. x < length preds) calls h.within))));
      rest =
          ap (λ (x : List Triple). x ++ triples_along rest (drop (i + 1) preds) (saved_at preds (reverse new))) m ∙
          append_assoc triples (t ∷ []) (triples_along rest (drop (i + 1) preds) (saved_at preds (reverse new))) ∙
          ap (λ (x : List Triple). triples ++ (x ++ triples_along rest (drop (i + 1) preds) (saved_at preds (reverse new)))) k ∙
          ap (λ (ps : List Scoped). triples ++ (letter_triple a.kind a.id from (saved_at preds old) to ++ triples_along rest ps (saved_at preds (reverse new)))) (sym q) ∙
          ap (λ (s : List Scoped). triples ++ (letter_triple a.kind a.id from (saved_at preds old) to ++ triples_along rest (to ∷ drop (suc (suc i)) preds) s)) (sym saved) ∙
          whole;
    }

pub triples_done : (w v : List Letter) (preds : List Scoped) (i : ℕ) (calls : List ℕ) (triples : List Triple) → w ≡ v → length w ≤ i → TriplesRead w preds i calls triples →
    triples ≡ triples_along v preds []
triples_done w v preds i calls triples e l h =
    sym (append-nil triples) ∙
    subst (λ (x : List Letter). triples ++ triples_along x (drop i preds) (saved_at preds (reverse calls)) ≡ triples_along w preds []) (dropped w i l) h.rest ∙
    ap (λ (x : List Letter). triples_along x preds []) e
  where
    dropped : (xs : List Letter) (k : ℕ) → length xs ≤ k → drop k xs ≡ []
    dropped [] zero l = refl
    dropped [] (suc k) l = refl
    dropped (x ∷ xs) zero l = absurd (omega (arith, l))
    dropped (x ∷ xs) (suc k) l = dropped xs k (omega (arith, l))

-- ---- one triple

pub inside_made : (kind : Kind) (id : ℕ) (from to x y : Scoped) (saved : List Scoped) → kind ≡ Inside → from ≡ x → to ≡ y → triples.Inside from id to ∷ [] ≡ letter_triple kind id x saved y
inside_made kind id from to x y saved e f h =
    ap (λ (z : Scoped). triples.Inside z id to ∷ []) f ∙ ap (λ (z : Scoped). triples.Inside x id z ∷ []) h ∙ ap (λ (k : Kind). letter_triple k id x saved y) (sym e)

pub call_made : (kind : Kind) (id : ℕ) (from to x y : Scoped) (saved : List Scoped) → kind ≡ Call → from ≡ x → to ≡ y → triples.Call from id to ∷ [] ≡ letter_triple kind id x saved y
call_made kind id from to x y saved e f h =
    ap (λ (z : Scoped). triples.Call z id to ∷ []) f ∙ ap (λ (z : Scoped). triples.Call x id z ∷ []) h ∙ ap (λ (k : Kind). letter_triple k id x saved y) (sym e)

back_found : (preds : List Scoped) (id call : ℕ) (before x y : Scoped) (calls : List ℕ) → FindsCall Back calls → get_or calls 0 0 ≡ call → before ≡ scoped_in preds call →
    triples.Back x before id y ∷ [] ≡ letter_triple Back id x (saved_at preds calls) y
back_found preds id call before x y [] h e f = absurd h
back_found preds id call before x y (k ∷ calls) h e f = ap (λ (z : Scoped). triples.Back x z id y ∷ []) (f ∙ ap (scoped_in preds) (sym e))

pub back_made : (preds : List Scoped) (kind : Kind) (id call : ℕ) (from before to x y : Scoped) (calls : List ℕ) → kind ≡ Back → FindsCall kind calls → get_or calls 0 0 ≡ call →
    from ≡ x → before ≡ scoped_in preds call → to ≡ y → triples.Back from before id to ∷ [] ≡ letter_triple kind id x (saved_at preds calls) y
back_made preds kind id call from before to x y calls e h i f b k =
    ap (λ (z : Scoped). triples.Back z before id to ∷ []) f ∙ ap (λ (z : Scoped). triples.Back x before id z ∷ []) k ∙
    back_found preds id call before x y calls (subst (λ (z : Kind). FindsCall z calls) e h) i b ∙ ap (λ (z : Kind). letter_triple z id x (saved_at preds calls) y) (sym e)

first_within : (n : ℕ) (calls : List ℕ) (k : ℕ) → FindsCall Back calls → AllByRecursion (λ x. x < n) calls → get_or calls 0 0 ≡ k → k < n
first_within n [] k f h e = absurd f
first_within n (x ∷ calls) k f h e = subst (λ (y : ℕ). y < n) e h.0

pub below_first : (n : ℕ) (calls : List ℕ) (k : ℕ) → AllByRecursion (λ x. x < n) calls → get_or (reverse calls) 0 0 ≡ k → (kind : Kind) → FindsCall kind (reverse calls) → kind ≡ Back → k < n
below_first n calls k h e kind f i =
    first_within n (reverse calls) k (subst (λ (z : Kind). FindsCall z (reverse calls)) i f) (all_back (λ x. x < n) calls h) e
