-- Predicates that are found one line after another.
use Rattle.std.proofs.Common.{◌≡◌, ◌∙◌, ◌<◌, ◌≤◌, ◌+◌, ℕ, zero, suc, List, [], ◌∷◌, ◌++◌, Option, None, Some, length, take, get_or, refl, sym, ap, subst, inl, inr}
use Rattle.std.specs.Prelude.{map, slice_get}
use Rattle.std.specs.List.{AllZip, filter_map, cons_option}
use Rattle.std.proofs.lemmas.List.{take_more, take_all}
use Rattle.nwa_base.specs.Members.{Member, SameMembers}
use Rattle.nwa_base.proofs.MemberLemmas.{member_front, member_rest, member_split}
use Rattle.letter_acts.specs.Invariant.{Graph}
use Rattle.triple_rows.specs.declared.triples.Scoped.{Scoped}
use Rattle.proof_form.specs.declared.lines.PredLine.{PredLine}
use Rattle.proof_form.specs.Lines as form
use Rattle.itp_automaton.proofs.StateLaws.{member_at, place_of}
use Rattle.proof_reuse.specs.Found.{pred_found}
use Rattle.proof_reuse.specs.Ties.Numbers.{IsNumbered, AreFound, IsPut, AddsFound}

-- ---- one predicate

get_front : {X : Type 0} (xs ys : List X) (k : ℕ) (x : X) → slice_get xs k ≡ Some x → slice_get (xs ++ ys) k ≡ Some x
get_front [] ys k x e = absurd (cc)
get_front (z ∷ xs) ys zero x e = e
get_front (z ∷ xs) ys (suc k) x e = get_front xs ys k x e

get_last : {X : Type 0} (xs : List X) (x : X) → slice_get (xs ++ x ∷ []) (length xs) ≡ Some x
get_last [] x = refl
get_last (z ∷ xs) x = get_last xs x

pub put_there : (old : List Scoped) (s : Scoped) (q : ℕ) → slice_get old q ≡ Some s → IsPut old s q old
put_there old s q e = record { there = e; kept = λ k x f. f; only = λ x m. inl m }

pub put_last : (old new : List Scoped) (s : Scoped) (q : ℕ) → q ≡ length old → new ≡ old ++ s ∷ [] → IsPut old s q new
put_last old new s q e f = record {
  there = ap (λ (l : List Scoped). slice_get l q) f ∙ ap (slice_get (old ++ s ∷ [])) e ∙ get_last old s;
  kept = λ k x h. ap (λ (l : List Scoped). slice_get l k) f ∙ get_front old (s ∷ []) k x h;
  only = λ x m. elim (member_split old (s ∷ []) x (subst (λ (l : List Scoped). Member l x) f m)) [
    | inl k ↦ inl k
    | inr k ↦ elim k [ inl h ↦ inr h | inr none ↦ absurd none ]
  ];
}

pub adds_some : (old new : List Scoped) (numbers more : List (Option ℕ)) (found : Option Scoped) (s : Scoped) (q n : ℕ) → found ≡ Some s → IsPut old s q new → n ≡ suc (suc q) →
    more ≡ numbers ++ Some n ∷ [] → AddsFound old numbers found new more
adds_some old new numbers more found s q n f p e m = record {
  number = Some n;
  numbered = subst (λ (o : Option Scoped). IsNumbered new o (Some n)) (sym f) (q, e, p.there);
  pushed = m;
  kept = p.kept;
  only = λ x k. elim (p.only x k) [ inl o ↦ inl o | inr h ↦ inr (f ∙ ap Some h) ];
}

pub adds_nothing : (old : List Scoped) (numbers more : List (Option ℕ)) (found : Option Scoped) → found ≡ None → more ≡ numbers ++ None ∷ [] → AddsFound old numbers found old more
adds_nothing old numbers more found f m = record {
  number = None;
  numbered = subst (λ (o : Option Scoped). IsNumbered old o None) (sym f) tt;
  pushed = m;
  kept = λ k x e. e;
  only = λ x k. inl k;
}

-- ---- lines

numbered_stays : (old new : List Scoped) (o : Option Scoped) (n : Option ℕ) → ((k : ℕ) (x : Scoped) → slice_get old k ≡ Some x → slice_get new k ≡ Some x) → IsNumbered old o n → IsNumbered new o n
numbered_stays old new None None k h = tt
numbered_stays old new None (Some n) k h = absurd h
numbered_stays old new (Some s) None k h = absurd h
numbered_stays old new (Some s) (Some n) k h = (h.0, h.1, k h.0 s h.2)

zip_push : {X Y : Type 0} (R S : X → Y → Type 0) (xs : List X) (ys : List Y) (x : X) (y : Y) → ((a : X) (b : Y) → R a b → S a b) → AllZip R xs ys → S x y → AllZip S (xs ++ x ∷ []) (ys ++ y ∷ [])
zip_push R S [] [] x y f h s = (s, tt)
zip_push R S [] (b ∷ ys) x y f h s = absurd h
zip_push R S (a ∷ xs) [] x y f h s = absurd h
zip_push R S (a ∷ xs) (b ∷ ys) x y f h s = (f a b h.0, zip_push R S xs ys x y f h.1 s)

found_push : {X Y : Type 0} (f : X → Option Y) (xs : List X) (x : X) → filter_map f (xs ++ x ∷ []) ≡ filter_map f xs ++ cons_option (f x) []
found_push f [] x = refl
found_push {X} {Y} f (z ∷ xs) x = by_first (f z) (found_push f xs x)
  where
    by_first : (o : Option Y) → filter_map f (xs ++ x ∷ []) ≡ filter_map f xs ++ cons_option (f x) [] →
        cons_option o (filter_map f (xs ++ x ∷ [])) ≡ cons_option o (filter_map f xs) ++ cons_option (f x) []
    by_first None e = e
    by_first (Some y) e = ap (λ l. y ∷ l) e

some_last : {Y : Type 0} (o : Option Y) (y : Y) → o ≡ Some y → Member (cons_option o []) y
some_last o y e = subst (λ (p : Option _). Member (cons_option p []) y) (sym e) (inl refl)

last_some : {Y : Type 0} (o : Option Y) (y : Y) → Member (cons_option o []) y → o ≡ Some y
last_some None y m = absurd m
last_some (Some z) y (inl e) = ap Some e
last_some (Some z) y (inr none) = absurd none

numbered_there : (preds : List Scoped) (o : Option Scoped) (n : Option ℕ) (x : Scoped) → IsNumbered preds o n → o ≡ Some x → Member preds x
numbered_there preds None n x h e = absurd (cc)
numbered_there preds (Some s) None x h e = absurd h
numbered_there preds (Some s) (Some n) x h e = let f : s ≡ x = cc in member_at preds h.0 x (h.2 ∙ ap Some f)

stays_there : (old new : List Scoped) (x : Scoped) → ((k : ℕ) (y : Scoped) → slice_get old k ≡ Some y → slice_get new k ≡ Some y) → Member old x → Member new x
stays_there old new x kept m = let p = place_of old x m in member_at new p.0 x (kept p.0 x p.1)

pub found_none : (g : Graph) (preds : List Scoped) (numbers : List (Option ℕ)) → preds ≡ [] → numbers ≡ [] → AreFound g [] preds numbers
found_none g preds numbers e f = record {
  numbered = subst (λ (l : List (Option ℕ)). AllZip (λ line n. IsNumbered preds (pred_found g line) n) [] l) (sym f) tt;
  same = record { there = λ x m. subst (λ (l : List Scoped). Member l x) e m; back = λ x m. absurd m };
}

found_more : (g : Graph) (lines : List form.Pred) (line : form.Pred) (old new : List Scoped) (numbers more : List (Option ℕ)) → AreFound g lines old numbers →
    AddsFound old numbers (pred_found g line) new more → AreFound g (lines ++ line ∷ []) new more
found_more g lines line old new numbers more h a = record {
  numbered = subst (λ (l : List (Option ℕ)). AllZip (λ x n. IsNumbered new (pred_found g x) n) (lines ++ line ∷ []) l) (sym a.pushed)
      (zip_push (λ x n. IsNumbered old (pred_found g x) n) (λ x n. IsNumbered new (pred_found g x) n) lines numbers line a.number
      (λ x n k. numbered_stays old new (pred_found g x) n a.kept k) h.numbered a.numbered);
  same = subst (λ (l : List Scoped). SameMembers new l) (sym (found_push (pred_found g) lines line)) (record {
    there = λ x m. elim (a.only x m) [
      | inl o ↦ member_front (filter_map (pred_found g) lines) (cons_option (pred_found g line) []) x (h.same.there x o)
      | inr e ↦ member_rest (filter_map (pred_found g) lines) (cons_option (pred_found g line) []) x (some_last (pred_found g line) x e)
    ];
    back = λ x m. elim (member_split (filter_map (pred_found g) lines) (cons_option (pred_found g line) []) x m) [
      | inl i ↦ stays_there old new x a.kept (h.same.back x i)
      | inr j ↦ numbered_there new (pred_found g line) a.number x a.numbered (last_some (pred_found g line) x j)
    ];
  });
}

map_push : {X Y : Type 0} (f : X → Y) (xs : List X) (x : X) → map f (xs ++ x ∷ []) ≡ map f xs ++ f x ∷ []
map_push f [] x = refl
map_push f (z ∷ xs) x = ap (λ l. f z ∷ l) (map_push f xs x)

pub found_next : (g : Graph) (lines : List PredLine) (i : ℕ) (line : PredLine) (old new : List Scoped) (numbers more : List (Option ℕ)) (found : Option Scoped) →
    i < length lines → line ≡ get_or lines i line → found ≡ pred_found g (form.pred line) →
    AreFound g (map form.pred (take i lines)) old numbers → AddsFound old numbers found new more → AreFound g (map form.pred (take (i + 1) lines)) new more
found_next g lines i line old new numbers more found l e f h a =
    let k : map form.pred (take (i + 1) lines) ≡ map form.pred (take i lines) ++ form.pred line ∷ [] =
    ap (map form.pred) (take_more lines i line l ∙ ap (λ (z : PredLine). take i lines ++ z ∷ []) (sym e)) ∙ map_push form.pred (take i lines) line in
    subst (λ (ls : List form.Pred). AreFound g ls new more) (sym k)
    (found_more g (map form.pred (take i lines)) (form.pred line) old new numbers more h (subst (λ (o : Option Scoped). AddsFound old numbers o new more) f a))

pub found_all : (g : Graph) (lines : List PredLine) (i : ℕ) (preds : List Scoped) (numbers : List (Option ℕ)) → length lines ≤ i →
    AreFound g (map form.pred (take i lines)) preds numbers → AreFound g (map form.pred lines) preds numbers
found_all g lines i preds numbers l h = subst (λ (ls : List PredLine). AreFound g (map form.pred ls) preds numbers) (take_all i lines l) h
