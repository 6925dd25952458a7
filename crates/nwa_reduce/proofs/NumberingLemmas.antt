-- Names for states of one class, whatever the classes.
use Rattle.std.proofs.Common.{◌≡◌, ◌∙◌, ◌<◌, ◌≤◌, ◌+◌, ℕ, Bool, true, false, cond, List, [], ◌∷◌, ◌++◌, Option, None, Some, length, slice_get, refl, sym, ap, subst, inl, inr, arith, eqb}
use Rattle.std.proofs.lemmas.Bool.{cases_lt}
use Rattle.std.specs.List.{list_any}
use Rattle.nwa_base.specs.Automata.{Automaton}
use Rattle.nwa_base.specs.Members.{Member}
use Rattle.nwa_reduce.specs.Ties.Naming.{name_at}
use Rattle.nwa_reduce.specs.Ties.Folding.{IsTotal}
use Rattle.nwa_reduce.proofs.ListLemmas.{get_within, get_there, get_front, get_last, get_push, member_get, number_absent, same_some}
use Rattle.nwa_reduce.proofs.NameLemmas.{name_of}

-- The first states have names below the count, and each number below it is one of them.
pub record IsNumbering (names : List (Option ℕ)) (states count : ℕ) : Type 0 where
  pub long : length names ≡ states
  pub few : count ≤ states
  pub some : (q : ℕ) (o : Option ℕ) → slice_get names q ≡ Some o → (x : ℕ) × (o ≡ Some x) × (x < count)
  pub onto : (x : ℕ) → x < count → (q : ℕ) × (slice_get names q ≡ Some (Some x))

nothing_at : (q : ℕ) (o : Option ℕ) → slice_get [] q ≡ Some o → (x : ℕ) × (o ≡ Some x) × (x < 0)
nothing_at q o g = let f : None ≡ Some o = g in cc

begun : IsNumbering [] 0 0
begun = record { long = refl; few = omega arith; some = nothing_at; onto = λ x l. absurd (omega arith) }

pub numbering_none : (names : List (Option ℕ)) (found : List ℕ) → names ≡ [] → found ≡ [] → IsNumbering names 0 (length found)
numbering_none names found e f =
    subst (λ (l : List (Option ℕ)). IsNumbering l 0 (length found)) (sym e) (subst (λ (l : List ℕ). IsNumbering [] 0 (length l)) (sym f) begun)

length_push : {X : Type 0} (xs : List X) (y : X) → length (xs ++ y ∷ []) ≡ length xs + 1
length_push [] y = refl
length_push (z ∷ xs) y = let e = length_push xs y in omega arith

-- a state with a name that there is
named_old : (names : List (Option ℕ)) (states count x : ℕ) → IsNumbering names states count → x < count → IsNumbering (names ++ Some x ∷ []) (states + 1) count
named_old names states count x h l = record {
  long = let e = h.long in let f = length_push names (Some x) in omega arith;
  few = let e = h.few in omega arith;
  some = λ q o g. elim (get_push names (Some x) q o g) [ inl a ↦ h.some q o a | inr b ↦ (x, sym b.1, l) ];
  onto = λ y k. let r = h.onto y k in (r.0, get_front names (Some x ∷ []) r.0 (Some y) r.1);
}

last_name : (names : List (Option ℕ)) (count y : ℕ) → count ≡ y → slice_get (names ++ Some count ∷ []) (length names) ≡ Some (Some y)
last_name names count y e = subst (λ (z : ℕ). slice_get (names ++ Some count ∷ []) (length names) ≡ Some (Some z)) e (get_last names (Some count))

-- a state with a new name
named_new : (names : List (Option ℕ)) (states count : ℕ) → IsNumbering names states count → IsNumbering (names ++ Some count ∷ []) (states + 1) (count + 1)
named_new names states count h = record {
  long = let e = h.long in let f = length_push names (Some count) in omega arith;
  few = let e = h.few in omega arith;
  some = λ q o g.
      elim (get_push names (Some count) q o g) [
        | inl a ↦ let r = h.some q o a in let l = r.2 in (r.0, r.1, omega arith)
        | inr b ↦ (count, sym b.1, omega arith)
      ];
  onto = λ y k.
      elim (cases_lt y count) [
        | inl l ↦ let r = h.onto y l in (r.0, get_front names (Some count ∷ []) r.0 (Some y) r.1)
        | inr l ↦ (length names, last_name names count y (omega arith))
      ];
}

-- the place of a class that was found, and of one that was not
place_old : (keys : List ℕ) (place y : ℕ) → slice_get keys place ≡ Some y → place < length keys
place_old keys place y g = get_within keys place y g

place_new : (keys : List ℕ) (c place : ℕ) → (Member keys c → ⊥) → slice_get (keys ++ c ∷ []) place ≡ Some c → place ≡ length keys
place_new keys c place n g = elim (get_push keys c place c g) [ inl a ↦ absurd (n (member_get keys place c a)) | inr b ↦ b.0 ]

numbering_on : (b : Bool) (names : List (Option ℕ)) (states : ℕ) (keys new : List ℕ) (c place : ℕ) → IsNumbering names states (length keys) →
    new ≡ cond b keys (keys ++ c ∷ []) → slice_get new place ≡ Some c → (b ≡ false → Member keys c → ⊥) →
    IsNumbering (names ++ Some place ∷ []) (states + 1) (length new)
numbering_on true names states keys new c place h e g n =
    let w : place < length keys = place_old keys place c (subst (λ (l : List ℕ). slice_get l place ≡ Some c) e g) in
    subst (λ (l : List ℕ). IsNumbering (names ++ Some place ∷ []) (states + 1) (length l)) (sym e) (named_old names states (length keys) place h w)
numbering_on false names states keys new c place h e g n =
    let w : place ≡ length keys = place_new keys c place (n refl) (subst (λ (l : List ℕ). slice_get l place ≡ Some c) e g) in
    subst (λ (l : List ℕ). IsNumbering (names ++ Some place ∷ []) (states + 1) (length l)) (sym e)
    (subst (λ (k : ℕ). IsNumbering (names ++ Some place ∷ []) (states + 1) k) (sym (length_push keys c))
    (subst (λ (k : ℕ). IsNumbering (names ++ Some k ∷ []) (states + 1) (length keys + 1)) (sym w) (named_new names states (length keys) h)))

-- one state more
pub numbering_more : (b : Bool) (names names' : List (Option ℕ)) (states : ℕ) (keys new : List ℕ) (c place : ℕ) → IsNumbering names states (length keys) →
    b ≡ list_any (eqb c) keys → new ≡ cond b keys (keys ++ c ∷ []) → slice_get new place ≡ Some c → names' ≡ names ++ Some place ∷ [] →
    IsNumbering names' (states + 1) (length new)
numbering_more b names names' states keys new c place h t e g f =
    subst (λ (l : List (Option ℕ)). IsNumbering l (states + 1) (length new)) (sym f)
    (numbering_on b names states keys new c place h e g (λ n. number_absent keys c (sym t ∙ n)))

-- all states
pub numbering_all : (m : Automaton) (names : List (Option ℕ)) (states count : ℕ) → IsNumbering names states count → states ≡ m.states → IsTotal m names count
numbering_all m names states count h e = record {
  few = let f = h.few in omega arith;
  within = λ q x g.
      let r = h.some q (Some x) (name_of names q x g) in
      let i : x ≡ r.0 = same_some x r.0 r.1 in
      let l = r.2 in
      omega arith;
  total = λ q l.
      let f = h.long in
      let g = get_there names q (omega arith) in
      let r = h.some q g.0 g.1 in
      (r.0, ap name_at g.1 ∙ r.1);
  onto = λ x l.
      let r = h.onto x l in
      let w = get_within names r.0 (Some x) r.1 in
      let f = h.long in
      (r.0, omega arith, ap name_at r.1);
}
