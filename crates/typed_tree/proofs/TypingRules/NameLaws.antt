-- Names that differ, found by a look-up.
use Rattle.std.proofs.Common.{◌≡◌, ℕ, ◌+◌, ◌<◌, Bool, true, false, cond, ◌||◌, List, [], ◌∷◌, ◌++◌, length, take, drop, get_or, Option, Some, is_some, refl, ap, sym, ◌∙◌, Decides}
use Rattle.std.specs.List.{list_any}
use Rattle.std.specs.Map.{update}
use Rattle.std.specs.Str.{bytes_eq}
use Rattle.std.specs.Borrow.{Bor}
use Rattle.std.proofs.lemmas.Slice.Eq.{bytes_eq-Decides}
use Rattle.std.proofs.lemmas.List.{take_more, map-append, take-append-drop, drop_more}
use Rattle.std.proofs.lemmas.List.Folds.{list_any-append}
use Rattle.typed_tree.specs.TypingRules.Rules.{all_differ}
use Rattle.typed_tree.specs.TypingRules.Ties.Texts.{texts}
use Rattle.typed_tree.proofs.TypingRules.Differ.{all_differ_push, all_differ_repeat}

pub bytes_eq_turns : (a b : List ℕ) → bytes_eq a b ≡ bytes_eq b a
bytes_eq_turns a b = turned (bytes_eq a b) (bytes_eq b a) (bytes_eq-Decides a b) (bytes_eq-Decides b a)
  where
    turned : (x y : Bool) → Decides x (a ≡ b) → Decides y (b ≡ a) → x ≡ y
    turned true y d e = sym (e.1 (sym (d.0 refl)))
    turned false true d e = d.1 (sym (e.0 refl))
    turned false false d e = refl

-- ---- the names behind slices, as a loop reads them

module _ (names : List (Bor (List ℕ))) (i : ℕ) (d : Bor (List ℕ)) (l : i < length names) where
  texts-take : texts (take (i + 1) names) ≡ texts (take i names) ++ (get_or names i d).now ∷ []
  texts-take = ap texts (take_more names i d l) ∙ map-append (λ (y : Bor (List ℕ)). y.now) (take i names) (get_or names i d ∷ [])

  texts-split : texts names ≡ texts (take i names) ++ (get_or names i d).now ∷ texts (drop (i + 1) names)
  texts-split =
      ap texts (sym (take-append-drop i names)) ∙ ap (λ (rest : List (Bor (List ℕ))). texts (take i names ++ rest)) (drop_more names i d l)
      ∙ map-append (λ (y : Bor (List ℕ)). y.now) (take i names) (get_or names i d ∷ drop (i + 1) names)

  -- a name that stands before stands twice
  pub name_repeated : list_any (bytes_eq (get_or names i d).now) (texts (take i names)) ≡ true → all_differ bytes_eq (texts names) ≡ false
  name_repeated h =
      ap (all_differ bytes_eq) texts-split
      ∙ all_differ_repeat bytes_eq bytes_eq_turns (texts (take i names)) (get_or names i d).now (texts (drop (i + 1) names)) h

  -- one more name that does not stand before
  pub names_differ_more : all_differ bytes_eq (texts (take i names)) ≡ true → list_any (bytes_eq (get_or names i d).now) (texts (take i names)) ≡ false →
      all_differ bytes_eq (texts (take (i + 1) names)) ≡ true
  names_differ_more h n =
      ap (all_differ bytes_eq) texts-take ∙ all_differ_push bytes_eq bytes_eq_turns (texts (take i names)) (get_or names i d).now h n

  -- a look-up that finds the names before, with one more name
  pub found_more : (old new : List ℕ → Option Bool) (v : Bool) →
      ((q : List ℕ) → is_some (old q) ≡ list_any (bytes_eq q) (texts (take i names))) →
      ((q : List ℕ) → new q ≡ update bytes_eq old (get_or names i d).now (Some v) q) →
      (q : List ℕ) → is_some (new q) ≡ list_any (bytes_eq q) (texts (take (i + 1) names))
  found_more old new v h u q =
      ap is_some (u q)
      ∙ more (bytes_eq (get_or names i d).now q) (bytes_eq q (get_or names i d).now) (old q) (list_any (bytes_eq q) (texts (take i names)))
      (bytes_eq_turns (get_or names i d).now q) (h q)
      ∙ sym (list_any-append (bytes_eq q) (texts (take i names)) ((get_or names i d).now ∷ []))
      ∙ sym (ap (list_any (bytes_eq q)) texts-take)
    where
      more : (b e : Bool) (o : Option Bool) (t : Bool) → b ≡ e → is_some o ≡ t → is_some (cond b (Some v) o) ≡ (t || (e || false))
      more true e o true g f = refl
      more true e o false g f = let k : e ≡ true = sym g in rw k refl
      more false e o true g f = f
      more false e o false g f = let k : e ≡ false = sym g in rw k f
