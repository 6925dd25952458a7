-- The numbers of names.
use Rattle.std.proofs.Common.{◌≡◌, ℕ, ◌+◌, ◌<◌, Bool, true, false, cond, ◌||◌, List, [], ◌∷◌, ◌++◌, length, take, drop, get_or, Option, None, Some, is_some, if◌then◌else◌, Contains, ⊎_elim, refl, ap, sym, ◌∙◌, subst, arith, Decides}
use Rattle.std.specs.List.{list_any, position_from}
use Rattle.std.specs.Option.{option_or}
use Rattle.std.specs.Map.{update}
use Rattle.std.specs.Str.{bytes_eq}
use Rattle.std.specs.Borrow.{Bor}
use Rattle.std.proofs.lemmas.Bool.{cases_Bool, false≢true}
use Rattle.std.proofs.lemmas.Slice.Eq.{bytes_eq-Decides}
use Rattle.std.proofs.lemmas.List.Folds.{Any-from_list_any}
use Rattle.std.proofs.lemmas.List.{take_more, map-append, length-map, take-append-drop, drop_more, length-take-le}
use Rattle.boogie_tree.specs.declared.tree.Name.{Name}
use Rattle.boogie_types.specs.BrokenNames.{IsSecond}
use Rattle.boogie_types.specs.Resolved.{is_set}
use Rattle.boogie_types.specs.Ties.Numbers.{named_by, texts, number_of_name}
use Rattle.boogie_types.proofs.Differ.{all_differ_push}

-- ---- whether two texts are the same

pub bytes_eq_turns : (a b : List ℕ) → bytes_eq a b ≡ bytes_eq b a
bytes_eq_turns a b = turned (bytes_eq a b) (bytes_eq b a) (bytes_eq-Decides a b) (bytes_eq-Decides b a)
  where
    turned : (x y : Bool) → Decides x (a ≡ b) → Decides y (b ≡ a) → x ≡ y
    turned true y d e = sym (e.1 (sym (d.0 refl)))
    turned false true d e = d.1 (sym (e.0 refl))
    turned false false d e = refl

-- ---- places

-- the first element or the rest
at_head : (b : Bool) (k : ℕ) (r s o : Option ℕ) → r ≡ option_or s o → cond b (Some k) r ≡ option_or (cond b (Some k) s) o
at_head true k r s o h = refl
at_head false k r s o h = h

position_from-push : {X : Type 0} (t : X → Bool) (i : ℕ) (xs : List X) (x : X) →
    position_from t i (xs ++ x ∷ []) ≡ option_or (position_from t i xs) (if t x then Some (i + length xs) else None)
position_from-push t i [] x = ap (λ (k : ℕ). cond (t x) (Some k) None) (omega arith)
position_from-push t i (y ∷ xs) x =
    let e : (i + 1) + length xs ≡ i + length (y ∷ xs) = omega arith in
    at_head (t y) i (position_from t (i + 1) (xs ++ x ∷ [])) (position_from t (i + 1) xs) (if t x then Some (i + length (y ∷ xs)) else None)
    (position_from-push t (i + 1) xs x ∙ ap (λ (k : ℕ). option_or (position_from t (i + 1) xs) (if t x then Some k else None)) e)

head_some : (b : Bool) (k : ℕ) (r : Option ℕ) (c : Bool) → is_some r ≡ c → is_some (cond b (Some k) r) ≡ (b || c)
head_some true k r c h = refl
head_some false k r c h = h

-- there is a place where some element passes
position_some : {X : Type 0} (t : X → Bool) (i : ℕ) (xs : List X) → is_some (position_from t i xs) ≡ list_any t xs
position_some t i [] = refl
position_some t i (x ∷ xs) = head_some (t x) i (position_from t (i + 1) xs) (list_any t xs) (position_some t (i + 1) xs)

pub place_some : (names : List (List ℕ)) (name : List ℕ) → is_some (number_of_name names name) ≡ list_any (bytes_eq name) names
place_some names name = position_some (bytes_eq name) 0 names

position_below : {X : Type 0} (t : X → Bool) (i : ℕ) (xs : List X) (k : ℕ) → position_from t i xs ≡ Some k → k < i + length xs
position_below t i [] k e = absurd (false≢true (let x : false ≡ true = cc in x))
position_below t i (x ∷ xs) k e = by_head (t x) e (λ f. position_below t (i + 1) xs k f)
  where
    by_head : (b : Bool) → cond b (Some i) (position_from t (i + 1) xs) ≡ Some k →
        (position_from t (i + 1) xs ≡ Some k → k < (i + 1) + length xs) → k < i + length (x ∷ xs)
    by_head true e rest = let n : i ≡ k = cc in omega arith
    by_head false e rest = omega (arith, rest e)

-- the number of a name is below how many there are
pub place_below : (names : List (List ℕ)) (name : List ℕ) (k : ℕ) → number_of_name names name ≡ Some k → k < length names
place_below names name k e = omega (arith, position_below (bytes_eq name) 0 names k e)

-- ---- one more name

push_here : (names : List (List ℕ)) (x q : List ℕ) → x ≡ q → is_some (number_of_name names x) ≡ false →
    number_of_name (names ++ x ∷ []) q ≡ Some (length names)
push_here names x q e n =
    let p = position_from-push (bytes_eq q) 0 names x in
    let b : bytes_eq q x ≡ true = (bytes_eq-Decides q x).1 (sym e) in
    let o : number_of_name names q ≡ None = none (number_of_name names q) (subst (λ (t : List ℕ). is_some (number_of_name names t) ≡ false) e n) in
    p ∙ ap (λ (u : Option ℕ). option_or u (if bytes_eq q x then Some (0 + length names) else None)) o
    ∙ ap (λ (t : Bool). if t then Some (0 + length names) else None) b ∙ ap (λ (k : ℕ). Some k) (omega arith)
  where
    none : (o : Option ℕ) → is_some o ≡ false → o ≡ None
    none None h = refl
    none (Some k) h = absurd (false≢true (sym h))

push_other : (names : List (List ℕ)) (x q : List ℕ) → bytes_eq x q ≡ false → number_of_name (names ++ x ∷ []) q ≡ number_of_name names q
push_other names x q e =
    position_from-push (bytes_eq q) 0 names x
    ∙ ap (λ (t : Bool). option_or (number_of_name names q) (if t then Some (0 + length names) else None)) (bytes_eq_turns q x ∙ e)
    ∙ whole (number_of_name names q)
  where
    whole : (o : Option ℕ) → option_or o None ≡ o
    whole None = refl
    whole (Some k) = refl

-- a look-up that gives the number of each name, with one more name at the end
pub numbers_push : (names : List (List ℕ)) (x : List ℕ) (old new : List ℕ → Option ℕ) → ((q : List ℕ) → old q ≡ number_of_name names q) →
    is_some (number_of_name names x) ≡ false → ((q : List ℕ) → new q ≡ update bytes_eq old x (Some (length names)) q) →
    (q : List ℕ) → new q ≡ number_of_name (names ++ x ∷ []) q
numbers_push names x old new h n u q =
    ⊎_elim
    (λ (e : bytes_eq x q ≡ true).
    u q ∙ ap (λ (t : Bool). cond t (Some (length names)) (old q)) e ∙ sym (push_here names x q ((bytes_eq-Decides x q).0 e) n))
    (λ (e : bytes_eq x q ≡ false).
    u q ∙ ap (λ (t : Bool). cond t (Some (length names)) (old q)) e ∙ h q ∙ sym (push_other names x q e))
    (cases_Bool (bytes_eq x q))

-- ---- names of a list, and their texts

pub any-texts : (q : List ℕ) (xs : List Name) → list_any (bytes_eq q) (texts xs) ≡ list_any (λ (y : Name). bytes_eq q y.text) xs
any-texts q [] = refl
any-texts q (x ∷ xs) = ap (λ (b : Bool). bytes_eq q x.text || b) (any-texts q xs)

-- a member that passes the test
pub any_member : {X : Type 0} (t : X → Bool) (xs : List X) → list_any t xs ≡ true → (y : X) × Contains xs y × (t y ≡ true)
any_member t xs h = let r = Any-from_list_any t xs h in (r.1, (r.0, r.2, r.3), r.4)

-- ---- the names behind references, as a loop reads them

module _ (items : List (Bor Name)) (i : ℕ) (x : Bor Name) (here : x ≡ get_or items i x) (l : i < length items) where
  -- the names before a place, and the one there
  names-take : named_by (take (i + 1) items) ≡ named_by (take i items) ++ x.now ∷ []
  names-take =
      ap named_by (take_more items i x l) ∙ map-append (λ (y : Bor Name). y.now) (take i items) (get_or items i x ∷ [])
      ∙ ap (λ (y : Bor Name). named_by (take i items) ++ y.now ∷ []) (sym here)

  texts-take : texts (named_by (take (i + 1) items)) ≡ texts (named_by (take i items)) ++ x.now.text ∷ []
  texts-take = ap texts names-take ∙ map-append (λ (y : Name). y.text) (named_by (take i items)) (x.now ∷ [])

  length-texts-take : length (texts (named_by (take i items))) ≡ i
  length-texts-take =
      length-map (named_by (take i items)) (λ (y : Name). y.text)
      ∙ length-map (take i items) (λ (y : Bor Name). y.now) ∙ length-take-le i items (omega arith)

  names-split : named_by items ≡ named_by (take i items) ++ x.now ∷ named_by (drop (i + 1) items)
  names-split =
      ap named_by (sym (take-append-drop i items)) ∙ ap (λ (rest : List (Bor Name)). named_by (take i items ++ rest)) (drop_more items i x l)
      ∙ map-append (λ (y : Bor Name). y.now) (take i items) (get_or items i x ∷ drop (i + 1) items)
      ∙ ap (λ (y : Bor Name). named_by (take i items) ++ y.now ∷ named_by (drop (i + 1) items)) (sym here)

  place_any : (b : Bool) → is_some (number_of_name (texts (named_by (take i items))) x.now.text) ≡ b →
      list_any (λ (y : Name). bytes_eq x.now.text y.text) (named_by (take i items)) ≡ b
  place_any b h =
      sym (any-texts x.now.text (named_by (take i items))) ∙ sym (place_some (texts (named_by (take i items))) x.now.text) ∙ h

  -- a name that has a number already stands there before
  pub name_repeated : is_some (number_of_name (texts (named_by (take i items))) x.now.text) ≡ true → IsSecond (named_by items) x.now
  name_repeated h =
      let m = any_member (λ (y : Name). bytes_eq x.now.text y.text) (named_by (take i items)) (place_any true h) in
      (named_by (take i items), named_by (drop (i + 1) items), m.0, names-split, m.1, m.2)

  -- one more name that has no number yet
  pub names_differ_more : is_set (named_by (take i items)) ≡ true → is_some (number_of_name (texts (named_by (take i items))) x.now.text) ≡ false →
      is_set (named_by (take (i + 1) items)) ≡ true
  names_differ_more h n =
      ap is_set names-take
      ∙ all_differ_push (λ (y z : Name). bytes_eq y.text z.text) (λ (y z : Name). bytes_eq_turns y.text z.text) (named_by (take i items)) x.now h
      (place_any false n)

  pub numbers_more : (old new : List ℕ → Option ℕ) →
      ((q : List ℕ) → old q ≡ number_of_name (texts (named_by (take i items))) q) → is_some (number_of_name (texts (named_by (take i items))) x.now.text) ≡ false →
      ((q : List ℕ) → new q ≡ update bytes_eq old x.now.text (Some i) q) →
      (q : List ℕ) → new q ≡ number_of_name (texts (named_by (take (i + 1) items))) q
  numbers_more old new h n u q =
      let e : length (texts (named_by (take i items))) ≡ i = length-texts-take in
      numbers_push (texts (named_by (take i items))) x.now.text old new h n
      (λ (p : List ℕ). u p ∙ ap (λ (k : ℕ). update bytes_eq old x.now.text (Some k) p) (sym e)) q
      ∙ ap (λ (names : List (List ℕ)). number_of_name names q) (sym texts-take)
