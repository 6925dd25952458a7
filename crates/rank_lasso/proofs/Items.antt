-- Lists of items, each of which begins with a space, and what is at the front of bytes in one way only.
use Rattle.std.proofs.Common.{◌≡◌, ◌≢◌, ℕ, Bool, false, nat_eq, length, List, [], ◌∷◌, ◌++◌, Option, Some, None, refl, sym, ap, ◌∙◌, subst, append_assoc}
use Rattle.std.specs.Borrow.{Bor}
use Rattle.std.specs.List.{AllByRecursion, flat_map}
use Rattle.std.proofs.lemmas.Bool.{false≢true}
use Rattle.rank_lasso.specs.Lines.{IsBreak, Spells, ReadsItem}

-- where a list is tested not to be empty
pub not_empty : (bs : List ℕ) (b : Bool) → b ≡ nat_eq (length bs) 0 → b ≡ false → bs ≢ []
not_empty bs b e f n = false≢true (sym f ∙ e ∙ ap (λ (x : List ℕ). nat_eq (length x) 0) n)

-- what reading an item says, where it gives none, and where it gives one
pub no_item : {A : Type 0} (P : A → Type 0) (text : A → List ℕ) (bytes : List ℕ) (o : Option (A × Bor (List ℕ))) → o ≡ None → ReadsItem P text bytes o →
    (x : A) (more : List ℕ) → P x → IsBreak more → bytes ≢ text x ++ more
no_item P text bytes None e h = h
no_item P text bytes (Some r) e h = absurd (let n : ⊥ = cc in n)

pub an_item : {A : Type 0} (P : A → Type 0) (text : A → List ℕ) (bytes : List ℕ) (o : Option (A × Bor (List ℕ))) (r : A × Bor (List ℕ)) → o ≡ Some r → ReadsItem P text bytes o →
    P r.0 × IsBreak r.1.now × (bytes ≡ text r.0 ++ r.1.now)
an_item P text bytes None r e h = absurd (let n : ⊥ = cc in n)
an_item {A = A} P text bytes (Some s) r e h =
    let same : s ≡ r = cc in subst (λ (x : A × Bor (List ℕ)). P x.0 × IsBreak x.1.now × (bytes ≡ text x.0 ++ x.1.now)) same h

-- two such items that bytes begin with are one
abbrev pub IsOneItem : {A : Type 0} → (A → Type 0) → (A → List ℕ) → Type 0
IsOneItem {A} P text = (x y : A) (a b : List ℕ) → P x → P y → IsBreak a → IsBreak b → text x ++ a ≡ text y ++ b → (x ≡ y) × (a ≡ b)

-- the text of each item begins with a space
abbrev pub AreBegun : {A : Type 0} → (A → List ℕ) → Type 0
AreBegun {A} text = (x : A) → (t : List ℕ) × (text x ≡ 32 ∷ t)

-- The bytes begin with the texts of these items; what is the text of such a list goes on as one.
pub record AreItems {A : Type 0} (P : A → Type 0) (text : A → List ℕ) (bytes : List ℕ) (xs : List A) (rest : List ℕ) : Type 0 where
  pub each : AllByRecursion P xs
  pub spelled : bytes ≡ flat_map text xs ++ rest
  pub follows : Spells (AllByRecursion P) (flat_map text) bytes → Spells (AllByRecursion P) (flat_map text) rest

pub all_more : {A : Type 0} (P : A → Type 0) (xs : List A) (x : A) → AllByRecursion P xs → P x → AllByRecursion P (xs ++ x ∷ [])
all_more P [] x h p = (p, tt)
all_more P (y ∷ xs) x h p = (h.0, all_more P xs x h.1 p)

text_more : {A : Type 0} (text : A → List ℕ) (xs : List A) (x : A) (rest : List ℕ) → flat_map text xs ++ (text x ++ rest) ≡ flat_map text (xs ++ x ∷ []) ++ rest
text_more text [] x rest = sym (append_assoc (text x) [] rest)
text_more text (y ∷ xs) x rest =
    append_assoc (text y) (flat_map text xs) (text x ++ rest) ∙ ap (λ t. text y ++ t) (text_more text xs x rest) ∙ sym (append_assoc (text y) (flat_map text (xs ++ x ∷ [])) rest)

module _ {A : Type 0} (P : A → Type 0) (text : A → List ℕ) (begun : AreBegun text) (one : IsOneItem P text) where
  items_break : (xs : List A) → IsBreak (flat_map text xs)
  items_break [] = tt
  items_break (x ∷ xs) = rw (begun x).1 refl

  some_text : (x : A) (rest : List ℕ) → text x ++ rest ≢ []
  some_text x rest e = let b = (begun x).1 in let n : 32 ∷ ((begun x).0 ++ rest) ≡ [] = sym (ap (λ t. t ++ rest) b) ∙ e in let no : ⊥ = cc in no

  behind_of : (x : A) (rest : List ℕ) → P x → IsBreak rest → (ys : List A) → AllByRecursion P ys → text x ++ rest ≡ flat_map text ys → Spells (AllByRecursion P) (flat_map text) rest
  behind_of x rest p b [] h e = absurd (some_text x rest e)
  behind_of x rest p b (y ∷ ys) h e = (ys, h.1, (one x y rest (flat_map text ys) p h.0 b (items_break ys) e).1)

  -- one item more
  pub one_more : (bytes : List ℕ) (xs : List A) (rest : List ℕ) (x : A) (behind : List ℕ) → AreItems P text bytes xs rest → P x → IsBreak behind → rest ≡ text x ++ behind →
      AreItems P text bytes (xs ++ x ∷ []) behind
  one_more bytes xs rest x behind r p b e = record {
    each = all_more P xs x r.each p;
    spelled = r.spelled ∙ ap (λ t. flat_map text xs ++ t) e ∙ text_more text xs x behind;
    follows = λ h. let s = r.follows h in behind_of x behind p b s.0 s.1 (sym e ∙ s.2);
  }

  no_list : (bytes : List ℕ) → bytes ≢ [] → ((x : A) (rest : List ℕ) → P x → IsBreak rest → bytes ≢ text x ++ rest) → (ys : List A) → AllByRecursion P ys → bytes ≢ flat_map text ys
  no_list bytes some none [] h e = some e
  no_list bytes some none (y ∷ ys) h e = none y (flat_map text ys) h.0 (items_break ys) e

  -- where no item is at the front of what is left
  pub not_items : (bytes : List ℕ) (xs : List A) (rest : List ℕ) → AreItems P text bytes xs rest → rest ≢ [] → ((x : A) (more : List ℕ) → P x → IsBreak more → rest ≢ text x ++ more) →
      Spells (AllByRecursion P) (flat_map text) bytes → ⊥
  not_items bytes xs rest r some none h = let s = r.follows h in no_list rest some none s.0 s.1 s.2

  -- a list of items is told by its text
  pub same_items : (xs ys : List A) → AllByRecursion P xs → AllByRecursion P ys → flat_map text xs ≡ flat_map text ys → xs ≡ ys
  same_items [] [] h k e = refl
  same_items [] (y ∷ ys) h k e = absurd (some_text y (flat_map text ys) (sym e))
  same_items (x ∷ xs) [] h k e = absurd (some_text x (flat_map text xs) e)
  same_items (x ∷ xs) (y ∷ ys) h k e =
      let f = one x y (flat_map text xs) (flat_map text ys) h.0 k.0 (items_break xs) (items_break ys) e in
      let r = same_items xs ys h.1 k.1 f.1 in
      let a = f.0 in cc
