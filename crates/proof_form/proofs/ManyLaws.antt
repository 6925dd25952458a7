-- As many of something as follow: what a loop has read, and what is spelled so.
use Rattle.std.proofs.Common.{◌≡◌, ℕ, zero, suc, ◌+◌, ◌-◌, ◌<◌, ◌≤◌, Bool, true, false, cond, List, [], ◌∷◌, ◌++◌, length, map, Option, Some, None, refl, sym, ap, ◌∙◌, subst, arith, append_assoc}
use Rattle.std.proofs.lemmas.List.{append-nil, map_push}
use Rattle.std.proofs.lemmas.Option.{some_pair_parts, same_Some}
use Rattle.std.specs.List.{flat_map, AllByRecursion}
use Rattle.proof_form.specs.Outcomes.{◌>>=◌}
use Rattle.proof_form.specs.Reading.{many, more_follow, all_read}
use Rattle.proof_form.proofs.AfterLaws.{bind_some}

-- the items so far, then those that are read from the rest
abbrev pub with_front : {A : Type 0} → List A → Option (List A × List ℕ) → Option (List A × List ℕ)
with_front front read = read >>= λ xs. Some (front ++ xs.0, xs.1)

-- they are what the whole is read as
pub record Reached {A : Type 0} (front : List A) (left whole : Option (List A × List ℕ)) : Type 0 where
  pub reached : with_front front left ≡ whole

with_front-nothing : {A : Type 0} (o : Option (List A × List ℕ)) → with_front [] o ≡ o
with_front-nothing None = refl
with_front-nothing (Some x) = refl

with_front-one : {A : Type 0} (front : List A) (x : A) (o : Option (List A × List ℕ)) → with_front front (o >>= λ xs. Some (x ∷ xs.0, xs.1)) ≡ with_front (front ++ x ∷ []) o
with_front-one front x None = refl
with_front-one front x (Some xs) = ap (λ zs. Some (zs, xs.1)) (sym (append_assoc front (x ∷ []) xs.0))

-- one more in the code is one more in what contracts see
pub pushed : {C X : Type 0} (view : C → X) (xs ys : List C) (x : C) → ys ≡ xs ++ x ∷ [] → map view ys ≡ map view xs ++ view x ∷ []
pushed view xs ys x e = rw e (map_push view xs x)

pub none_pushed : {C X : Type 0} (view : C → X) (xs : List C) → xs ≡ [] → map view xs ≡ []
none_pushed view xs e = rw e refl

-- what was read, if it was all
pub all_read_some : {A : Type 0} (o : Option (A × List ℕ)) (x : A) (rest : List ℕ) → o ≡ Some (x, rest) → more_follow rest ≡ false → (o >>= all_read) ≡ Some x
all_read_some o x rest e h = rw (e, h) refl

pub all_read_none : {A : Type 0} (o : Option (A × List ℕ)) (x : A) (rest : List ℕ) → o ≡ Some (x, rest) → more_follow rest ≡ true → (o >>= all_read) ≡ None
all_read_none o x rest e h = rw (e, h) refl

pub none_read : {A : Type 0} (o : Option (A × List ℕ)) → o ≡ None → (o >>= all_read) ≡ None
none_read o e = rw e refl

pub all_was_read : {A : Type 0} (x y : A) (rest : List ℕ) → all_read (x, rest) ≡ Some y → (rest ≡ []) × (x ≡ y)
all_was_read x y [] h = (refl, same_Some x y h)
all_was_read x y (b ∷ rest) h = absurd (let no : ⊥ = cc in no)

-- one more in front
abbrev put_front : {A : Type 0} → A → List A × List ℕ → Option (List A × List ℕ)
put_front x ys = Some (x ∷ ys.0, ys.1)

module _ {A : Type 0} (item : List ℕ → Option (A × List ℕ)) (goes : List ℕ → Bool) where
  -- before the first turn
  pub begins : (n m : ℕ) (front : List A) (bs : List ℕ) → front ≡ [] → n ≡ m → Reached front (many item goes n bs) (many item goes m bs)
  begins n m front bs none e = record { reached = rw (none, e) (with_front-nothing (many item goes m bs)) }

  turn : (n i : ℕ) (front : List A) (bs : List ℕ) (whole : Option (List A × List ℕ)) → i < n → Reached front (many item goes (n - i) bs) whole
      → with_front front (many item goes (suc (n - (i + 1))) bs) ≡ whole
  turn n i front bs whole l r = let e : n - i ≡ suc (n - (i + 1)) = omega arith in subst (λ (k : ℕ). with_front front (many item goes k bs) ≡ whole) e r.reached

  -- no more of them follow
  pub stops : (n i : ℕ) (front : List A) (bs : List ℕ) (whole : Option (List A × List ℕ)) → i < n → Reached front (many item goes (n - i) bs) whole → goes bs ≡ false
      → whole ≡ Some (front, bs)
  unfolding many
  stops n i front bs whole l r h = let t = turn n i front bs whole l r in let u = rw h at t in sym u ∙ ap (λ zs. Some (zs, bs)) (append-nil front)

  -- no turn is left
  pub ends : (n : ℕ) (front : List A) (bs : List ℕ) (whole : Option (List A × List ℕ)) → n ≡ 0 → Reached front (many item goes n bs) whole
      → whole ≡ Some (front, bs)
  unfolding many
  ends n front bs whole e r = let u = rw e at r.reached in sym u ∙ ap (λ zs. Some (zs, bs)) (append-nil front)

  -- one more of them should follow, and does not
  pub fails : (n i : ℕ) (front : List A) (bs : List ℕ) (whole : Option (List A × List ℕ)) → i < n → Reached front (many item goes (n - i) bs) whole → goes bs ≡ true → item bs ≡ None
      → whole ≡ None
  unfolding many
  fails n i front bs whole l r h none = let t = turn n i front bs whole l r in let u = rw (h, none) at t in sym u

  -- one more of them follows
  pub goes_on : (n i : ℕ) (front more : List A) (x : A) (bs rest : List ℕ) (whole : Option (List A × List ℕ)) → i < n → Reached front (many item goes (n - i) bs) whole → goes bs ≡ true
      → item bs ≡ Some (x, rest) → more ≡ front ++ x ∷ [] → Reached more (many item goes (n - (i + 1)) rest) whole
  unfolding many
  goes_on n i front more x bs rest whole l r h read e =
      let t = turn n i front bs whole l r in
      let u = rw (h, read) at t in
      record { reached = rw e (sym (with_front-one front x (many item goes (n - (i + 1)) rest)) ∙ u) }

  turn_spells : (text : A → List ℕ) → ((bs : List ℕ) (x : A) (rest : List ℕ) → item bs ≡ Some (x, rest) → bs ≡ text x ++ rest)
      → (k : ℕ) (bs : List ℕ) (xs : List A) (rest : List ℕ) (t : Bool) → cond t (item bs >>= λ x. many item goes k x.1 >>= put_front x.0) (Some ([], bs)) ≡ Some (xs, rest)
      → ((bs : List ℕ) (xs : List A) (rest : List ℕ) → many item goes k bs ≡ Some (xs, rest) → bs ≡ flat_map text xs ++ rest) → bs ≡ flat_map text xs ++ rest
  turn_spells text one k bs xs rest false e more = let p = some_pair_parts [] xs bs rest e in p.1 ∙ ap (λ zs. flat_map text zs ++ rest) p.0
  turn_spells text one k bs xs rest true e more =
      let first = bind_some (item bs) _ (xs, rest) e in
      let others = bind_some (many item goes k first.0.1) (put_front first.0.0) (xs, rest) first.2 in
      let p = some_pair_parts (first.0.0 ∷ others.0.0) xs others.0.1 rest others.2 in
      one bs first.0.0 first.0.1 first.1 ∙ ap (λ r. text first.0.0 ++ r) (more first.0.1 others.0.0 others.0.1 others.1)
      ∙ sym (append_assoc (text first.0.0) (flat_map text others.0.0) others.0.1)
      ∙ ap (λ r. flat_map text (first.0.0 ∷ others.0.0) ++ r) p.1 ∙ ap (λ zs. flat_map text zs ++ rest) p.0

  -- what is read is spelled so
  pub many_spell : (text : A → List ℕ) → ((bs : List ℕ) (x : A) (rest : List ℕ) → item bs ≡ Some (x, rest) → bs ≡ text x ++ rest)
      → (k : ℕ) (bs : List ℕ) (xs : List A) (rest : List ℕ) → many item goes k bs ≡ Some (xs, rest) → bs ≡ flat_map text xs ++ rest
  unfolding many
  many_spell text one zero bs xs rest h = let p = some_pair_parts [] xs bs rest h in p.1 ∙ ap (λ zs. flat_map text zs ++ rest) p.0
  many_spell text one (suc k) bs xs rest h = turn_spells text one k bs xs rest (goes bs) h (many_spell text one k)

  -- What is spelled so is read. What follows is so that no more of them are read, and each is read where such bytes follow.
  pub many_read : (text : A → List ℕ) (Valid : A → Type 0) (Follows : List ℕ → Type 0)
      → ((x : A) (rest : List ℕ) → Valid x → Follows rest → (goes (text x ++ rest) ≡ true) × (item (text x ++ rest) ≡ Some (x, rest)) × Follows (text x ++ rest))
      → (k : ℕ) (xs : List A) (rest : List ℕ) → length xs ≤ k → AllByRecursion Valid xs → Follows rest → goes rest ≡ false
      → (many item goes k (flat_map text xs ++ rest) ≡ Some (xs, rest)) × Follows (flat_map text xs ++ rest)
  unfolding many
  many_read text Valid Follows one zero [] rest l v f h = (refl, f)
  many_read text Valid Follows one zero (x ∷ xs) rest l v f h = absurd (omega arith)
  many_read text Valid Follows one (suc k) [] rest l v f h = (rw h refl, f)
  many_read text Valid Follows one (suc k) (x ∷ xs) rest l v f h =
      let others = many_read text Valid Follows one k xs rest (omega arith) v.1 f h in
      let first = one x (flat_map text xs ++ rest) v.0 others.1 in
      let regrouped : flat_map text (x ∷ xs) ++ rest ≡ text x ++ (flat_map text xs ++ rest) = append_assoc (text x) (flat_map text xs) rest in
      (ap (many item goes (suc k)) regrouped ∙ rw (first.0, first.1, others.0) refl, subst Follows (sym regrouped) first.2)

-- whether there are more bytes
pub nothing_follows : (bs : List ℕ) → false ≡ more_follow bs → bs ≡ []
nothing_follows [] h = refl
nothing_follows (b ∷ bs) h = absurd (let no : ⊥ = cc in no)

pub something_follows : (bs : List ℕ) → true ≡ more_follow bs → bs ≡ [] → ⊥
something_follows [] h e = let no : ⊥ = cc in no
something_follows (b ∷ bs) h e = let no : ⊥ = cc in no
