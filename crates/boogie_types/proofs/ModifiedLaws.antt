-- The numbers of modified globals.
use Rattle.std.proofs.Common.{◌≡◌, ℕ, ◌+◌, ◌<◌, Bool, true, false, cond, nat_eq, eqb-true, ◌||◌, List, [], ◌∷◌, ◌++◌, map, length, drop, reverse, get_or, zero, suc, Option, None, Some, if◌then◌else◌, Contains, Vec, Global, ⊎_elim, refl, ap, sym, ◌∙◌, subst, append_assoc, append-nil, arith}
use Rattle.std.specs.Prelude.{option_and_then}
use Rattle.std.specs.List.{list_any}
use Rattle.std.specs.Ordering.{nat_cmp}
use Rattle.std.specs.BTreeMap.{is_at}
use Rattle.std.proofs.lemmas.Bool.Decides.{nat_tests}
use Rattle.std.proofs.lemmas.Option.{same_Some}
use Rattle.std.proofs.lemmas.List.Elements.{Contains-append_left, Contains-append_right}
use Rattle.std.proofs.lemmas.List.{drop_more, reverse-append}
use Rattle.boogie_tree.specs.declared.tree.Name.{Name}
use Rattle.boogie_tree.specs.declared.tree.Spec.{Spec}
use Rattle.boogie_tree.specs.declared.tree.Spec.TheVariants as specs
use Rattle.boogie_tree.specs.declared.tree.VarInfo.{VarInfo}
use Rattle.boogie_tree.specs.Tree as tree
use Rattle.boogie_tree.specs.Tree.{Specification}
use Rattle.boogie_tree.specs.View as view
use Rattle.typed_tree.specs.declared.fault.TypeFault.{TypeFault}
use Rattle.typed_tree.specs.declared.fault.TypeFault.TheVariants as fault
use Rattle.boogie_types.specs.Meanings.{number_from}
use Rattle.boogie_types.specs.Naming.{each}
use Rattle.boogie_types.specs.Ties.Numbers.{info_names, number_of_name}
use Rattle.boogie_types.specs.Sorted.{modified_in, firsts}
use Rattle.boogie_types.specs.Resolved.{unless_constant, modified_number}
use Rattle.boogie_types.specs.Ties.Making.{made}
use Rattle.boogie_types.specs.Ties.Modified.{modified_numbers, AreModifiedWrong, unknown_name, constant_name, AreModifiedFault}
use Rattle.boogie_types.proofs.FaultLaws.{or_memory_to}
use Rattle.boogie_types.proofs.SeenNames.{number_is_place}
use Rattle.boogie_types.proofs.ShapeLists.{option_map_some, each_parts}
use Rattle.boogie_types.proofs.EachLaws.{made_step, made_all}
use Rattle.boogie_types.proofs.ExcludedLists.{no_member, member_cases}

-- ---- one name

module _ (globals : List VarInfo) (x : Name) where
  place_number : (names : List (List ℕ)) (o : Option ℕ) → names ≡ info_names globals → o ≡ number_of_name names x.text → number_from 0 x.text globals ≡ o
  place_number names o e h = number_is_place x.text globals ∙ ap (λ (ns : List (List ℕ)). number_of_name ns x.text) (sym e) ∙ sym h

  -- no global has the name
  pub unknown_modified_fault : (names : List (List ℕ)) (o : Option ℕ) → names ≡ info_names globals → o ≡ number_of_name names x.text → o ≡ None →
      AreModifiedFault globals (x ∷ []) (fault.Unknown x.span)
  unknown_modified_fault names o e h n = unknown_name x (0, omega arith, refl) (place_number names o e h ∙ n)

  -- a constant has it
  pub constant_modified_fault : (names : List (List ℕ)) (o : Option ℕ) (n : ℕ) → names ≡ info_names globals → o ≡ number_of_name names x.text → o ≡ Some n →
      unless_constant globals n ≡ None → AreModifiedFault globals (x ∷ []) (fault.NotAssignable x.span)
  constant_modified_fault names o n e h is c =
      constant_name x n (0, omega arith, refl) (place_number names o e h ∙ is)
      (ap (option_and_then (unless_constant globals)) (place_number names o e h ∙ is) ∙ c)

  -- a global that is no constant has it
  pub modified_is : (names : List (List ℕ)) (o : Option ℕ) (n m : ℕ) → names ≡ info_names globals → o ≡ number_of_name names x.text → o ≡ Some n →
      unless_constant globals n ≡ Some m → modified_number globals x.text ≡ Some m
  modified_is names o n m e h is c = ap (option_and_then (unless_constant globals)) (place_number names o e h ∙ is) ∙ c

-- ---- lists of names

wrong_more : (globals : List VarInfo) (xs ys : List Name) → ((x : Name) → Contains xs x → Contains ys x) → (f : TypeFault) → AreModifiedWrong globals xs f → AreModifiedWrong globals ys f
wrong_more globals xs ys h _ (unknown_name x m e) = unknown_name x (h x m) e
wrong_more globals xs ys h _ (constant_name x n m e g) = constant_name x n (h x m) e g

-- a fault of some of the names is one of all
fault_of_some : (globals : List VarInfo) (xs ys : List Name) → ((x : Name) → Contains xs x → Contains ys x) → (f : TypeFault) → AreModifiedFault globals xs f → AreModifiedFault globals ys f
fault_of_some globals xs ys h f = or_memory_to f (wrong_more globals xs ys h f)

-- the one member of a list that stands at a place of another
single_member : (xs : List Name) (i : ℕ) (x : Name) → i < length xs → x ≡ get_or xs i x → (y : Name) → Contains (x ∷ []) y → Contains xs y
single_member xs i x l e y m =
    ⊎_elim
    (λ (same : x ≡ y). subst (λ (z : Name). Contains xs z) same (i, l, sym e))
    (λ (other : Contains [] y). no_member y other)
    (member_cases x [] y m)

-- a fault of the name at a place is one of all
pub fault_of_one : (globals : List VarInfo) (xs : List Name) (i : ℕ) (x : Name) (f : TypeFault) → i < length xs → x ≡ get_or xs i x →
    AreModifiedFault globals (x ∷ []) f → AreModifiedFault globals xs f
fault_of_one globals xs i x f l e = fault_of_some globals (x ∷ []) xs (single_member xs i x l e) f

-- one number more is made
pub numbers_turn : (globals : List VarInfo) (xs : List Name) (i : ℕ) (x : Name) (n : ℕ) (done new : List ℕ) (whole : Option (List ℕ)) → i < length xs → x ≡ get_or xs i x →
    modified_number globals x.text ≡ Some n → new ≡ done ++ n ∷ [] →
    made done (modified_numbers globals (drop i xs)) ≡ whole → made new (modified_numbers globals (drop (i + 1) xs)) ≡ whole
numbers_turn globals xs i x n done new whole l here e p w =
    ap (λ ys. made ys (modified_numbers globals (drop (i + 1) xs))) p
    ∙ sym (made_step (λ (y : Name). modified_number globals y.text) x n (drop (i + 1) xs) done e)
    ∙ ap (λ (z : Name). made done (modified_numbers globals (z ∷ drop (i + 1) xs))) here
    ∙ ap (λ (zs : List Name). made done (modified_numbers globals zs)) (sym (drop_more xs i x l)) ∙ w

-- ---- lists of specifications

made_append : {X Y : Type 0} (f : X → Option Y) (xs ys : List X) (done new : List Y) → made done (each f xs) ≡ Some new →
    made done (each f (xs ++ ys)) ≡ made new (each f ys)
made_append {X} {Y} f [] ys done new e =
    let n : done ≡ new = same_Some done new (sym (made_all done) ∙ e) in
    ap (λ (zs : List Y). made zs (each f ys)) n
made_append {X} {Y} f (x ∷ xs) ys done new e =
    let a : (zs : List Y) × (each f (x ∷ xs) ≡ Some zs) × (done ++ zs ≡ new) = option_map_some (λ (zs : List Y). done ++ zs) (each f (x ∷ xs)) new e in
    let p = each_parts f x xs a.0 a.1 in
    made_step f x p.0 (xs ++ ys) done p.2
    ∙ made_append f xs ys (done ++ p.0 ∷ []) new (sym (made_step f x p.0 xs done p.2) ∙ e)

-- what the lists of one specification and of the rest have
listed_front : (s : Specification) (rest : List Specification) (xs : List Name) → s ≡ tree.Modifies xs → modified_in (s ∷ rest) ≡ xs ++ modified_in rest
listed_front s rest xs e = ap (λ (t : Specification). modified_in (t ∷ rest)) e

listed_behind : (s : Specification) (rest : List Specification) (x : Name) → Contains (modified_in rest) x → Contains (modified_in (s ∷ rest)) x
listed_behind (tree.Requires i) rest x m = m
listed_behind (tree.Ensures i) rest x m = m
listed_behind (tree.Modifies ys) rest x m = Contains-append_right ys (modified_in rest) x m

listed_member : (ss : List Spec) (i : ℕ) (s : Spec) (xs : List Name) → i < length ss → s ≡ get_or ss i s → view.specification s ≡ tree.Modifies xs →
    (x : Name) → Contains xs x → Contains (modified_in (map view.specification ss)) x
listed_member [] i s xs l e v x m = absurd (omega arith)
listed_member (t ∷ ts) zero s xs l e v x m =
    let same : view.specification t ≡ tree.Modifies xs = ap view.specification (sym e) ∙ v in
    subst (λ (ys : List Name). Contains ys x) (sym (listed_front (view.specification t) (map view.specification ts) xs same))
    (Contains-append_left xs (modified_in (map view.specification ts)) x m)
listed_member (t ∷ ts) (suc i) s xs l e v x m =
    let below : i < length ts = omega arith in
    listed_behind (view.specification t) (map view.specification ts) x (listed_member ts i s xs below e v x m)

-- a fault of a list at a place is one of all
pub fault_of_list : (globals : List VarInfo) (ss : List Spec) (i : ℕ) (s : Spec) (xs : List Name) (f : TypeFault) → i < length ss → s ≡ get_or ss i s → view.specification s ≡ tree.Modifies xs →
    AreModifiedFault globals xs f → AreModifiedFault globals (modified_in (map view.specification ss)) f
fault_of_list globals ss i s xs f l e v = fault_of_some globals xs (modified_in (map view.specification ss)) (listed_member ss i s xs l e v) f

module _ (globals : List VarInfo) (ss : List Spec) (i : ℕ) (s : Spec) (l : i < length ss) (here : s ≡ get_or ss i s) where
  specs-drop : map view.specification (drop i ss) ≡ view.specification s ∷ map view.specification (drop (i + 1) ss)
  specs-drop = ap (map view.specification) (drop_more ss i s l) ∙ ap (λ (t : Spec). view.specification t ∷ map view.specification (drop (i + 1) ss)) (sym here)

  -- the numbers of one list more are made
  pub list_turn : (xs : List Name) (done new : List ℕ) (whole : Option (List ℕ)) → view.specification s ≡ tree.Modifies xs → made done (modified_numbers globals xs) ≡ Some new →
      made done (modified_numbers globals (modified_in (map view.specification (drop i ss)))) ≡ whole →
      made new (modified_numbers globals (modified_in (map view.specification (drop (i + 1) ss)))) ≡ whole
  list_turn xs done new whole v e w =
      sym (made_append (λ (y : Name). modified_number globals y.text) xs (modified_in (map view.specification (drop (i + 1) ss))) done new e)
      ∙ ap (λ (ys : List Name). made done (modified_numbers globals ys)) (sym (ap modified_in specs-drop ∙ listed_front (view.specification s) (map view.specification (drop (i + 1) ss)) xs v))
      ∙ w

  -- a specification that is no list is passed
  pub other_turn : (done : List ℕ) (whole : Option (List ℕ)) → modified_in (view.specification s ∷ []) ≡ [] →
      made done (modified_numbers globals (modified_in (map view.specification (drop i ss)))) ≡ whole →
      made done (modified_numbers globals (modified_in (map view.specification (drop (i + 1) ss)))) ≡ whole
  other_turn done whole v w =
      ap (λ (ys : List Name). made done (modified_numbers globals ys)) (sym (ap modified_in specs-drop ∙ passed (view.specification s) (map view.specification (drop (i + 1) ss)) v)) ∙ w
    where
      passed : (t : Specification) (rest : List Specification) → modified_in (t ∷ []) ≡ [] → modified_in (t ∷ rest) ≡ modified_in rest
      passed (tree.Requires i) rest e = refl
      passed (tree.Ensures i) rest e = refl
      passed (tree.Modifies ys) rest e = let n : ys ≡ [] = sym (append-nil ys) ∙ e in ap (λ (zs : List Name). zs ++ modified_in rest) n

-- no other specification has a list
pub no_list : (s : Spec) → ((xs : Vec Name Global) → s ≡ specs.Modifies xs → ⊥) → modified_in (view.specification s ∷ []) ≡ []
no_list (specs.Requires i) h = refl
no_list (specs.Ensures i) h = refl
no_list (specs.Modifies xs) h = absurd (h xs refl)

-- ---- each number once

same_number : (n k : ℕ) → is_at (nat_cmp n) k ≡ nat_eq k n
same_number n k = grind (arith, nat_tests)

or_is : (a b : Bool) → cond a true b ≡ (a || b)
or_is true b = refl
or_is false b = refl

module _ (xs : List ℕ) (i n : ℕ) (l : i < length xs) (here : n ≡ get_or xs i n) where
  numbers-drop : drop i xs ≡ n ∷ drop (i + 1) xs
  numbers-drop = drop_more xs i n l ∙ ap (λ (k : ℕ). k ∷ drop (i + 1) xs) (sym here)

  -- a number that was there is passed
  pub passed_turn : (out whole : List ℕ) → list_any (nat_eq n) (reverse out) ≡ true →
      out ++ firsts (reverse out) (drop i xs) ≡ whole → out ++ firsts (reverse out) (drop (i + 1) xs) ≡ whole
  passed_turn out whole h w =
      ap (λ (ys : List ℕ). out ++ ys)
      (sym (ap (firsts (reverse out)) numbers-drop ∙ ap (λ (b : Bool). if b then firsts (reverse out) (drop (i + 1) xs) else n ∷ firsts (n ∷ reverse out) (drop (i + 1) xs)) h))
      ∙ w

  reverse-push : (out : List ℕ) → reverse (out ++ n ∷ []) ≡ n ∷ reverse out
  reverse-push out = reverse-append out (n ∷ [])

  -- another is kept
  pub kept_turn : (out new whole : List ℕ) → list_any (nat_eq n) (reverse out) ≡ false → new ≡ out ++ n ∷ [] →
      out ++ firsts (reverse out) (drop i xs) ≡ whole → new ++ firsts (reverse new) (drop (i + 1) xs) ≡ whole
  kept_turn out new whole h p w =
      ap (λ (ys : List ℕ). ys ++ firsts (reverse ys) (drop (i + 1) xs)) p
      ∙ ap (λ (ys : List ℕ). (out ++ n ∷ []) ++ firsts ys (drop (i + 1) xs)) (reverse-push out)
      ∙ append_assoc out (n ∷ []) (firsts (n ∷ reverse out) (drop (i + 1) xs))
      ∙ ap (λ (ys : List ℕ). out ++ ys)
      (sym (ap (firsts (reverse out)) numbers-drop ∙ ap (λ (b : Bool). if b then firsts (reverse out) (drop (i + 1) xs) else n ∷ firsts (n ∷ reverse out) (drop (i + 1) xs)) h))
      ∙ w

  -- and seen from then on
  pub seen_turn : (out new : List ℕ) (old after : ℕ → Bool) → new ≡ out ++ n ∷ [] → ((k : ℕ) → old k ≡ list_any (nat_eq k) (reverse out)) →
      ((k : ℕ) → after k ≡ cond (is_at (nat_cmp n) k) true (old k)) → (k : ℕ) → after k ≡ list_any (nat_eq k) (reverse new)
  seen_turn out new old after p h u k =
      u k ∙ ap (λ (b : Bool). cond b true (old k)) (same_number n k) ∙ ap (λ (b : Bool). cond (nat_eq k n) true b) (h k)
      ∙ or_is (nat_eq k n) (list_any (nat_eq k) (reverse out))
      ∙ ap (λ (ys : List ℕ). list_any (nat_eq k) ys) (sym (ap reverse p ∙ reverse-push out))

  -- what was seen already stays so
  pub unseen_turn : (out : List ℕ) (old after : ℕ → Bool) → list_any (nat_eq n) (reverse out) ≡ true → ((k : ℕ) → old k ≡ list_any (nat_eq k) (reverse out)) →
      ((k : ℕ) → after k ≡ cond (is_at (nat_cmp n) k) true (old k)) → (k : ℕ) → after k ≡ list_any (nat_eq k) (reverse out)
  unseen_turn out old after s h u k =
      u k ∙ ap (λ (b : Bool). cond b true (old k)) (same_number n k) ∙ ap (λ (b : Bool). cond (nat_eq k n) true b) (h k) ∙ both (nat_eq k n) refl
    where
      both : (b : Bool) → nat_eq k n ≡ b → cond b true (list_any (nat_eq k) (reverse out)) ≡ list_any (nat_eq k) (reverse out)
      both true e = sym (subst (λ (m : ℕ). list_any (nat_eq m) (reverse out) ≡ true) (sym (eqb-true k n e)) s)
      both false e = refl
