-- The modified globals of a procedure: each exists, is no constant, and stands once.
use Rattle.std.proofs.Common.{◌≡◌, ℕ, Bool, true, false, not, nat_eq, List, [], ◌∷◌, Option, None, Some, slice_get, option_and_then, if◌then◌else◌, refl, sym, ◌∙◌, subst, eqb-true, eq-eqb}
use Rattle.std.specs.List.{list_all, list_any}
use Rattle.std.proofs.lemmas.Bool.{and_parts, and_from, or_from, or_left, or_right, cond_both, false_from_ne_true, false≢true}
use Rattle.boogie_tree.specs.declared.tree.Name.{Name}
use Rattle.boogie_tree.specs.declared.tree.VarInfo.{VarInfo}
use Rattle.boogie_tree.specs.Tree.{Declaration, Procedure}
use Rattle.typed_tree.specs.TypingRules.Rules.{all_differ, meets}
use Rattle.typed_tree.specs.TypingRules.Shape.{are_modified}
use Rattle.boogie_types.specs.Meanings.{number_from}
use Rattle.boogie_types.specs.Naming.{each}
use Rattle.boogie_types.specs.Sorted.{declared_globals, modified_in, firsts}
use Rattle.boogie_types.specs.Resolved.{unless_constant, modified_number, named_modifies}
use Rattle.boogie_types.proofs.ShapeLists.{option_map_some, option_and_then_some, each_all, all_differ_cons}

-- the number of a global that is no constant
abbrev pub is_variable : List VarInfo → ℕ → Bool
is_variable globals n = meets (λ v. not v.constant) (slice_get globals n)

kept_number : (globals : List VarInfo) (n m : ℕ) (o : Option VarInfo) → option_and_then (λ v. if v.constant then None else Some n) o ≡ Some m → (meets (λ v. not v.constant) o ≡ true) × (n ≡ m)
kept_number globals n m None e = cc
kept_number globals n m (Some v) e = by v.constant e
  where
    by : (b : Bool) → (if b then None else Some n) ≡ Some m → (not b ≡ true) × (n ≡ m)
    by true f = cc
    by false f = (refl, cc)

number_is_variable : (globals : List VarInfo) (x : Name) (m : ℕ) → modified_number globals x.text ≡ Some m → is_variable globals m ≡ true
number_is_variable globals x m e =
    let a = option_and_then_some (unless_constant globals) (number_from 0 x.text globals) m e in
    let b = kept_number globals a.0 m (slice_get globals a.0) a.2 in
    subst (λ (k : ℕ). is_variable globals k ≡ true) b.1 b.0

firsts_pass : (t : ℕ → Bool) (seen ns : List ℕ) → list_all t ns ≡ true → list_all t (firsts seen ns) ≡ true
firsts_pass t seen [] h = refl
firsts_pass t seen (n ∷ ns) h =
    let a = and_parts (t n) (list_all t ns) h in
    cond_both (list_any (nat_eq n) seen) (firsts seen ns) (n ∷ firsts (n ∷ seen) ns) (λ l. list_all t l ≡ true)
    (λ is. firsts_pass t seen ns a.1)
    (λ is. and_from (t n) (list_all t (firsts (n ∷ seen) ns)) a.0 (firsts_pass t (n ∷ seen) ns a.1))

-- a number that was seen is not one that was not
other : (m n : ℕ) (seen : List ℕ) → list_any (nat_eq m) seen ≡ true → list_any (nat_eq n) seen ≡ false → nat_eq m n ≡ false
other m n seen h is =
    false_from_ne_true (nat_eq m n)
    (λ e. false≢true (sym is ∙ subst (λ (k : ℕ). list_any (nat_eq k) seen ≡ true) (eqb-true m n e) h))

-- none that was seen comes again
seen_never : (m : ℕ) (seen ns : List ℕ) → list_any (nat_eq m) seen ≡ true → list_any (nat_eq m) (firsts seen ns) ≡ false
seen_never m seen [] h = refl
seen_never m seen (n ∷ ns) h =
    cond_both (list_any (nat_eq n) seen) (firsts seen ns) (n ∷ firsts (n ∷ seen) ns) (λ l. list_any (nat_eq m) l ≡ false)
    (λ is. seen_never m seen ns h)
    (λ is. or_from (nat_eq m n) (list_any (nat_eq m) (firsts (n ∷ seen) ns)) (other m n seen h is)
    (seen_never m (n ∷ seen) ns (or_right (nat_eq m n) (list_any (nat_eq m) seen) h)))

firsts_differ : (seen ns : List ℕ) → all_differ nat_eq (firsts seen ns) ≡ true
firsts_differ seen [] = refl
firsts_differ seen (n ∷ ns) =
    cond_both (list_any (nat_eq n) seen) (firsts seen ns) (n ∷ firsts (n ∷ seen) ns) (λ l. all_differ nat_eq l ≡ true)
    (λ is. firsts_differ seen ns)
    (λ is. all_differ_cons nat_eq n (firsts (n ∷ seen) ns)
    (seen_never n (n ∷ seen) ns (or_left (nat_eq n n) (list_any (nat_eq n) seen) (eq-eqb n n refl))) (firsts_differ (n ∷ seen) ns))

pub modifies_shaped : (ds : List Declaration) (p : Procedure) (ns : List ℕ) → named_modifies ds p ≡ Some ns → are_modified (declared_globals ds) ns ≡ true
modifies_shaped ds p ns e =
    let a = option_map_some (firsts []) (each (λ x. modified_number (declared_globals ds) x.text) (modified_in p.specs)) ns e in
    let all : list_all (is_variable (declared_globals ds)) a.0 ≡ true =
    each_all (λ (x : Name). modified_number (declared_globals ds) x.text) (λ x. true) (is_variable (declared_globals ds)) (λ x m h f. number_is_variable (declared_globals ds) x m f) (modified_in p.specs) a.0 (all_true (modified_in p.specs)) a.1 in
    subst (λ (l : List ℕ). are_modified (declared_globals ds) l ≡ true) a.2
    (and_from (list_all (is_variable (declared_globals ds)) (firsts [] a.0)) (all_differ nat_eq (firsts [] a.0)) (firsts_pass (is_variable (declared_globals ds)) [] a.0 all) (firsts_differ [] a.0))
  where
    all_true : (xs : List Name) → list_all (λ x. true) xs ≡ true
    all_true [] = refl
    all_true (x ∷ xs) = all_true xs
