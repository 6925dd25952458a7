-- Entry nodes of procedures, and procedures by their names.
use Rattle.std.proofs.Common.{◌≡◌, ◌∙◌, ℕ, ◌+◌, ◌<◌, ◌≤◌, Bool, true, false, cond, List, [], ◌∷◌, ◌++◌, map, length, take, drop, get_or, Option, None, Some, sym, ap, arith}
use Rattle.std.specs.Prelude.{◌==◌, filter, nat_lt, slice_get, if◌then◌else◌}
use Rattle.std.specs.List.{position_from}
use Rattle.std.specs.Option.{option_map}
use Rattle.std.proofs.lemmas.Bool.Decides.{nat_tests}
use Rattle.std.proofs.lemmas.List.{drop_more, drop_all, append-nil}
use Rattle.std.proofs.lemmas.List.Elements.{filter_more}
use Rattle.std.proofs.lemmas.Option.{slice_get-map}
use Rattle.boogie_tree.specs.Tree.{Specification, Procedure}
use Rattle.typed_tree.specs.declared.types.TProc.{TProc}
use Rattle.typed_tree.specs.TypedTree.{TypedProcedure}
use Rattle.typed_tree.specs.TypedView as typed
use Rattle.explained_proof.specs.Clauses.{KnownProcedure}
use Rattle.explained_proof.specs.Explained.{Told, known_procedure, requires, ensures, contract, at_listed, on_listed}

-- one node more, where it passes
pub starts_on : (p : ℕ → Bool) (ns : List ℕ) (i : ℕ) (now new : List ℕ) → i < length ns → now ≡ filter p (take i ns) → new ≡ now ++ filter p (get_or ns i 0 ∷ []) → new ≡ filter p (take (i + 1) ns)
starts_on p ns i now new l h e = e ∙ ap (λ ms. ms ++ filter p (get_or ns i 0 ∷ [])) h ∙ sym (filter_more p ns i 0 l)

-- ---- the first element that passes

module _ {X Y : Type 0} (t : Y → Bool) (f : X → Y) where
  from_here : (xs : List X) (i : ℕ) (d : X) → i < length xs → d ≡ get_or xs i d → drop i xs ≡ d ∷ drop (i + 1) xs
  from_here xs i d l h = drop_more xs i d l ∙ ap (λ (y : X). y ∷ drop (i + 1) xs) (sym h)

  pub position_on : (xs : List X) (i : ℕ) (d : X) (whole : Option ℕ) → i < length xs → d ≡ get_or xs i d → t (f d) ≡ false → position_from t i (map f (drop i xs)) ≡ whole →
      position_from t (i + 1) (map f (drop (i + 1) xs)) ≡ whole
  position_on xs i d whole l h e was =
      ap (λ b. cond b (Some i) (position_from t (i + 1) (map f (drop (i + 1) xs)))) (sym e) ∙ ap (λ (ys : List X). position_from t i (map f ys)) (sym (from_here xs i d l h)) ∙ was

  pub position_end : (xs : List X) (i : ℕ) (whole : Option ℕ) → length xs ≤ i → position_from t i (map f (drop i xs)) ≡ whole → None ≡ whole
  position_end xs i whole l was = ap (λ (ys : List X). position_from t i (map f ys)) (sym (drop_all i xs l)) ∙ was

-- ---- the procedure of a number

pub listed_there : (change : ℕ → TypedProcedure → Procedure → Procedure) (qs : List TypedProcedure) (given : Procedure) (o : Option ℕ) (p : ℕ) (q : TypedProcedure) → o ≡ Some p → slice_get qs p ≡ Some q →
    change p q given ≡ on_listed change qs given o
listed_there change qs given o p q e h = ap (at_listed (change p) given) (sym h) ∙ ap (on_listed change qs given) (sym e)

pub listed_past : (change : ℕ → TypedProcedure → Procedure → Procedure) (qs : List TypedProcedure) (given : Procedure) (o : Option ℕ) (p : ℕ) → o ≡ Some p → slice_get qs p ≡ None →
    given ≡ on_listed change qs given o
listed_past change qs given o p e h = ap (at_listed (change p) given) (sym h) ∙ ap (on_listed change qs given) (sym e)

-- the same of the procedures that the code has
pub seen_there : (ps qs : List TProc) (n : ℕ) (p : TProc) → qs ≡ ps → slice_get qs n ≡ Some p → slice_get (map typed.procedure ps) n ≡ Some (typed.procedure p)
seen_there ps qs n p e h = slice_get-map typed.procedure ps n ∙ ap (λ (xs : List TProc). option_map typed.procedure (slice_get xs n)) (sym e) ∙ ap (option_map typed.procedure) h

pub seen_past : (ps qs : List TProc) (n : ℕ) → qs ≡ ps → slice_get qs n ≡ None → slice_get (map typed.procedure ps) n ≡ None
seen_past ps qs n e h = slice_get-map typed.procedure ps n ∙ ap (λ (xs : List TProc). option_map typed.procedure (slice_get xs n)) (sym e) ∙ ap (option_map typed.procedure) h

-- ---- contracts of procedures that are entered, and that are not

pub some_there : (n m : ℕ) (b : Bool) → n ≡ m → b ≡ (n == 0) → b ≡ false → nat_lt 0 m ≡ true
some_there n m b e f h = grind (arith, nat_tests)

pub none_there : (n m : ℕ) (b : Bool) → n ≡ m → b ≡ (n == 0) → b ≡ true → nat_lt 0 m ≡ false
none_there n m b e f h = grind (arith, nat_tests)

abbrev contract_by : Told → ℕ → TypedProcedure → Bool → List Specification
contract_by d p q b = requires d p (known_procedure d p q) ++ (if b then ensures d p (known_procedure d p q) else [])

abbrev has_entries : KnownProcedure → Bool
has_entries k = nat_lt 0 (length k.entries)

pub contract_entered : (d : Told) (p : ℕ) (q : TypedProcedure) (k : KnownProcedure) (now : List Specification) → k ≡ known_procedure d p q → nat_lt 0 (length k.entries) ≡ true →
    now ≡ requires d p k ++ ensures d p k → now ≡ contract d p q
contract_entered d p q k now e h n =
    n ∙ ap (λ (j : KnownProcedure). requires d p j ++ ensures d p j) e ∙ ap (contract_by d p q) (sym (sym (ap has_entries e) ∙ h))

pub contract_never : (d : Told) (p : ℕ) (q : TypedProcedure) (k : KnownProcedure) (now : List Specification) → k ≡ known_procedure d p q → nat_lt 0 (length k.entries) ≡ false →
    now ≡ requires d p k → now ≡ contract d p q
contract_never d p q k now e h n =
    n ∙ ap (requires d p) e ∙ sym (append-nil (requires d p (known_procedure d p q))) ∙ ap (contract_by d p q) (sym (sym (ap has_entries e) ∙ h))
