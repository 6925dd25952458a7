-- Procedures in a list, and the numbers of their names.
use Rattle.std.proofs.Common.{◌≡◌, ℕ, zero, suc, ◌+◌, Bool, true, false, cond, length, List, [], ◌∷◌, map, Option, None, Some, slice_get, refl, ap, sym, ◌∙◌, arith}
use Rattle.std.specs.Option.{option_map, option_copied, MatchOption}
use Rattle.std.specs.Slice.{IsItemAt}
use Rattle.std.specs.List.{position_from}
use Rattle.std.specs.Str.{bytes_eq}
use Rattle.std.specs.Borrow.{Bor}
use Rattle.std.proofs.lemmas.Option.{slice_get-map, slice_get_past, slice_get_read, MatchOption-at_some, MatchOption-at_none}
use Rattle.boogie_tree.specs.declared.tree.Name.{Name}
use Rattle.boogie_tree.specs.declared.tree.Proc.{Proc}
use Rattle.boogie_tree.specs.Tree.{Procedure}
use Rattle.boogie_tree.specs.View as view
use Rattle.boogie_types.specs.Ties.Numbers.{texts, text_of}
use Rattle.boogie_types.specs.Ties.Places.{procedure_texts}
use Rattle.boogie_types.specs.Ties.Referred.{procedures_by}
use Rattle.boogie_types.specs.Sorted.{first_named}
use Rattle.boogie_types.proofs.ShapeLists.{map-map}

-- the texts of the names of procedures
pub texts_are : (names : List Name) (ps : List Procedure) → names ≡ map (λ p. p.name) ps → texts names ≡ procedure_texts ps
texts_are names ps e = ap texts e ∙ map-map text_of (λ (p : Procedure). p.name) ps

-- The number of a name is that of the first procedure of that name; where there is no number, there is no procedure.
abbrev IsFirst : List ℕ → ℕ → List Procedure → Option ℕ → Type 0
IsFirst name i ps o = MatchOption o (first_named name ps ≡ None) (λ n. (k : ℕ) × (n ≡ i + k) × (slice_get ps k ≡ first_named name ps))

first_from : (name : List ℕ) (i : ℕ) (ps : List Procedure) → IsFirst name i ps (position_from (λ p. bytes_eq name p.name.text) i ps)
first_from name i [] = refl
first_from name i (p ∷ ps) = by_head (bytes_eq name p.name.text) (position_from (λ q. bytes_eq name q.name.text) (i + 1) ps) (first_from name (i + 1) ps)
  where
    by_head : (b : Bool) (o : Option ℕ) → IsFirst name (i + 1) ps o →
        MatchOption (cond b (Some i) o) (cond b (Some p) (first_named name ps) ≡ None) (λ n. (k : ℕ) × (n ≡ i + k) × (slice_get (p ∷ ps) k ≡ cond b (Some p) (first_named name ps)))
    by_head true o h = (zero, omega arith, refl)
    by_head false None h = h
    by_head false (Some n) h = (suc h.0, omega (arith, h.1), h.2)

module _ (name : List ℕ) (ps : List Procedure) where
  abbrev number : Option ℕ
  number = position_from (λ p. bytes_eq name p.name.text) 0 ps

  abbrev first : Option Procedure
  first = first_named name ps

  pub no_first : number ≡ None → first ≡ None
  no_first e = MatchOption-at_none (first ≡ None) (λ n. (k : ℕ) × (n ≡ 0 + k) × (slice_get ps k ≡ first)) e (first_from name 0 ps)

  pub first_at_number : (n : ℕ) → number ≡ Some n → slice_get ps n ≡ first
  first_at_number n e =
      let p = MatchOption-at_some (first ≡ None) (λ n. (k : ℕ) × (n ≡ 0 + k) × (slice_get ps k ≡ first)) n e (first_from name 0 ps) in
      let m : n ≡ p.0 = omega (arith, p.1) in ap (slice_get ps) m ∙ p.2

-- the same of procedures behind references
pub first_by : (name : List ℕ) (ps : List (Bor Proc)) (n : ℕ) → position_from (λ p. bytes_eq name p.name.text) 0 (procedures_by ps) ≡ Some n →
    option_map (λ (p : Bor Proc). view.procedure p.now) (slice_get ps n) ≡ first_named name (procedures_by ps)
first_by name ps n e = sym (slice_get-map (λ (p : Bor Proc). view.procedure p.now) ps n) ∙ first_at_number name (procedures_by ps) n e

-- what `get` and then `copied` give
pub got : {X : Type 0} (xs : List X) (i : ℕ) (o : Option (Bor X)) → IsItemAt xs i o → option_copied o ≡ slice_get xs i
got xs i None p = sym (slice_get_past xs i p.3)
got xs i (Some x) p = sym (slice_get_read xs (length xs) i x.now refl p.3.0 p.1)
