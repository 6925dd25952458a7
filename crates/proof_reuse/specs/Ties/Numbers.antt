-- Predicates that are found, by numbers: 0 for true, 1 for false, k + 2 for place k in a list.
use Rattle.std.specs.Prelude.{◌≡◌, ◌⊎◌, ℕ, zero, suc, List, [], ◌∷◌, ◌++◌, Option, None, Some, slice_get}
use Rattle.std.specs.List.{AllZip, filter_map}
use Rattle.std.specs.Option.{option_and_then, option_map}
use Rattle.nwa_base.specs.Members.{Member, SameMembers}
use Rattle.letter_acts.specs.Invariant.{Graph}
use Rattle.triple_rows.specs.declared.triples.Scoped.{Scoped}
use Rattle.proof_form.specs.declared.numerals.Numeral.{Numeral}
use Rattle.proof_form.specs.Lines as form
use Rattle.proof_form.specs.Lines.{inside_triple, call_triple, back_triple}
use Rattle.proof_names.specs.Numbers.{index_in}
use Rattle.proof_names.specs.Options.{both}
use Rattle.proof_reuse.specs.Found.{pred_found}

-- the number is that of what was found, or nothing was found and there is none
abbrev pub IsNumbered : List Scoped → Option Scoped → Option ℕ → Type 0
IsNumbered preds None None = Unit {0}
IsNumbered preds None (Some n) = ⊥
IsNumbered preds (Some s) None = ⊥
IsNumbered preds (Some s) (Some n) = (q : ℕ) × (n ≡ suc (suc q)) × (slice_get preds q ≡ Some s)

-- the predicates that are found of these lines, and for each line the number of what is found of it
pub record AreFound (g : Graph) (lines : List form.Pred) (preds : List Scoped) (numbers : List (Option ℕ)) : Type 0 where
  pub numbered : AllZip (λ line n. IsNumbered preds (pred_found g line) n) lines numbers
  pub same : SameMembers preds (filter_map (pred_found g) lines)

-- the predicate stands at the place, the others stay at theirs, and no other is new
pub record IsPut (old : List Scoped) (s : Scoped) (q : ℕ) (new : List Scoped) : Type 0 where
  pub there : slice_get new q ≡ Some s
  pub kept : (k : ℕ) (x : Scoped) → slice_get old k ≡ Some x → slice_get new k ≡ Some x
  pub only : (x : Scoped) → Member new x → Member old x ⊎ (s ≡ x)

-- One more is found, or nothing: it has a number, the others keep theirs, and no other predicate is new.
pub record AddsFound (old : List Scoped) (numbers : List (Option ℕ)) (found : Option Scoped) (new : List Scoped) (more : List (Option ℕ)) : Type 0 where
  pub number : Option ℕ
  pub numbered : IsNumbered new found number
  pub pushed : more ≡ numbers ++ number ∷ []
  pub kept : (k : ℕ) (x : Scoped) → slice_get old k ≡ Some x → slice_get new k ≡ Some x
  pub only : (x : Scoped) → Member new x → Member old x ⊎ (found ≡ Some x)

-- the number, among the predicates that are found, of what a number of the annotation stands for
abbrev pub renumbered : List (Option ℕ) → ℕ → Option ℕ
renumbered numbers zero = Some 0
renumbered numbers (suc zero) = Some 1
renumbered numbers (suc (suc k)) = option_and_then (λ n. n) (slice_get numbers k)

abbrev pub number_of : List (Option ℕ) → Numeral → Option ℕ
number_of numbers n = option_and_then (renumbered numbers) (index_in n)

-- ---- lines, by the numbers of their predicates

-- the source and the target of an inside triple
abbrev pub inside_pair : List (Option ℕ) → form.Triple → Option (ℕ × ℕ)
inside_pair numbers (inside_triple q l r proof) = both (number_of numbers q) (number_of numbers r)
inside_pair numbers (call_triple q l r proof) = None
inside_pair numbers (back_triple x b l r proof) = None

-- those of a call triple
abbrev pub call_pair : List (Option ℕ) → form.Triple → Option (ℕ × ℕ)
call_pair numbers (inside_triple q l r proof) = None
call_pair numbers (call_triple q l r proof) = both (number_of numbers q) (number_of numbers r)
call_pair numbers (back_triple x b l r proof) = None

abbrev pub three_of : Option ((ℕ × ℕ) × ℕ) → Option (ℕ × ℕ × ℕ)
three_of o = option_map (λ t. (t.0.0, t.0.1, t.1)) o

-- the two sources and the target of a return triple
abbrev pub back_three : List (Option ℕ) → form.Triple → Option (ℕ × ℕ × ℕ)
back_three numbers (inside_triple q l r proof) = None
back_three numbers (call_triple q l r proof) = None
back_three numbers (back_triple x b l r proof) = three_of (both (both (number_of numbers x) (number_of numbers b)) (number_of numbers r))
