-- The rows of the system of a letter's triple, section by section: what multiplier each has at a leaf of the refutation.
use Rattle.std.specs.Prelude.{◌≡◌, ℕ, ◌+◌, not, List, [], ◌∷◌, ◌++◌, filter, length, Option, None, Some, slice_get}
use Rattle.nwa_base.specs.declared.letters.Letter.{Letter}
use Rattle.letter_acts.specs.Frames.{Columns, globals_of, constants_of, variables_of, result_columns, olds_of}
use Rattle.letter_acts.specs.Invariant.{Graph}
use Rattle.letter_acts.specs.Reading.{taken, is_listed}
use Rattle.farkas_check.specs.Trees.{Tree}
use Rattle.nested_itp.specs.NestedRefutations.Refutations.{Claim, Role, target_tie, opposite_tie, source_tie, View}
use Rattle.nested_itp.specs.NestedRefutations.Numbers.{spares, branch_rows, roles_of}
use Rattle.nested_itp.specs.declared.triple_steps.sections.Tie.{Tie}
use Rattle.nested_itp.specs.declared.triple_steps.sections.Tie.TheVariants.{Target, Opposite, Source}
use Rattle.nested_itp.specs.declared.triple_steps.sections.Section.{Section}
use Rattle.nested_itp.specs.declared.triple_steps.sections.Section.TheVariants as sections

-- the multiplier of a row that ties two frames
abbrev pub tie_role : Tie → Role
tie_role (Target c) = target_tie c
tie_role (Opposite c) = opposite_tie c
tie_role (Source c) = source_tie c

-- those of the rows that the claim with this number gives, if there is one
abbrev pub claim_roles : Graph → List Letter → Tree → View → ℕ → Option Claim → List Role
claim_roles g w t v i None = []
claim_roles g w t v i (Some c) = roles_of g w t v i c

-- those of the rows of a section
abbrev pub section_roles : Graph → List Letter → Tree → View → Section → List Role
section_roles g w t v (sections.Claim i) = claim_roles g w t v i (slice_get v.claims i)
section_roles g w t v (sections.Spare count) = spares count
section_roles g w t v (sections.Rows first count) = branch_rows first count
section_roles g w t v (sections.Tie tie) = tie_role tie ∷ []

-- those of the rows of sections, in order
abbrev pub roles_in : Graph → List Letter → Tree → View → List Section → List Role
roles_in g w t v [] = []
roles_in g w t v (s ∷ ss) = section_roles g w t v s ++ roles_in g w t v ss

-- how many rows stand before those of each claim, from those of the claim before on, where so many stand already
abbrev pub gaps_in : ℕ → List Section → List ℕ
gaps_in k [] = []
gaps_in k (sections.Claim i ∷ ss) = k ∷ gaps_in 0 ss
gaps_in k (sections.Spare count ∷ ss) = gaps_in (k + count) ss
gaps_in k (sections.Rows first count ∷ ss) = gaps_in (k + count) ss
gaps_in k (sections.Tie tie ∷ ss) = gaps_in (k + 1) ss

-- the numbers of the claims whose rows stand there, in order
abbrev pub claims_in : List Section → List ℕ
claims_in [] = []
claims_in (sections.Claim i ∷ ss) = i ∷ claims_in ss
claims_in (sections.Spare count ∷ ss) = claims_in ss
claims_in (sections.Rows first count ∷ ss) = claims_in ss
claims_in (sections.Tie tie ∷ ss) = claims_in ss

-- the rows of these claims stand there, in order, and so many rows before those of each
pub record ClaimsStand (ss : List Section) (claims counts : List ℕ) : Type 0 where
  pub order : claims_in ss ≡ claims
  pub gaps : gaps_in 0 ss ≡ counts

-- how many stand before those of each claim in the system of a call whose act has so many rows
abbrev pub call_counts : Columns → ℕ → List ℕ
call_counts callee count = 0 ∷ (length (globals_of callee) + length (olds_of callee) + count) ∷ []

-- in that of a return from it with these targets
abbrev pub back_counts : Columns → Columns → List ℕ → ℕ → List ℕ
back_counts caller callee targets count =
    let kept = filter (λ c. not (is_listed targets c)) (variables_of caller) in
    0 ∷ 0 ∷ (length (constants_of callee) + length (olds_of callee) + count + length kept + length (taken targets (result_columns callee))) ∷ []

-- sections are added, none of them a claim's
pub record AddsNoClaim (old new : List Section) : Type 0 where
  pub added : List Section
  pub whole : new ≡ old ++ added
  pub plain : claims_in added ≡ []

-- such sections are added, whose rows have these multipliers
pub record AddsRoles (old new : List Section) (more : List Role) : Type 0 where
  pub plain : AddsNoClaim old new
  pub roles : (g : Graph) (w : List Letter) (t : Tree) (v : View) → roles_in g w t v new ≡ roles_in g w t v old ++ more
