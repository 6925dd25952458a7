-- What is put down for a triple along the tree of the word's refutation.
use Rattle.std.specs.Prelude.{◌≡◌, ℕ, ◌^◌, ◌<◌, Bool, false, List, [], ◌++◌, map, length, Option, None, Some, slice_get}
use Rattle.farkas_check.specs.Nodes.{PlainNode, leaf, cut, cases}
use Rattle.farkas_check.specs.Trees.{Tree, prefix_of}
use Rattle.nwa_base.specs.declared.letters.Letter.{Letter}
use Rattle.letter_acts.specs.Invariant.{Graph, alphabet_of}
use Rattle.letter_acts.specs.FrameRows.Rows.{columns_from}
use Rattle.nested_itp.specs.NestedPredicates.Sums.{root_of}
use Rattle.nested_itp.specs.NestedRefutations.Refutations.{Claim, TreeSpot, truth_in, formula_at, exposed, View, of_claim}
use Rattle.nested_itp.specs.NestedRefutations.Numbers.{Step}
use Rattle.nested_itp.specs.NestedRefutations.Walked.{gaps_of, is_truth, IsPutDown}
use Rattle.nested_itp.specs.TripleSteps.Sections.{section_roles, roles_in, gaps_in, claims_in}
use Rattle.nested_itp.specs.TripleSteps.Steps.{column_place}
use Rattle.nested_itp.specs.declared.triple_steps.columns.Columns.{Columns}
use Rattle.nested_itp.specs.declared.triple_steps.sections.Section.{Section}
use Rattle.nested_itp.specs.declared.triple_steps.sections.Section.TheVariants as sections
use Rattle.nested_itp.specs.TripleWalks.Goals.{PlainGoal}

-- the column of a cut has one in the system, whose number fits
abbrev pub IsPlaced : Columns → PlainNode → Type 0
IsPlaced columns (leaf parts) = Unit {0}
IsPlaced columns (cut c k) = column_place columns c < 2 ^ 32
IsPlaced columns (cases n) = Unit {0}

-- the nodes are those of a tree that is put down for the step's triple
pub record IsPutFor (g : Graph) (w : List Letter) (t : Tree) (s : Step) (nodes : List PlainNode) : Type 0 where
  pub tree : Tree
  pub listed : prefix_of tree ≡ nodes
  pub put : IsPutDown g w t s tree

-- ---- the sections of a system

-- the root of the word's tree
abbrev pub root_spot : Graph → List Letter → Tree → TreeSpot
root_spot g w t = record { node = 0; branch = root_of g w; tree = t }

-- the system of the step's triple has these sections
pub record IsLaid (g : Graph) (w : List Letter) (t : Tree) (s : Step) (sections : List Section) : Type 0 where
  pub roles : s.roles ≡ roles_in g w t s.view sections
  pub order : claims_in sections ≡ columns_from 0 (length s.view.claims)
  pub gaps : gaps_in 0 sections ≡ gaps_of (alphabet_of g) s.triple

-- the claim is false, if there is one
abbrev pub is_false_of : Graph → List Letter → Tree → View → Option Claim → Bool
is_false_of g w t v None = false
is_false_of g w t v (Some c) = is_truth (truth_in (formula_at v.columns c (root_of g w) t)) c.is_denied

-- the section is that of a claim that is false
abbrev pub is_false_in : Graph → List Letter → Tree → View → Section → Bool
is_false_in g w t v (sections.Claim i) = is_false_of g w t v (slice_get v.claims i)
is_false_in g w t v (sections.Spare count) = false
is_false_in g w t v (sections.Rows first count) = false
is_false_in g w t v (sections.Tie tie) = false

-- the groups of the claim with this number, if there is one
abbrev pub claim_groups : Graph → List Letter → Tree → View → ℕ → Option Claim → List (ℕ × TreeSpot)
claim_groups g w t v i None = []
claim_groups g w t v i (Some c) = of_claim i (exposed v.columns c 0 (root_of g w) t).groups

-- those of a section
abbrev pub section_groups : Graph → List Letter → Tree → View → Section → List (ℕ × TreeSpot)
section_groups g w t v (sections.Claim i) = claim_groups g w t v i (slice_get v.claims i)
section_groups g w t v (sections.Spare count) = []
section_groups g w t v (sections.Rows first count) = []
section_groups g w t v (sections.Tie tie) = []

-- a section is added
abbrev pub with_section : Graph → List Letter → Tree → View → Section → PlainGoal → PlainGoal
with_section g w t v s h = record h {
  roles = h.roles ++ section_roles g w t v s;
  groups = h.groups ++ map (λ p. (p.0, p.1.node)) (section_groups g w t v s);
}
