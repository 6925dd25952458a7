-- The triples, nodes and steps of an annotation, and the indexes by which they are found.
use Rattle.std.specs.Prelude.{◌≡◌, ◌⊎◌, ◌↔◌, ℕ, Bool, true, List, Some, slice_get}
use Rattle.nwa_base.specs.Members.{Member}
use Rattle.proof_names.specs.declared.outlines.Listed.TheVariants.{Inside, Call, Back}
use Rattle.proof_names.specs.declared.outlines.NamedTriple.{NamedTriple}
use Rattle.proof_names.specs.declared.outlines.NamedStep.{NamedStep}
use Rattle.proof_names.specs.declared.outlines.NamedStep.TheVariants as steps
use Rattle.proof_names.specs.Outlines.{OutlineNode, Sketch}
use Rattle.proof_check.specs.Steps.{Lists, HasStepTo, BacksTo}

-- node n exists and has the predicate
abbrev pub HasPred : List OutlineNode → ℕ → ℕ → Type 0
HasPred nodes n k = (x : OutlineNode) × (slice_get nodes n ≡ Some x) × Member x.preds k

-- the predicate is true, or one of node n
abbrev pub IsOfNode : List OutlineNode → ℕ → ℕ → Type 0
IsOfNode nodes k n = (k ≡ 0) ⊎ HasPred nodes n k

-- the groups of a key are what a list relates to it
abbrev pub AreGroups : {K V : Type 0} → (K → V → Type 0) → (K → List V) → Type 0
AreGroups {K} {V} R groups = (k : K) (v : V) → Member (groups k) v ↔ R k v

-- the test passes exactly at the keys with a property
abbrev pub IsTest : {K : Type 0} → (K → Type 0) → (K → Bool) → Type 0
IsTest {K} P test = (k : K) → (test k ≡ true) ↔ P k

abbrev pub InsideSource : List NamedTriple → ℕ × ℕ → ℕ → Type 0
InsideSource triples k q = Lists triples (Inside q k.0 k.1)

abbrev pub CallSource : List NamedTriple → ℕ × ℕ → ℕ → Type 0
CallSource triples k q = Lists triples (Call q k.0 k.1)

abbrev pub BackSource : List NamedTriple → ℕ × ℕ → ℕ × ℕ → Type 0
BackSource triples k s = Lists triples (Back s.0 s.1 k.0 k.1)

abbrev pub Entering : List NamedStep → ℕ → ℕ × ℕ → Type 0
Entering moves m s = Member moves (steps.Step s.0 s.1 m)

abbrev pub Marked : List OutlineNode → ℕ × ℕ → Type 0
Marked nodes k = HasPred nodes k.0 k.1

abbrev pub Stepped : List NamedStep → ℕ × ℕ × ℕ → Type 0
Stepped moves k = Member moves (steps.Step k.0 k.1 k.2)

abbrev pub Landed : Sketch → ℕ × ℕ × ℕ → Type 0
Landed s k = HasStepTo s k.0 k.1 k.2

abbrev pub BackLanded : Sketch → ℕ × ℕ × ℕ × ℕ → Type 0
BackLanded s k = BacksTo s k.0 k.1 k.2 k.3

-- what a plan keeps: its groups are the sources of triples, by letter and target, and the steps to nodes; its tests tell the
-- predicates of nodes, the steps, and the places to which steps and backs lead
pub record IsPlan (s : Sketch) (insides calls : ℕ × ℕ → List ℕ) (backs : ℕ × ℕ → List (ℕ × ℕ)) (entering : ℕ → List (ℕ × ℕ))
    (marks : ℕ × ℕ → Bool) (stepped landed : ℕ × ℕ × ℕ → Bool) (back_landed : ℕ × ℕ × ℕ × ℕ → Bool) : Type 0 where
  pub inside : AreGroups (InsideSource s.triples) insides
  pub call : AreGroups (CallSource s.triples) calls
  pub back : AreGroups (BackSource s.triples) backs
  pub enters : AreGroups (Entering s.steps) entering
  pub mark : IsTest (Marked s.nodes) marks
  pub step : IsTest (Stepped s.steps) stepped
  pub lands : IsTest (Landed s) landed
  pub back_lands : IsTest (BackLanded s) back_landed

-- the new test passes where the old one does, and at the node with each of the predicates
abbrev pub MarksAll : (ℕ × ℕ → Bool) → ℕ → List ℕ → (ℕ × ℕ → Bool) → Type 0
MarksAll old n preds new = (k : ℕ × ℕ) → (new k ≡ true) ↔ ((old k ≡ true) ⊎ ((k.0 ≡ n) × Member preds k.1))
