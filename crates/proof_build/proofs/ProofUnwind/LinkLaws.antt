-- Steps and backs stand between nodes, whatever the order of these.
use Rattle.std.proofs.Common.{◌≡◌, ◌∙◌, ℕ, ◌+◌, ◌<◌, List, length, sym, ap, subst, arith}
use Rattle.std.specs.Prelude.{slice_index}
use Rattle.std.specs.List.{AllByRecursion}
use Rattle.nwa_base.specs.declared.letters.Kind.{Kind}
use Rattle.nwa_base.specs.declared.letters.Kind.TheVariants.{Back}
use Rattle.nwa_base.specs.declared.letters.Letter.{Letter}
use Rattle.nwa_base.specs.Automata.{IsEdge, IsBackEdge}
use Rattle.proof_names.specs.Outlines.{OutlineNode}
use Rattle.proof_build.specs.ProofUnwind.Exploring.{Stage, with_node}
use Rattle.proof_build.specs.ProofUnwind.Renumbering.{ArePlaced, AreRanks}

-- a step to a node that is there
pub edge_there : (s : Stage) (kind : Kind) (q e : ℕ) (a : Letter) → s.steps.states ≡ length s.nodes → q < length s.nodes → e < length s.nodes → a.kind ≡ kind →
    IsEdge s.steps.states kind (q, a, e)
edge_there s kind q e a n i j k = record { «from» = omega arith; to = omega arith; letter = k }

pub back_there : (s : Stage) (q p e : ℕ) (a : Letter) → s.steps.states ≡ length s.nodes → q < length s.nodes → p < length s.nodes → e < length s.nodes → a.kind ≡ Back →
    IsBackEdge s.steps.states (q, p, a, e)
back_there s q p e a n i h j k = record { «from» = omega arith; before = omega arith; to = omega arith; letter = k }

-- a step to a new node
pub edge_new : (s mid : Stage) (x : OutlineNode) (kind : Kind) (q e : ℕ) (a : Letter) → mid ≡ with_node s x → e ≡ s.steps.states → s.steps.states ≡ length s.nodes → q < length s.nodes →
    a.kind ≡ kind → IsEdge mid.steps.states kind (q, a, e)
edge_new s mid x kind q e a m f n i k =
    let states : mid.steps.states ≡ s.steps.states + 1 = ap (λ (z : Stage). z.steps.states) m in
    record { «from» = omega arith; to = omega arith; letter = k }

pub back_new : (s mid : Stage) (x : OutlineNode) (q p e : ℕ) (a : Letter) → mid ≡ with_node s x → e ≡ s.steps.states → s.steps.states ≡ length s.nodes → q < length s.nodes → p < length s.nodes →
    a.kind ≡ Back → IsBackEdge mid.steps.states (q, p, a, e)
back_new s mid x q p e a m f n i h k =
    let states : mid.steps.states ≡ s.steps.states + 1 = ap (λ (z : Stage). z.steps.states) m in
    record { «from» = omega arith; before = omega arith; to = omega arith; letter = k }

-- new numbers are numbers of nodes
pub ranks_below : (nodes : List OutlineNode) (order : List (ℕ × ℕ)) (ranks : List ℕ) (states : ℕ) → states ≡ length nodes → ArePlaced nodes order → AreRanks order ranks →
    (n : ℕ) → n < states → slice_index ranks n < states
ranks_below nodes order ranks states s p r n l =
    let a = p.all n (omega arith) in
    let j : ℕ = a.0 in
    let within : j < length order = a.1 in
    let long = p.long in
    let rank : slice_index ranks n ≡ j = ap (slice_index ranks) (sym a.2) ∙ r j within in
    omega arith

-- ---- the same of equal numbers of states and of equal lists

pub edges_of : (n m : ℕ) (kind : Kind) (es xs : List (ℕ × Letter × ℕ)) → n ≡ m → xs ≡ es → AllByRecursion (IsEdge m kind) es → AllByRecursion (IsEdge n kind) xs
edges_of n m kind es xs e f h = subst (λ (k : ℕ). AllByRecursion (IsEdge k kind) xs) (sym e) (subst (AllByRecursion (IsEdge m kind)) (sym f) h)

pub backs_of : (n m : ℕ) (es xs : List (ℕ × ℕ × Letter × ℕ)) → n ≡ m → xs ≡ es → AllByRecursion (IsBackEdge m) es → AllByRecursion (IsBackEdge n) xs
backs_of n m es xs e f h = subst (λ (k : ℕ). AllByRecursion (IsBackEdge k) xs) (sym e) (subst (AllByRecursion (IsBackEdge m)) (sym f) h)

pub within_of : (n m : ℕ) (h : ℕ → ℕ) → n ≡ m → ((q : ℕ) → q < m → h q < m) → (q : ℕ) → q < n → h q < n
within_of n m h e w = subst (λ (k : ℕ). (q : ℕ) → q < k → h q < k) (sym e) w
