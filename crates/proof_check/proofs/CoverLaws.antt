-- Steps and backs that nodes have, edge by edge.
use Rattle.std.proofs.Common.{◌≡◌, ◌∙◌, ◌↔◌, ℕ, Bool, true, false, ◌&&◌, eqb, List, [], ◌∷◌, length, refl, sym, ap, subst, arith}
use Rattle.std.specs.Prelude.{IsTrue}
use Rattle.std.proofs.lemmas.Bool.{eqb-true, false≢true}
use Rattle.nwa_base.specs.declared.letters.Letter.{Letter}
use Rattle.nwa_base.specs.Members.{Member}
use Rattle.nwa_base.specs.Edges.{leaving, backs_leaving, backs_between}
use Rattle.nwa_base.proofs.LetterLemmas.{and_left, and_right, and_both, eqb-refl}
use Rattle.nwa_base.proofs.MemberLemmas.{member_filter, filter_member}
use Rattle.letter_acts.specs.Invariant.{Graph}
use Rattle.proof_names.specs.declared.outlines.NamedStep.TheVariants as steps
use Rattle.proof_names.specs.Outlines.{OutlineNode, Sketch}
use Rattle.proof_check.specs.Steps.{IsNode, HasStepTo, BacksTo, HasSteps, HasBacks}
use Rattle.proof_check.specs.Ties.Plans.{HasPred}
use Rattle.proof_check.specs.Ties.Covering.{HasStepsAlong, HasBacksAlong, HasBacksFrom}
use Rattle.proof_check.specs.Checks.{IsCovered}

-- ---- steps

abbrev pub LeadsAlong : Sketch → ℕ → ℕ × Letter × ℕ → Type 0
LeadsAlong s n e = HasStepTo s n e.1.id e.2

pub leads_along : (s : Sketch) (n : ℕ) (edges : List (ℕ × Letter × ℕ)) → ((e : ℕ × Letter × ℕ) → Member edges e → LeadsAlong s n e) ↔ HasStepsAlong s n edges
leads_along s n edges = (λ h q a e m. h (q, a, e) m, λ h e m. h e.0 e.1 e.2 m)

leaving_all : (s : Sketch) (n q : ℕ) (edges : List (ℕ × Letter × ℕ)) → HasStepsAlong s n (leaving q edges) →
    (a : Letter) (e : ℕ) → Member edges (q, a, e) → HasStepTo s n a.id e
leaving_all s n q edges h a e m = h q a e (member_filter (λ (x : ℕ × Letter × ℕ). eqb x.0 q) edges (q, a, e) m (eqb-refl q))

all_leaving : (s : Sketch) (n q : ℕ) (edges : List (ℕ × Letter × ℕ)) → ((a : Letter) (e : ℕ) → Member edges (q, a, e) → HasStepTo s n a.id e) → HasStepsAlong s n (leaving q edges)
all_leaving s n q edges h p a e m =
    let f = filter_member (λ (x : ℕ × Letter × ℕ). eqb x.0 q) edges (p, a, e) m in
    h a e (subst (λ (k : ℕ). Member edges (k, a, e)) (eqb-true p q f.1) f.0)

pub has_steps : (g : Graph) (s : Sketch) (n q : ℕ) (x : OutlineNode) → x.place ≡ q →
    (HasStepsAlong s n (leaving q g.automaton.insides) × HasStepsAlong s n (leaving q g.automaton.calls)) ↔ HasSteps g s n x
has_steps g s n q x e = (
  λ h. record {
    insides = λ a t m. leaving_all s n x.place g.automaton.insides (subst (λ (k : ℕ). HasStepsAlong s n (leaving k g.automaton.insides)) (sym e) h.0) a t m;
    calls = λ a t m. leaving_all s n x.place g.automaton.calls (subst (λ (k : ℕ). HasStepsAlong s n (leaving k g.automaton.calls)) (sym e) h.1) a t m;
  },
  λ h. (
    subst (λ (k : ℕ). HasStepsAlong s n (leaving k g.automaton.insides)) e (all_leaving s n x.place g.automaton.insides h.insides),
    subst (λ (k : ℕ). HasStepsAlong s n (leaving k g.automaton.calls)) e (all_leaving s n x.place g.automaton.calls h.calls),
  ),
)

-- ---- backs

abbrev pub LeadsBackAlong : Sketch → ℕ → ℕ → ℕ → ℕ × ℕ × Letter × ℕ → Type 0
LeadsBackAlong s x c call e = e.2.call ≡ call → BacksTo s x c e.2.id e.3

pub leads_back_along : (s : Sketch) (x c call : ℕ) (edges : List (ℕ × ℕ × Letter × ℕ)) →
    ((e : ℕ × ℕ × Letter × ℕ) → Member edges e → LeadsBackAlong s x c call e) ↔ HasBacksAlong s x c call edges
leads_back_along s x c call edges = (λ h q p a e m. h (q, p, a, e) m, λ h e m. h e.0 e.1 e.2 e.3 m)

between : (q p : ℕ) (edges : List (ℕ × ℕ × Letter × ℕ)) (r : Letter) (e : ℕ) → Member edges (q, p, r, e) → Member (backs_between q p edges) (q, p, r, e)
between q p edges r e m =
    member_filter (λ (x : ℕ × ℕ × Letter × ℕ). eqb x.0 q && eqb x.1 p) edges (q, p, r, e) m (and_both (eqb q q) (eqb p p) (eqb-refl q) (eqb-refl p))

pub from_along : (g : Graph) (s : Sketch) (x q c call : ℕ) (b : OutlineNode) → IsNode s c b → HasBacksAlong s x c call (backs_between q b.place g.automaton.backs) → HasBacksFrom g s x q c call
from_along g s x q c call b i h before j lacks r e m k =
    let w : before ≡ b = cc in
    h q b.place r e (between q b.place g.automaton.backs r e (subst (λ (y : OutlineNode). Member g.automaton.backs (q, y.place, r, e)) w m)) k

pub along_from : (g : Graph) (s : Sketch) (x q c call : ℕ) (b : OutlineNode) → IsNode s c b → (HasPred s.nodes c 1 → ⊥) → HasBacksFrom g s x q c call →
    HasBacksAlong s x c call (backs_between q b.place g.automaton.backs)
along_from g s x q c call b i n h k p r e m l =
    let f = filter_member (λ (y : ℕ × ℕ × Letter × ℕ). eqb y.0 q && eqb y.1 b.place) g.automaton.backs (k, p, r, e) m in
    let u = eqb-true k q (and_left (eqb k q) (eqb p b.place) f.1) in
    let v = eqb-true p b.place (and_right (eqb k q) (eqb p b.place) f.1) in
    h b i (λ o. n (b, i, o)) r e (subst (λ (z : ℕ). Member g.automaton.backs (z, b.place, r, e)) u (subst (λ (z : ℕ). Member g.automaton.backs (k, z, r, e)) v f.0)) l

no_edges : {X : Type 0} (xs : List X) (x : X) → xs ≡ [] → Member xs x → ⊥
no_edges xs x e m = subst (λ ys. Member ys x) e m

pub no_backs : (g : Graph) (s : Sketch) (n q : ℕ) (x : OutlineNode) → x.place ≡ q → backs_leaving q g.automaton.backs ≡ [] → HasBacks g s n x
no_backs g s n q x e z c before i lacks r t m j =
    absurd (no_edges (backs_leaving q g.automaton.backs) (q, before.place, r, t) z
    (member_filter (λ (y : ℕ × ℕ × Letter × ℕ). eqb y.0 q) g.automaton.backs (q, before.place, r, t)
    (subst (λ (k : ℕ). Member g.automaton.backs (k, before.place, r, t)) e m) (eqb-refl q)))

-- each step that enters the node's entry node is answered by backs
abbrev pub AllAnswered : Graph → Sketch → ℕ → ℕ → List (ℕ × ℕ) → Type 0
AllAnswered g s n q entering = (t : ℕ × ℕ) → Member entering t → HasBacksFrom g s n q t.0 t.1

pub answered : (g : Graph) (s : Sketch) (n q entry : ℕ) (x : OutlineNode) (entering : List (ℕ × ℕ)) → x.place ≡ q → x.entry ≡ entry →
    ((c l : ℕ) → Member entering (c, l) ↔ Member s.steps (steps.Step c l entry)) → AllAnswered g s n q entering ↔ HasBacks g s n x
answered g s n q entry x entering e f k = (there, back)
  where
    there : AllAnswered g s n q entering → HasBacks g s n x
    there h c before i lacks r t m j =
        h (c, r.call) ((k c r.call).1 (subst (λ (z : ℕ). Member s.steps (steps.Step c r.call z)) f j)) before i lacks r t
        (subst (λ (z : ℕ). Member g.automaton.backs (z, before.place, r, t)) e m) refl

    back : HasBacks g s n x → AllAnswered g s n q entering
    back h t m before i lacks r d o c =
        let j : Member s.steps (steps.Step t.0 t.1 entry) = (k t.0 t.1).0 m in
        h t.0 before i lacks r d (subst (λ (z : ℕ). Member g.automaton.backs (z, before.place, r, d)) (sym e) o)
        (subst (λ (z : ℕ). Member s.steps (steps.Step t.0 r.call z)) (sym f) (subst (λ (z : ℕ). Member s.steps (steps.Step t.0 z entry)) (sym c) j))

-- ---- nodes

pub covered_open : (g : Graph) (s : Sketch) (n : ℕ) (x : OutlineNode) → IsNode s n x → (HasPred s.nodes n 1 → ⊥) → IsCovered g s n x → HasSteps g s n x × HasBacks g s n x
covered_open g s n x i n1 h = h (λ o. n1 (x, i, o))

-- ---- what the tests say

-- the steps for inside edges are there, and the second test tells those for calls
pub steps_tested : (g : Graph) (s : Sketch) (n q : ℕ) (x : OutlineNode) (xs ys : List (ℕ × Letter × ℕ)) (b d : Bool) → xs ≡ leaving q g.automaton.insides → ys ≡ leaving q g.automaton.calls →
    (IsTrue b ↔ HasStepsAlong s n xs) → b ≡ true → (IsTrue d ↔ HasStepsAlong s n ys) → x.place ≡ q → (IsTrue d → HasSteps g s n x) × (HasSteps g s n x → IsTrue d)
steps_tested g s n q x xs ys b d i c h t k e = (
  λ f. (has_steps g s n q x e).0 (subst (HasStepsAlong s n) i (h.0 t), subst (HasStepsAlong s n) c (k.0 f)),
  λ p. k.1 (subst (HasStepsAlong s n) (sym c) ((has_steps g s n q x e).1 p).1),
)

pub steps_missed : (g : Graph) (s : Sketch) (n q : ℕ) (x : OutlineNode) (xs : List (ℕ × Letter × ℕ)) (b : Bool) → xs ≡ leaving q g.automaton.insides →
    (IsTrue b ↔ HasStepsAlong s n xs) → b ≡ false → x.place ≡ q → (IsTrue b → HasSteps g s n x) × (HasSteps g s n x → IsTrue b)
steps_missed g s n q x xs b i h f e = (
  λ t. absurd (false≢true (sym f ∙ t)),
  λ p. h.1 (subst (HasStepsAlong s n) (sym i) ((has_steps g s n q x e).1 p).0),
)

pub backs_tested : (g : Graph) (s : Sketch) (x q c call : ℕ) (b : OutlineNode) (xs : List (ℕ × ℕ × Letter × ℕ)) (r : Bool) → IsNode s c b → (HasPred s.nodes c 1 → ⊥) →
    xs ≡ backs_between q b.place g.automaton.backs → (IsTrue r ↔ HasBacksAlong s x c call xs) → (IsTrue r → HasBacksFrom g s x q c call) × (HasBacksFrom g s x q c call → IsTrue r)
backs_tested g s x q c call b xs r i n e h = (
  λ t. from_along g s x q c call b i (subst (HasBacksAlong s x c call) e (h.0 t)),
  λ p. h.1 (subst (HasBacksAlong s x c call) (sym e) (along_from g s x q c call b i n p)),
)

-- a list without members
pub nothing_there : {X : Type 0} (xs : List X) → length xs ≡ 0 → xs ≡ []
nothing_there [] e = refl
nothing_there (x ∷ xs) e = absurd (omega arith)

pub covered_rest : (g : Graph) (s : Sketch) (n : ℕ) (x b : OutlineNode) (a d : Bool) → IsNode s n x → IsNode s n b → (HasPred s.nodes n 1 → ⊥) →
    ((y : OutlineNode) → y.place ≡ b.place → IsTrue a ↔ HasSteps g s n y) → a ≡ true → ((y : OutlineNode) → y.place ≡ b.place → y.entry ≡ b.entry → IsTrue d ↔ HasBacks g s n y) →
    (IsTrue d → IsCovered g s n x) × (IsCovered g s n x → IsTrue d)
covered_rest g s n x b a d i j lacks h t k =
    let e : x ≡ b = cc in
    let p : x.place ≡ b.place = ap (λ (y : OutlineNode). y.place) e in
    let q : x.entry ≡ b.entry = ap (λ (y : OutlineNode). y.entry) e in
    (λ f o. ((h x p).0 t, (k x p q).0 f), λ c. (k x p q).1 (covered_open g s n x i lacks c).1)
