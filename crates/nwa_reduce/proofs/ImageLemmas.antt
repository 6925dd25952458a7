-- The language of an image.
use Rattle.std.proofs.Common.{◌≡◌, ◌↔◌, ◌∙◌, ℕ, List, [], ◌∷◌, Option, None, Some, refl, subst}
use Rattle.nwa_base.specs.declared.letters.Kind.{Kind}
use Rattle.nwa_base.specs.declared.letters.Kind.TheVariants.{Inside, Call, Back}
use Rattle.nwa_base.specs.declared.letters.Letter.{Letter}
use Rattle.nwa_base.specs.Members.{Member}
use Rattle.nwa_base.specs.Automata.{Automaton}
use Rattle.nwa_base.specs.Acceptance.{Follows, AcceptsFrom, Accepts}
use Rattle.nwa_base.proofs.RunLemmas.{follows_stack}
use Rattle.nwa_reduce.specs.Ways.{IsReached, CanEnd}
use Rattle.nwa_reduce.specs.Images.{Among, IsNamedEdge, IsNamedBack, IsImage, IsSafe}
use Rattle.nwa_reduce.proofs.WayLemmas.{reached_start, reached_on, follows_leads, accepts_ends}

-- the states have these names, one by one
abbrev pub AreNamed : (ℕ → Option ℕ) → List ℕ → List ℕ → Type 0
AreNamed name [] [] = Unit {0}
AreNamed name [] (x ∷ xs) = ⊥
AreNamed name (q ∷ qs) [] = ⊥
AreNamed name (q ∷ qs) (x ∷ xs) = (name q ≡ Some x) × AreNamed name qs xs

has_name : (o : Option ℕ) → (o ≡ None → ⊥) → (x : ℕ) × (o ≡ Some x)
has_name None h = absurd (h refl)
has_name (Some x) h = (x, refl)

-- what is reached and leads to a final state has a name
pub useful_named : (m : Automaton) (name : ℕ → Option ℕ) (q : ℕ) → IsSafe m name → IsReached m q → CanEnd m q → (x : ℕ) × (name q ≡ Some x)
useful_named m name q s h g = has_name (name q) (λ e. s.useless q e (record { reached = h; ends = g }))

-- the states of an edge that has these names
edge_by : (edges : List (ℕ × Letter × ℕ)) (name : ℕ → Option ℕ) (x : ℕ) (a : Letter) (y : ℕ) → Among (IsNamedEdge name) edges (x, a, y) →
    (q : ℕ) × (e : ℕ) × Member edges (q, a, e) × (name q ≡ Some x) × (name e ≡ Some y)
edge_by edges name x a y h = let r = h.2 in (h.0.0, h.0.2, subst (Member edges) (λ i. (h.0.0, r.1 i, h.0.2)) h.1, r.0, r.2)

back_by : (edges : List (ℕ × ℕ × Letter × ℕ)) (name : ℕ → Option ℕ) (x z : ℕ) (a : Letter) (y : ℕ) → Among (IsNamedBack name) edges (x, z, a, y) →
    (q : ℕ) × (p : ℕ) × (e : ℕ) × Member edges (q, p, a, e) × (name q ≡ Some x) × (name p ≡ Some z) × (name e ≡ Some y)
back_by edges name x z a y h = let r = h.2 in (h.0.0, h.0.1, h.0.3, subst (Member edges) (λ i. (h.0.0, h.0.1, r.2 i, h.0.3)) h.1, r.0, r.1, r.3)

pub step_there : (m n : Automaton) (name : ℕ → Option ℕ) → IsImage m name n → (kind : Kind) (a : Letter) (before stack : List ℕ) (q e x y : ℕ)
    (rest rest' : List ℕ → Type 0) → AreNamed name before stack → name q ≡ Some x → name e ≡ Some y →
    ((s s' : List ℕ) → AreNamed name s s' → rest s → rest' s') → Follows m kind a before q e rest → Follows n kind a stack x y rest'
step_there m n name i Inside a before stack q e x y rest rest' b f g go h = ((i.insides (x, a, y)).1 ((q, a, e), h.0, (f, refl, g)), go before stack b h.1)
step_there m n name i Call a before stack q e x y rest rest' b f g go h = ((i.calls (x, a, y)).1 ((q, a, e), h.0, (f, refl, g)), go (q ∷ before) (x ∷ stack) (f, b) h.1)
step_there m n name i Back a [] stack q e x y rest rest' b f g go h = absurd h
step_there m n name i Back a (p ∷ before) [] q e x y rest rest' b f g go h = absurd b
step_there m n name i Back a (p ∷ before) (z ∷ stack) q e x y rest rest' b f g go h =
    ((i.backs (x, z, a, y)).1 ((q, p, a, e), h.0, (f, b.0, refl, g)), go before stack b.1 h.1)

there : (m n : Automaton) (name : ℕ → Option ℕ) → IsImage m name n → IsSafe m name → (w : List Letter) (before stack : List ℕ) (q x : ℕ) →
    IsReached m q → AreNamed name before stack → name q ≡ Some x → AcceptsFrom m before q w → AcceptsFrom n stack x w
there m n name i s [] before stack q x r b f h = (i.finals x).1 (q, h, f)
there m n name i s (a ∷ w) before stack q x r b f h =
    let t = follows_stack m a.kind a before q h.0 (λ u. AcceptsFrom m u h.0 w) h.1 in
    let o = reached_on m q h.0 r (follows_leads m a.kind a before q h.0 (λ u. AcceptsFrom m u h.0 w) h.1) in
    let y = useful_named m name h.0 s o (accepts_ends m w t.0 h.0 t.2) in (
      y.0,
      step_there m n name i a.kind a before stack q h.0 x y.0 (λ u. AcceptsFrom m u h.0 w) (λ u. AcceptsFrom n u y.0 w) b f y.1
          (λ u v k. there m n name i s w u v h.0 y.0 o k y.1) h.1,
    )

step_back : (m n : Automaton) (name : ℕ → Option ℕ) → IsImage m name n → IsSafe m name → (kind : Kind) (a : Letter) (before stack : List ℕ) (q x y : ℕ)
    (rest : List ℕ → Type 0) (rest' : ℕ → List ℕ → Type 0) → AreNamed name before stack → name q ≡ Some x →
    ((e : ℕ) (s s' : List ℕ) → name e ≡ Some y → AreNamed name s s' → rest s' → rest' e s) → Follows n kind a stack x y rest →
    (e : ℕ) × Follows m kind a before q e (rest' e)
step_back m n name i s Inside a before stack q x y rest rest' b f go h =
    let g = edge_by m.insides name x a y ((i.insides (x, a, y)).0 h.0) in
    let l = (s.alike g.0 q x g.3 f).insides a g.1 g.2 in
    (l.0, (l.1, go l.0 before stack (l.2 ∙ g.4) b h.1))
step_back m n name i s Call a before stack q x y rest rest' b f go h =
    let g = edge_by m.calls name x a y ((i.calls (x, a, y)).0 h.0) in
    let l = (s.alike g.0 q x g.3 f).calls a g.1 g.2 in
    (l.0, (l.1, go l.0 (q ∷ before) (x ∷ stack) (l.2 ∙ g.4) (f, b) h.1))
step_back m n name i s Back a before [] q x y rest rest' b f go h = absurd h
step_back m n name i s Back a [] (z ∷ stack) q x y rest rest' b f go h = absurd b
step_back m n name i s Back a (p ∷ before) (z ∷ stack) q x y rest rest' b f go h =
    let g = back_by m.backs name x z a y ((i.backs (x, z, a, y)).0 h.0) in
    let l = (s.alike g.0 q x g.4 f).backs g.1 a g.2 g.3 in
    let k = (s.alike g.1 p z g.5 b.0).before q a l.0 l.1 in
    (k.0, (k.1, go k.0 before stack (k.2 ∙ l.2 ∙ g.6) b.1 h.1))

back : (m n : Automaton) (name : ℕ → Option ℕ) → IsImage m name n → IsSafe m name → (w : List Letter) (before stack : List ℕ) (q x : ℕ) →
    AreNamed name before stack → name q ≡ Some x → AcceptsFrom n stack x w → AcceptsFrom m before q w
back m n name i s [] before stack q x b f h = let g = (i.finals x).0 h in (s.alike g.0 q x g.2 f).finals g.1
back m n name i s (a ∷ w) before stack q x b f h =
    step_back m n name i s a.kind a before stack q x h.0 (λ u. AcceptsFrom n u h.0 w) (λ e u. AcceptsFrom m u e w) b f
    (λ e u v g k. back m n name i s w u v e h.0 k g) h.1

-- an image under safe names accepts the same words
pub image_accepts : (m n : Automaton) (name : ℕ → Option ℕ) → IsImage m name n → IsSafe m name → (w : List Letter) → Accepts m w ↔ Accepts n w
image_accepts m n name i s w = (
  there m n name i s w [] [] m.start n.start (reached_start m) tt i.start,
  back m n name i s w [] [] m.start n.start tt i.start,
)
