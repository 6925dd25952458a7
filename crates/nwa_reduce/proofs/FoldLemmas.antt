-- The language of an image in which states of different calls are one.
use Rattle.std.proofs.Common.{◌≡◌, ◌↔◌, ◌<◌, ℕ, List, [], ◌∷◌, ◌++◌, Option, Some, refl, inl, inr}
use Rattle.nwa_base.specs.declared.letters.Kind.{Kind}
use Rattle.nwa_base.specs.declared.letters.Kind.TheVariants.{Inside, Call, Back}
use Rattle.nwa_base.specs.declared.letters.Letter.{Letter}
use Rattle.nwa_base.specs.Members.{Member}
use Rattle.nwa_base.specs.Automata.{Automaton, IsAutomaton}
use Rattle.nwa_base.specs.Acceptance.{Follows, AcceptsFrom, Accepts}
use Rattle.nwa_reduce.specs.Images.{IsImage}
use Rattle.nwa_reduce.specs.Ties.Levels.{Stays, IsInCall}
use Rattle.nwa_reduce.specs.Ties.Folding.{IsFolding}
use Rattle.nwa_reduce.proofs.WayLemmas.{way_last, follows_leads}
use Rattle.nwa_reduce.proofs.TrimLemmas.{leads_within}
use Rattle.nwa_reduce.proofs.ImageLemmas.{AreNamed, step_there}

-- q may stand in the innermost open call, and each state before a call in the call around it
abbrev StandsIn : Automaton → List ℕ → ℕ → Type 0
StandsIn m [] q = Unit {0}
StandsIn m (p ∷ before) q = IsInCall m p q × StandsIn m before p

-- a step that stays in the call
in_call_on : (m : Automaton) (p q e : ℕ) → IsInCall m p q → Stays m q e → IsInCall m p e
in_call_on m p q e h s = record { letter = h.letter; entry = h.entry; states = h.states ++ e ∷ []; call = h.call; way = way_last (Stays m) h.entry h.states q e h.way s }

stands_on : (m : Automaton) (before : List ℕ) (q e : ℕ) → StandsIn m before q → Stays m q e → StandsIn m before e
stands_on m [] q e h s = tt
stands_on m (p ∷ before) q e h s = (in_call_on m p q e h.0 s, h.1)

entered : (m : Automaton) (p : ℕ) (a : Letter) (e : ℕ) → Member m.calls (p, a, e) → IsInCall m p e
entered m p a e h = record { letter = a; entry = e; states = []; call = h; way = refl }

-- each state has a name
abbrev AllNamed : Automaton → (ℕ → Option ℕ) → Type 0
AllNamed m name = (q : ℕ) → q < m.states → (x : ℕ) × (name q ≡ Some x)

there : (m n : Automaton) (name : ℕ → Option ℕ) → IsAutomaton m → IsImage m name n → AllNamed m name → (w : List Letter) (before stack : List ℕ) (q x : ℕ) →
    AreNamed name before stack → name q ≡ Some x → AcceptsFrom m before q w → AcceptsFrom n stack x w
there m n name v i t [] before stack q x b f h = (i.finals x).1 (q, h, f)
there m n name v i t (a ∷ w) before stack q x b f h =
    let y = t h.0 (leads_within m q h.0 v (follows_leads m a.kind a before q h.0 (λ u. AcceptsFrom m u h.0 w) h.1)) in (
      y.0,
      step_there m n name i a.kind a before stack q h.0 x y.0 (λ u. AcceptsFrom m u h.0 w) (λ u. AcceptsFrom n u y.0 w) b f y.1
          (λ u v' k. there m n name v i t w u v' h.0 y.0 k y.1) h.1,
    )

step_back : (m n : Automaton) (name : ℕ → Option ℕ) → IsFolding m name n → (kind : Kind) (a : Letter) (before stack : List ℕ) (q x y : ℕ)
    (rest : List ℕ → Type 0) (rest' : ℕ → List ℕ → Type 0) → StandsIn m before q → AreNamed name before stack → name q ≡ Some x →
    ((e : ℕ) (s s' : List ℕ) → name e ≡ Some y → StandsIn m s e → AreNamed name s s' → rest s' → rest' e s) → Follows n kind a stack x y rest →
    (e : ℕ) × Follows m kind a before q e (rest' e)
step_back m n name d Inside a before stack q x y rest rest' i b f go h =
    let l = (d.copies q x f).insides a y h.0 in
    (l.0, (l.1, go l.0 before stack l.2 (stands_on m before q l.0 i (inl (a, l.1))) b h.1))
step_back m n name d Call a before stack q x y rest rest' i b f go h =
    let l = (d.copies q x f).calls a y h.0 in
    (l.0, (l.1, go l.0 (q ∷ before) (x ∷ stack) l.2 (entered m q a l.0 l.1, i) (f, b) h.1))
step_back m n name d Back a before [] q x y rest rest' i b f go h = absurd h
step_back m n name d Back a [] (z ∷ stack) q x y rest rest' i b f go h = absurd b
step_back m n name d Back a (p ∷ before) (z ∷ stack) q x y rest rest' i b f go h =
    let l = d.backs p q x z i.0 f b.0 a y h.0 in
    (l.0, (l.1, go l.0 before stack l.2 (stands_on m before p l.0 i.1 (inr (q, a, l.1))) b.1 h.1))

back : (m n : Automaton) (name : ℕ → Option ℕ) → IsFolding m name n → (w : List Letter) (before stack : List ℕ) (q x : ℕ) →
    StandsIn m before q → AreNamed name before stack → name q ≡ Some x → AcceptsFrom n stack x w → AcceptsFrom m before q w
back m n name d [] before stack q x i b f h = (d.copies q x f).finals h
back m n name d (a ∷ w) before stack q x i b f h =
    step_back m n name d a.kind a before stack q x h.0 (λ u. AcceptsFrom n u h.0 w) (λ e u. AcceptsFrom m u e w) i b f
    (λ e u v k s g. back m n name d w u v e h.0 s g k) h.1

-- a folding accepts the same words
pub folding_accepts : (m n : Automaton) (name : ℕ → Option ℕ) → IsAutomaton m → IsImage m name n → AllNamed m name → IsFolding m name n →
    (w : List Letter) → Accepts m w ↔ Accepts n w
folding_accepts m n name v i t d w = (
  there m n name v i t w [] [] m.start n.start tt i.start,
  back m n name d w [] [] m.start n.start tt tt i.start,
)
