-- Ways along edges.
use Rattle.std.proofs.Common.{ℕ, List, [], ◌∷◌, ◌++◌, refl, sym, subst, inl, inr}
use Rattle.nwa_base.specs.declared.letters.Kind.{Kind}
use Rattle.nwa_base.specs.declared.letters.Kind.TheVariants.{Inside, Call, Back}
use Rattle.nwa_base.specs.declared.letters.Letter.{Letter}
use Rattle.nwa_base.specs.Members.{Member}
use Rattle.nwa_base.specs.Automata.{Automaton}
use Rattle.nwa_base.specs.Acceptance.{Follows, AcceptsFrom}
use Rattle.nwa_base.proofs.RunLemmas.{follows_stack}
use Rattle.nwa_reduce.specs.Ways.{Leads, IsWay, IsReached, CanEnd}

-- two ways, one after the other
pub way_join : (step : ℕ → ℕ → Type 0) (q : ℕ) (us : List ℕ) (r : ℕ) (vs : List ℕ) (e : ℕ) → IsWay step q us r → IsWay step r vs e → IsWay step q (us ++ vs) e
way_join step q [] r vs e h g = subst (λ (z : ℕ). IsWay step z vs e) (sym h) g
way_join step q (u ∷ us) r vs e h g = (h.0, way_join step u us r vs e h.1 g)

-- a way, and one step more
pub way_last : (step : ℕ → ℕ → Type 0) (q : ℕ) (us : List ℕ) (r e : ℕ) → IsWay step q us r → step r e → IsWay step q (us ++ e ∷ []) e
way_last step q us r e h g = way_join step q us r (e ∷ []) e h (g, refl)

pub reached_start : (m : Automaton) → IsReached m m.start
reached_start m = record { states = []; way = refl }

pub reached_on : (m : Automaton) (q e : ℕ) → IsReached m q → Leads m q e → IsReached m e
reached_on m q e h g = record { states = h.states ++ e ∷ []; way = way_last (Leads m) m.start h.states q e h.way g }

pub ends_here : (m : Automaton) (q : ℕ) → Member m.finals q → CanEnd m q
ends_here m q h = record { states = []; end = q; way = refl; final = h }

pub ends_from : (m : Automaton) (q e : ℕ) → Leads m q e → CanEnd m e → CanEnd m q
ends_from m q e g h = record { states = e ∷ h.states; end = h.end; way = (g, h.way); final = h.final }

-- an edge that a letter follows is one, whatever the letter
pub follows_leads : (m : Automaton) (kind : Kind) (a : Letter) (before : List ℕ) (q e : ℕ) (rest : List ℕ → Type 0) →
    Follows m kind a before q e rest → Leads m q e
follows_leads m Inside a before q e rest h = inl (a, h.0)
follows_leads m Call a before q e rest h = inr (inl (a, h.0))
follows_leads m Back a [] q e rest h = absurd h
follows_leads m Back a (p ∷ before) q e rest h = inr (inr (p, a, h.0))

-- from where a word is accepted a way leads to a final state
pub accepts_ends : (m : Automaton) (w : List Letter) (before : List ℕ) (q : ℕ) → AcceptsFrom m before q w → CanEnd m q
accepts_ends m [] before q h = ends_here m q h
accepts_ends m (a ∷ w) before q h =
    let f = follows_stack m a.kind a before q h.0 (λ stack. AcceptsFrom m stack h.0 w) h.1 in
    ends_from m q h.0 (follows_leads m a.kind a before q h.0 (λ stack. AcceptsFrom m stack h.0 w) h.1) (accepts_ends m w f.0 h.0 f.2)
