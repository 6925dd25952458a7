-- Which words an automaton accepts: from the front, with the states before the calls that are open.
use Rattle.std.specs.Prelude.{◌≡◌, ℕ, List, [], ◌∷◌}
use Rattle.nwa_base.specs.declared.letters.Kind.{Kind}
use Rattle.nwa_base.specs.declared.letters.Kind.TheVariants.{Inside, Call, Back}
use Rattle.nwa_base.specs.declared.letters.Letter.{Letter}
use Rattle.nwa_base.specs.Members.{Member}
use Rattle.nwa_base.specs.Automata.{Automaton}

-- An edge by a letter of this kind leads from q to e, and the rest holds of the states before the calls that are then
-- open. `before` are those before the calls that are open at q, innermost first. A return needs one.
abbrev pub Follows : Automaton → Kind → Letter → List ℕ → ℕ → ℕ → (List ℕ → Type 0) → Type 0
Follows m Inside a before q e rest = Member m.insides (q, a, e) × rest before
Follows m Call a before q e rest = Member m.calls (q, a, e) × rest (q ∷ before)
Follows m Back a [] q e rest = ⊥
Follows m Back a (p ∷ before) q e rest = Member m.backs (q, p, a, e) × rest before

-- from q, with these states before the open calls, some way through the word ends in a final state, whatever calls are then open
abbrev pub AcceptsFrom : Automaton → List ℕ → ℕ → List Letter → Type 0
AcceptsFrom m before q [] = Member m.finals q
AcceptsFrom m before q (a ∷ w) = (e : ℕ) × Follows m a.kind a before q e (λ stack. AcceptsFrom m stack e w)

-- the automaton accepts the word
abbrev pub Accepts : Automaton → List Letter → Type 0
Accepts m w = AcceptsFrom m [] m.start w

-- some way through the word leads from q to e, and turns the states before the open calls from `before` into `after`
abbrev pub Moves : Automaton → List ℕ → ℕ → List Letter → List ℕ → ℕ → Type 0
Moves m before q [] after e = (before ≡ after) × (q ≡ e)
Moves m before q (a ∷ w) after e = (r : ℕ) × Follows m a.kind a before q r (λ stack. Moves m stack r w after e)
