-- Where the pairs are closed under the edges, and none ends in a final state, no word is accepted.
use Rattle.std.proofs.Common.{ℕ, List, [], ◌∷◌, Option, None, Some}
use Rattle.nwa_base.specs.declared.letters.Kind.{Kind}
use Rattle.nwa_base.specs.declared.letters.Kind.TheVariants.{Inside, Call, Back}
use Rattle.nwa_base.specs.declared.letters.Letter.{Letter}
use Rattle.nwa_base.specs.Members.{Member}
use Rattle.nwa_base.specs.Automata.{Automaton}
use Rattle.nwa_base.specs.Acceptance.{Follows, AcceptsFrom, Accepts}
use Rattle.nwa_emptiness.specs.Closed.{IsClosed, NoneFinal}

-- the calls that are open, innermost first: each was made from a pair, by an edge to the entry of the call
abbrev pub Around : Automaton → List (Option ℕ × ℕ) → Option ℕ → List ℕ → Type 0
Around m pairs None [] = Unit {0}
Around m pairs None (p ∷ before) = ⊥
Around m pairs (Some n) [] = ⊥
Around m pairs (Some n) (p ∷ before) =
    (j : Option ℕ) × (c : Letter) × Member pairs (j, p) × Member m.calls (p, c, n) × Around m pairs j before

-- what a letter leads to is among the pairs
record GoesOn (m : Automaton) (pairs : List (Option ℕ × ℕ)) (e : ℕ) (P : List ℕ → Type 0) : Type 0 where
  entry : Option ℕ
  before : List ℕ
  member : Member pairs (entry, e)
  around : Around m pairs entry before
  rest : P before

goes_back : (m : Automaton) (pairs : List (Option ℕ × ℕ)) → IsClosed m pairs → (k : Option ℕ) (a : Letter) (p : ℕ) (before : List ℕ) (q e : ℕ) (P : List ℕ → Type 0) →
    Member pairs (k, q) → Around m pairs k (p ∷ before) → Member m.backs (q, p, a, e) → P before → GoesOn m pairs e P
goes_back m pairs v None a p before q e P h r b rest = absurd r
goes_back m pairs v (Some n) a p before q e P h r b rest = record {
  entry = r.0;
  before = before;
  member = v.back r.0 p n q e r.1 a r.2 r.3 h b;
  around = r.4;
  rest = rest;
}

goes_on : (m : Automaton) (pairs : List (Option ℕ × ℕ)) → IsClosed m pairs → (kind : Kind) (a : Letter) (k : Option ℕ) (before : List ℕ) (q e : ℕ) (P : List ℕ → Type 0) →
    Member pairs (k, q) → Around m pairs k before → Follows m kind a before q e P → GoesOn m pairs e P
goes_on m pairs v Inside a k before q e P h r f =
    record { entry = k; before = before; member = v.inside k q e a h f.0; around = r; rest = f.1 }
goes_on m pairs v Call a k before q e P h r f =
    record { entry = Some e; before = q ∷ before; member = v.call k q e a h f.0; around = (k, a, h, f.0, r); rest = f.1 }
goes_on m pairs v Back a k [] q e P h r f = absurd f
goes_on m pairs v Back a k (p ∷ before) q e P h r f = goes_back m pairs v k a p before q e P h r f.0 f.1

none_from : (m : Automaton) (pairs : List (Option ℕ × ℕ)) → IsClosed m pairs → NoneFinal m pairs → (w : List Letter) (k : Option ℕ) (before : List ℕ) (q : ℕ) →
    Member pairs (k, q) → Around m pairs k before → AcceptsFrom m before q w → ⊥
none_from m pairs v f [] k before q h r g = f k q h g
none_from m pairs v f (a ∷ w) k before q h r g =
    let s = goes_on m pairs v a.kind a k before q g.0 (λ stack. AcceptsFrom m stack g.0 w) h r g.1 in
    none_from m pairs v f w s.entry s.before g.0 s.member s.around s.rest

pub none_accepted : (m : Automaton) (pairs : List (Option ℕ × ℕ)) → IsClosed m pairs → NoneFinal m pairs → (w : List Letter) → Accepts m w → ⊥
none_accepted m pairs v f w h = none_from m pairs v f w None [] m.start v.start tt h
