-- The automaton over the numbers of predicates, with the edges of all certificates.
use Rattle.std.specs.Prelude.{◌≡◌, ℕ, ◌++◌, List, Option, Some}
use Rattle.std.specs.List.{filter_map}
use Rattle.std.specs.Option.{option_map}
use Rattle.nwa_base.specs.declared.letters.Letter.{Letter}
use Rattle.nwa_base.specs.Members.{Member}
use Rattle.nwa_base.specs.Automata.{Automaton}
use Rattle.triple_rows.specs.declared.triples.Scoped.{Scoped}
use Rattle.itp_automaton.specs.Certified.{Certificate}
use Rattle.proof_names.specs.Options.{both}
use Rattle.proof_build.specs.ProofUnwind.Exploring.{IsOverPreds}
use Rattle.proof_build.specs.Numbering.{AreNumbers}

-- ---- edges by number

-- the edge between the numbers of its states, if they have numbers
abbrev pub numbered : (ℕ → Option ℕ) → (ℕ × Letter × ℕ) → Option (ℕ × Letter × ℕ)
numbered number e = option_map (λ n. (n.0, e.1, n.1)) (both (number e.0) (number e.2))

abbrev pub numbered_back : (ℕ → Option ℕ) → (ℕ × ℕ × Letter × ℕ) → Option (ℕ × ℕ × Letter × ℕ)
numbered_back number e = option_map (λ n. (n.0, n.1.0, e.2, n.1.1)) (both (number e.0) (both (number e.1) (number e.3)))

-- the automaton with the edges of another one by number
abbrev pub with_edges : (ℕ → Option ℕ) → Automaton → Automaton → Automaton
with_edges number b u = record u {
  insides = u.insides ++ filter_map (numbered number) b.insides;
  calls = u.calls ++ filter_map (numbered number) b.calls;
  backs = u.backs ++ filter_map (numbered_back number) b.backs;
}

-- ---- the union

-- the edge is by number one of a certificate
pub record IsInsideOf (preds : List Scoped) (cs : List Certificate) (q : ℕ) (a : Letter) (r : ℕ) : Type 0 where
  pub certificate : Certificate
  pub among : Member cs certificate
  pub number : ℕ → Option ℕ
  pub numbers : AreNumbers preds certificate.preds number
  pub x : ℕ
  pub y : ℕ
  pub edge : Member certificate.automaton.insides (x, a, y)
  pub source : number x ≡ Some q
  pub target : number y ≡ Some r

pub record IsCallOf (preds : List Scoped) (cs : List Certificate) (q : ℕ) (a : Letter) (r : ℕ) : Type 0 where
  pub certificate : Certificate
  pub among : Member cs certificate
  pub number : ℕ → Option ℕ
  pub numbers : AreNumbers preds certificate.preds number
  pub x : ℕ
  pub y : ℕ
  pub edge : Member certificate.automaton.calls (x, a, y)
  pub source : number x ≡ Some q
  pub target : number y ≡ Some r

pub record IsBackOf (preds : List Scoped) (cs : List Certificate) (q p : ℕ) (a : Letter) (r : ℕ) : Type 0 where
  pub certificate : Certificate
  pub among : Member cs certificate
  pub number : ℕ → Option ℕ
  pub numbers : AreNumbers preds certificate.preds number
  pub x : ℕ
  pub z : ℕ
  pub y : ℕ
  pub edge : Member certificate.automaton.backs (x, z, a, y)
  pub source : number x ≡ Some q
  pub caller : number z ≡ Some p
  pub target : number y ≡ Some r

-- the certificate's edges between states with numbers are there by number
pub record HasEdgesOf (preds : List Scoped) (u : Automaton) (c : Certificate) : Type 0 where
  pub number : ℕ → Option ℕ
  pub numbers : AreNumbers preds c.preds number
  pub insides : (x y q r : ℕ) (a : Letter) → Member c.automaton.insides (x, a, y) → number x ≡ Some q → number y ≡ Some r → Member u.insides (q, a, r)
  pub calls : (x y q r : ℕ) (a : Letter) → Member c.automaton.calls (x, a, y) → number x ≡ Some q → number y ≡ Some r → Member u.calls (q, a, r)
  pub backs : (x z y q p r : ℕ) (a : Letter) → Member c.automaton.backs (x, z, a, y) → number x ≡ Some q → number z ≡ Some p → number y ≡ Some r →
      Member u.backs (q, p, a, r)

-- The states are predicates by number: the start is true, final states are false, and the edges are those of the certificates.
pub record IsUnionOf (preds : List Scoped) (cs : List Certificate) (u : Automaton) : Type 0 where
  pub over : IsOverPreds u
  pub each : (c : Certificate) → Member cs c → HasEdgesOf preds u c
  pub insides : (q r : ℕ) (a : Letter) → Member u.insides (q, a, r) → IsInsideOf preds cs q a r
  pub calls : (q r : ℕ) (a : Letter) → Member u.calls (q, a, r) → IsCallOf preds cs q a r
  pub backs : (q p r : ℕ) (a : Letter) → Member u.backs (q, p, a, r) → IsBackOf preds cs q p a r
