-- Saturated automata: each triple over their predicates that Decide refutes without cuts is an edge.
use Rattle.std.specs.Prelude.{◌≡◌, ℕ, ◌<◌, Bool, List, length, Some, slice_get}
use Rattle.nwa_base.specs.Members.{Member}
use Rattle.letter_acts.specs.Acts.{PlainAct, Alphabet, letter_of}
use Rattle.triple_rows.specs.declared.triples.Scoped.{Scoped}
use Rattle.triple_rows.specs.declared.triples.Triple.TheVariants as triples
use Rattle.triple_rows.specs.Predicates.{truth, formula_of}
use Rattle.triple_rows.specs.Triples.{Agrees}
use Rattle.hoare_check.specs.Decided.{RefutesUncut}
use Rattle.itp_automaton.specs.Certified.{Certificate}

-- some state is this truth value of procedure p
abbrev pub HasTruth : List Scoped → ℕ → Bool → Type 0
HasTruth preds p b = (q : ℕ) × (s : Scoped) × (slice_get preds q ≡ Some s) × (s.proc ≡ p) × (formula_of s.pred ≡ truth b)

-- Saturated: true and false of each procedure are states, and each triple over the states by a letter of the alphabet, whose kinds and
-- scopes agree, is an edge wherever Decide without cuts refutes its system and all numbers fit.
pub record IsSaturated (al : Alphabet) (c : Certificate) : Type 0 where
  pub truths : (p : ℕ) (b : Bool) → p < length al.frames → HasTruth c.preds p b
  pub insides : (q e l : ℕ) (act : PlainAct) (before after : Scoped) → slice_get al.acts l ≡ Some act → slice_get c.preds q ≡ Some before →
      slice_get c.preds e ≡ Some after → Agrees al (triples.Inside before l after) → RefutesUncut al (triples.Inside before l after) →
      Member c.automaton.insides (q, letter_of l act, e)
  pub calls : (q e l : ℕ) (act : PlainAct) (before after : Scoped) → slice_get al.acts l ≡ Some act → slice_get c.preds q ≡ Some before →
      slice_get c.preds e ≡ Some after → Agrees al (triples.Call before l after) → RefutesUncut al (triples.Call before l after) →
      Member c.automaton.calls (q, letter_of l act, e)
  pub backs : (q p e l : ℕ) (act : PlainAct) (exit before after : Scoped) → slice_get al.acts l ≡ Some act → slice_get c.preds q ≡ Some exit →
      slice_get c.preds p ≡ Some before → slice_get c.preds e ≡ Some after → Agrees al (triples.Back exit before l after) →
      RefutesUncut al (triples.Back exit before l after) → Member c.automaton.backs (q, p, letter_of l act, e)
