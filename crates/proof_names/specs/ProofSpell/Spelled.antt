-- Which lines spell a predicate, a triple, a node or a step, and which annotation spells a draft: what its lines name is read back.
use Rattle.std.specs.Prelude.{◌≡◌, ℕ, ℤ, pos, negsuc, Bool, true, false, IsTrue, unsigned_abs, map, Option, Some, slice_get}
use Rattle.std.specs.List.{AllByRecursion}
use Rattle.letter_acts.specs.Invariant.{Graph}
use Rattle.triple_rows.specs.declared.triples.Scoped.{Scoped}
use Rattle.proof_form.specs.declared.numerals.Numeral.{Numeral}
use Rattle.proof_form.specs.declared.lines.StepLine.{StepLine}
use Rattle.proof_form.specs.Numerals.{is_numeral}
use Rattle.proof_form.specs.NumberValues.{number}
use Rattle.proof_form.specs.Lines as form
use Rattle.proof_form.specs.Lines.{is_pred, is_triple, is_node, is_step}
use Rattle.proof_form.specs.Annotations.{Content}
use Rattle.proof_names.specs.declared.outlines.NamedStep.{NamedStep}
use Rattle.proof_names.specs.declared.outlines.NamedTriple.{NamedTriple}
use Rattle.proof_names.specs.Numbers.{index_in, short_in}
use Rattle.proof_names.specs.Options.{all_some}
use Rattle.proof_names.specs.Predicates.{pred_named}
use Rattle.proof_names.specs.Refutations.{refutation_is_named, refutation_of}
use Rattle.proof_names.specs.Naming.{listed_of, proof_in, step_of, triple_at}
use Rattle.proof_names.specs.Outlines.{OutlineNode, Sketch}
use Rattle.proof_names.specs.ProofSpell.Correspond.{Correspond}
use Rattle.proof_names.specs.ProofSpell.Drafts.{PlainShown, Draft, IsWithin}

-- the number is below 0
abbrev pub is_negative : ℤ → Bool
is_negative (pos n) = false
is_negative (negsuc n) = true

-- the numeral is one of the grammar, and writes this number
pub record Writes (n : Numeral) (z : ℤ) : Type 0 where
  pub valid : IsTrue (is_numeral n)
  pub sign : n.negative ≡ is_negative z
  pub size : number n.digits ≡ unsigned_abs z

-- it writes the number of a member of a list, and is read as it
pub record WritesIndex (n : Numeral) (k : ℕ) : Type 0 where
  pub writes : Writes n (pos k)
  pub read : index_in n ≡ Some k

-- it writes the number of a letter or a place, and is read as it
pub record WritesShort (n : Numeral) (k : ℕ) : Type 0 where
  pub writes : Writes n (pos k)
  pub read : short_in n ≡ Some k

-- a line of the grammar names this predicate
pub record SpellsPred (g : Graph) (line : form.Pred) (s : Scoped) : Type 0 where
  pub valid : IsTrue (is_pred line)
  pub named : pred_named g line ≡ Some s

-- A line of the grammar has these numbers and this refutation, whose numbers are those of a line wherever they fit and each cut is at one of the
-- columns.
pub record SpellsTriple (line : form.Triple) (t : PlainShown) : Type 0 where
  pub valid : IsTrue (is_triple line)
  pub numbers : listed_of line ≡ Some t.listed
  pub proof : refutation_of (proof_in line) ≡ Some t.proof
  pub named : (columns : ℕ) → AllByRecursion (IsWithin columns) t.proof → IsTrue (refutation_is_named columns (proof_in line))

-- a line of the grammar has these numbers
pub record SpellsNode (line : form.Node) (x : OutlineNode) : Type 0 where
  pub valid : IsTrue (is_node line)
  pub place : short_in line.place ≡ Some x.place
  pub entry : index_in line.entry ≡ Some x.entry
  pub preds : all_some (map index_in line.preds) ≡ Some x.preds

-- a line of the grammar has these numbers
pub record SpellsStep (line : StepLine) (s : NamedStep) : Type 0 where
  pub valid : IsTrue (is_step line)
  pub numbers : step_of line ≡ Some s

-- the lines spell the draft, in order
pub record Spells (g : Graph) (a : Content) (d : Draft) : Type 0 where
  pub preds : Correspond (SpellsPred g) a.preds d.preds
  pub triples : Correspond SpellsTriple a.triples d.triples
  pub nodes : Correspond SpellsNode a.nodes d.nodes
  pub steps : Correspond SpellsStep a.steps d.steps

-- the triple with its numbers and its refutation is that of the draft
pub record IsOutlined (g : Graph) (preds : ℕ → Option Scoped) (t : NamedTriple) (shown : PlainShown) : Type 0 where
  pub listed : t.listed ≡ shown.listed
  pub triple : triple_at g.acts preds shown.listed ≡ Some t.triple
  pub proof : t.proof ≡ Some shown.proof

-- what the draft says, with the triples that its numbers are of
pub record Outlines (g : Graph) (s : Sketch) (d : Draft) : Type 0 where
  pub triples : Correspond (IsOutlined g (slice_get d.preds)) s.triples d.triples
  pub nodes : s.nodes ≡ d.nodes
  pub steps : s.steps ≡ d.steps
