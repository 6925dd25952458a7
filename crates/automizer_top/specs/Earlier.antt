-- What is answered with `--reuse`, where an earlier annotation is named: the race over the program begins with what it leaves of that annotation.
use Rattle.std.specs.Prelude.{◌≡◌, ℕ, ◌≤◌, List, length, Option, None, Some}
use Rattle.std.specs.List.{AllByRecursion}
use Rattle.outer_io.specs.Lines.{lines_of}
use Rattle.nwa_base.specs.declared.letters.Letter.{Letter}
use Rattle.nwa_base.specs.Acceptance.{Accepts}
use Rattle.typed_tree.specs.TypedTree.{TypedProgram}
use Rattle.letter_acts.specs.Invariant.{Graph, alphabet_of}
use Rattle.triple_rows.specs.declared.triples.Triple.{Triple}
use Rattle.hoare_check.specs.Decided.{RefutesUncut}
use Rattle.lowered_graph.specs.Lowered.{lowered}
use Rattle.proof_form.specs.Annotations.{Content}
use Rattle.proof_form.specs.Standing.{FirstWrongOfText}
use Rattle.proof_reuse.specs.Found.{found_preds}
use Rattle.proof_reuse.specs.Candidates.{IsCandidate}
use Rattle.race_core.specs.declared.events.Entry.{Entry}
use Rattle.itp_automaton.specs.Certified.{Certificate, IsCertified}
use Rattle.itp_automaton.specs.Making.{HasStates, HasEdge}
use Rattle.race_rounds.specs.declared.limits.Limits.{Limits}
use Rattle.text_reports.specs.ReportTexts.{Answer, syntax_answer}
use Rattle.text_reports.specs.ReportCases.{second_limit, ReportsTyped, ReportsLowered, ReportsSecond, IsSafeText}
use Rattle.automizer_top.specs.ReportCases.{ReportsVerdict}

-- What a program leaves of an earlier annotation: an automaton that is certified for it, with the predicates that are found again, whose edges are
-- candidates, among them each that Decide refutes without cuts within the numbers that fit.
pub record IsReused (g : Graph) (old : Content) (c : Certificate) : Type 0 where
  pub certified : IsCertified (alphabet_of g) c
  pub states : HasStates g (found_preds g old) c
  pub candidates : AllByRecursion (λ p. IsCandidate g old p.triple) c.proofs
  pub all : (t : Triple) → IsCandidate g old t → RefutesUncut (alphabet_of g) t → HasEdge (alphabet_of g) c.preds c.automaton t

-- The entry is this automaton with a word that the program accepts and it, too; there is none where there is no such word.
abbrev pub IsFirstEntry : Graph → Certificate → Option (Entry Certificate) → Type 0
IsFirstEntry g c None = (w : List Letter) → Accepts g.automaton w → Accepts c.automaton w → ⊥
IsFirstEntry g c (Some e) = (e.evidence ≡ c) × Accepts g.automaton e.word × Accepts c.automaton e.word

-- What is answered to a program that can be lowered, and to a text that should be an earlier annotation: the text is none, or a race that begins with
-- what the program leaves of it decides. Of its lines of coarse letters, its letters, nodes, steps and refutations nothing is asked. The cases
-- exclude each other.
pub data ReportsReuse (l : Limits) (t : TypedProgram) (text : List ℕ) (a : Answer) : Type 0 where
  no_earlier : (line : ℕ) → FirstWrongOfText (lines_of text) line → a ≡ syntax_answer line → ReportsReuse l t text a
  of_earlier : (coarse : List ℕ) (old : Content) (c : Certificate) (given : Option (Entry Certificate)) → IsSafeText text coarse old →
      IsReused (lowered t) old c → IsFirstEntry (lowered t) c given → ReportsVerdict given l t a → length a.bytes ≤ second_limit → ReportsReuse l t text a

-- What is answered to a program text whose verdict is asked for, and to what the name of an earlier annotation stands for. A program that is refused,
-- also one that cannot be lowered, is so whatever that name stands for.
abbrev pub ReportsVerifyWith : List ℕ → Limits → List ℕ → Option (List ℕ) → Answer → Type 0
ReportsVerifyWith entry l program old = ReportsTyped entry program (λ t. ReportsLowered t (λ g. ReportsSecond old (ReportsReuse l t)))
