-- What the program answers to faulty words and to lassos, and of races; the other answers are those to texts.
use Rattle.std.specs.Prelude.{ℕ, List, [], ◌∷◌, length, codes}
use Rattle.proof_check.specs.declared.rejects.RejectCause.TheVariants as rejects
use Rattle.rank_lasso.specs.declared.lasso_ranks.lassos.LassoFault.{LassoFault}
use Rattle.rank_lasso.specs.declared.lasso_ranks.lassos.LassoFault.TheVariants as lasso_faults
use Rattle.race_core.specs.Races.{Race}
use Rattle.itp_automaton.specs.Certified.{Certificate}
use Rattle.race_verdicts.specs.declared.verdicts.Verdict.{Verdict}
use Rattle.race_verdicts.specs.Texts.{verdict_text}
use Rattle.text_reports.specs.ReportTexts.{Answer, answer, syntax_answer, failed_answer}
use Rattle.automizer_top.specs.Summary.{summary_text}
use Rattle.automizer_top.specs.Verdicts.{verdict_status}

-- ---- to faulty words

abbrev pub usage_line : List ℕ
usage_line = codes "usage: automizer MODE PROGRAM [SECOND] [--entry NAME] [--rounds N] [--workers N] [--depth N] [--modular] [--reuse OLD]\n"

-- ---- to a lasso, or to a ranking of one

-- no linear rank of the loop has a proof without cuts, and the stem and one turn are not refuted
abbrev pub no_ranking_answer : Answer
no_ranking_answer = answer (codes "unknown ranking\n") 2

-- a number of the search for a ranking does not fit
abbrev pub no_number_answer : Answer
no_number_answer = answer (codes "unknown number\n") 2

-- why the text is none of a lasso or a ranking, or its letters make no lasso; without bytes for want of memory, which no text has
abbrev pub fault_answer : LassoFault → Answer
fault_answer (lasso_faults.Syntax line) = syntax_answer line
fault_answer (lasso_faults.BadName line) = failed_answer line rejects.BadName
fault_answer (lasso_faults.BadStep line) = failed_answer line rejects.BadStep
fault_answer lasso_faults.Memory = answer [] 1

-- ---- of a race

-- a verdict, after as many rounds as the race has entries
abbrev pub verdict_answer : Race Certificate → Verdict → Answer
verdict_answer r v = record { bytes = verdict_text (length r.history) v; status = verdict_status v; races = r ∷ [] }

-- the summary of a verdict on the generated program of so many procedures
abbrev pub summary_answer : ℕ → Race Certificate → Verdict → Answer
summary_answer count r v = record { bytes = summary_text count v; status = verdict_status v; races = r ∷ [] }
