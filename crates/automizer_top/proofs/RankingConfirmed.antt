-- What `lasso` writes is confirmed: `ranked` accepts it.
use Rattle.std.proofs.Common.{◌≡◌, ◌∙◌, ℕ, ◌≤◌, List, length, Some, refl, sym, ap, subst, arith}
use Rattle.outer_io.specs.Texts.{text_named}
use Rattle.typed_tree.specs.TypedTree.{TypedProgram}
use Rattle.lowered_graph.specs.Lowered.{lowered}
use Rattle.rank_lasso.specs.LassoRanks.Lassos.{PlainLasso, IsLassoOf}
use Rattle.rank_lasso.specs.Faults.{IsReadAs}
use Rattle.automizer_top.specs.CommandLine.{Lasso, Ranked, Settings}
use Rattle.text_reports.specs.ReportTexts.{Answer, accepted_answer}
use Rattle.automizer_top.specs.Report.{second_limit, Ask, ReportsSecond, refused, of_typed, unlowered, of_lowered, second_too_long, of_second, Reports, ranking}
use Rattle.automizer_top.specs.Rankings.{FindsRanking, ReportsLassoText, no_lasso_text, no_lasso, of_lasso, found_ranking, found_none, past_number, ReportsLasso, ReportsRankingText, ranking_holds, ReportsRanked}
use Rattle.text_reports.proofs.RefusalLaws.{typed_is_not_zero, lowering_is_not_zero, too_long_is_not_zero}
use Rattle.automizer_top.proofs.RankingLaws.{faulty_is_one, one_is_not_zero, two_is_not_zero}
use Rattle.automizer_top.proofs.TaskLaws.{task_reported}
use Rattle.automizer_top.proofs.ReportUnique.{report_once, one_of_task}

abbrev Texts : Type 0
Texts = List (List ℕ × List ℕ)

-- the second text is the answer
given_back : (depth : ℕ) (t : TypedProgram) (l : PlainLasso) (a : Answer) (second : List ℕ) (after : Texts) → text_named second after ≡ Some a.bytes → IsLassoOf (lowered t) l →
    FindsRanking depth (lowered t) l a → ReportsSecond (text_named second after) (ReportsRankingText (lowered t)) accepted_answer
given_back depth t l a second after handed i s =
    let bytes : s.text ≡ a.bytes = sym (ap (λ (b : Answer). b.bytes) s.is) in
    of_second a.bytes handed (subst (λ (x : List ℕ). length x ≤ second_limit) bytes s.short)
    (ranking_holds l s.ranking (subst (λ (x : List ℕ). IsReadAs (lowered t) x l s.ranking) bytes s.spelled) i s.holds refl)

module _ (depth : ℕ) (entry program : List ℕ) (lasso second : List ℕ) (before after : Texts) (a : Answer) (z : a.status ≡ 0) (handed : text_named second after ≡ Some a.bytes) where
  of_lasso_text : (t : TypedProgram) (x : List ℕ) → ReportsLassoText depth (lowered t) x a → ReportsSecond (text_named second after) (ReportsRankingText (lowered t)) accepted_answer
  of_lasso_text t x (no_lasso_text f p room is) = absurd (one_is_not_zero a.status (faulty_is_one f a is) z)
  of_lasso_text t x (no_lasso l f h p room is) = absurd (one_is_not_zero a.status (faulty_is_one f a is) z)
  of_lasso_text t x (of_lasso l h i (found_ranking s)) = given_back depth t l a second after handed i s
  of_lasso_text t x (of_lasso l h i (found_none n is)) = absurd (two_is_not_zero a.status (ap (λ (b : Answer). b.status) is) z)
  of_lasso_text t x (of_lasso l h i (past_number n is)) = absurd (two_is_not_zero a.status (ap (λ (b : Answer). b.status) is) z)

  is_accepted : ReportsLasso entry depth program (text_named lasso before) a → ReportsRanked entry program (text_named second after) accepted_answer
  is_accepted (refused r) = absurd (typed_is_not_zero entry program a r z)
  is_accepted (of_typed t w (unlowered r)) = absurd (lowering_is_not_zero t a r z)
  is_accepted (of_typed t w (of_lowered none (second_too_long x e past is))) = absurd (too_long_is_not_zero a is z)
  is_accepted (of_typed t w (of_lowered none (of_second x e few r))) = of_typed t w (of_lowered none (of_lasso_text t x r))

-- what was written is accepted, where it is handed over with the same program and entry
pub lasso_is_accepted : (words again : List (List ℕ)) (r s : Settings) (program lasso second : List ℕ) (before after : Texts) (a b : Answer) → Ask words r (Lasso program lasso) →
    Ask again s (Ranked program second) → Reports words before a → a.status ≡ 0 → s.entry ≡ r.entry → text_named program after ≡ text_named program before →
    text_named second after ≡ Some a.bytes → Reports again after b → b ≡ accepted_answer
lasso_is_accepted words again r s program lasso second before after a b ask asked given z entry same handed gives =
    let told = task_reported words before a r (Lasso program lasso) ask given in
    let accepts : ReportsRanked s.entry told.0 (text_named second after) accepted_answer =
    subst (λ (e : List ℕ). ReportsRanked e told.0 (text_named second after) accepted_answer) (sym entry)
    (is_accepted r.limits.depth r.entry told.0 lasso second before after a z handed told.2) in
    one_of_task again after s (Ranked program second) accepted_answer b asked (λ (e : 6 ≡ 3). omega arith) (λ (e : 6 ≡ 4). omega arith) (λ (e : 6 ≡ 5). omega arith) refl
    (report_once again after accepted_answer b (ranking s program second told.0 asked (same ∙ told.1) accepts) gives)
