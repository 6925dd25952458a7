use Rattle.std.proofs.Common.{ℕ, List, ◌++◌, sym, ap, ◌∙◌, subst, FitsSigned, rules}
use Rattle.std.specs.Int.{w128}
use Rattle.std.proofs.lemmas.Int.{to_z-of_z}
use Rattle.std.specs.Prelude.{ℤ, map}
use Rattle.std.specs.List.{AllByRecursion}
use Rattle.letter_acts.specs.Frames.{Columns}
use Rattle.rank_lasso.specs.LassoRanks.Ranks.{PlainRanking, plain_ranking, IsRankingOver}
use Rattle.rank_lasso.specs.RankingText.{rank_line}
use Rattle.rank_lasso.specs.Naming.{entry_frame}
use Rattle.rank_lasso.specs.Ties.Writing.{term_form, IsSpelled, WritesEnding}
use Rattle.rank_lasso.proofs.WritingLaws.{rank_written, exclusion_written, appended}
use Rattle.rank_lasso.proofs.ranking_writing.push_ending.Goals as goal

pub returns-in_ok-push_proof-in-Rank-2 : goal.returns-in_ok-push_proof-in-Rank-2
returns-in_ok-push_proof-in-Rank-2 c =
    let g = c.args.icfg.now in
    let old = c.args.out.now.items in
    let ts = c.in-Rank.terms.items in
    let bound = c.in-Rank.bound in
    let is = ap plain_ranking c.in-Rank.is in
    let over = subst (IsRankingOver g) is c.requires.over in
    let spelled = subst (λ (f : Columns). AllByRecursion (IsSpelled f) ts) c.entry_frame.ensures.value
    (subst (λ (l : List (ℕ × ℤ)). AllByRecursion (IsSpelled c.entry_frame.result.now) l) c.deref.ensures.value c.in_ok-push_rank-in-Rank.ensures.spelled) in
    let written = c.in_ok-push_rank-in-Rank.ensures.written
    ∙ ap (λ (f : Columns). old ++ rank_line (map (term_form f) c.deref.result.now)) c.entry_frame.ensures.value
    ∙ ap (λ (l : List (ℕ × ℤ)). old ++ rank_line (map (term_form (entry_frame g)) l)) c.deref.ensures.value in
    let fits : FitsSigned w128 bound = search rules in
    let bound_written = simp to_z-of_z at c.in_ok-push_bound-in-Rank.ensures in
    appended c.extend_from_slice.result c.extend_from_slice.new.self.items _ _ _ c.extend_from_slice.ensures.items
    (λ end. subst (λ (r : PlainRanking). WritesEnding g r old c.extend_from_slice.new.self.items) (sym is)
    (rank_written g ts bound c.in-Rank.falls c.in-Rank.bounded old c.push_rank.new.out.items c.push_bound.new.out.items c.push_proof.new.out.items c.push_proof-in-Rank.new.out.items
    c.extend_from_slice.new.self.items over spelled written bound_written c.in_ok-push_proof-in-Rank.ensures c.in_ok-push_proof-in-Rank-2.ensures end))

pub returns-in_ok-push_proof-in-Excluded : goal.returns-in_ok-push_proof-in-Excluded
returns-in_ok-push_proof-in-Excluded c =
    let g = c.args.icfg.now in
    let old = c.args.out.now.items in
    appended c.extend_from_slice-in-Excluded.result c.extend_from_slice-in-Excluded.new.self.items _ _ _ c.extend_from_slice-in-Excluded.ensures.items
    (λ end. subst (λ (r : PlainRanking). WritesEnding g r old c.extend_from_slice-in-Excluded.new.self.items) (sym (ap plain_ranking c.in-Excluded.is))
    (exclusion_written g c.in-Excluded.proof old c.push_proof-in-Excluded.new.out.items c.extend_from_slice-in-Excluded.new.self.items c.in_ok-push_proof-in-Excluded.ensures end))
