-- What the check of a ranking answers, from what the parts of it say of the turns that they were made of.
use Rattle.std.proofs.Common.{◌≡◌, ◌↔◌, ◌∙◌, ℕ, ℤ, List, length, Bool, Option, None, IsNone, IsTrue, true, refl, sym, ap, subst}
use Rattle.std.specs.Prelude.{IfSome}
use Rattle.letter_acts.specs.Acts.{frame_of}
use Rattle.letter_acts.specs.Invariant.{Graph, IsGraph, alphabet_of}
use Rattle.farkas_check.specs.Nodes.{PlainNode}
use Rattle.path_rows.proofs.ListLemmas.{length-columns_from}
use Rattle.rank_lasso.specs.declared.lasso_turns.made.MadeTurn.{MadeTurn}
use Rattle.rank_lasso.specs.LassoTurns.Turns.{Turn, turn_of}
use Rattle.rank_lasso.specs.LassoTurns.Made.{plain_turn}
use Rattle.rank_lasso.specs.LassoTurns.Claims.{IsFormOver, unfallen, unbounded, RefutesWith}
use Rattle.rank_lasso.specs.LassoRanks.Lassos.{PlainLasso, IsLassoOf, entry_proc, loop_turn}
use Rattle.rank_lasso.specs.LassoRanks.Ranks.{PlainRanking, ranked_by, IsRankingOver, Ranks, IsFirstFailing, HasFewTurns, LassoEnds}
use Rattle.rank_lasso.proofs.LassoRanks.RankLaws.{ranks_say_few, few_turns_say_end}

-- what an answer of the check tells
pub record Tells (g : Graph) (l : PlainLasso) (r : PlainRanking) (o : Option ℕ) : Type 0 where
  pub exact : IsNone o ↔ Ranks g l r
  pub line : IfSome o (IsFirstFailing g l r)
  pub few : IsNone o → HasFewTurns g l r
  pub ends : IsNone o → LassoEnds g l

-- none, where the ranking holds
pub accepts : (g : Graph) (l : PlainLasso) (r : PlainRanking) → IsGraph g → IsLassoOf g l → IsRankingOver g r → Ranks g l r → Tells g l r None
accepts g l r ok is over h =
    let few : HasFewTurns g l r = ranks_say_few g ok l r is.loop over h in
    record {
      exact = (λ e. h, λ k. refl);
      line = tt;
      few = λ e. few;
      ends = λ e. few_turns_say_end g l r few;
    }

-- the turn of the loop, made of what is handed on
pub loop_turn_is : (g : Graph) (l : PlainLasso) (d : MadeTurn) (p : ℕ) (ns : List ℕ) → plain_turn d ≡ turn_of (alphabet_of g) p ns → p ≡ entry_proc g → ns ≡ l.loop → plain_turn d ≡ loop_turn g l
loop_turn_is g l d p ns e f h = e ∙ ap (λ (q : ℕ). turn_of (alphabet_of g) q ns) f ∙ ap (λ (ms : List ℕ). turn_of (alphabet_of g) (entry_proc g) ms) h

-- a form over the frame is one over the width of the turn
pub form_over : (g : Graph) (l : PlainLasso) (d : MadeTurn) (terms given : List (ℕ × ℤ)) → plain_turn d ≡ loop_turn g l → given ≡ terms →
    IsFormOver (length (frame_of (alphabet_of g) (entry_proc g))) terms → IsFormOver d.width given
form_over g l d terms given e f h =
    let width : ℕ = length (frame_of (alphabet_of g) (entry_proc g)) in
    let same : d.width ≡ width = sym (length-columns_from 0 d.width) ∙ ap (λ (t : Turn). length t.before) e ∙ length-columns_from 0 width in
    subst (λ (ts : List (ℕ × ℤ)). IsFormOver d.width ts) (sym f) (subst (λ (n : ℕ). IsFormOver n terms) (sym same) h)

-- a rank holds where both claims are told of the turn that was made
pub rank_holds : (g : Graph) (l : PlainLasso) (d : MadeTurn) (terms first second : List (ℕ × ℤ)) (b : ℤ) (falls bounded : List PlainNode) (fall bound : Bool) →
    plain_turn d ≡ loop_turn g l → first ≡ terms → second ≡ terms → IsTrue fall ↔ RefutesWith (plain_turn d) (unfallen (plain_turn d) first) falls →
    IsTrue bound ↔ RefutesWith (plain_turn d) (unbounded (plain_turn d) second b) bounded → fall ≡ true → bound ≡ true → Ranks g l (ranked_by terms b falls bounded)
rank_holds g l d terms first second b falls bounded fall bound e f h i j m n = (
  subst (λ (t : Turn). RefutesWith t (unfallen t terms) falls) e
      (subst (λ (ts : List (ℕ × ℤ)). RefutesWith (plain_turn d) (unfallen (plain_turn d) ts) falls) f (i.0 m)),
  subst (λ (t : Turn). RefutesWith t (unbounded t terms b) bounded) e
      (subst (λ (ts : List (ℕ × ℤ)). RefutesWith (plain_turn d) (unbounded (plain_turn d) ts b) bounded) h (j.0 n)),
)
