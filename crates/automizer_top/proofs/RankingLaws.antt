-- What an answer to a lasso or to a ranking is worth: its status, its second letter, and that the lasso ends where the status is 0.
use Rattle.std.proofs.Common.{◌≡◌, ◌∙◌, inl, inr, ℕ, List, get_or, Option, None, Some, Result, Ok, Err, refl, ap, arith}
use Rattle.std.specs.Prelude.{◌≢◌, IfOk}
use Rattle.std.specs.declared.alloc.AllocError.{AllocError}
use Rattle.outer_io.specs.Texts.{text_named}
use Rattle.typed_tree.specs.TypedTree.{TypedProgram}
use Rattle.letter_acts.specs.Invariant.{Graph, IsGraph}
use Rattle.lowered_graph.specs.Items.{first_fault}
use Rattle.lowered_graph.specs.Lowered.{lowered}
use Rattle.rank_lasso.specs.declared.lasso_ranks.lassos.LassoFault.{LassoFault}
use Rattle.rank_lasso.specs.declared.lasso_ranks.lassos.LassoFault.TheVariants.{Syntax, BadName, BadStep, Memory}
use Rattle.rank_lasso.specs.LassoRanks.Lassos.{PlainLasso, IsLassoOf}
use Rattle.rank_lasso.specs.LassoRanks.Ranks.{PlainRanking, IsRankingOver, Ranks, HasFewTurns, LassoEnds}
use Rattle.rank_lasso.proofs.LassoRanks.RankLaws.{ranks_say_few, few_turns_say_end}
use Rattle.rank_lasso.specs.Faults.{IsReadAs}
use Rattle.rank_lasso.proofs.OneText.{read_rankings_are_over}
use Rattle.text_reports.specs.declared.answers.TextAnswer.{TextAnswer}
use Rattle.text_reports.specs.Answers.{answer_of}
use Rattle.automizer_top.specs.CommandLine.{Lasso, Ranked, Settings}
use Rattle.text_reports.specs.ReportTexts.{Answer, accepted_answer}
use Rattle.automizer_top.specs.ReportTexts.{fault_answer}
use Rattle.automizer_top.specs.Report.{Ask, IsTypedText, refused, of_typed, unlowered, of_lowered, second_too_long, of_second}
use Rattle.automizer_top.specs.Rankings.{IsLassoText, ReportsSearch, found_ranking, found_none, past_number, ReportsLassoText, no_lasso_text, no_lasso, of_lasso, ReportsLasso, ReportsRankingText, no_ranking_text, ranks_no_lasso, ranking_holds, ranking_fails, ReportsRanked}
use Rattle.automizer_top.specs.RankingClaims.{AskedLassoEnds, RankedLassoEnds}
use Rattle.automizer_top.specs.Ties.Answers.{RankedIsGraph}
use Rattle.text_reports.proofs.RefusalLaws.{typed_is_not_zero, lowering_is_not_zero, too_long_is_not_zero, second_letter, typed_begins, lowering_begins, too_long_begins}

abbrev Texts : Type 0
Texts = List (List ℕ × List ℕ)

abbrev status_of : Answer → ℕ
status_of a = a.status

-- ---- the status 1 of faults

fault_is_one : (f : LassoFault) → (fault_answer f).status ≡ 1
fault_is_one (Syntax line) = refl
fault_is_one (BadName line) = refl
fault_is_one (BadStep line) = refl
fault_is_one Memory = refl

pub one_is_not_zero : (n : ℕ) → n ≡ 1 → n ≡ 0 → ⊥
one_is_not_zero n e z = omega arith

pub two_is_not_zero : (n : ℕ) → n ≡ 2 → n ≡ 0 → ⊥
two_is_not_zero n e z = omega arith

pub faulty_is_one : (f : LassoFault) (a : Answer) → a ≡ fault_answer f → a.status ≡ 1
faulty_is_one f a is = ap status_of is ∙ fault_is_one f

-- what holds of every answer to a fault holds of that which the code gives
pub fault_told : (f : LassoFault) (r : Result TextAnswer AllocError) (P : Answer → Type 0) → IfOk r (λ a. answer_of a ≡ fault_answer f) → IfOk r (λ a. f ≢ Memory) →
    ((a : Answer) → f ≢ Memory → a ≡ fault_answer f → P a) → IfOk r (λ a. P (answer_of a))
fault_told f (Ok a) P is room told = told (answer_of a) room is
fault_told f (Err e) P is room told = tt

-- ---- a lasso that ends

lasso_ends : (g : Graph) (l : PlainLasso) (r : PlainRanking) → IsGraph g → IsLassoOf g l → IsRankingOver g r → Ranks g l r → HasFewTurns g l r × LassoEnds g l
lasso_ends g l r ok i over h = let few = ranks_say_few g ok l r i.loop over h in (few, few_turns_say_end g l r few)

-- a ranking that was found says that the lasso of the text ends
found_ends : (depth : ℕ) (t : TypedProgram) (text : List ℕ) (a : Answer) → IsGraph (lowered t) → ReportsLassoText depth (lowered t) text a → a.status ≡ 0 →
    (l : PlainLasso) × IsLassoText text l × IsLassoOf (lowered t) l × LassoEnds (lowered t) l
found_ends depth t text a ok (no_lasso_text f p room is) z = absurd (one_is_not_zero a.status (faulty_is_one f a is) z)
found_ends depth t text a ok (no_lasso l f h p room is) z = absurd (one_is_not_zero a.status (faulty_is_one f a is) z)
found_ends depth t text a ok (of_lasso l h i (found_ranking s)) z = (l, h, i, (lasso_ends (lowered t) l s.ranking ok i s.over s.holds).1)
found_ends depth t text a ok (of_lasso l h i (found_none n is)) z = absurd (two_is_not_zero a.status (ap status_of is) z)
found_ends depth t text a ok (of_lasso l h i (past_number n is)) z = absurd (two_is_not_zero a.status (ap status_of is) z)

module _ (words : List (List ℕ)) (texts : Texts) (s : Settings) (program second text : List ℕ) (a : Answer) (found : text_named program texts ≡ Some text)
    (graph : RankedIsGraph words texts) where
  sought_graph : Ask words s (Lasso program second) → (t : TypedProgram) → IsTypedText s.entry text t → IsGraph (lowered t)
  sought_graph ask t w = graph t (record { settings = s; program = program; second = second; asked = inl ask; text = text; found = found; typed = w })

  pub lasso_zero : Ask words s (Lasso program second) → ReportsLasso s.entry s.limits.depth text (text_named second texts) a → a.status ≡ 0 → AskedLassoEnds words texts
  lasso_zero ask (refused r) z = absurd (typed_is_not_zero s.entry text a r z)
  lasso_zero ask (of_typed t w (unlowered r)) z = absurd (lowering_is_not_zero t a r z)
  lasso_zero ask (of_typed t w (of_lowered none (second_too_long x e past is))) z = absurd (too_long_is_not_zero a is z)
  lasso_zero ask (of_typed t w (of_lowered none (of_second x e few r))) z =
      let h = found_ends s.limits.depth t x a (sought_graph ask t w) r z in (
        s,
        t,
        h.0,
        record { program = program; second = second; asked = ask; text = text; found = found; typed = w; lowers = none; told = x; second_is = e; read = h.1; is_lasso = h.2 },
        h.3,
      )

  held_graph : Ask words s (Ranked program second) → (t : TypedProgram) → IsTypedText s.entry text t → IsGraph (lowered t)
  held_graph ask t w = graph t (record { settings = s; program = program; second = second; asked = inr ask; text = text; found = found; typed = w })

  -- the text of the ranking that holds
  held_ends : (t : TypedProgram) (x : List ℕ) (l : PlainLasso) (r : PlainRanking) → Ask words s (Ranked program second) → IsTypedText s.entry text t → first_fault t ≡ None →
      text_named second texts ≡ Some x → IsReadAs (lowered t) x l r → IsLassoOf (lowered t) l → Ranks (lowered t) l r → RankedLassoEnds words texts
  held_ends t x l r ask w none e h i k =
      let ends = lasso_ends (lowered t) l r (held_graph ask t w) i (read_rankings_are_over (lowered t) x l r h) k in (
        t,
        l,
        r,
        record { settings = s; program = program; second = second; asked = ask; text = text; found = found; typed = w; lowers = none; told = x; second_is = e; read = h; is_lasso = i },
        ends.0,
        ends.1,
      )

  ranking_zero : (t : TypedProgram) (x : List ℕ) → Ask words s (Ranked program second) → IsTypedText s.entry text t → first_fault t ≡ None → text_named second texts ≡ Some x →
      ReportsRankingText (lowered t) x a → a.status ≡ 0 → RankedLassoEnds words texts
  ranking_zero t x ask w none e (no_ranking_text f p room is) z = absurd (one_is_not_zero a.status (faulty_is_one f a is) z)
  ranking_zero t x ask w none e (ranks_no_lasso l r f h p room is) z = absurd (one_is_not_zero a.status (faulty_is_one f a is) z)
  ranking_zero t x ask w none e (ranking_holds l r h i k is) z = held_ends t x l r ask w none e h i k
  ranking_zero t x ask w none e (ranking_fails l r n h i k is) z = absurd (one_is_not_zero a.status (ap status_of is) z)

  pub ranked_zero : Ask words s (Ranked program second) → ReportsRanked s.entry text (text_named second texts) a → a.status ≡ 0 → RankedLassoEnds words texts
  ranked_zero ask (refused r) z = absurd (typed_is_not_zero s.entry text a r z)
  ranked_zero ask (of_typed t w (unlowered r)) z = absurd (lowering_is_not_zero t a r z)
  ranked_zero ask (of_typed t w (of_lowered none (second_too_long x e past is))) z = absurd (too_long_is_not_zero a is z)
  ranked_zero ask (of_typed t w (of_lowered none (of_second x e few r))) z = ranking_zero t x ask w none e r z

-- ---- the second letter

-- of `rejected`, `ranking` and `unknown` it is not that of `accepted`
fault_letter : (n : ℕ) → n ≡ 101 → n ≡ 99 → ⊥
fault_letter n e f = omega (arith, e, f)

ranking_letter : (n : ℕ) → n ≡ 97 → n ≡ 99 → ⊥
ranking_letter n e f = omega (arith, e, f)

unknown_letter : (n : ℕ) → n ≡ 110 → n ≡ 99 → ⊥
unknown_letter n e f = omega (arith, e, f)

fault_begins : (f : LassoFault) → f ≢ Memory → second_letter (fault_answer f) ≡ 101
fault_begins (Syntax line) room = refl
fault_begins (BadName line) room = refl
fault_begins (BadStep line) room = refl
fault_begins Memory room = absurd (room refl)

e_is_no_c : (f : LassoFault) (a : Answer) → f ≢ Memory → a ≡ fault_answer f → second_letter a ≡ 99 → ⊥
e_is_no_c f a room is begin = fault_letter (second_letter a) (ap second_letter is ∙ fault_begins f room) begin

ranking_begins : (g : Graph) (text : List ℕ) (l : PlainLasso) (r : PlainRanking) → IsReadAs g text l r → get_or text 1 0 ≡ 97
ranking_begins g text l r h = ap (λ (x : List ℕ). get_or x 1 0) h.spelled

search_begins : (depth : ℕ) (g : Graph) (l : PlainLasso) (a : Answer) → ReportsSearch depth g l a → second_letter a ≡ 99 → ⊥
search_begins depth g l a (found_ranking h) begin =
    ranking_letter (second_letter a) (ap second_letter h.is ∙ ranking_begins g h.text l h.ranking h.spelled) begin
search_begins depth g l a (found_none n is) begin = unknown_letter (second_letter a) (ap second_letter is) begin
search_begins depth g l a (past_number n is) begin = unknown_letter (second_letter a) (ap second_letter is) begin

lasso_text_begins : (depth : ℕ) (g : Graph) (text : List ℕ) (a : Answer) → ReportsLassoText depth g text a → second_letter a ≡ 99 → ⊥
lasso_text_begins depth g text a (no_lasso_text f p room is) begin = e_is_no_c f a room is begin
lasso_text_begins depth g text a (no_lasso l f h p room is) begin = e_is_no_c f a room is begin
lasso_text_begins depth g text a (of_lasso l h i s) begin = search_begins depth g l a s begin

-- no answer to a lasso begins as `accepted` does
pub lasso_begins : (entry : List ℕ) (depth : ℕ) (text : List ℕ) (second : Option (List ℕ)) (a : Answer) → ReportsLasso entry depth text second a → second_letter a ≡ 99 → ⊥
lasso_begins entry depth text second a (refused r) begin = typed_begins entry text a r begin
lasso_begins entry depth text second a (of_typed t w (unlowered r)) begin = lowering_begins t a r begin
lasso_begins entry depth text second a (of_typed t w (of_lowered none (second_too_long x e past is))) begin = too_long_begins a is begin
lasso_begins entry depth text second a (of_typed t w (of_lowered none (of_second x e few r))) begin = lasso_text_begins depth (lowered t) x a r begin

ranking_text_begins : (g : Graph) (text : List ℕ) (a : Answer) → ReportsRankingText g text a → second_letter a ≡ 99 → a ≡ accepted_answer
ranking_text_begins g text a (no_ranking_text f p room is) begin = absurd (e_is_no_c f a room is begin)
ranking_text_begins g text a (ranks_no_lasso l r f h p room is) begin = absurd (e_is_no_c f a room is begin)
ranking_text_begins g text a (ranking_holds l r h i k is) begin = is
ranking_text_begins g text a (ranking_fails l r n h i k is) begin = absurd (fault_letter (second_letter a) (ap second_letter is) begin)

-- what begins so is accepted
pub ranked_begins : (entry text : List ℕ) (second : Option (List ℕ)) (a : Answer) → ReportsRanked entry text second a → second_letter a ≡ 99 → a ≡ accepted_answer
ranked_begins entry text second a (refused r) begin = absurd (typed_begins entry text a r begin)
ranked_begins entry text second a (of_typed t w (unlowered r)) begin = absurd (lowering_begins t a r begin)
ranked_begins entry text second a (of_typed t w (of_lowered none (second_too_long x e past is))) begin = absurd (too_long_begins a is begin)
ranked_begins entry text second a (of_typed t w (of_lowered none (of_second x e few r))) begin = ranking_text_begins (lowered t) x a r begin

-- ---- the status 4

zero_not_four : (n : ℕ) → n ≡ 0 → n ≢ 4
zero_not_four n e = λ f. omega (arith, e, f)

one_not_four : (n : ℕ) → n ≡ 1 → n ≢ 4
one_not_four n e = λ f. omega (arith, e, f)

two_not_four : (n : ℕ) → n ≡ 2 → n ≢ 4
two_not_four n e = λ f. omega (arith, e, f)

search_not_four : (depth : ℕ) (g : Graph) (l : PlainLasso) (a : Answer) → ReportsSearch depth g l a → a.status ≢ 4
search_not_four depth g l a (found_ranking h) = zero_not_four a.status (ap status_of h.is)
search_not_four depth g l a (found_none n is) = two_not_four a.status (ap status_of is)
search_not_four depth g l a (past_number n is) = two_not_four a.status (ap status_of is)

pub lasso_text_not_four : (depth : ℕ) (g : Graph) (text : List ℕ) (a : Answer) → ReportsLassoText depth g text a → a.status ≢ 4
lasso_text_not_four depth g text a (no_lasso_text f p room is) = one_not_four a.status (faulty_is_one f a is)
lasso_text_not_four depth g text a (no_lasso l f h p room is) = one_not_four a.status (faulty_is_one f a is)
lasso_text_not_four depth g text a (of_lasso l h i s) = search_not_four depth g l a s
