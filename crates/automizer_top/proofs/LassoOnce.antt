-- What is answered to a lasso's text and to a ranking's: their cases exclude each other, but that any of several finds may be told.
use Rattle.std.proofs.Common.{◌≡◌, ◌∙◌, ◌⊎◌, inl, inr, ℕ, List, refl, sym, ap, subst}
use Rattle.std.specs.Prelude.{◌≢◌}
use Rattle.std.proofs.lemmas.Bool.{cases_order}
use Rattle.std.proofs.lemmas.Option.{same_Some}
use Rattle.letter_acts.specs.Invariant.{Graph}
use Rattle.proof_check.specs.declared.rejects.RejectCause.TheVariants as rejects
use Rattle.rank_lasso.specs.declared.lasso_ranks.lassos.LassoFault.{LassoFault}
use Rattle.rank_lasso.specs.declared.lasso_ranks.lassos.LassoFault.TheVariants.{Syntax, BadName, BadStep, Memory}
use Rattle.rank_lasso.specs.LassoRanks.Lassos.{PlainLasso, IsLassoOf, IsBadNameAt, IsBadStepAt, IsNoLassoBy}
use Rattle.rank_lasso.specs.LassoRanks.Ranks.{PlainRanking, ranked_by, excluded_by, Ranks, IsFirstFailing}
use Rattle.rank_lasso.specs.RankingText.{RankingForm}
use Rattle.rank_lasso.specs.Naming.{bad_line}
use Rattle.rank_lasso.specs.Faults.{AreOfLasso, AreOfRanking, IsFirstFaultAs, IsLassoFault, IsReadAs, IsBadlyNamed, IsRankingFault}
use Rattle.rank_lasso.proofs.OneText.{ranking_text-injective, rankings_have_no_fault, lasso_fault_is_memory, lasso_is_read, texts_have_one_ranking, ranking_fault_is_memory}
use Rattle.text_reports.specs.ReportTexts.{Answer, accepted_answer, failed_answer}
use Rattle.automizer_top.specs.ReportTexts.{fault_answer}
use Rattle.automizer_top.specs.Rankings.{IsLassoText, ReportsSearch, ReportsLassoText, no_lasso_text, no_lasso, of_lasso, ReportsRankingText, no_ranking_text, ranks_no_lasso, ranking_holds, ranking_fails}

-- ---- texts that are not of their form

-- one first line that cannot stand there
one_first_fault : (AreOfForm : List (List ℕ) → Type 0) (text : List ℕ) (m n : ℕ) → IsFirstFaultAs AreOfForm text m → IsFirstFaultAs AreOfForm text n → m ≡ n
one_first_fault AreOfForm text m n p q = elim (cases_order m n) [
  | inl e ↦ e
  | inr w ↦ elim w [ inl less ↦ absurd (p.here (q.before m less)) | inr more ↦ absurd (q.here (p.before n more)) ]
]

-- ---- the text of a lasso

one_lasso : (text : List ℕ) (l m : PlainLasso) → IsLassoText text l → IsLassoText text m → m ≡ l
one_lasso text l m h k = lasso_is_read text m k.writable k.spelled l h.writable h.spelled

one_lasso_fault : (text : List ℕ) (f h : LassoFault) → IsLassoFault text f → IsLassoFault text h → f ≢ Memory → h ≢ Memory → f ≡ h
one_lasso_fault text (Syntax m) (Syntax n) p q room none = ap Syntax (one_first_fault AreOfLasso text m n p q)
one_lasso_fault text (Syntax m) Memory p q room none = absurd (none refl)
one_lasso_fault text Memory h p q room none = absurd (room refl)
one_lasso_fault text (Syntax m) (BadName n) p q room none = absurd q
one_lasso_fault text (Syntax m) (BadStep n) p q room none = absurd q
one_lasso_fault text (BadName m) h p q room none = absurd p
one_lasso_fault text (BadStep m) h p q room none = absurd p

lasso_or_not : (text : List ℕ) (l : PlainLasso) (f : LassoFault) → IsLassoFault text f → f ≢ Memory → IsLassoText text l → ⊥
lasso_or_not text l f p room h = room (lasso_fault_is_memory text f p l h.writable h.spelled)

-- ---- letters that make no lasso

module _ (g : Graph) (l : PlainLasso) where
  one_bad_name : (m n : ℕ) → IsBadNameAt g l m → IsBadNameAt g l n → m ≡ n
  one_bad_name m n (inl p) (inl q) = p.0 ∙ sym q.0
  one_bad_name m n (inl p) (inr q) = absurd (p.1 q.1)
  one_bad_name m n (inr p) (inl q) = absurd (q.1 p.1)
  one_bad_name m n (inr p) (inr q) = p.0 ∙ sym q.0

  named_or_not : (m n : ℕ) → IsBadNameAt g l m → IsBadStepAt g l n → ⊥
  named_or_not m n (inl p) q = p.1 q.0
  named_or_not m n (inr p) q = p.2 q.1

  one_bad_step : (m n : ℕ) → IsBadStepAt g l m → IsBadStepAt g l n → m ≡ n
  one_bad_step m n (i, j, inl p) (i', j', inl q) = p.0 ∙ sym q.0
  one_bad_step m n (i, j, inl p) (i', j', inr q) = absurd (p.1 q.1.0.0 q.1.0.1)
  one_bad_step m n (i, j, inr p) (i', j', inl q) = absurd (q.1 p.1.0.0 p.1.0.1)
  one_bad_step m n (i, j, inr p) (i', j', inr q) = p.0 ∙ sym q.0

  one_misplaced : (f h : LassoFault) → IsNoLassoBy g l f → IsNoLassoBy g l h → f ≢ Memory → h ≢ Memory → f ≡ h
  one_misplaced (Syntax m) h p q room none = absurd p
  one_misplaced Memory h p q room none = absurd (room refl)
  one_misplaced (BadName m) (Syntax n) p q room none = absurd q
  one_misplaced (BadName m) (BadName n) p q room none = ap BadName (one_bad_name m n p q)
  one_misplaced (BadName m) (BadStep n) p q room none = absurd (named_or_not m n p q)
  one_misplaced (BadName m) Memory p q room none = absurd (none refl)
  one_misplaced (BadStep m) (Syntax n) p q room none = absurd q
  one_misplaced (BadStep m) (BadName n) p q room none = absurd (named_or_not n m q p)
  one_misplaced (BadStep m) (BadStep n) p q room none = ap BadStep (one_bad_step m n p q)
  one_misplaced (BadStep m) Memory p q room none = absurd (none refl)

  leads_or_not : (n : ℕ) → IsLassoOf g l → IsBadStepAt g l n → ⊥
  leads_or_not n h (i, j, inl p) = p.1 h.place h.enters
  leads_or_not n h (i, j, inr p) = p.1.1 h.place h.enters h.returns

  placed_or_not : (f : LassoFault) → IsNoLassoBy g l f → f ≢ Memory → IsLassoOf g l → ⊥
  placed_or_not (Syntax n) p room h = p
  placed_or_not (BadName n) (inl p) room h = p.1 h.stem
  placed_or_not (BadName n) (inr p) room h = p.2 h.loop
  placed_or_not (BadStep n) p room h = leads_or_not n h p
  placed_or_not Memory p room h = room refl

-- ---- a lasso's answer

faults_once : (f h : LassoFault) (a b : Answer) → f ≡ h → a ≡ fault_answer f → b ≡ fault_answer h → a ≡ b
faults_once f h a b e is is' = is ∙ ap (λ (x : LassoFault). fault_answer x) e ∙ sym is'

-- both tell what the search for a ranking of one lasso has found
pub record AreFound (depth : ℕ) (g : Graph) (text : List ℕ) (a b : Answer) : Type 0 where
  pub lasso : PlainLasso
  pub read : IsLassoText text lasso
  pub is_lasso : IsLassoOf g lasso
  pub first : ReportsSearch depth g lasso a
  pub second : ReportsSearch depth g lasso b

pub lasso_text_once : (depth : ℕ) (g : Graph) (text : List ℕ) (a b : Answer) → ReportsLassoText depth g text a → ReportsLassoText depth g text b → (a ≡ b) ⊎ AreFound depth g text a b
lasso_text_once depth g text a b (no_lasso_text f p room is) (no_lasso_text h q none is') = inl (faults_once f h a b (one_lasso_fault text f h p q room none) is is')
lasso_text_once depth g text a b (no_lasso_text f p room is) (no_lasso l h k q none is') = absurd (lasso_or_not text l f p room k)
lasso_text_once depth g text a b (no_lasso_text f p room is) (of_lasso l k i s) = absurd (lasso_or_not text l f p room k)
lasso_text_once depth g text a b (no_lasso l f h p room is) (no_lasso_text k q none is') = absurd (lasso_or_not text l k q none h)
lasso_text_once depth g text a b (no_lasso l f h p room is) (no_lasso m k j q none is') =
    inl (faults_once f k a b (one_misplaced g l f k p (subst (λ (x : PlainLasso). IsNoLassoBy g x k) (one_lasso text l m h j) q) room none) is is')
lasso_text_once depth g text a b (no_lasso l f h p room is) (of_lasso m k i s) =
    absurd (placed_or_not g l f p room (subst (λ (x : PlainLasso). IsLassoOf g x) (one_lasso text l m h k) i))
lasso_text_once depth g text a b (of_lasso l h i r) (no_lasso_text f p room is) = absurd (lasso_or_not text l f p room h)
lasso_text_once depth g text a b (of_lasso l h i r) (no_lasso m f k p room is) =
    absurd (placed_or_not g m f p room (subst (λ (x : PlainLasso). IsLassoOf g x) (one_lasso text m l k h) i))
lasso_text_once depth g text a b (of_lasso l h i r) (of_lasso m k j s) =
    inr (record { lasso = l; read = h; is_lasso = i; first = r; second = subst (λ (x : PlainLasso). ReportsSearch depth g x b) (one_lasso text l m h k) s })

-- ---- the text of a ranking

ranking_or_not : (g : Graph) (text : List ℕ) (l : PlainLasso) (r : PlainRanking) (f : LassoFault) → IsRankingFault g text f → f ≢ Memory → IsReadAs g text l r → ⊥
ranking_or_not g text l r f p room h = room (ranking_fault_is_memory g text f p l r h)

one_badly_named : (g : Graph) (text : List ℕ) (m n : ℕ) → IsBadlyNamed g text m → IsBadlyNamed g text n → m ≡ n
one_badly_named g text m n h k =
    let same = ranking_text-injective k.lasso h.lasso k.form h.form k.writable h.writable k.is_form h.is_form (sym k.spelled ∙ h.spelled) in
    same_Some m n (sym h.here ∙ ap (λ (x : RankingForm). bad_line g x) (sym same.1) ∙ k.here)

one_ranking_fault : (g : Graph) (text : List ℕ) (f h : LassoFault) → IsRankingFault g text f → IsRankingFault g text h → f ≢ Memory → h ≢ Memory → f ≡ h
one_ranking_fault g text Memory h p q room none = absurd (room refl)
one_ranking_fault g text (BadStep m) h p q room none = absurd p
one_ranking_fault g text (Syntax m) (Syntax n) p q room none = ap Syntax (one_first_fault AreOfRanking text m n p q)
one_ranking_fault g text (Syntax m) (BadName n) p q room none = absurd (rankings_have_no_fault text m q.lasso q.form q.writable q.is_form q.spelled p)
one_ranking_fault g text (Syntax m) (BadStep n) p q room none = absurd q
one_ranking_fault g text (Syntax m) Memory p q room none = absurd (none refl)
one_ranking_fault g text (BadName m) (Syntax n) p q room none = absurd (rankings_have_no_fault text n p.lasso p.form p.writable p.is_form p.spelled q)
one_ranking_fault g text (BadName m) (BadName n) p q room none = ap BadName (one_badly_named g text m n p q)
one_ranking_fault g text (BadName m) (BadStep n) p q room none = absurd q
one_ranking_fault g text (BadName m) Memory p q room none = absurd (none refl)

-- ---- what fails first

holds_or_fails : (g : Graph) (l : PlainLasso) (r : PlainRanking) (n : ℕ) → Ranks g l r → IsFirstFailing g l r n → ⊥
holds_or_fails g l (ranked_by terms b falls bounded) n h (inl p) = p.1 h.0
holds_or_fails g l (ranked_by terms b falls bounded) n h (inr p) = p.2 h.1
holds_or_fails g l (excluded_by nodes) n h p = p.1 h

one_failing : (g : Graph) (l : PlainLasso) (r : PlainRanking) (m n : ℕ) → IsFirstFailing g l r m → IsFirstFailing g l r n → m ≡ n
one_failing g l (ranked_by terms b falls bounded) m n (inl p) (inl q) = p.0 ∙ sym q.0
one_failing g l (ranked_by terms b falls bounded) m n (inl p) (inr q) = absurd (p.1 q.1)
one_failing g l (ranked_by terms b falls bounded) m n (inr p) (inl q) = absurd (q.1 p.1)
one_failing g l (ranked_by terms b falls bounded) m n (inr p) (inr q) = p.0 ∙ sym q.0
one_failing g l (excluded_by nodes) m n p q = p.0 ∙ sym q.0

-- ---- a ranking's answer

-- what is answered where the text spells this ranking of this lasso
data ReportsRead (g : Graph) (l : PlainLasso) (r : PlainRanking) (a : Answer) : Type 0 where
  misplaced : (f : LassoFault) → IsNoLassoBy g l f → f ≢ Memory → a ≡ fault_answer f → ReportsRead g l r a
  holds : IsLassoOf g l → Ranks g l r → a ≡ accepted_answer → ReportsRead g l r a
  fails : (line : ℕ) → IsLassoOf g l → IsFirstFailing g l r line → a ≡ failed_answer line rejects.BadTriple → ReportsRead g l r a

read_once : (g : Graph) (l : PlainLasso) (r : PlainRanking) (a b : Answer) → ReportsRead g l r a → ReportsRead g l r b → a ≡ b
read_once g l r a b (misplaced f p room is) (misplaced h q none is') = faults_once f h a b (one_misplaced g l f h p q room none) is is'
read_once g l r a b (misplaced f p room is) (holds i k is') = absurd (placed_or_not g l f p room i)
read_once g l r a b (misplaced f p room is) (fails n i k is') = absurd (placed_or_not g l f p room i)
read_once g l r a b (holds i k is) (misplaced f p room is') = absurd (placed_or_not g l f p room i)
read_once g l r a b (holds i k is) (holds j m is') = is ∙ sym is'
read_once g l r a b (holds i k is) (fails n j m is') = absurd (holds_or_fails g l r n k m)
read_once g l r a b (fails n i k is) (misplaced f p room is') = absurd (placed_or_not g l f p room i)
read_once g l r a b (fails n i k is) (holds j m is') = absurd (holds_or_fails g l r n m k)
read_once g l r a b (fails n i k is) (fails o j m is') = is ∙ ap (λ (x : ℕ). failed_answer x rejects.BadTriple) (one_failing g l r n o k m) ∙ sym is'

-- the text spells this ranking of this lasso, and this is answered
record Read (g : Graph) (text : List ℕ) (a : Answer) : Type 0 where
  lasso : PlainLasso
  ranking : PlainRanking
  spells : IsReadAs g text lasso ranking
  answers : ReportsRead g lasso ranking a

-- or it does not
record Unread (g : Graph) (text : List ℕ) (a : Answer) : Type 0 where
  fault : LassoFault
  is_fault : IsRankingFault g text fault
  no_memory : fault ≢ Memory
  is : a ≡ fault_answer fault

by_reading : (g : Graph) (text : List ℕ) (a : Answer) → ReportsRankingText g text a → Unread g text a ⊎ Read g text a
by_reading g text a (no_ranking_text f p room is) = inl (record { fault = f; is_fault = p; no_memory = room; is = is })
by_reading g text a (ranks_no_lasso l r f h p room is) = inr (record { lasso = l; ranking = r; spells = h; answers = misplaced f p room is })
by_reading g text a (ranking_holds l r h i k is) = inr (record { lasso = l; ranking = r; spells = h; answers = holds i k is })
by_reading g text a (ranking_fails l r n h i k is) = inr (record { lasso = l; ranking = r; spells = h; answers = fails n i k is })

same_read : (g : Graph) (text : List ℕ) (a b : Answer) → Read g text a → Read g text b → a ≡ b
same_read g text a b h k =
    let same = texts_have_one_ranking g text k.lasso h.lasso k.ranking h.ranking k.spells h.spells in
    read_once g h.lasso h.ranking a b h.answers
    (subst (λ (x : PlainLasso). ReportsRead g x h.ranking b) same.0 (subst (λ (x : PlainRanking). ReportsRead g k.lasso x b) same.1 k.answers))

pub ranking_text_once : (g : Graph) (text : List ℕ) (a b : Answer) → ReportsRankingText g text a → ReportsRankingText g text b → a ≡ b
ranking_text_once g text a b r s = by_readings (by_reading g text a r) (by_reading g text b s)
  where
    by_readings : Unread g text a ⊎ Read g text a → Unread g text b ⊎ Read g text b → a ≡ b
    by_readings (inl h) (inl k) = faults_once h.fault k.fault a b (one_ranking_fault g text h.fault k.fault h.is_fault k.is_fault h.no_memory k.no_memory) h.is k.is
    by_readings (inl h) (inr k) = absurd (ranking_or_not g text k.lasso k.ranking h.fault h.is_fault h.no_memory k.spells)
    by_readings (inr h) (inl k) = absurd (ranking_or_not g text h.lasso h.ranking k.fault k.is_fault k.no_memory h.spells)
    by_readings (inr h) (inr k) = same_read g text a b h k
