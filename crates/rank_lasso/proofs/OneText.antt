-- Texts of lassos and of rankings: their lines, and that each spells one.
use Rattle.std.proofs.Common.{◌≡◌, ℕ, List, [], ◌++◌, codes, take, true, Some, refl, sym, ap, ◌∙◌, arith}
use Rattle.std.specs.List.{concat, flat_map}
use Rattle.outer_io.specs.Lines.{lines_of}
use Rattle.letter_acts.specs.Invariant.{Graph}
use Rattle.proof_form.specs.declared.numerals.Numeral.{Numeral}
use Rattle.proof_form.specs.Numerals.{is_numeral, numeral_text}
use Rattle.proof_form.specs.Predicates.{term_text}
use Rattle.proof_form.specs.Refutations.{RefutationNode, refutation_text}
use Rattle.proof_form.proofs.ListLaws.{each_passes}
use Rattle.rank_lasso.specs.LassoRanks.Lassos.{PlainLasso}
use Rattle.rank_lasso.specs.LassoRanks.Ranks.{PlainRanking, ranked_by, excluded_by, IsRankingOver, Ranks}
use Rattle.proof_names.proofs.ProofSpell.RefutationLaws.{have_numbers}
use Rattle.rank_lasso.specs.LassoText.{letters_text, letters_line, AreShort, IsWritable, lasso_lines, lasso_text}
use Rattle.rank_lasso.specs.RankingText.{RankingForm, rank_form, excluded_form, is_rank_term, IsProofForm, IsForm, ending_lines, ranking_lines, ranking_text}
use Rattle.rank_lasso.specs.Naming.{ranking_named, HaveNumbers, MayBeWritten, bad_line}
use Rattle.rank_lasso.specs.Ties.Forms.{IsNameFault}
use Rattle.rank_lasso.specs.Lines.{HasNo, line_text, letters, terms, number, tree, AreTerms, lasso_kinds}
use Rattle.rank_lasso.specs.Faults.{IsFirstFaultAs, AreOfLasso, AreOfRanking, IsLassoFault, IsReadAs, IsRankingFault}
use Rattle.rank_lasso.specs.declared.lasso_ranks.lassos.LassoFault.{LassoFault}
use Rattle.rank_lasso.specs.declared.lasso_ranks.lassos.LassoFault.TheVariants.{Syntax, BadName, BadStep, Memory}
use Rattle.rank_lasso.proofs.Cuts.{same_line}
use Rattle.rank_lasso.proofs.Contents.{content_has_no_end, same_letters, same_numeral, same_terms, same_tree}
use Rattle.rank_lasso.proofs.NamingLaws.{named_may_be_written, named_is_not_bad}
use Rattle.rank_lasso.proofs.FaultLaws.{lines_are}
use Rattle.rank_lasso.proofs.KindLaws.{begun_apart, lasso_words, lasso_lines_are, kinds_of, kinds_words, ranking_lines_are}

-- ---- lines

pub lines_of-lasso_text : (l : PlainLasso) → IsWritable l → lines_of (lasso_text l) ≡ lasso_lines l
lines_of-lasso_text l w = lines_are lasso_kinds (lasso_lines l) lasso_words (lasso_lines_are l w)

pub lines_of-ranking_text : (l : PlainLasso) (f : RankingForm) → IsWritable l → IsForm f → lines_of (ranking_text l f) ≡ ranking_lines l f
lines_of-ranking_text l f w h = lines_are (kinds_of f) (ranking_lines l f) (kinds_words f) (ranking_lines_are l f w h)

-- ---- a line at the front, and what stands behind it

letters_line_is : (word m n r s : List ℕ) → AreShort m → AreShort n → letters_line word m ++ r ≡ letters_line word n ++ s → (m ≡ n) × (r ≡ s)
letters_line_is word m n r s h k e =
    let w = same_line word (letters_text m) (letters_text n) r s (content_has_no_end letters _ (m, h, refl)) (content_has_no_end letters _ (n, k, refl)) e in
    (same_letters m n h k w.0, w.1)

terms_line_is : (word : List ℕ) (t u : List (Numeral × List ℕ)) (r s : List ℕ) → AreTerms t → AreTerms u → line_text word (flat_map term_text t) ++ r ≡ line_text word (flat_map term_text u) ++ s →
    (t ≡ u) × (r ≡ s)
terms_line_is word t u r s h k e =
    let w = same_line word (flat_map term_text t) (flat_map term_text u) r s (content_has_no_end terms _ (t, h, refl)) (content_has_no_end terms _ (u, k, refl)) e in
    (same_terms t u h k w.0, w.1)

number_line_is : (word : List ℕ) (m n : Numeral) (r s : List ℕ) → is_numeral m ≡ true → is_numeral n ≡ true → line_text word (numeral_text m) ++ r ≡ line_text word (numeral_text n) ++ s →
    (m ≡ n) × (r ≡ s)
number_line_is word m n r s h k e =
    let w = same_line word (numeral_text m) (numeral_text n) r s (content_has_no_end number _ (m, h, refl)) (content_has_no_end number _ (n, k, refl)) e in
    (same_numeral m n h k w.0, w.1)

tree_line_is : (word : List ℕ) (m n : List RefutationNode) (r s : List ℕ) → IsProofForm m → IsProofForm n → line_text word (refutation_text m) ++ r ≡ line_text word (refutation_text n) ++ s →
    (m ≡ n) × (r ≡ s)
tree_line_is word m n r s h k e =
    let w = same_line word (refutation_text m) (refutation_text n) r s (content_has_no_end tree _ (m, h, refl)) (content_has_no_end tree _ (n, k, refl)) e in
    (same_tree m n h k w.0, w.1)

-- a front
way_is : (first : List ℕ) (l m : PlainLasso) (r s : List ℕ) → HasNo 10 [] → IsWritable l → IsWritable m →
    line_text first [] ++ (letters_line (codes "stem") l.stem ++ (letters_line (codes "loop") l.loop ++ r)) ≡
    line_text first [] ++ (letters_line (codes "stem") m.stem ++ (letters_line (codes "loop") m.loop ++ s)) → (l ≡ m) × (r ≡ s)
way_is first l m r s none w v e =
    let a = same_line first [] [] _ _ none none e in
    let b = letters_line_is (codes "stem") l.stem m.stem _ _ w.stem v.stem a.1 in
    let c = letters_line_is (codes "loop") l.loop m.loop r s w.loop v.loop b.1 in
    ((λ i. record { stem = b.0 i; loop = c.0 i }), c.1)

-- ---- one lasso, and one ranking

pub lasso_text-injective : (l m : PlainLasso) → IsWritable l → IsWritable m → lasso_text l ≡ lasso_text m → l ≡ m
lasso_text-injective l m w v e = (way_is (codes "lasso 1") l m (codes "end\n") (codes "end\n") refl w v e).0

forms_are : (f h : RankingForm) → IsForm f → IsForm h → concat (ending_lines f) ≡ concat (ending_lines h) → f ≡ h
forms_are (rank_form t b p q) (rank_form u c x y) k l e =
    let i = terms_line_is (codes "rank") t u _ _ (each_passes is_rank_term t k.terms_spell) (each_passes is_rank_term u l.terms_spell) e in
    let j = number_line_is (codes "bound ") b c _ _ k.bound_spells l.bound_spells i.1 in
    let m = tree_line_is (codes "falls") p x _ _ k.falls_spells l.falls_spells j.1 in
    let n = tree_line_is (codes "bounded") q y _ _ k.bounded_spells l.bounded_spells m.1 in
    let s = i.0 in
    let o = j.0 in
    let d = m.0 in
    let z = n.0 in
    cc
forms_are (rank_form t b p q) (excluded_form x) k l e = absurd (begun_apart 114 101 _ _ (λ n. omega arith) e)
forms_are (excluded_form p) (rank_form u c x y) k l e = absurd (begun_apart 101 114 _ _ (λ n. omega arith) e)
forms_are (excluded_form p) (excluded_form x) k l e = ap excluded_form (tree_line_is (codes "excluded") p x _ _ k l e).0

pub ranking_text-injective : (l m : PlainLasso) (f h : RankingForm) → IsWritable l → IsWritable m → IsForm f → IsForm h →
    ranking_text l f ≡ ranking_text m h → (l ≡ m) × (f ≡ h)
ranking_text-injective l m f h w v k n e =
    let a = way_is (codes "ranking 1") l m (concat (ending_lines f)) (concat (ending_lines h)) refl w v e in
    (a.0, forms_are f h k n a.1)

-- ---- a text that spells one has no fault

pub lassos_have_no_fault : (text : List ℕ) (line : ℕ) (l : PlainLasso) → IsWritable l → text ≡ lasso_text l → IsFirstFaultAs AreOfLasso text line → ⊥
lassos_have_no_fault text line l w e f = f.here (lasso_lines l, (l, w, refl), ap (take line) (ap lines_of e ∙ lines_of-lasso_text l w))

pub rankings_have_no_fault : (text : List ℕ) (line : ℕ) (l : PlainLasso) (f : RankingForm) → IsWritable l → IsForm f → text ≡ ranking_text l f → IsFirstFaultAs AreOfRanking text line → ⊥
rankings_have_no_fault text line l f w h e x =
    x.here (ranking_lines l f, (l, f, w, h, refl), ap (take line) (ap lines_of e ∙ lines_of-ranking_text l f w h))

-- the fault of the text of a lasso is want of memory
pub lasso_fault_is_memory : (text : List ℕ) (e : LassoFault) → IsLassoFault text e → (l : PlainLasso) → IsWritable l → text ≡ lasso_text l → e ≡ Memory
lasso_fault_is_memory text (Syntax line) h l w s = absurd (lassos_have_no_fault text line l w s h)
lasso_fault_is_memory text (BadName line) h l w s = absurd h
lasso_fault_is_memory text (BadStep line) h l w s = absurd h
lasso_fault_is_memory text Memory h l w s = refl

-- its lines were read one after the other
pub lasso_read : (l : PlainLasso) (text rest last : List ℕ) →
    text ≡ line_text (codes "lasso 1") [] ++ (letters_line (codes "stem") l.stem ++ (letters_line (codes "loop") l.loop ++ rest)) →
    rest ≡ line_text (codes "end") [] ++ last → last ≡ [] → text ≡ lasso_text l
lasso_read l text rest last way end none =
    way ∙ ap (λ r. line_text (codes "lasso 1") [] ++ (letters_line (codes "stem") l.stem ++ (letters_line (codes "loop") l.loop ++ r)))
    (end ∙ ap (λ r. line_text (codes "end") [] ++ r) none)

-- what is read of the text of a lasso is that lasso
pub lasso_is_read : (text : List ℕ) (m : PlainLasso) → IsWritable m → text ≡ lasso_text m → (l : PlainLasso) → IsWritable l → text ≡ lasso_text l → m ≡ l
lasso_is_read text m v e l w s = lasso_text-injective m l v w (sym e ∙ s)

-- a text spells one ranking of one lasso at most
pub texts_have_one_ranking : (g : Graph) (text : List ℕ) (l m : PlainLasso) (r s : PlainRanking) → IsReadAs g text l r → IsReadAs g text m s → (l ≡ m) × (r ≡ s)
texts_have_one_ranking g text l m r s h k =
    let one = ranking_text-injective l m h.form k.form h.writable k.writable h.is_form k.is_form (sym h.spelled ∙ k.spelled) in
    let same : Some r ≡ Some s = sym h.named ∙ ap (ranking_named g) one.1 ∙ k.named in
    (one.0, cc)

-- ---- rankings that are read

pub read_rankings_may_be_written : (g : Graph) (text : List ℕ) (l : PlainLasso) (r : PlainRanking) → IsReadAs g text l r → MayBeWritten g r
read_rankings_may_be_written g text l r h = named_may_be_written g h.form r h.is_form h.named

pub read_rankings_are_over : (g : Graph) (text : List ℕ) (l : PlainLasso) (r : PlainRanking) → IsReadAs g text l r → IsRankingOver g r
read_rankings_are_over g text l r h = (read_rankings_may_be_written g text l r h).over

-- the fault of the text of a ranking is want of memory
pub ranking_fault_is_memory : (g : Graph) (text : List ℕ) (e : LassoFault) → IsRankingFault g text e → (l : PlainLasso) (r : PlainRanking) → IsReadAs g text l r → e ≡ Memory
ranking_fault_is_memory g text (Syntax line) h l r s = absurd (rankings_have_no_fault text line l s.form s.writable s.is_form s.spelled h)
ranking_fault_is_memory g text (BadName line) h l r s =
    let one = ranking_text-injective h.lasso l h.form s.form h.writable s.writable h.is_form s.is_form (sym h.spelled ∙ s.spelled) in
    absurd (named_is_not_bad g s.form r line s.named (sym (ap (bad_line g) one.1) ∙ h.here))
ranking_fault_is_memory g text (BadStep line) h l r s = absurd h
ranking_fault_is_memory g text Memory h l r s = refl

-- what a form does not name is the fault of its text
pub name_fault_is : (g : Graph) (l : PlainLasso) (f : RankingForm) (text : List ℕ) (e : LassoFault) → IsWritable l → IsForm f → text ≡ ranking_text l f → IsNameFault g f e → IsRankingFault g text e
name_fault_is g l f text (Syntax line) w h s b = absurd b
name_fault_is g l f text (BadName line) w h s b = record { lasso = l; form = f; writable = w; is_form = h; spelled = s; here = b }
name_fault_is g l f text (BadStep line) w h s b = b
name_fault_is g l f text Memory w h s b = tt

-- its lines were read one after the other
pub ranking_read : (l : PlainLasso) (f : RankingForm) (text rest : List ℕ) →
    text ≡ line_text (codes "ranking 1") [] ++ (letters_line (codes "stem") l.stem ++ (letters_line (codes "loop") l.loop ++ rest)) → rest ≡ concat (ending_lines f) → text ≡ ranking_text l f
ranking_read l f text rest way e =
    way ∙ ap (λ r. line_text (codes "ranking 1") [] ++ (letters_line (codes "stem") l.stem ++ (letters_line (codes "loop") l.loop ++ r))) e

-- a ranking that holds has numbers that can be written
pub holding_rankings_can_be_written : (g : Graph) (l : PlainLasso) (r : PlainRanking) → Ranks g l r → HaveNumbers r
holding_rankings_can_be_written g l (ranked_by ts bound falls bounded) h = (have_numbers falls _ h.0.refutes, have_numbers bounded _ h.1.refutes)
holding_rankings_can_be_written g l (excluded_by nodes) h = have_numbers nodes _ h
