-- The lines of lassos and of rankings by their kinds.
use Rattle.std.proofs.Common.{◌≡◌, ◌≢◌, ◌⊎◌, ℕ, zero, suc, ◌+◌, ◌≤◌, Bool, true, List, [], ◌∷◌, ◌++◌, codes, get_or, Result, Ok, Err, IfErr, inl, inr, refl, sym, ap, ◌∙◌, subst, arith}
use Rattle.std.specs.List.{AllByRecursion, concat, list_all, flat_map}
use Rattle.rank_lasso.specs.LassoRanks.Lassos.{PlainLasso}
use Rattle.rank_lasso.specs.LassoText.{letters_text, letters_line, IsWritable, lasso_lines}
use Rattle.rank_lasso.specs.RankingText.{RankingForm, rank_form, excluded_form, is_rank_term, IsProofForm, IsForm, rank_line, bound_line, proof_line, ending_lines, ranking_lines}
use Rattle.proof_form.specs.Numerals.{numeral_text}
use Rattle.proof_form.specs.Predicates.{term_text}
use Rattle.proof_form.specs.Refutations.{RefutationNode, refutation_text}
use Rattle.proof_form.specs.declared.numerals.Numeral.{Numeral}
use Rattle.proof_form.proofs.ListLaws.{each_passes}
use Rattle.rank_lasso.specs.Lines.{line_text, IsContent, AreTerms, IsNumeral, LineKind, Lacks, IsLineFault, Stops, GoesOn, Never, IsFaultIn, IsEndFault, IsEndingFault, kind, nothing, stem_kind, loop_kind, rank_kind, bound_kind, proof_kind, end_kind, way_kinds, lasso_kinds, rank_ending, excluded_ending, rank_kinds, excluded_kinds}
use Rattle.rank_lasso.specs.Faults.{AreOfLasso, AreOfRanking, IsFirstFaultAs, IsLassoFault, IsRankingFault}
use Rattle.letter_acts.specs.Invariant.{Graph}
use Rattle.rank_lasso.specs.declared.lasso_ranks.lassos.LassoFault.{LassoFault}
use Rattle.rank_lasso.specs.declared.lasso_ranks.lassos.LassoFault.TheVariants.{Syntax, BadName, BadStep, Memory}
use Rattle.rank_lasso.proofs.FaultLaws.{AreOfKinds, AreWords, first_fault}

-- ---- lines taken apart

record Parted (k : LineKind) (ks : List LineKind) (lines : List (List ℕ)) : Type 0 where
  content : List ℕ
  rest : List (List ℕ)
  is : IsContent k.content content
  spelled : lines ≡ line_text k.word content ∷ rest
  others : AreOfKinds ks rest

parted : (k : LineKind) (ks : List LineKind) (lines : List (List ℕ)) → AreOfKinds (k ∷ ks) lines → Parted k ks lines
parted k ks [] h = absurd h
parted k ks (l ∷ ls) h = record { content = h.0.0; rest = ls; is = h.0.1; spelled = ap (λ x. x ∷ ls) h.0.2; others = h.1 }

no_more : (lines : List (List ℕ)) → AreOfKinds [] lines → lines ≡ []
no_more [] h = refl
no_more (l ∷ ls) h = absurd h

-- a line by what stands in it, and the lines behind it
line_is : (word content text : List ℕ) (lines rest more : List (List ℕ)) → lines ≡ line_text word content ∷ rest → content ≡ text → rest ≡ more → lines ≡ line_text word text ∷ more
line_is word content text lines rest more e c r = e ∙ (λ i. line_text word (c i) ∷ r i)

-- a front, and what stands behind it
record Way (first : List ℕ) (ks : List LineKind) (lines : List (List ℕ)) : Type 0 where
  lasso : PlainLasso
  rest : List (List ℕ)
  writable : IsWritable lasso
  spelled : lines ≡ line_text first [] ∷ (letters_line (codes "stem") lasso.stem ∷ (letters_line (codes "loop") lasso.loop ∷ rest))
  others : AreOfKinds ks rest

way : (first : List ℕ) (ks : List LineKind) (lines : List (List ℕ)) → AreOfKinds (way_kinds first ++ ks) lines → Way first ks lines
way first ks lines h =
    let a = parted (kind first nothing) (stem_kind ∷ loop_kind ∷ ks) lines h in
    let b = parted stem_kind (loop_kind ∷ ks) a.rest a.others in
    let c = parted loop_kind ks b.rest b.others in
    record {
      lasso = record { stem = b.is.0; loop = c.is.0 };
      rest = c.rest;
      writable = record { stem = b.is.1; loop = c.is.1.0; turns = c.is.1.1 };
      spelled =
          line_is first a.content [] lines a.rest (letters_line (codes "stem") b.is.0 ∷ (letters_line (codes "loop") c.is.0 ∷ c.rest)) a.spelled a.is
          (line_is (codes "stem") b.content (letters_text b.is.0) a.rest b.rest (letters_line (codes "loop") c.is.0 ∷ c.rest) b.spelled b.is.2
          (line_is (codes "loop") c.content (letters_text c.is.0) b.rest c.rest c.rest c.spelled c.is.2 refl));
      others = c.others;
    }

way_lines_are : (first : List ℕ) (l : PlainLasso) (ks : List LineKind) (rest : List (List ℕ)) → IsWritable l → AreOfKinds ks rest →
    AreOfKinds (way_kinds first ++ ks) (line_text first [] ∷ (letters_line (codes "stem") l.stem ∷ (letters_line (codes "loop") l.loop ∷ rest)))
way_lines_are first l ks rest w h =
    (([], refl, refl), ((letters_text l.stem, (l.stem, w.stem, refl), refl), ((letters_text l.loop, (l.loop, (w.loop, w.turns), refl), refl), h)))

-- ---- lassos

pub lasso_words : AreWords lasso_kinds
lasso_words = (refl, (refl, (refl, (refl, tt))))

-- lines behind those of a front
behind : (first : List ℕ) (l : PlainLasso) (lines rest more : List (List ℕ)) →
    lines ≡ line_text first [] ∷ (letters_line (codes "stem") l.stem ∷ (letters_line (codes "loop") l.loop ∷ rest)) → rest ≡ more →
    lines ≡ line_text first [] ∷ (letters_line (codes "stem") l.stem ∷ (letters_line (codes "loop") l.loop ∷ more))
behind first l lines rest more e r = e ∙ (λ i. line_text first [] ∷ (letters_line (codes "stem") l.stem ∷ (letters_line (codes "loop") l.loop ∷ r i)))

lasso_made : (lines : List (List ℕ)) → AreOfKinds lasso_kinds lines → AreOfLasso lines
lasso_made lines h =
    let w = way (codes "lasso 1") (end_kind ∷ []) lines h in
    let e = parted end_kind [] w.rest w.others in (
      w.lasso,
      w.writable,
      behind (codes "lasso 1") w.lasso lines w.rest (codes "end\n" ∷ []) w.spelled
          (line_is (codes "end") e.content [] w.rest e.rest [] e.spelled e.is (no_more e.rest e.others)),
    )

pub lasso_lines_are : (l : PlainLasso) → IsWritable l → AreOfKinds lasso_kinds (lasso_lines l)
lasso_lines_are l w = way_lines_are (codes "lasso 1") l (end_kind ∷ []) (codes "end\n" ∷ []) w (([], refl, refl), tt)

lasso_parts : (lines : List (List ℕ)) → AreOfLasso lines → AreOfKinds lasso_kinds lines
lasso_parts lines h = subst (AreOfKinds lasso_kinds) (sym h.2) (lasso_lines_are h.0 h.1)

-- where the lines of a lasso end is the first fault
pub lasso_fault : (text : List ℕ) (n : ℕ) → Stops GoesOn lasso_kinds text n → IsFirstFaultAs AreOfLasso text (suc n)
lasso_fault text n s =
    first_fault AreOfLasso lasso_kinds lasso_kinds lasso_words lasso_words lasso_made (λ lines h. inl (lasso_parts lines h)) text n n s s (omega arith)

-- ---- rankings

pub rank_words : AreWords rank_kinds
rank_words = (refl, (refl, (refl, (refl, (refl, (refl, (refl, (refl, tt))))))))

pub excluded_words : AreWords excluded_kinds
excluded_words = (refl, (refl, (refl, (refl, (refl, tt)))))

tests_all : {A : Type 0} (p : A → Bool) (xs : List A) → AllByRecursion (λ x. p x ≡ true) xs → list_all p xs ≡ true
tests_all p [] h = refl
tests_all p (x ∷ xs) h = rw (h.0, tests_all p xs h.1) refl

rank_made : (lines : List (List ℕ)) → AreOfKinds rank_kinds lines → AreOfRanking lines
rank_made lines h =
    let w = way (codes "ranking 1") rank_ending lines h in
    let t = parted rank_kind (bound_kind ∷ proof_kind (codes "falls") ∷ proof_kind (codes "bounded") ∷ end_kind ∷ []) w.rest w.others in
    let b = parted bound_kind (proof_kind (codes "falls") ∷ proof_kind (codes "bounded") ∷ end_kind ∷ []) t.rest t.others in
    let f = parted (proof_kind (codes "falls")) (proof_kind (codes "bounded") ∷ end_kind ∷ []) b.rest b.others in
    let g = parted (proof_kind (codes "bounded")) (end_kind ∷ []) f.rest f.others in
    let e = parted end_kind [] g.rest g.others in
    let ended = codes "end\n" ∷ [] in
    let above = proof_line (codes "bounded") g.is.0 ∷ ended in
    let falling = proof_line (codes "falls") f.is.0 ∷ above in
    let bound = bound_line b.is.0 ∷ falling in (
      w.lasso,
      rank_form t.is.0 b.is.0 f.is.0 g.is.0,
      w.writable,
      record { terms_spell = tests_all is_rank_term t.is.0 t.is.1; bound_spells = b.is.1; falls_spells = f.is.1; bounded_spells = g.is.1 },
      behind (codes "ranking 1") w.lasso lines w.rest (rank_line t.is.0 ∷ bound) w.spelled
          (line_is (codes "rank") t.content (flat_map term_text t.is.0) w.rest t.rest bound t.spelled t.is.2
          (line_is (codes "bound ") b.content (numeral_text b.is.0) t.rest b.rest falling b.spelled b.is.2
          (line_is (codes "falls") f.content (refutation_text f.is.0) b.rest f.rest above f.spelled f.is.2
          (line_is (codes "bounded") g.content (refutation_text g.is.0) f.rest g.rest ended g.spelled g.is.2
          (line_is (codes "end") e.content [] g.rest e.rest [] e.spelled e.is (no_more e.rest e.others)))))),
    )

excluded_made : (lines : List (List ℕ)) → AreOfKinds excluded_kinds lines → AreOfRanking lines
excluded_made lines h =
    let w = way (codes "ranking 1") excluded_ending lines h in
    let t = parted (proof_kind (codes "excluded")) (end_kind ∷ []) w.rest w.others in
    let e = parted end_kind [] t.rest t.others in
    let ended = codes "end\n" ∷ [] in (
      w.lasso,
      excluded_form t.is.0,
      w.writable,
      t.is.1,
      behind (codes "ranking 1") w.lasso lines w.rest (proof_line (codes "excluded") t.is.0 ∷ ended) w.spelled
          (line_is (codes "excluded") t.content (refutation_text t.is.0) w.rest t.rest ended t.spelled t.is.2
          (line_is (codes "end") e.content [] t.rest e.rest [] e.spelled e.is (no_more e.rest e.others))),
    )

-- the lines of a form of either ending
abbrev pub kinds_of : RankingForm → List LineKind
kinds_of (rank_form terms bound falls bounded) = rank_kinds
kinds_of (excluded_form nodes) = excluded_kinds

pub kinds_words : (f : RankingForm) → AreWords (kinds_of f)
kinds_words (rank_form terms bound falls bounded) = rank_words
kinds_words (excluded_form nodes) = excluded_words

pub ranking_lines_are : (l : PlainLasso) (f : RankingForm) → IsWritable l → IsForm f → AreOfKinds (kinds_of f) (ranking_lines l f)
ranking_lines_are l (rank_form terms bound falls bounded) w h =
    way_lines_are (codes "ranking 1") l rank_ending (ending_lines (rank_form terms bound falls bounded)) w (
      (flat_map term_text terms, (terms, each_passes is_rank_term terms h.terms_spell, refl), refl),
      (
        (numeral_text bound, (bound, h.bound_spells, refl), refl),
        (
          (refutation_text falls, (falls, h.falls_spells, refl), refl),
          ((refutation_text bounded, (bounded, h.bounded_spells, refl), refl), (([], refl, refl), tt)),
        ),
      ),
    )
ranking_lines_are l (excluded_form nodes) w h =
    way_lines_are (codes "ranking 1") l excluded_ending (ending_lines (excluded_form nodes)) w ((refutation_text nodes, (nodes, h, refl), refl), (([], refl, refl), tt))

either_kinds : (l : PlainLasso) (f : RankingForm) (lines : List (List ℕ)) → IsWritable l → IsForm f → lines ≡ ranking_lines l f → AreOfKinds rank_kinds lines ⊎ AreOfKinds excluded_kinds lines
either_kinds l (rank_form terms bound falls bounded) lines w h e =
    inl (subst (AreOfKinds rank_kinds) (sym e) (ranking_lines_are l (rank_form terms bound falls bounded) w h))
either_kinds l (excluded_form nodes) lines w h e =
    inr (subst (AreOfKinds excluded_kinds) (sym e) (ranking_lines_are l (excluded_form nodes) w h))

other_way : {A B : Type 0} → A ⊎ B → B ⊎ A
other_way (inl a) = inr a
other_way (inr b) = inl b

-- where the lines of a ranking end, of the ending that goes farther, is the first fault
pub rank_fault : (text : List ℕ) (n m : ℕ) → Stops GoesOn rank_kinds text n → Stops GoesOn excluded_kinds text m → m ≤ n → IsFirstFaultAs AreOfRanking text (suc n)
rank_fault text n m s t l =
    first_fault AreOfRanking rank_kinds excluded_kinds rank_words excluded_words rank_made (λ lines h. either_kinds h.0 h.1 lines h.2 h.3 h.4) text n m s t l

pub excluded_fault : (text : List ℕ) (n m : ℕ) → Stops GoesOn excluded_kinds text n → Stops GoesOn rank_kinds text m → m ≤ n → IsFirstFaultAs AreOfRanking text (suc n)
excluded_fault text n m s t l =
    first_fault AreOfRanking excluded_kinds rank_kinds excluded_words rank_words excluded_made (λ lines h. other_way (either_kinds h.0 h.1 lines h.2 h.3 h.4)) text n m s t l

-- ---- faults of the lines of a front, and of those behind it

-- where the kinds of a front are not read, no more than these are
front_stops : (End : List ℕ → ℕ → Type 0) (ks hs : List LineKind) (text : List ℕ) (n : ℕ) → Stops Never ks text n → Stops End (ks ++ hs) text n
front_stops End [] hs text n s = absurd s
front_stops End (k ∷ ks) hs text zero s = s
front_stops End (k ∷ ks) hs text (suc n) s = (s.0, s.1, s.2, s.3, front_stops End ks hs s.1 n s.4)

pub fault_in_front : (End : List ℕ → ℕ → Type 0) (first : ℕ) (ks hs : List LineKind) (text : List ℕ) (e : LassoFault) → IsFaultIn first Never ks text e → IsFaultIn first End (ks ++ hs) text e
fault_in_front End first ks hs text (Syntax line) h = (h.0, h.1, front_stops End ks hs text h.0 h.2)
fault_in_front End first ks hs text (BadName line) h = h
fault_in_front End first ks hs text (BadStep line) h = h
fault_in_front End first ks hs text Memory h = tt

-- the fault of the first line
pub fault_here : (End : List ℕ → ℕ → Type 0) (first : ℕ) (k : LineKind) (ks : List LineKind) (text : List ℕ) (e : LassoFault) → IsLineFault k first text e → IsFaultIn first End (k ∷ ks) text e
fault_here End first k ks text (Syntax line) h = (0, omega (arith, h.0), h.1)
fault_here End first k ks text (BadName line) h = h
fault_here End first k ks text (BadStep line) h = h
fault_here End first k ks text Memory h = tt

-- a fault behind the first line
pub fault_behind : (End : List ℕ → ℕ → Type 0) (first : ℕ) (k : LineKind) (ks : List LineKind) (text content rest : List ℕ) (e : LassoFault) → IsContent k.content content →
    text ≡ line_text k.word content ++ rest → IsFaultIn (suc first) End ks rest e → IsFaultIn first End (k ∷ ks) text e
fault_behind End first k ks text content rest (Syntax line) is spelled h = (suc h.0, omega (arith, h.1), (content, rest, is, spelled, h.2))
fault_behind End first k ks text content rest (BadName line) is spelled h = h
fault_behind End first k ks text content rest (BadStep line) is spelled h = h
fault_behind End first k ks text content rest Memory is spelled h = tt

-- the text goes on behind its last line
pub fault_at_end : (first : ℕ) (text : List ℕ) (e : LassoFault) → IsEndFault first text e → IsFaultIn first GoesOn [] text e
fault_at_end first text (Syntax line) h = (0, omega (arith, h.0), (refl, h.1))
fault_at_end first text (BadName line) h = h
fault_at_end first text (BadStep line) h = h
fault_at_end first text Memory h = tt

-- a fault behind the stem and the loop
pub fault_behind_way : (End : List ℕ → ℕ → Type 0) (first : List ℕ) (l : PlainLasso) (ks : List LineKind) (text rest : List ℕ) (e : LassoFault) → IsWritable l →
    text ≡ line_text first [] ++ (letters_line (codes "stem") l.stem ++ (letters_line (codes "loop") l.loop ++ rest)) → IsFaultIn 4 End ks rest e →
    IsFaultIn 1 End (way_kinds first ++ ks) text e
fault_behind_way End first l ks text rest e w is h =
    let behind_stem = letters_line (codes "loop") l.loop ++ rest in
    let behind_first = letters_line (codes "stem") l.stem ++ behind_stem in
    fault_behind End 1 (kind first nothing) (stem_kind ∷ loop_kind ∷ ks) text [] behind_first e refl is
    (fault_behind End 2 stem_kind (loop_kind ∷ ks) behind_first (letters_text l.stem) behind_stem e (l.stem, w.stem, refl) refl
    (fault_behind End 3 loop_kind ks behind_stem (letters_text l.loop) rest e (l.loop, (w.loop, w.turns), refl) refl h))

-- behind the terms of a rank, and so on

abbrev pub bounded_on : List LineKind
bounded_on = proof_kind (codes "bounded") ∷ end_kind ∷ []

abbrev pub falls_on : List LineKind
falls_on = proof_kind (codes "falls") ∷ bounded_on

pub behind_terms : (text rest : List ℕ) (ts : List (Numeral × List ℕ)) (e : LassoFault) → AreTerms ts → text ≡ rank_line ts ++ rest → IsFaultIn 5 GoesOn (bound_kind ∷ falls_on) rest e →
    IsFaultIn 4 GoesOn rank_ending text e
behind_terms text rest ts e h is f = fault_behind GoesOn 4 rank_kind (bound_kind ∷ falls_on) text (flat_map term_text ts) rest e (ts, h, refl) is f

pub behind_bound : (text rest : List ℕ) (n : Numeral) (e : LassoFault) → IsNumeral n → text ≡ bound_line n ++ rest → IsFaultIn 6 GoesOn falls_on rest e → IsFaultIn 5 GoesOn (bound_kind ∷ falls_on) text e
behind_bound text rest n e h is f = fault_behind GoesOn 5 bound_kind falls_on text (numeral_text n) rest e (n, h, refl) is f

pub behind_falls : (text rest : List ℕ) (ns : List RefutationNode) (e : LassoFault) → IsProofForm ns → text ≡ proof_line (codes "falls") ns ++ rest → IsFaultIn 7 GoesOn bounded_on rest e →
    IsFaultIn 6 GoesOn falls_on text e
behind_falls text rest ns e h is f = fault_behind GoesOn 6 (proof_kind (codes "falls")) bounded_on text (refutation_text ns) rest e (ns, h, refl) is f

pub behind_bounded : (text rest : List ℕ) (ns : List RefutationNode) (e : LassoFault) → IsProofForm ns → text ≡ proof_line (codes "bounded") ns ++ rest → IsFaultIn 8 GoesOn (end_kind ∷ []) rest e →
    IsFaultIn 7 GoesOn bounded_on text e
behind_bounded text rest ns e h is f = fault_behind GoesOn 7 (proof_kind (codes "bounded")) (end_kind ∷ []) text (refutation_text ns) rest e (ns, h, refl) is f

pub behind_end : (first : ℕ) (text rest : List ℕ) (e : LassoFault) → text ≡ line_text (codes "end") [] ++ rest → IsEndFault (suc first) rest e → IsFaultIn first GoesOn (end_kind ∷ []) text e
behind_end first text rest e is f = fault_behind GoesOn first end_kind [] text [] rest e refl is (fault_at_end (suc first) rest e f)

-- the lines of a rank were read one after the other
pub rank_read : (text r1 r2 r3 r4 r5 : List ℕ) (ts : List (Numeral × List ℕ)) (n : Numeral) (p q : List RefutationNode) → AreTerms ts × (text ≡ rank_line ts ++ r1) → IsNumeral n × (r1 ≡ bound_line n ++ r2) →
    IsProofForm p × (r2 ≡ proof_line (codes "falls") p ++ r3) → IsProofForm q × (r3 ≡ proof_line (codes "bounded") q ++ r4) → r4 ≡ line_text (codes "end") [] ++ r5 → r5 ≡ [] →
    IsForm (rank_form ts n p q) × (text ≡ concat (ending_lines (rank_form ts n p q)))
rank_read text r1 r2 r3 r4 r5 ts n p q t b f g e z = (
  record { terms_spell = tests_all is_rank_term ts t.0; bound_spells = b.0; falls_spells = f.0; bounded_spells = g.0 },
  t.1 ∙ ap (λ r. rank_line ts ++ r) (b.1 ∙ ap (λ r. bound_line n ++ r) (f.1 ∙ ap (λ r. proof_line (codes "falls") p ++ r)
      (g.1 ∙ ap (λ r. proof_line (codes "bounded") q ++ r) (e ∙ ap (λ r. line_text (codes "end") [] ++ r) z)))),
)

-- ---- the two endings apart

pub of_error : {T E : Type 0} (P Q : E → Type 0) (r : Result T E) → ((e : E) → P e → Q e) → IfErr r P → IfErr r Q
of_error P Q (Ok x) f h = h
of_error P Q (Err e) f h = f e h

-- texts that begin apart
pub begun_apart : (a b : ℕ) (x y : List ℕ) → (a ≡ b → ⊥) → a ∷ x ≡ b ∷ y → ⊥
begun_apart a b x y differ e = differ (ap (λ (t : List ℕ). get_or t 0 0) e)

-- what begins as an exclusion is no rank
pub no_rank_there : (text rest : List ℕ) → text ≡ codes "excluded" ++ rest → Lacks rank_kind text
no_rank_there text rest e content more h f =
    begun_apart 101 114 _ _ (λ n. omega arith) (sym e ∙ f)

-- and what does not is no exclusion
pub no_exclusion_there : (text : List ℕ) → ((rest : List ℕ) → text ≢ codes "excluded" ++ rest) → Lacks (proof_kind (codes "excluded")) text
no_exclusion_there text none content more h f = none ((content ++ 10 ∷ []) ++ more) f

-- ---- the first faults of texts

pub lasso_fault_is : (text : List ℕ) (e : LassoFault) → IsFaultIn 1 GoesOn lasso_kinds text e → IsLassoFault text e
lasso_fault_is text (Syntax line) h = subst (IsFirstFaultAs AreOfLasso text) (let n : suc h.0 ≡ line = omega (arith, h.1) in n) (lasso_fault text h.0 h.2)
lasso_fault_is text (BadName line) h = h
lasso_fault_is text (BadStep line) h = h
lasso_fault_is text Memory h = tt

-- the stem and the loop are read, and so many lines behind them
stops_behind_way : (l : PlainLasso) (ks : List LineKind) (text rest : List ℕ) (n : ℕ) → IsWritable l →
    text ≡ line_text (codes "ranking 1") [] ++ (letters_line (codes "stem") l.stem ++ (letters_line (codes "loop") l.loop ++ rest)) → Stops GoesOn ks rest n →
    Stops GoesOn (way_kinds (codes "ranking 1") ++ ks) text (suc (suc (suc n)))
stops_behind_way l ks text rest n w is s = (
  [],
  (letters_line (codes "stem") l.stem ++ (letters_line (codes "loop") l.loop ++ rest)),
  refl,
  is,
  (letters_text l.stem, (letters_line (codes "loop") l.loop ++ rest), (l.stem, w.stem, refl), refl, (letters_text l.loop, rest, (l.loop, (w.loop, w.turns), refl), refl, s)),
)

front_line : (n line : ℕ) → line ≡ 1 + n → suc n ≡ line
front_line n line e = omega (arith, e)

-- the fault of the first lines of a ranking
pub front_fault_is : (g : Graph) (text : List ℕ) (e : LassoFault) → IsFaultIn 1 Never (way_kinds (codes "ranking 1")) text e → IsRankingFault g text e
front_fault_is g text (Syntax line) h =
    subst (IsFirstFaultAs AreOfRanking text) (front_line h.0 line h.1)
    (rank_fault text h.0 h.0 (front_stops GoesOn (way_kinds (codes "ranking 1")) rank_ending text h.0 h.2)
    (front_stops GoesOn (way_kinds (codes "ranking 1")) excluded_ending text h.0 h.2) (omega arith))
front_fault_is g text (BadName line) h = absurd h
front_fault_is g text (BadStep line) h = h
front_fault_is g text Memory h = tt

behind_front : (n line : ℕ) → line ≡ 4 + n → suc (suc (suc (suc n))) ≡ line
behind_front n line e = omega (arith, e)

-- the fault of the lines behind the loop
pub ending_fault_is : (g : Graph) (l : PlainLasso) (text rest : List ℕ) (e : LassoFault) → IsWritable l →
    text ≡ line_text (codes "ranking 1") [] ++ (letters_line (codes "stem") l.stem ++ (letters_line (codes "loop") l.loop ++ rest)) → IsEndingFault rest e → IsRankingFault g text e
ending_fault_is g l text rest (Syntax line) w is (inl h) =
    subst (IsFirstFaultAs AreOfRanking text) (behind_front h.0.0 line h.0.1)
    (rank_fault text (suc (suc (suc h.0.0))) 3 (stops_behind_way l rank_ending text rest h.0.0 w is h.0.2) (stops_behind_way l excluded_ending text rest 0 w is h.1) (omega arith))
ending_fault_is g l text rest (Syntax line) w is (inr h) =
    subst (IsFirstFaultAs AreOfRanking text) (behind_front h.0.0 line h.0.1)
    (excluded_fault text (suc (suc (suc h.0.0))) 3 (stops_behind_way l excluded_ending text rest h.0.0 w is h.0.2) (stops_behind_way l rank_ending text rest 0 w is h.1) (omega arith))
ending_fault_is g l text rest (BadName line) w is (inl h) = absurd h.0
ending_fault_is g l text rest (BadName line) w is (inr h) = absurd h.0
ending_fault_is g l text rest (BadStep line) w is (inl h) = h.0
ending_fault_is g l text rest (BadStep line) w is (inr h) = h.0
ending_fault_is g l text rest Memory w is h = tt
