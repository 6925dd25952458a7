-- The choices by a letter are the candidates by it.
use Rattle.std.proofs.Common.{◌≡◌, ◌∙◌, ◌⊎◌, ℕ, zero, suc, Bool, true, false, List, [], ◌∷◌, Option, None, Some, refl, sym, ap, subst, inl, inr}
use Rattle.std.specs.Prelude.{slice_get}
use Rattle.std.specs.List.{AllZip, filter_map, cons_option}
use Rattle.std.specs.Option.{option_and_then}
use Rattle.nwa_base.specs.Members.{Member}
use Rattle.letter_acts.specs.Invariant.{Graph}
use Rattle.triple_rows.specs.declared.triples.Scoped.{Scoped}
use Rattle.triple_rows.specs.Triples.{truth_of}
use Rattle.proof_form.specs.declared.numerals.Numeral.{Numeral}
use Rattle.proof_form.specs.Refutations.{RefutationNode}
use Rattle.proof_form.specs.Lines as form
use Rattle.proof_form.specs.Lines.{inside_triple, call_triple, back_triple}
use Rattle.proof_form.specs.Annotations.{Content}
use Rattle.proof_names.specs.Numbers.{index_in}
use Rattle.proof_names.specs.Options.{both}
use Rattle.proof_names.specs.Naming.{scoped_at}
use Rattle.itp_automaton.proofs.StateLaws.{member_at, place_of}
use Rattle.itp_automaton.specs.Making.{IsStateFor}
use Rattle.proof_reuse.specs.Found.{pred_found, found_at}
use Rattle.proof_reuse.specs.Candidates.{meant, StandsFor, MayStandFor, IsTruthOf}
use Rattle.proof_reuse.specs.Ties.Numbers.{IsNumbered, AreFound, renumbered, number_of, inside_pair, call_pair, back_three, three_of}
use Rattle.proof_reuse.specs.Ties.Choices.{numbers_in, pair_choices, three_choices}
use Rattle.proof_reuse.proofs.ChoiceLaws.{here_listed, listed_here, in_there, ComesFrom, IsPairChoice, pair_chosen, pair_there, IsThreeChoice, three_chosen, three_there}

-- ---- numbers

-- the predicate of a procedure with a number, if there is a number
abbrev pub read_at : List Scoped → ℕ → Option ℕ → Option Scoped
read_at preds p o = option_and_then (scoped_at (slice_get preds) p) o

numbered_reads : (preds : List Scoped) (p : ℕ) (o : Option Scoped) (n : Option ℕ) → IsNumbered preds o n → o ≡ read_at preds p n
numbered_reads preds p None None h = refl
numbered_reads preds p None (Some n) h = absurd h
numbered_reads preds p (Some s) None h = absurd h
numbered_reads preds p (Some s) (Some n) h = sym h.2 ∙ ap (scoped_at (slice_get preds) p) (sym h.1)

-- what stands at a place of the numbers, if anything does
abbrev place_in : List (Option ℕ) → ℕ → Option ℕ
place_in numbers k = option_and_then (λ n. n) (slice_get numbers k)

zip_reads : (g : Graph) (preds : List Scoped) (p : ℕ) (lines : List form.Pred) (numbers : List (Option ℕ)) (k : ℕ) →
    AllZip (λ line n. IsNumbered preds (pred_found g line) n) lines numbers → option_and_then (pred_found g) (slice_get lines k) ≡ read_at preds p (place_in numbers k)
zip_reads g preds p [] [] k h = refl
zip_reads g preds p [] (n ∷ ns) k h = absurd h
zip_reads g preds p (l ∷ ls) [] k h = absurd h
zip_reads g preds p (l ∷ ls) (n ∷ ns) zero h = numbered_reads preds p (pred_found g l) n h.0
zip_reads g preds p (l ∷ ls) (n ∷ ns) (suc k) h = zip_reads g preds p ls ns k h.1

no_zero : {n : Option ℕ} → n ≡ None → n ≡ Some 0 → ⊥
no_zero {n} e f = cc

numbered_large : (preds : List Scoped) (o : Option Scoped) (n : Option ℕ) → IsNumbered preds o n → n ≡ Some 0 → ⊥
numbered_large preds None None h e = cc
numbered_large preds None (Some n) h e = h
numbered_large preds (Some s) None h e = h
numbered_large preds (Some s) (Some n) h e = let f : Some (suc (suc h.0)) ≡ Some 0 = ap Some (sym h.1) ∙ e in cc

zip_large : (g : Graph) (preds : List Scoped) (lines : List form.Pred) (numbers : List (Option ℕ)) (k : ℕ) →
    AllZip (λ line n. IsNumbered preds (pred_found g line) n) lines numbers → place_in numbers k ≡ Some 0 → ⊥
zip_large g preds [] [] k h e = no_zero refl e
zip_large g preds [] (n ∷ ns) k h e = h
zip_large g preds (l ∷ ls) [] k h e = h
zip_large g preds (l ∷ ls) (n ∷ ns) zero h e = numbered_large preds (pred_found g l) n h.0 e
zip_large g preds (l ∷ ls) (n ∷ ns) (suc k) h e = zip_large g preds ls ns k h.1 e

module _ (g : Graph) (old : Content) (preds : List Scoped) (numbers : List (Option ℕ)) (found : AreFound g old.preds preds numbers) where
  index_reads : (p : ℕ) (o : Option ℕ) → option_and_then (scoped_at (found_at g old) p) o ≡ read_at preds p (option_and_then (renumbered numbers) o)
  index_reads p None = refl
  index_reads p (Some zero) = refl
  index_reads p (Some (suc zero)) = refl
  index_reads p (Some (suc (suc k))) = zip_reads g preds p old.preds numbers k found.numbered

  -- what a numeral stands for is the predicate with its new number
  number_reads : (p : ℕ) (n : Numeral) → meant g old p n ≡ read_at preds p (number_of numbers n)
  number_reads p n = index_reads p (index_in n)

  index_zero : (o : Option ℕ) → option_and_then (renumbered numbers) o ≡ Some 0 → o ≡ Some 0
  index_zero None e = absurd (let f : None ≡ Some 0 = e in cc)
  index_zero (Some zero) e = refl
  index_zero (Some (suc zero)) e = absurd (let f : Some 1 ≡ Some 0 = e in cc)
  index_zero (Some (suc (suc k))) e = absurd (zip_large g preds old.preds numbers k found.numbered e)

  -- a source and a target, by their numbers

  record HasNumber (n : Numeral) (s : Scoped) : Type 0 where
    number : ℕ
    is : number_of numbers n ≡ Some number
    reads : scoped_at (slice_get preds) s.proc number ≡ Some s

  some_number : (p : ℕ) (o : Option ℕ) (s : Scoped) → read_at preds p o ≡ Some s → (k : ℕ) × (o ≡ Some k) × (scoped_at (slice_get preds) p k ≡ Some s)
  some_number p None s e = absurd (let f : None ≡ Some s = e in cc)
  some_number p (Some k) s e = (k, refl, e)

  target_number : (n : Numeral) (s : Scoped) → StandsFor g old n s → HasNumber n s
  target_number n s e =
      let r = some_number s.proc (number_of numbers n) s (sym (number_reads s.proc n) ∙ e) in
      record { number = r.0; is = r.1; reads = r.2 }

  number_target : (n : Numeral) (p k : ℕ) (s : Scoped) → number_of numbers n ≡ Some k → scoped_at (slice_get preds) p k ≡ Some s → s.proc ≡ p → StandsFor g old n s
  number_target n p k s e f h = number_reads s.proc n ∙ ap (read_at preds s.proc) e ∙ ap (λ (q : ℕ). scoped_at (slice_get preds) q k) h ∙ f

  -- a source has a number of its own, which comes from that of the numeral
  record HasSource (n : Numeral) (p : ℕ) (s : Scoped) : Type 0 where
    base : ℕ
    number : ℕ
    is : number_of numbers n ≡ Some base
    fits : (x : Scoped) × (scoped_at (slice_get preds) p base ≡ Some x) × (x.proc ≡ p)
    comes : ComesFrom (numbers_in preds p) base number
    reads : scoped_at (slice_get preds) p number ≡ Some s

  source_number : (n : Numeral) (p : ℕ) (s : Scoped) → s.proc ≡ p → MayStandFor g old n s → HasSource n p s
  source_number n p s h (inl e) =
      let r = target_number n s e in
      let k : scoped_at (slice_get preds) p r.number ≡ Some s = ap (λ (q : ℕ). scoped_at (slice_get preds) q r.number) (sym h) ∙ r.reads in
      record { base = r.number; number = r.number; is = r.is; fits = (s, k, h); comes = inl refl; reads = k }
  source_number n p s h (inr e) =
      let m = place_of preds s (found.same.back s e.1) in
      record {
        base = 0;
        number = suc (suc m.0);
        is = ap (option_and_then (renumbered numbers)) e.0;
        fits = (truth_of p true, refl, refl);
        comes = inr (refl, listed_here preds p m.0 s m.1 h);
        reads = m.1;
      }

  number_source : (n : Numeral) (p k c : ℕ) (s : Scoped) → number_of numbers n ≡ Some k → ComesFrom (numbers_in preds p) k c → scoped_at (slice_get preds) p c ≡ Some s → s.proc ≡ p →
      MayStandFor g old n s
  number_source n p k c s e (inl f) r h = inl (number_target n p k s e (ap (scoped_at (slice_get preds) p) (sym f) ∙ r) h)
  number_source n p k c s e (inr f) r h =
      inr (index_zero (index_in n) (e ∙ ap Some f.0), found.same.there s (here_listed preds p c s f.1 r))

  is_truth : (b : Bool) (p k : ℕ) (s : Scoped) → Some (truth_of p b) ≡ Some s → IsTruthOf b s
  is_truth b p k s e =
      let f : truth_of p b ≡ s = cc in
      sym f ∙ ap (λ (q : ℕ). truth_of q b) (ap (λ (x : Scoped). x.proc) f)

  truth_reads : (b : Bool) (p : ℕ) (s : Scoped) → IsTruthOf b s → s.proc ≡ p → Some (truth_of p b) ≡ Some s
  truth_reads b p s e h = ap Some (ap (λ (q : ℕ). truth_of q b) (sym h) ∙ sym e)

  -- what a number stands for is true, false or in the list
  read_state : (p k : ℕ) (s : Scoped) → scoped_at (slice_get preds) p k ≡ Some s → IsStateFor preds s
  read_state p zero s e = inl (true, is_truth true p 0 s e)
  read_state p (suc zero) s e = inl (false, is_truth false p 0 s e)
  read_state p (suc (suc k)) s e = inr (member_at preds k s e)

  pub target_state : (n : Numeral) (s : Scoped) → StandsFor g old n s → IsStateFor preds s
  target_state n s e = let r = target_number n s e in read_state s.proc r.number s r.reads

  pub source_state : (n : Numeral) (s : Scoped) → MayStandFor g old n s → IsStateFor preds s
  source_state n s (inl e) = target_state n s e
  source_state n s (inr e) = inr (found.same.back s e.1)

  -- ---- pairs

  -- true to true, false to false, or from a source to a target of one of the lines
  abbrev pub IsTriedPair : (Numeral → Numeral → Type 0) → Scoped → Scoped → Type 0
  IsTriedPair Line s e =
      ((a : Numeral) × (b : Numeral) × Line a b × MayStandFor g old a s × StandsFor g old b e) ⊎
      ((IsTruthOf true s × IsTruthOf true e) ⊎ (IsTruthOf false s × IsTruthOf false e))

  module _ (pairs : List (ℕ × ℕ)) (Line : Numeral → Numeral → Type 0) (p q : ℕ) (s e : Scoped) (sp : s.proc ≡ p) (ep : e.proc ≡ q) where
    pub pair_tried : ((x : ℕ × ℕ) → Member pairs x → (a : Numeral) × (b : Numeral) × Line a b × (number_of numbers a ≡ Some x.0) × (number_of numbers b ≡ Some x.1)) →
        (c : ℕ × ℕ) → Member (pair_choices preds pairs p q) c → scoped_at (slice_get preds) p c.0 ≡ Some s → scoped_at (slice_get preds) q c.1 ≡ Some e → IsTriedPair Line s e
    pair_tried lines c m i j = by_choice (pair_chosen preds pairs p q c m)
      where
        by_choice : IsPairChoice preds pairs p c → IsTriedPair Line s e
        by_choice (inl k) = inr (inl (
          is_truth true p 0 s (sym (ap (λ (z : ℕ × ℕ). scoped_at (slice_get preds) p z.0) k) ∙ i),
          is_truth true q 0 e (sym (ap (λ (z : ℕ × ℕ). scoped_at (slice_get preds) q z.1) k) ∙ j),
        ))
        by_choice (inr (inl k)) = inr (inr (
          is_truth false p 0 s (sym (ap (λ (z : ℕ × ℕ). scoped_at (slice_get preds) p z.0) k) ∙ i),
          is_truth false q 0 e (sym (ap (λ (z : ℕ × ℕ). scoped_at (slice_get preds) q z.1) k) ∙ j),
        ))
        by_choice (inr (inr (x, n, t, from))) =
            let l = lines x n in
            inl (l.0, l.1, l.2, number_source l.0 p x.0 c.0 s l.3 from i sp, number_target l.1 q x.1 e l.4 (sym (ap (scoped_at (slice_get preds) q) t) ∙ j) ep)

    pub tried_pair : ((a b : Numeral) (x : ℕ × ℕ) → Line a b → number_of numbers a ≡ Some x.0 → number_of numbers b ≡ Some x.1 → Member pairs x) → IsTriedPair Line s e →
        (c : ℕ × ℕ) × Member (pair_choices preds pairs p q) c × (scoped_at (slice_get preds) p c.0 ≡ Some s) × (scoped_at (slice_get preds) q c.1 ≡ Some e)
    tried_pair lines (inl (a, b, l, from, to)) =
        let i = source_number a p s sp from in
        let j = target_number b e to in
        let k : scoped_at (slice_get preds) q j.number ≡ Some e = ap (λ (z : ℕ). scoped_at (slice_get preds) z j.number) (sym ep) ∙ j.reads in (
          (i.number, j.number),
          pair_there preds pairs p q i.number (i.base, j.number) (lines a b (i.base, j.number) l i.is j.is) (in_there preds p i.base i.fits.0 i.fits.1 i.fits.2)
              (in_there preds q j.number e k ep) i.comes,
          i.reads,
          k,
        )
    tried_pair lines (inr (inl t)) = ((0, 0), inl refl, truth_reads true p s t.0 sp, truth_reads true q e t.1 ep)
    tried_pair lines (inr (inr t)) = ((1, 1), inr (inl refl), truth_reads false p s t.0 sp, truth_reads false q e t.1 ep)

  -- ---- threes

  abbrev pub IsTriedThree : (Numeral → Numeral → Numeral → Type 0) → Scoped → Scoped → Scoped → Type 0
  IsTriedThree Line x b e =
      ((i : Numeral) × (j : Numeral) × (k : Numeral) × Line i j k × MayStandFor g old i x × MayStandFor g old j b × StandsFor g old k e) ⊎
      ((IsTruthOf true x × IsTruthOf true b × IsTruthOf true e) ⊎
      ((IsTruthOf false x × IsTruthOf true b × IsTruthOf false e) ⊎ (IsTruthOf true x × IsTruthOf false b × IsTruthOf false e)))

  module _ (threes : List (ℕ × ℕ × ℕ)) (Line : Numeral → Numeral → Numeral → Type 0) (p q : ℕ) (x b e : Scoped) (xp : x.proc ≡ p) (bp : b.proc ≡ q) (ep : e.proc ≡ q) where
    pub three_tried : ((y : ℕ × ℕ × ℕ) → Member threes y → (i : Numeral) × (j : Numeral) × (k : Numeral) × Line i j k × (number_of numbers i ≡ Some y.0) × (number_of numbers j ≡ Some y.1) × (number_of numbers k ≡ Some y.2)) →
        (c : ℕ × ℕ × ℕ) → Member (three_choices preds threes p q) c → scoped_at (slice_get preds) p c.0 ≡ Some x → scoped_at (slice_get preds) q c.1 ≡ Some b →
        scoped_at (slice_get preds) q c.2 ≡ Some e → IsTriedThree Line x b e
    three_tried lines c m h i j = by_choice (three_chosen preds threes p q c m)
      where
        truths : (u v w : Bool) (d : ℕ × ℕ × ℕ) → c ≡ d → scoped_at (slice_get preds) p d.0 ≡ Some (truth_of p u) → scoped_at (slice_get preds) q d.1 ≡ Some (truth_of q v) →
            scoped_at (slice_get preds) q d.2 ≡ Some (truth_of q w) → IsTruthOf u x × IsTruthOf v b × IsTruthOf w e
        truths u v w d k f g' h' = (
          is_truth u p 0 x (sym f ∙ sym (ap (λ (z : ℕ × ℕ × ℕ). scoped_at (slice_get preds) p z.0) k) ∙ h),
          is_truth v q 0 b (sym g' ∙ sym (ap (λ (z : ℕ × ℕ × ℕ). scoped_at (slice_get preds) q z.1) k) ∙ i),
          is_truth w q 0 e (sym h' ∙ sym (ap (λ (z : ℕ × ℕ × ℕ). scoped_at (slice_get preds) q z.2) k) ∙ j),
        )

        by_choice : IsThreeChoice preds threes p q c → IsTriedThree Line x b e
        by_choice (inl k) = inr (inl (truths true true true (0, 0, 0) k refl refl refl))
        by_choice (inr (inl k)) = inr (inr (inl (truths false true false (1, 0, 1) k refl refl refl)))
        by_choice (inr (inr (inl k))) = inr (inr (inr (truths true false false (0, 1, 1) k refl refl refl)))
        by_choice (inr (inr (inr (y, n, t, from, before)))) =
            let l = lines y n in
            inl (
              l.0,
              l.1,
              l.2,
              l.3,
              number_source l.0 p y.0 c.0 x l.4 from h xp,
              number_source l.1 q y.1 c.1 b l.5 before i bp,
              number_target l.2 q y.2 e l.6 (sym (ap (scoped_at (slice_get preds) q) t) ∙ j) ep,
            )

    pub tried_three : ((i j k : Numeral) (y : ℕ × ℕ × ℕ) → Line i j k → number_of numbers i ≡ Some y.0 → number_of numbers j ≡ Some y.1 → number_of numbers k ≡ Some y.2 → Member threes y) →
        IsTriedThree Line x b e →
        (c : ℕ × ℕ × ℕ) × Member (three_choices preds threes p q) c × (scoped_at (slice_get preds) p c.0 ≡ Some x) × (scoped_at (slice_get preds) q c.1 ≡ Some b) ×
        (scoped_at (slice_get preds) q c.2 ≡ Some e)
    tried_three lines (inl (i, j, k, l, from, before, to)) =
        let f = source_number i p x xp from in
        let h = source_number j q b bp before in
        let t = target_number k e to in
        let r : scoped_at (slice_get preds) q t.number ≡ Some e = ap (λ (z : ℕ). scoped_at (slice_get preds) z t.number) (sym ep) ∙ t.reads in (
          (f.number, h.number, t.number),
          three_there preds threes p q f.number h.number (f.base, h.base, t.number) (lines i j k (f.base, h.base, t.number) l f.is h.is t.is)
              (in_there preds p f.base f.fits.0 f.fits.1 f.fits.2) (in_there preds q h.base h.fits.0 h.fits.1 h.fits.2) (in_there preds q t.number e r ep) f.comes h.comes,
          f.reads,
          h.reads,
          r,
        )
    tried_three lines (inr (inl t)) = ((0, 0, 0), inl refl, truth_reads true p x t.0 xp, truth_reads true q b t.1 bp, truth_reads true q e t.2 ep)
    tried_three lines (inr (inr (inl t))) = ((1, 0, 1), inr (inl refl), truth_reads false p x t.0 xp, truth_reads true q b t.1 bp, truth_reads false q e t.2 ep)
    tried_three lines (inr (inr (inr t))) = ((0, 1, 1), inr (inr (inl refl)), truth_reads true p x t.0 xp, truth_reads false q b t.1 bp, truth_reads false q e t.2 ep)

-- ---- lines by their numbers

both_some : {X Y : Type 0} (o : Option X) (u : Option Y) (x : X) (y : Y) → both o u ≡ Some (x, y) → (o ≡ Some x) × (u ≡ Some y)
both_some None u x y e = absurd (let f : None ≡ Some (x, y) = e in cc)
both_some (Some a) None x y e = absurd (let f : None ≡ Some (x, y) = e in cc)
both_some (Some a) (Some b) x y e =
    let f : (a, b) ≡ (x, y) = cc in
    (ap Some (ap (λ (z : _ × _). z.0) f), ap Some (ap (λ (z : _ × _). z.1) f))

collected : {X Y : Type 0} (f : X → Option Y) (xs : List X) (y : Y) → Member (filter_map f xs) y → (x : X) × Member xs x × (f x ≡ Some y)
collected f [] y m = absurd m
collected {X} {Y} f (x ∷ xs) y m = by_first (f x) refl (λ h. collected f xs y h) m
  where
    by_first : (o : Option Y) → f x ≡ o → (Member (filter_map f xs) y → (z : X) × Member xs z × (f z ≡ Some y)) →
        Member (cons_option o (filter_map f xs)) y → (z : X) × Member (x ∷ xs) z × (f z ≡ Some y)
    by_first None e k h = let r = k h in (r.0, inr r.1, r.2)
    by_first (Some w) e k (inl i) = (x, inl refl, e ∙ ap Some i)
    by_first (Some w) e k (inr h) = let r = k h in (r.0, inr r.1, r.2)

collects : {X Y : Type 0} (f : X → Option Y) (xs : List X) (x : X) (y : Y) → Member xs x → f x ≡ Some y → Member (filter_map f xs) y
collects f [] x y m e = absurd m
collects {X} {Y} f (z ∷ xs) x y (inl k) e = subst (λ (o : Option Y). Member (cons_option o (filter_map f xs)) y) (sym (ap f k ∙ e)) (inl refl)
collects {X} {Y} f (z ∷ xs) x y (inr m) e = by_first (f z) (collects f xs x y m e)
  where
    by_first : (o : Option Y) → Member (filter_map f xs) y → Member (cons_option o (filter_map f xs)) y
    by_first None h = h
    by_first (Some w) h = inr h

-- the lines with these numerals, whatever their letter and refutation
abbrev pub InsideLine : List form.Triple → Numeral → Numeral → Type 0
InsideLine lines a b = (l : Numeral) × (proof : List RefutationNode) × Member lines (inside_triple a l b proof)

abbrev pub CallLine : List form.Triple → Numeral → Numeral → Type 0
CallLine lines a b = (l : Numeral) × (proof : List RefutationNode) × Member lines (call_triple a l b proof)

abbrev pub BackLine : List form.Triple → Numeral → Numeral → Numeral → Type 0
BackLine lines a b c = (l : Numeral) × (proof : List RefutationNode) × Member lines (back_triple a b l c proof)

module _ (numbers : List (Option ℕ)) (lines : List form.Triple) where
  pub inside_line : (x : ℕ × ℕ) → Member (filter_map (inside_pair numbers) lines) x →
      (a : Numeral) × (b : Numeral) × InsideLine lines a b × (number_of numbers a ≡ Some x.0) × (number_of numbers b ≡ Some x.1)
  inside_line x m = let r = collected (inside_pair numbers) lines x m in by_line r.0 r.1 r.2
    where
      by_line : (line : form.Triple) → Member lines line → inside_pair numbers line ≡ Some x →
          (a : Numeral) × (b : Numeral) × InsideLine lines a b × (number_of numbers a ≡ Some x.0) × (number_of numbers b ≡ Some x.1)
      by_line (inside_triple q l r proof) m e = let k = both_some (number_of numbers q) (number_of numbers r) x.0 x.1 e in (q, r, (l, proof, m), k.0, k.1)
      by_line (call_triple q l r proof) m e = absurd (let f : None ≡ Some x = e in cc)
      by_line (back_triple y b l r proof) m e = absurd (let f : None ≡ Some x = e in cc)

  pub line_inside : (a b : Numeral) (x : ℕ × ℕ) → InsideLine lines a b → number_of numbers a ≡ Some x.0 → number_of numbers b ≡ Some x.1 → Member (filter_map (inside_pair numbers) lines) x
  line_inside a b x (l, proof, m) e f = collects (inside_pair numbers) lines (inside_triple a l b proof) x m (rw (e, f) refl)

  pub call_line : (x : ℕ × ℕ) → Member (filter_map (call_pair numbers) lines) x →
      (a : Numeral) × (b : Numeral) × CallLine lines a b × (number_of numbers a ≡ Some x.0) × (number_of numbers b ≡ Some x.1)
  call_line x m = let r = collected (call_pair numbers) lines x m in by_line r.0 r.1 r.2
    where
      by_line : (line : form.Triple) → Member lines line → call_pair numbers line ≡ Some x →
          (a : Numeral) × (b : Numeral) × CallLine lines a b × (number_of numbers a ≡ Some x.0) × (number_of numbers b ≡ Some x.1)
      by_line (inside_triple q l r proof) m e = absurd (let f : None ≡ Some x = e in cc)
      by_line (call_triple q l r proof) m e = let k = both_some (number_of numbers q) (number_of numbers r) x.0 x.1 e in (q, r, (l, proof, m), k.0, k.1)
      by_line (back_triple y b l r proof) m e = absurd (let f : None ≡ Some x = e in cc)

  pub line_call : (a b : Numeral) (x : ℕ × ℕ) → CallLine lines a b → number_of numbers a ≡ Some x.0 → number_of numbers b ≡ Some x.1 → Member (filter_map (call_pair numbers) lines) x
  line_call a b x (l, proof, m) e f = collects (call_pair numbers) lines (call_triple a l b proof) x m (rw (e, f) refl)

  three_some : (o : Option ((ℕ × ℕ) × ℕ)) (x : ℕ × ℕ × ℕ) → three_of o ≡ Some x → o ≡ Some ((x.0, x.1), x.2)
  three_some None x e = absurd (let f : None ≡ Some x = e in cc)
  three_some (Some t) x e =
      let f : (t.0.0, t.0.1, t.1) ≡ x = cc in
      ap (λ (z : ℕ × ℕ × ℕ). Some ((z.0, z.1), z.2)) f

  pub back_line : (x : ℕ × ℕ × ℕ) → Member (filter_map (back_three numbers) lines) x →
      (a : Numeral) × (b : Numeral) × (c : Numeral) × BackLine lines a b c × (number_of numbers a ≡ Some x.0) × (number_of numbers b ≡ Some x.1) × (number_of numbers c ≡ Some x.2)
  back_line x m = let r = collected (back_three numbers) lines x m in by_line r.0 r.1 r.2
    where
      by_line : (line : form.Triple) → Member lines line → back_three numbers line ≡ Some x →
          (a : Numeral) × (b : Numeral) × (c : Numeral) × BackLine lines a b c × (number_of numbers a ≡ Some x.0) × (number_of numbers b ≡ Some x.1) × (number_of numbers c ≡ Some x.2)
      by_line (inside_triple q l r proof) m e = absurd (let f : None ≡ Some x = e in cc)
      by_line (call_triple q l r proof) m e = absurd (let f : None ≡ Some x = e in cc)
      by_line (back_triple y b l r proof) m e =
          let t = three_some (both (both (number_of numbers y) (number_of numbers b)) (number_of numbers r)) x e in
          let k = both_some (both (number_of numbers y) (number_of numbers b)) (number_of numbers r) (x.0, x.1) x.2 t in
          let i = both_some (number_of numbers y) (number_of numbers b) x.0 x.1 k.0 in
          (y, b, r, (l, proof, m), i.0, i.1, k.1)

  pub line_back : (a b c : Numeral) (x : ℕ × ℕ × ℕ) → BackLine lines a b c → number_of numbers a ≡ Some x.0 → number_of numbers b ≡ Some x.1 → number_of numbers c ≡ Some x.2 →
      Member (filter_map (back_three numbers) lines) x
  line_back a b c x (l, proof, m) e f h = collects (back_three numbers) lines (back_triple a b l c proof) x m (rw (e, f, h) refl)
