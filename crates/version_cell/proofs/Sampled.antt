-- In a race for the words a and b, an entry for one of them leaves the other, where it was left before.
use Rattle.std.proofs.Common.{◌≡◌, ℕ, ◌⊎◌, inl, inr, ⊎_elim, Bool, true, false, not, List, [], ◌∷◌, ◌++◌, length, take, refl, subst, sym, ap, ◌∙◌, arith}
use Rattle.std.proofs.lemmas.List.{take_all}
use Rattle.nwa_base.specs.declared.letters.Kind.{Kind}
use Rattle.nwa_base.specs.declared.letters.Kind.TheVariants.{Inside, Call, Back}
use Rattle.nwa_base.specs.declared.letters.Letter.{Letter}
use Rattle.nwa_base.specs.Members.{Member}
use Rattle.nwa_base.specs.Automata.{Automaton}
use Rattle.nwa_base.specs.Acceptance.{Follows, AcceptsFrom, Accepts}
use Rattle.race_core.specs.declared.events.Entry.{Entry}
use Rattle.race_core.specs.Histories.{Removed, Keeps, IsNext, IsFair}
use Rattle.race_core.proofs.Legality.{removed_last, removed_more}
use Rattle.version_cell.specs.Samples.{letter_of, edges_of, one_letter, two_words, one_word, IsRest}

-- an edge leads by one of the letters from 0 to 1
edge_is : (letters : List Letter) (q : ℕ) (a : Letter) (e : ℕ) → Member (edges_of letters) (q, a, e) →
    Member letters a × (0 ≡ q) × (1 ≡ e)
edge_is [] q a e m = absurd m
edge_is (x ∷ xs) q a e m =
    ⊎_elim (λ s. (inl (ap (λ (t : ℕ × Letter × ℕ). t.1) s), ap (λ (t : ℕ × Letter × ℕ). t.0) s, ap (λ (t : ℕ × Letter × ℕ). t.2) s))
    (λ r. let i = edge_is xs q a e r in (inr i.0, i.1, i.2)) m

edge_of : (letters : List Letter) (a : Letter) → Member letters a → Member (edges_of letters) (0, a, 1)
edge_of [] a m = absurd m
edge_of (x ∷ xs) a m = ⊎_elim (λ s. inl (ap (λ (y : Letter). (0, y, 1)) s)) (λ r. inr (edge_of xs a r)) m

stuck : (letters : List Letter) (kind : Kind) (a : Letter) (e : ℕ) (rest : List ℕ → Type 0) →
    Follows (one_letter letters) kind a [] 1 e rest → ⊥
stuck letters Inside a e rest f = let i = edge_is letters 1 a e f.0 in absurd (omega (arith, i.1))
stuck letters Call a e rest f = f.0
stuck letters Back a e rest f = f

ended : (letters : List Letter) (w : List Letter) → AcceptsFrom (one_letter letters) [] 1 w → w ≡ []
ended letters [] r = refl
ended letters (x ∷ w) r = absurd (stuck letters x.kind x r.0 (λ stack. AcceptsFrom (one_letter letters) stack r.0 w) r.1)

first_step : (letters : List Letter) (kind : Kind) (a : Letter) (e : ℕ) (w : List Letter) →
    Follows (one_letter letters) kind a [] 0 e (λ stack. AcceptsFrom (one_letter letters) stack e w) →
    Member letters a × (w ≡ [])
first_step letters Inside a e w f =
    let i = edge_is letters 0 a e f.0 in
    let P : ℕ → Type 0 = λ q. AcceptsFrom (one_letter letters) [] q w in
    (i.0, ended letters w (subst P (sym i.2) f.1))
first_step letters Call a e w f = absurd f.0
first_step letters Back a e w f = absurd f

-- what is accepted is one of the letters
accepted : (letters : List Letter) (w : List Letter) → Accepts (one_letter letters) w →
    (a : Letter) × Member letters a × (w ≡ a ∷ [])
accepted letters [] m = absurd (⊎_elim (λ e. absurd (omega (arith, e))) (λ r. absurd r) m)
accepted letters (x ∷ w) r =
    let s = first_step letters x.kind x r.0 w r.1 in (x, s.0, ap (λ (v : List Letter). x ∷ v) s.1)

-- each of the letters is accepted
accepts_letter : (letters : List Letter) (b : Bool) → Member letters (letter_of b) → Accepts (one_letter letters) (letter_of b ∷ [])
accepts_letter letters b m = (1, (edge_of letters (letter_of b) m, inl refl))

first_id : List Letter → ℕ
first_id [] = 2
first_id (a ∷ w) = a.id

-- the words differ
other_word : (b : Bool) → letter_of b ∷ [] ≡ letter_of (not b) ∷ [] → ⊥
unfolding first_id
other_word true e = let q : 0 ≡ 1 = ap first_id e in absurd (omega (arith, q))
other_word false e = let q : 1 ≡ 0 = ap first_id e in absurd (omega (arith, q))

-- a word of the one letter
one_is : (b : Bool) (w : List Letter) → Accepts (one_word b) w → w ≡ letter_of b ∷ []
one_is b w a =
    let i = accepted (letter_of b ∷ []) w a in
    ⊎_elim (λ s. i.2 ∙ ap (λ (x : Letter). x ∷ []) (sym s)) (λ r. absurd r) i.1

two_by : (b : Bool) (a : Letter) (w : List Letter) → Member (letter_of true ∷ letter_of false ∷ []) a → w ≡ a ∷ [] →
    (w ≡ letter_of b ∷ []) ⊎ (w ≡ letter_of (not b) ∷ [])
two_by true a w m e =
    ⊎_elim (λ s. inl (e ∙ ap (λ (x : Letter). x ∷ []) (sym s))) (λ r. ⊎_elim (λ s. inr (e ∙ ap (λ (x : Letter). x ∷ []) (sym s))) (λ n. absurd n) r) m
two_by false a w m e =
    ⊎_elim (λ s. inr (e ∙ ap (λ (x : Letter). x ∷ []) (sym s))) (λ r. ⊎_elim (λ s. inl (e ∙ ap (λ (x : Letter). x ∷ []) (sym s))) (λ n. absurd n) r) m

-- a word of the two is one or the other
two_are : (b : Bool) (w : List Letter) → Accepts two_words w → (w ≡ letter_of b ∷ []) ⊎ (w ≡ letter_of (not b) ∷ [])
two_are b w a = let i = accepted (letter_of true ∷ letter_of false ∷ []) w a in two_by b i.0 w i.1 i.2

module _ {E : Type 0} (automaton : E → Automaton) where
  removed_split : (h : List (Entry E)) (e : Entry E) (w : List Letter) → Removed automaton (h ++ e ∷ []) w →
      Removed automaton h w ⊎ Accepts (automaton e.evidence) w
  removed_split [] e w r = ⊎_elim (λ a. inr a) (λ s. absurd s) r
  removed_split (x ∷ h) e w r =
      ⊎_elim (λ a. inl (inl a)) (λ s. ⊎_elim (λ t. inl (inr t)) (λ a. inr a) (removed_split h e w s)) r

  -- the other word is left where it was left before
  left : (h : List (Entry E)) (k : Automaton) (entry : Entry E) (b : Bool) → Keeps automaton two_words h k →
      automaton entry.evidence ≡ one_word b → Accepts k (letter_of (not b) ∷ []) →
      Accepts two_words (letter_of (not b) ∷ []) × (Removed automaton (h ++ entry ∷ []) (letter_of (not b) ∷ []) → ⊥)
  left h k entry b keeps own there =
      let was = (keeps (letter_of (not b) ∷ [])).0 there in
      let A : Automaton → Type 0 = λ m. Accepts m (letter_of (not b) ∷ []) in (
        was.0,
        (λ r. ⊎_elim was.1 (λ a. other_word b (sym (one_is b (letter_of (not b) ∷ []) (subst A own a)))) (removed_split h entry (letter_of (not b) ∷ []) r)),
      )

  rest_is_left : (h : List (Entry E)) (k kept : Automaton) (entry : Entry E) (b : Bool) → Keeps automaton two_words h k →
      automaton entry.evidence ≡ one_word b → Accepts k (letter_of (not b) ∷ []) × (kept ≡ one_word (not b)) → (w : List Letter) →
      Accepts kept w → Accepts two_words w × (Removed automaton (h ++ entry ∷ []) w → ⊥)
  rest_is_left h k kept entry b keeps own r w a =
      let K : Automaton → Type 0 = λ m. Accepts m w in
      let L : List Letter → Type 0 = λ v. Accepts two_words v × (Removed automaton (h ++ entry ∷ []) v → ⊥) in
      subst L (sym (one_is (not b) w (subst K r.1 a))) (left h k entry b keeps own r.0)

  own_removed : (h : List (Entry E)) (entry : Entry E) (b : Bool) → automaton entry.evidence ≡ one_word b →
      Removed automaton (h ++ entry ∷ []) (letter_of b ∷ [])
  own_removed h entry b own =
      let A : Automaton → Type 0 = λ m. Accepts m (letter_of b ∷ []) in
      removed_last automaton h entry (letter_of b ∷ []) (subst A (sym own) (accepts_letter (letter_of b ∷ []) b (inl refl)))

  rest_there : (h : List (Entry E)) (k kept : Automaton) (entry : Entry E) (b : Bool) → Keeps automaton two_words h k →
      IsRest k (not b) kept → Accepts two_words (letter_of (not b) ∷ []) × (Removed automaton (h ++ entry ∷ []) (letter_of (not b) ∷ []) → ⊥) →
      Accepts kept (letter_of (not b) ∷ [])
  rest_there h k kept entry b keeps rest l =
      let there = (keeps (letter_of (not b) ∷ [])).1 (l.0, (λ r. l.1 (removed_more automaton h entry (letter_of (not b) ∷ []) r))) in
      let A : Automaton → Type 0 = λ m. Accepts m (letter_of (not b) ∷ []) in
      ⊎_elim (λ r. subst A (sym r.1) (accepts_letter (letter_of (not b) ∷ []) (not b) (inl refl))) (λ r. absurd (r.0 there)) rest

  rest_keeps : (h : List (Entry E)) (k kept : Automaton) (entry : Entry E) (b : Bool) → Keeps automaton two_words h k →
      automaton entry.evidence ≡ one_word b → IsRest k (not b) kept → Keeps automaton two_words (h ++ entry ∷ []) kept
  rest_keeps h k kept entry b keeps own rest w = (
    (λ a. ⊎_elim (λ r. rest_is_left h k kept entry b keeps own r w a) (λ r. let K : Automaton → Type 0 = λ m. Accepts m w in absurd ((accepted [] w (subst K r.1 a)).1)) rest),
    (λ l. ⊎_elim (λ e. let R : List Letter → Type 0 = λ v. Removed automaton (h ++ entry ∷ []) v in absurd (l.1 (subst R (sym e) (own_removed h entry b own))))
        (λ e. let K : List Letter → Type 0 = λ v. Accepts kept v in subst K (sym e) (rest_there h k kept entry b keeps rest (let L : List Letter → Type 0 = λ v. Accepts two_words v × (Removed automaton (h ++ entry ∷ []) v → ⊥) in subst L e l))) (two_are b w l.0)),
  )

  fair_there : (h : List (Entry E)) (k kept : Automaton) (entry : Entry E) (b : Bool) (base : ℕ) → length h ≡ base → Keeps automaton two_words h k →
      entry.word ≡ letter_of b ∷ [] → automaton entry.evidence ≡ one_word b → Accepts k (letter_of b ∷ []) → IsRest k (not b) kept →
      IsFair automaton two_words h base entry kept
  fair_there h k kept entry b base at keeps word own there rest =
      let all : take base h ≡ h = take_all base h (omega (arith, at)) in
      let N : List (Entry E) → Type 0 = λ t. IsNext automaton two_words t entry in
      let K : List (Entry E) → Type 0 = λ t. Keeps automaton two_words (t ++ entry ∷ []) kept in
      let was = (keeps (letter_of b ∷ [])).0 there in
      let W : List Letter → Type 0 = λ v. Accepts two_words v in
      let R : List Letter → Type 0 = λ v. Removed automaton h v → ⊥ in
      let O : Automaton → Type 0 = λ m. Accepts m entry.word in
      let P : List Letter → Type 0 = λ v. Accepts (one_word b) v in
      record {
        next = subst N (sym all)
            (record {
              error = subst W (sym word) was.0;
              own = subst O (sym own) (subst P (sym word) (accepts_letter (letter_of b ∷ []) b (inl refl)));
              fresh = subst R (sym word) was.1;
            });
        keeps = subst K (sym all) (rest_keeps h k kept entry b keeps own rest);
      }

  -- the publication is fair where what was read is kept
  pub fair_sample : (program : Automaton) (h : List (Entry E)) (k kept : Automaton) (entry : Entry E) (b : Bool) (base : ℕ) →
      program ≡ two_words → length h ≡ base → Keeps automaton program h k → entry.word ≡ letter_of b ∷ [] →
      automaton entry.evidence ≡ one_word b → Accepts k (letter_of b ∷ []) → IsRest k (not b) kept →
      IsFair automaton program h base entry kept
  fair_sample program h k kept entry b base is at keeps word own there rest =
      let P : Automaton → Type 0 = λ m. IsFair automaton m h base entry kept in
      let K : Automaton → Type 0 = λ m. Keeps automaton m h k in
      subst P (sym is) (fair_there h k kept entry b base at (subst K is keeps) word own there rest)
