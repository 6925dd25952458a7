-- Lines and words at the front of bytes.
use Rattle.std.proofs.Common.{◌≡◌, ◌≢◌, ℕ, ◌+◌, Bool, true, false, not, cond, nat_eq, List, [], ◌∷◌, ◌++◌, take, drop, refl, sym, ap, ◌∙◌, append_assoc, one-add}
use Rattle.std.specs.List.{list_all, prefix_len}
use Rattle.std.proofs.lemmas.Bool.{eqb-true}
use Rattle.std.proofs.lemmas.List.{append_cancel_left}
use Rattle.proof_form.specs.Reading.{run_at}
use Rattle.proof_form.proofs.RunLaws.{run_reads, run_spells}
use Rattle.rank_lasso.specs.Lines.{differs, HasNo, IsBreak, line_text}

-- the front of a run passes its test
front_passes : (p : ℕ → Bool) (bs : List ℕ) → list_all p (run_at p bs).0 ≡ true
front_passes p [] = refl
front_passes p (b ∷ bs) =
    let Goal : Bool → Type 0 = λ t. p b ≡ t → list_all p (take (cond t (1 + prefix_len p bs) 0) (b ∷ bs)) ≡ true in
    elim (p b) as (λ t. Goal t) [ true ↦ λ e. rw one-add (rw (e, front_passes p bs) refl) | false ↦ λ e. refl ] refl

-- what stands behind a run is nothing, or begins with a byte that fails its test
abbrev pub Fails : (ℕ → Bool) → List ℕ → Type 0
Fails p [] = Unit {0}
Fails p (b ∷ bs) = p b ≡ false

back_fails : (p : ℕ → Bool) (bs : List ℕ) → Fails p (run_at p bs).1
back_fails p [] = tt
back_fails p (b ∷ bs) =
    let Goal : Bool → Type 0 = λ t. p b ≡ t → Fails p (drop (cond t (1 + prefix_len p bs) 0) (b ∷ bs)) in
    elim (p b) as (λ t. Goal t) [ true ↦ λ e. rw one-add (back_fails p bs) | false ↦ λ e. e ] refl

pub fails_stops : (p : ℕ → Bool) (bs : List ℕ) → Fails p bs → prefix_len p bs ≡ 0
fails_stops p [] h = refl
fails_stops p (b ∷ bs) h = rw h refl

-- the two parts of a run, as they were cut
pub record IsCut (p : ℕ → Bool) (bs front back : List ℕ) : Type 0 where
  pub front_is : list_all p front ≡ true
  pub back_is : Fails p back
  pub spelled : bs ≡ front ++ back

pub is_cut : (p : ℕ → Bool) (bs front back : List ℕ) → run_at p bs ≡ (front, back) → IsCut p bs front back
is_cut p bs front back e =
    let a : (run_at p bs).0 ≡ front = ap (λ (x : List ℕ × List ℕ). x.0) e in
    let b : (run_at p bs).1 ≡ back = ap (λ (x : List ℕ × List ℕ). x.1) e in
    record {
      front_is = sym (ap (list_all p) a) ∙ front_passes p bs;
      back_is = rw (← b) (back_fails p bs);
      spelled = run_spells p bs ∙ ap (λ x. x ++ (run_at p bs).1) a ∙ ap (λ x. front ++ x) b;
    }

-- bytes are cut in one way
pub same_cut : (p : ℕ → Bool) (a b c d : List ℕ) → list_all p a ≡ true → Fails p b → list_all p c ≡ true → Fails p d → a ++ b ≡ c ++ d → (a ≡ c) × (b ≡ d)
same_cut p a b c d h k i j e =
    let one = run_reads p a b h (fails_stops p b k) in
    let two = run_reads p c d i (fails_stops p d j) in
    let both : (a, b) ≡ (c, d) = sym one ∙ ap (run_at p) e ∙ two in
    (ap (λ (x : List ℕ × List ℕ). x.0) both, ap (λ (x : List ℕ × List ℕ). x.1) both)

-- ---- lines

-- the bytes of a line, behind its word
regrouped : (word content rest : List ℕ) → line_text word content ++ rest ≡ word ++ (content ++ 10 ∷ rest)
regrouped word content rest = append_assoc word (content ++ 10 ∷ []) rest ∙ ap (λ x. word ++ x) (append_assoc content (10 ∷ []) rest)

pub line_read : (word text rest content behind more : List ℕ) → text ≡ word ++ rest → run_at (differs 10) rest ≡ (content, behind) → behind ≡ (10 ∷ []) ++ more →
    HasNo 10 content × (text ≡ line_text word content ++ more)
line_read word text rest content behind more first cut last =
    let c = is_cut (differs 10) rest content behind cut in
    (c.front_is, first ∙ ap (λ x. word ++ x) (c.spelled ∙ ap (λ x. content ++ x) last) ∙ sym (regrouped word content more))

pub no_line_word : (word text : List ℕ) → ((rest : List ℕ) → text ≢ word ++ rest) → (content rest : List ℕ) → HasNo 10 content → text ≢ line_text word content ++ rest
no_line_word word text none content rest h e = none (content ++ 10 ∷ rest) (e ∙ regrouped word content rest)

pub no_line_end : (word text rest content behind : List ℕ) → text ≡ word ++ rest → run_at (differs 10) rest ≡ (content, behind) → ((more : List ℕ) → behind ≢ (10 ∷ []) ++ more) →
    (other more : List ℕ) → HasNo 10 other → text ≢ line_text word other ++ more
no_line_end word text rest content behind first cut none other more h e =
    let same : rest ≡ other ++ 10 ∷ more = append_cancel_left word rest (other ++ 10 ∷ more) (sym first ∙ e ∙ regrouped word other more) in
    let c = is_cut (differs 10) rest content behind cut in
    none more (same_cut (differs 10) content behind other (10 ∷ more) c.front_is c.back_is h refl (sym c.spelled ∙ same)).1

-- a line is at the front in one way
pub same_line : (word a b r s : List ℕ) → HasNo 10 a → HasNo 10 b → line_text word a ++ r ≡ line_text word b ++ s → (a ≡ b) × (r ≡ s)
same_line word a b r s h k e =
    let same : a ++ 10 ∷ r ≡ b ++ 10 ∷ s = append_cancel_left word (a ++ 10 ∷ r) (b ++ 10 ∷ s) (sym (regrouped word a r) ∙ e ∙ regrouped word b s) in
    let parts = same_cut (differs 10) a (10 ∷ r) b (10 ∷ s) h refl k refl same in
    (parts.0, ap (drop 1) parts.1)

-- ---- words

is_break : (bs : List ℕ) → Fails (differs 32) bs → IsBreak bs
is_break [] h = tt
is_break (b ∷ bs) h = eqb-true b 32 (not_false (nat_eq b 32) h)
  where
    not_false : (t : Bool) → not t ≡ false → t ≡ true
    not_false true e = refl
    not_false false e = absurd (let n : ⊥ = cc in n)

pub break_fails : (bs : List ℕ) → IsBreak bs → Fails (differs 32) bs
break_fails [] h = tt
break_fails (b ∷ bs) h = rw h refl

pub word_read : (bytes rest word behind : List ℕ) → bytes ≡ (32 ∷ []) ++ rest → run_at (differs 32) rest ≡ (word, behind) →
    HasNo 32 word × IsBreak behind × (bytes ≡ 32 ∷ (word ++ behind))
word_read bytes rest word behind first cut =
    let c = is_cut (differs 32) rest word behind cut in
    (c.front_is, is_break behind c.back_is, first ∙ ap (λ x. 32 ∷ x) c.spelled)

-- a word is at the front in one way
pub same_word : (a b r s : List ℕ) → HasNo 32 a → IsBreak r → HasNo 32 b → IsBreak s → a ++ r ≡ b ++ s → (a ≡ b) × (r ≡ s)
same_word a b r s h k i j e = same_cut (differs 32) a r b s h (break_fails r k) i (break_fails s j) e
