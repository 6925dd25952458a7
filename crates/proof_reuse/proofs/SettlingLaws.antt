-- Candidates that are tried letter by letter.
use Rattle.std.proofs.Common.{◌≡◌, ◌∙◌, ℕ, ◌+◌, List, [], ◌∷◌, ◌++◌, Option, None, Some, append_assoc, refl, sym, ap, subst, inl, inr, arith}
use Rattle.std.specs.List.{AllByRecursion, AllZip, filter_map}
use Rattle.std.proofs.lemmas.List.{append-nil}
use Rattle.nwa_base.specs.Members.{Member}
use Rattle.nwa_base.proofs.MemberLemmas.{member_front, member_rest}
use Rattle.letter_acts.specs.Acts.{Alphabet}
use Rattle.letter_acts.specs.Invariant.{Graph, alphabet_of}
use Rattle.triple_rows.specs.declared.triples.Triple.{Triple}
use Rattle.triple_rows.specs.Triples.{Agrees}
use Rattle.triple_rows.specs.Proofs.{PlainProof}
use Rattle.hoare_check.specs.Decided.{MayProve, IsProofFor}
use Rattle.proof_form.specs.Annotations.{Content}
use Rattle.itp_automaton.specs.Settling.{SettlesTriple, letter_in}
use Rattle.itp_automaton.proofs.StateLaws.{below_or_last}
use Rattle.itp_automaton.proofs.SettlingLaws.{settled_later, all_later, all_append}
use Rattle.itp_automaton.proofs.BuiltLaws.{all_member}
use Rattle.proof_reuse.specs.Candidates.{IsCandidate}
use Rattle.proof_reuse.specs.Ties.Choices.{AreCandidatesBy}
use Rattle.proof_reuse.specs.Ties.Settling.{IsSettling}

-- ---- the answers that are proofs

abbrev pub proofs_in : List (Option PlainProof) → List PlainProof
proofs_in answers = filter_map (λ o. o) answers

proofs_append : (xs ys : List (Option PlainProof)) → proofs_in (xs ++ ys) ≡ proofs_in xs ++ proofs_in ys
proofs_append [] ys = refl
proofs_append (None ∷ xs) ys = proofs_append xs ys
proofs_append (Some p ∷ xs) ys = ap (λ l. p ∷ l) (proofs_append xs ys)

pub kept_some : (xs : List (Option PlainProof)) (o : Option PlainProof) (p : PlainProof) (old now new : List PlainProof) → o ≡ Some p → now ≡ old ++ proofs_in xs → new ≡ now ++ p ∷ [] →
    new ≡ old ++ proofs_in (xs ++ o ∷ [])
kept_some xs o p old now new e h k =
    k ∙ ap (λ l. l ++ p ∷ []) h ∙ append_assoc old (proofs_in xs) (p ∷ []) ∙ ap (λ l. old ++ l) (sym (proofs_append xs (o ∷ []) ∙ ap (λ (x : Option PlainProof). proofs_in xs ++ proofs_in (x ∷ [])) e))

pub kept_none : (xs : List (Option PlainProof)) (o : Option PlainProof) (old now : List PlainProof) → ((p : PlainProof) → o ≡ Some p → ⊥) → now ≡ old ++ proofs_in xs →
    now ≡ old ++ proofs_in (xs ++ o ∷ [])
kept_none xs None old now n h = h ∙ ap (λ l. old ++ l) (sym (proofs_append xs (None ∷ []) ∙ append-nil (proofs_in xs)))
kept_none xs (Some p) old now n h = absurd (n p refl)

-- ---- what was tried

-- what was proved is for the alphabet, and of candidates
tried_proofs : (al : Alphabet) (ts : List Triple) (os : List (Option PlainProof)) → AllZip (MayProve al) ts os → AllByRecursion (IsProofFor al) (proofs_in os)
tried_proofs al [] [] h = tt
tried_proofs al [] (o ∷ os) h = absurd h
tried_proofs al (t ∷ ts) [] h = absurd h
tried_proofs al (t ∷ ts) (None ∷ os) h = tried_proofs al ts os h.1
tried_proofs al (t ∷ ts) (Some p ∷ os) h = (h.0.1, tried_proofs al ts os h.1)

tried_candidates : (al : Alphabet) (P : Triple → Type 0) (ts : List Triple) (os : List (Option PlainProof)) → AllZip (MayProve al) ts os → AllByRecursion P ts →
    AllByRecursion (λ p. P p.triple) (proofs_in os)
tried_candidates al P [] [] h a = tt
tried_candidates al P [] (o ∷ os) h a = absurd h
tried_candidates al P (t ∷ ts) [] h a = absurd h
tried_candidates al P (t ∷ ts) (None ∷ os) h a = tried_candidates al P ts os h.1 a.1
tried_candidates al P (t ∷ ts) (Some p ∷ os) h a = (subst P (sym h.0.0) a.0, tried_candidates al P ts os h.1 a.1)

-- each that was tried is settled
tried_settled : (al : Alphabet) (ts : List Triple) (os : List (Option PlainProof)) → AllZip (MayProve al) ts os → AllByRecursion (SettlesTriple al (proofs_in os)) ts
tried_settled al [] [] h = tt
tried_settled al [] (o ∷ os) h = absurd h
tried_settled al (t ∷ ts) [] h = absurd h
tried_settled al (t ∷ ts) (None ∷ os) h = (λ a r. absurd (h.0 r), tried_settled al ts os h.1)
tried_settled al (t ∷ ts) (Some p ∷ os) h = (
  λ a r. (p, inl refl, h.0.0),
  all_later (SettlesTriple al (proofs_in os)) (SettlesTriple al (p ∷ proofs_in os)) ts (λ s k. settled_later al (proofs_in os) (p ∷ proofs_in os) s (λ q m. inr m) k) (tried_settled al ts os h.1),
)

kept_settled : (al : Alphabet) (ts : List Triple) (os : List (Option PlainProof)) (old new : List PlainProof) → AllZip (MayProve al) ts os → new ≡ old ++ proofs_in os →
    AllByRecursion (SettlesTriple al new) ts
kept_settled al ts os old new h e = subst (λ (l : List PlainProof). AllByRecursion (SettlesTriple al l) ts) (sym e)
    (all_later (SettlesTriple al (proofs_in os)) (SettlesTriple al (old ++ proofs_in os)) ts (λ s k. settled_later al (proofs_in os) (old ++ proofs_in os) s (λ q m. member_rest old (proofs_in os) q m) k) (tried_settled al ts os h))

module _ (g : Graph) (old : Content) where
  abbrev al : Alphabet
  al = alphabet_of g

  pub none_settles : (waiting : List Triple) (proofs : List PlainProof) → waiting ≡ [] → proofs ≡ [] → IsSettling g old 0 waiting proofs
  none_settles waiting proofs e f = record {
    waiting_are = subst (λ (l : List Triple). AllByRecursion (IsCandidate g old) l) (sym e) tt;
    proved = subst (λ (l : List PlainProof). AllByRecursion (IsProofFor al) l) (sym f) tt;
    candidates = subst (λ (l : List PlainProof). AllByRecursion (λ p. IsCandidate g old p.triple) l) (sym f) tt;
    due = λ t c l. absurd (omega (arith, l));
  }

  -- what waits is tried
  pub tried_settles : (n : ℕ) (waiting new : List Triple) (before after : List PlainProof) (os : List (Option PlainProof)) → AllZip (MayProve al) waiting os →
      after ≡ before ++ proofs_in os → new ≡ [] → IsSettling g old n waiting before → IsSettling g old n new after
  tried_settles n waiting new before after os h e none s =
      let kept : (p : PlainProof) → Member before p → Member after p =
      λ p m. subst (λ (l : List PlainProof). Member l p) (sym e) (member_front before (proofs_in os) p m) in
      let settled = kept_settled al waiting os before after h e in
      record {
        waiting_are = subst (λ (l : List Triple). AllByRecursion (IsCandidate g old) l) (sym none) tt;
        proved = subst (λ (l : List PlainProof). AllByRecursion (IsProofFor al) l) (sym e)
            (all_append (IsProofFor al) before (proofs_in os) s.proved (tried_proofs al waiting os h));
        candidates = subst (λ (l : List PlainProof). AllByRecursion (λ p. IsCandidate g old p.triple) l) (sym e)
            (all_append (λ p. IsCandidate g old p.triple) before (proofs_in os) s.candidates (tried_candidates al (IsCandidate g old) waiting os h s.waiting_are));
        due = λ t c l. elim (s.due t c l) [
          | inl d ↦ inl (settled_later al before after t kept d)
          | inr m ↦ inl (all_member (SettlesTriple al after) waiting t settled m)
        ];
      }

  -- the candidates by one more letter wait
  pub letter_waits : (n : ℕ) (waiting more new : List Triple) (proofs : List PlainProof) → new ≡ waiting ++ more → AreCandidatesBy g old n more →
      IsSettling g old n waiting proofs → IsSettling g old (n + 1) new proofs
  letter_waits n waiting more new proofs e c s = record {
    waiting_are = subst (λ (l : List Triple). AllByRecursion (IsCandidate g old) l) (sym e) (all_append (IsCandidate g old) waiting more s.waiting_are c.each);
    proved = s.proved;
    candidates = s.candidates;
    due = λ t k l. elim (below_or_last (letter_in t) n l) [
      | inl b ↦ elim (s.due t k b) [
        | inl d ↦ inl d
        | inr m ↦ inr (subst (λ (x : List Triple). Member x t) (sym e) (member_front waiting more t m))
      ]
      | inr i ↦ inr (subst (λ (x : List Triple). Member x t) (sym e) (member_rest waiting more t (c.all t k i)))
    ];
  }

pub all_agree : (al : Alphabet) (waiting more new : List Triple) → new ≡ waiting ++ more → AllByRecursion (Agrees al) waiting → AllByRecursion (Agrees al) more → AllByRecursion (Agrees al) new
all_agree al waiting more new e a b = subst (λ (l : List Triple). AllByRecursion (Agrees al) l) (sym e) (all_append (Agrees al) waiting more a b)
